use Rattle.std.proofs.Common.{◌+◌, ◌∙◌}
use Rattle.std.proofs.lemmas.List.{take_rest}
use Rattle.job_words.proofs.Places.{component-behind, component-whole}
use Rattle.job_words.proofs.reading.last_component.Goals as goal

pub returns-in-Some : goal.returns-in-Some
returns-in-Some c = take_rest c.args.text.now (c.in-Some.place + 1) ∙ component-behind c.args.text.now c.in-Some.place c.in-Some.ensures

pub returns-in-None : goal.returns-in-None
returns-in-None c = component-whole c.args.text.now c.in-None.ensures
