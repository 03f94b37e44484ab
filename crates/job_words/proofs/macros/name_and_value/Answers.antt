use Rattle.std.proofs.Common.{◌+◌}
use Rattle.std.proofs.lemmas.List.{take_rest}
use Rattle.job_words.proofs.MacroLines.{line-plain}
use Rattle.job_words.proofs.PlainWords.{line-cut}
use Rattle.job_words.proofs.macros.name_and_value.Goals as goal

pub returns-in-Some : goal.returns-in-Some
returns-in-Some c = rw (take_rest c.args.text.now (c.in-Some.place + 1)) (line-cut c.args.text.now c.in-Some.place c.in-Some.ensures)

pub returns-in-None : goal.returns-in-None
returns-in-None c = rw c.as_slice.ensures (line-plain c.args.text.now c.in-None.ensures)
