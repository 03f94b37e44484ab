use Rattle.std.proofs.Common.{◌∙◌, ap, List, ℕ, Bor, Option}
use Rattle.std.specs.Option.{option_map}
use Rattle.tree_model.specs.Trees.{entry_at}
use Rattle.tree_model.specs.parts.Steps.{components_left}
use Rattle.tree_model.proofs.StepLemmas.{at_file, step_on}
use Rattle.tree_model.proofs.walk.until_link.Goals as goal

pub returns-in-File-clause-step : goal.returns-in-File-clause-step
returns-in-File-clause-step g c told is links =
    at_file (entry_at told) links c.args.walked.now c.take_step.new.walked _ (components_left (option_map (λ t. t.now) c.cut_component.result.1)) c.in_ok-take_step.field-0 c.file_step.result c.in-File.path c.in-File.is
    (c.file_step.ensures (entry_at told) links)
    (step_on (entry_at told) links c.args.walked.now c.loop-rest.walked c.take_step.new.walked _ c.loop-rest.dir _ c.cut_component.result.0.now
    (components_left (option_map (λ t. t.now) c.cut_component.result.1)) c.in_ok-take_step.field-0
    (ap (λ (rest : Option (Bor (List ℕ))). components_left (option_map (λ t. t.now) rest)) c.in-Some.is ∙ c.cut_component.ensures)
    (c.loop-rest.invariant.goes told is links)
    (c.in_ok-take_step.ensures.step told (c.loop-rest.invariant.same ∙ is) links (components_left (option_map (λ t. t.now) c.cut_component.result.1))))
