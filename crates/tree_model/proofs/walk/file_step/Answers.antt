use Rattle.std.proofs.Common.{◌∙◌, ap, sym, List, ℕ, Bor, Option}
use Rattle.std.specs.Option.{option_map}
use Rattle.tree_model.specs.parts.Steps.{onward, components_left}
use Rattle.tree_model.specs.declared.walk.Step.TheVariants as step
use Rattle.tree_model.proofs.StepLemmas.{file_left}
use Rattle.tree_model.proofs.walk.file_step.Goals as goal

pub returns-in-Some : goal.returns-in-Some
returns-in-Some c look links =
    file_left look links c.args.path c.in-Some.field-0.now
    ∙ ap (λ (rest : Option (Bor (List ℕ))). onward look links (components_left (option_map (λ t. t.now) rest)) (step.File c.args.path)) (sym c.in-Some.is)
