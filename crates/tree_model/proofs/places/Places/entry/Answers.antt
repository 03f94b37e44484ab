use Rattle.std.proofs.Common.{sym, ◌∙◌, ap, nat_eq}
use Rattle.std.specs.HashMap.{get}
use Rattle.std.specs.Option.{option_copied}
use Rattle.tree_model.proofs.PlacedLemmas.{none_placed}
use Rattle.tree_model.proofs.StepLemmas.{none_else}
use Rattle.tree_model.proofs.places.Places.entry.Goals as goal

pub returns-in_default-get : goal.returns-in_default-get
returns-in_default-get c =
    none_placed c.in-Some.known c.args.entries.now c.args.text.now (rw c.in-Some.is at c.requires.placed)
    (ap (λ k. get nat_eq c.in-Some.known k) (sym c.number_of.ensures) ∙ sym c.get.ensures.value ∙ ap option_copied (sym (none_else c.get.result c.in_default-get.not-Some)))
