use Rattle.std.proofs.Common.{arith, sym}
use Rattle.std.proofs.lemmas.Bool.{not-false}
use Rattle.tree_model.proofs.PlacedLemmas.{spelled_there}
use Rattle.tree_model.proofs.places.spelled_at.Goals as goal

pub returns : goal.returns
returns c =
    spelled_there c.args.entries.now c.args.text.now c.args.place c.index-entries-place.result c.bytes.result.now c.requires (omega (arith, c.if-place-entries.false)) c.index-entries-place.is c.bytes.ensures.value
    (not-false _ (sym c.if-ne.ensures))
