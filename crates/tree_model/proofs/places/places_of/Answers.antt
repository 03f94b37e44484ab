use Rattle.std.proofs.Common.{◌∙◌, ap, sym, take}
use Rattle.tree_model.specs.Paths.{Path, spelled}
use Rattle.tree_model.specs.declared.entry.Entry.{Entry}
use Rattle.tree_model.specs.parts.Placed.{is_placed}
use Rattle.tree_model.specs.parts.Remembered.{number_of}
use Rattle.tree_model.proofs.OrderLemmas.{one_more}
use Rattle.tree_model.proofs.PlacedLemmas.{all_stay, is_there}
use Rattle.tree_model.proofs.places.places_of.Goals as goal

pub loop-i-preserved : goal.loop-i-preserved
loop-i-preserved c =
    let put = c.in_ok-insert.ensures.updates in
    one_more (is_placed c.insert.new.self) c.args.entries.now c.loop-i.i c.index-entries-i.result c.loop-i-test.true
    (all_stay c.loop-i.places c.insert.new.self c.number_of.result c.loop-i.i put (take c.loop-i.i c.args.entries.now) c.loop-i.invariant)
    c.index-entries-i.is
    (is_there c.loop-i.places c.insert.new.self c.number_of.result c.loop-i.i put c.index-entries-i.result (sym (c.number_of.ensures ∙ ap number_of (c.bytes.ensures.value ∙ ap (λ (e : Path × Entry). spelled e.0) (sym c.index-entries-i.is)))))
