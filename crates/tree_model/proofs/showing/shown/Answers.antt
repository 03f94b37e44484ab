use Rattle.std.proofs.Common.{[], get_or, sym, ◌∙◌, ap, refl, ◌++◌, ℕ, List}
use Rattle.tree_model.specs.Shown.{shown, shown_byte}
use Rattle.tree_model.proofs.ShownLemmas.{one-more, plain-shown}
use Rattle.tree_model.proofs.showing.shown.Goals as goal

pub loop-byte-preserved : goal.loop-byte-preserved
loop-byte-preserved c =
    c.in_ok-add_shown.ensures
    ∙ ap (λ (bytes : List ℕ). bytes ++ shown_byte (get_or c.args.text.now c.loop-byte.byte-index 0)) c.loop-byte.invariant
    ∙ one-more shown_byte [] c.args.text.now c.loop-byte.byte-index (get_or c.args.text.now c.loop-byte.byte-index 0) 0 c.loop-byte-test.true refl

pub returns-then-are_plain : goal.returns-then-are_plain
unfolding shown
returns-then-are_plain c =
    let plain = plain-shown c.args.text.now (sym c.are_plain.ensures ∙ c.if-are_plain.true) in
    rw plain c.from_slice.ensures.items
