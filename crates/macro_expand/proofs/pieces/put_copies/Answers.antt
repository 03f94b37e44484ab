use Rattle.std.proofs.Common.{◌++◌, ◌∷◌, ◌∙◌, [], List, ap, sym, map, drop, append_assoc, ◌+◌}
use Rattle.macro_defs.proofs.Fronts.{front_at}
use Rattle.macro_expand.specs.Replacement.{Marked}
use Rattle.macro_expand.specs.declared.marked.Marked.{Marked as Kept}
use Rattle.macro_expand.specs.parts.Pieces.{spaced_from}
use Rattle.macro_expand.specs.parts.Stamps.{Alike}
use Rattle.macro_expand.specs.Seen.{marked_of}
use Rattle.macro_expand.proofs.StampLaws.{all-at, alike-copy, spaced-step}
use Rattle.macro_expand.proofs.pieces.put_copies.Goals as goal

pub loop-t-preserved : goal.loop-t-preserved
loop-t-preserved c =
    let old = map marked_of c.loop-t.out.items in
    let rest = map marked_of (drop (c.loop-t.t-index + 1) c.args.tokens.now) in (
      ap (λ (l : List Marked). l ++ rest) c.in_ok-put_marked.ensures.put
          ∙ append_assoc old (marked_of c.in_ok-copy_at.field-0 ∷ []) rest
          ∙ ap (λ (m : Marked). old ++ m ∷ rest) c.in_ok-copy_at.ensures.spaced
          ∙ ap (λ (ms : List Marked). old ++ ms) (sym (spaced-step c.loop-t.first c.args.space (marked_of c.t-item.result) rest))
          ∙ ap (λ (ts : List Kept). old ++ spaced_from c.loop-t.first c.args.space (map marked_of ts)) (sym (front_at c.args.tokens.now c.loop-t.t-index c.t-item.result c.loop-t-test.true c.t-item.is))
          ∙ c.loop-t.invariant.0,
      λ t out tokens.
          c.in_ok-put_marked.ensures.alike t (c.loop-t.invariant.1 t out tokens)
          (alike-copy t c.t-item.result c.in_ok-copy_at.field-0 c.in_ok-copy_at.ensures.alike (all-at (Alike t) c.args.tokens.now c.loop-t.t-index c.t-item.result c.loop-t-test.true tokens c.t-item.is)),
    )
