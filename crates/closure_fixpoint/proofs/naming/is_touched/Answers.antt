use Rattle.std.proofs.Common.{List, ◌∙◌, inl, inr, sym, subst}
use Rattle.std.specs.List.{Contains}
use Rattle.base_types.specs.Members.{Member}
use Rattle.tree_model.specs.Paths.{Text}
use Rattle.closure_fixpoint.proofs.LoopLaws.{so_far, all_so_far}
use Rattle.closure_fixpoint.proofs.naming.is_touched.Goals as goal

pub loop-name-preserved : goal.loop-name-preserved
loop-name-preserved c name rests m =
    elim (so_far c.split_at.result.1.now c.loop-name.name-index c.name-item.result name c.loop-name-test.true c.name-item.is m) [
      | inl before ↦ c.loop-name.invariant name rests before
      | inr same ↦
          c.is_among.ensures c.if-is_among.false
          (subst (λ (texts : List Text). Contains texts c.as_slice-in-loop-name.result.now) (sym c.as_slice.ensures)
          (subst (λ (n : Text). Contains c.args.kept.now.names.support n) (same ∙ sym c.as_slice-in-loop-name.ensures) rests))
    ]

pub returns : goal.returns
returns c is name rests m =
    c.loop-name.invariant name rests
    (all_so_far c.split_at.result.1.now c.loop-name.name-index name c.loop-name-test.false
    (subst (λ (l : List Text). Member name l) (sym c.split_at.ensures.back) m))
