use Rattle.std.proofs.Common.{sym, subst, inl, inr, None, Some}
use Rattle.directive_scan.specs.declared.HeaderName.{HeaderName}
use Rattle.closure_fixpoint.specs.Progress.{SearchIsMade}
use Rattle.closure_fixpoint.specs.parts.Wanting.{named_ask}
use Rattle.closure_fixpoint.proofs.LoopLaws.{item_there, so_far}
use Rattle.closure_fixpoint.proofs.WantingLaws.{wanted_as}
use Rattle.closure_fixpoint.proofs.wanting.of_headers.Goals as goal

pub returns-in-Some : goal.returns-in-Some
returns-in-Some c = (
  c.header-item.result,
  item_there c.args.headers.now c.loop-header.header-index c.header-item.result c.loop-header-test.true c.header-item.is,
  wanted_as c.args.searches.now c.args.found.now c.in_ok-ask.ask (named_ask c.args.visit.now c.args.form c.header-item.result) c.args.include c.in_ok-want.field-0 (Some c.in-Some.want)
      c.in_ok-ask.ensures c.in-Some.is c.in_ok-want.ensures,
)

pub loop-header-preserved : goal.loop-header-preserved
loop-header-preserved c header m =
    elim (so_far c.args.headers.now c.loop-header.header-index c.header-item.result header c.loop-header-test.true c.header-item.is m) [
      | inl before ↦ c.loop-header.invariant header before
      | inr same ↦
          subst (λ (h : HeaderName). SearchIsMade c.args.searches.now c.args.found.now (named_ask c.args.visit.now c.args.form h) c.args.include) (sym same)
          (wanted_as c.args.searches.now c.args.found.now c.in_ok-ask.ask (named_ask c.args.visit.now c.args.form c.header-item.result) c.args.include c.in_ok-want.field-0 None
          c.in_ok-ask.ensures c.in-None.is c.in_ok-want.ensures)
    ]
