use Rattle.std.proofs.Common.{Some}
use Rattle.closure_fixpoint.specs.parts.Wanting.{named_ask}
use Rattle.closure_fixpoint.proofs.LoopLaws.{item_there}
use Rattle.closure_fixpoint.proofs.WantingLaws.{wanted_as}
use Rattle.closure_fixpoint.proofs.wanting.of_headers_from.Goals as goal

pub returns-in-Some : goal.returns-in-Some
returns-in-Some c = (
  c.index-headers-number.result,
  item_there c.args.headers.now c.loop-number.number c.index-headers-number.result c.loop-number-test.true c.index-headers-number.is,
  wanted_as c.args.searches.now c.args.found.now c.in_ok-ask.ask (named_ask c.args.visit.now c.args.form c.index-headers-number.result) c.args.include c.in_ok-want.field-0 (Some c.in-Some.want)
      c.in_ok-ask.ensures c.in-Some.is c.in_ok-want.ensures,
)
