use Rattle.std.proofs.Common.{◌<◌, ◌≤◌, length, true, sym, ◌∙◌, arith}
use Rattle.directive_scan.specs.HeaderNames.{up_to_close}
use Rattle.directive_scan.proofs.ClosedNames.{name_ends, name_goes_on, no_name}
use Rattle.directive_scan.proofs.header.up_to_close.Goals as goal

pub returns-then-is_mark : goal.returns-then-is_mark
returns-then-is_mark c =
    let below : c.loop-token.token-index < length c.args.tokens.now = omega arith in
    name_ends c.loop-token.name c.args.tokens.now c.loop-token.token-index c.token-item.result c.loop-token.first (up_to_close true c.args.tokens.now)
    below c.token-item.is (sym c.is_mark.ensures ∙ c.if-is_mark.true) c.loop-token.invariant

pub loop-token-preserved : goal.loop-token-preserved
loop-token-preserved c =
    let below : c.loop-token.token-index < length c.args.tokens.now = omega arith in
    rw c.in_ok-add_spelling.ensures
    (name_goes_on c.loop-token.name c.args.tokens.now c.loop-token.token-index c.token-item.result c.loop-token.first (up_to_close true c.args.tokens.now)
    below c.token-item.is (sym c.is_mark.ensures ∙ c.if-is_mark.false) c.loop-token.invariant)

pub returns : goal.returns
returns c =
    let past : length c.args.tokens.now ≤ c.loop-token.token-index = omega arith in
    no_name c.loop-token.name c.args.tokens.now c.loop-token.token-index c.loop-token.first (up_to_close true c.args.tokens.now) past c.loop-token.invariant
