use Rattle.std.proofs.Common.{◌≤◌, arith}
use Rattle.pp_tokens.specs.Lined.{spliced_up_to}
use Rattle.pp_tokens.proofs.Splices.{up_to_more, up_to_most, up_to_all}
use Rattle.pp_tokens.proofs.lexer.splices_passed.Goals as goal

pub loop-count-preserved : goal.loop-count-preserved
loop-count-preserved c = up_to_more 0 c.args.splices.now c.loop-count.count c.args.at c.requires.rising c.loop-count-test.true c.if-splices-count.true

pub returns-else-splices-count : goal.returns-else-splices-count
returns-else-splices-count c =
    let most : spliced_up_to c.args.splices.now c.args.at ≤ c.loop-count.count =
    up_to_most 0 c.args.splices.now c.loop-count.count c.args.at c.requires.rising c.loop-count-test.true c.if-splices-count.false in
    omega (arith, most, c.loop-count.invariant)

pub returns-after-loop-count : goal.returns-after-loop-count
returns-after-loop-count c = omega (arith, up_to_all c.args.splices.now c.args.at, c.loop-count-test.false, c.loop-count.invariant)
