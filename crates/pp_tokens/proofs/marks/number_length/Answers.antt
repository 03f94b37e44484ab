use Rattle.std.proofs.Common.{sym, ◌∙◌, arith}
use Rattle.pp_tokens.proofs.Numbers.{number_more, number_stops, number_end}
use Rattle.pp_tokens.proofs.marks.number_length.Goals as goal

pub returns-then-not-continues_number-clause-run : goal.returns-then-not-continues_number-clause-run
returns-then-not-continues_number-clause-run c =
    let stop = number_stops c.loop-i.last c.args.bytes.now c.loop-i.i c.loop-i-test.true (sym c.continues_number.ensures ∙ c.if-not-continues_number.true) in
    omega (arith, c.loop-i.invariant, stop)

pub loop-i-preserved : goal.loop-i-preserved
loop-i-preserved c =
    let next = number_more c.loop-i.last c.args.bytes.now c.loop-i.i c.loop-i-test.true (sym c.continues_number.ensures ∙ c.if-not-continues_number.false) in
    omega (arith, c.loop-i.invariant, next)

pub returns-clause-run : goal.returns-clause-run
returns-clause-run c =
    let stop = number_end c.loop-i.last c.args.bytes.now c.loop-i.i (omega arith) in
    omega (arith, c.loop-i.invariant, stop)
