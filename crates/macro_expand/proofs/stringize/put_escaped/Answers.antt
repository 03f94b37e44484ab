use Rattle.std.proofs.Common.{◌++◌, ◌+◌, drop}
use Rattle.macro_expand.specs.Replacement.{escaped}
use Rattle.macro_expand.proofs.StringLemmas.{grows, nothing_left, escaped-here, escaped-done}
use Rattle.macro_expand.proofs.stringize.put_escaped.Goals as goal

pub loop-b-preserved : goal.loop-b-preserved
loop-b-preserved c =
    grows c.loop-b.text.items c.put_escaped_byte.new.text.items _ (escaped (drop c.loop-b.b-index c.args.literal.now))
    (escaped (drop (c.loop-b.b-index + 1) c.args.literal.now)) (c.args.text.now.items ++ escaped c.args.literal.now)
    c.in_ok-put_escaped_byte.ensures (escaped-here c.args.literal.now c.loop-b.b-index c.loop-b-test.true) c.loop-b.invariant

pub returns : goal.returns
returns c =
    nothing_left c.loop-b.text.items (escaped (drop c.loop-b.b-index c.args.literal.now)) (c.args.text.now.items ++ escaped c.args.literal.now)
    (escaped-done c.args.literal.now c.loop-b.b-index c.loop-b-test.false) c.loop-b.invariant
