-- Whole blocks, and what is left.
use Rattle.std.proofs.Common.{◌≡◌, ◌/◌, arith}
use Rattle.std.proofs.lemmas.Result.{on_ok_weaker}
use Rattle.cpp_output.proofs.Blocks.{next_block, last_block}
use Rattle.cpp_output.proofs.text.Text.append_newlines.Goals as goal

pub loop-block-preserved : goal.loop-block-preserved
loop-block-preserved c =
    next_block c.args.self.now c.loop-block.self c.append.new.self c.loop-block._block c.loop-block.invariant c.in_ok-append.ensures.ok

pub returns-clause-ok : goal.returns-clause-ok
returns-clause-ok c =
    let whole : c.loop-block._block ≡ c.args.count / 64 = omega arith in
    on_ok_weaker
    c.append-2.result
    (λ more. last_block c.args.self.now c.loop-block.self c.append-2.new.self c.args.count c.loop-block._block whole c.loop-block.invariant more)
    c.append-2.ensures.ok
