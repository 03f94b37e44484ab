use Rattle.std.proofs.Common.{arith}
use Rattle.macro_defs.specs.Table.{lookup}
use Rattle.daemon_cpp.specs.Prep.{first_table}
use Rattle.daemon_cpp.proofs.Defines.{words-turn, words-end}
use Rattle.daemon_cpp.proofs.kept.first_table.Goals as goal

pub loop-word-preserved : goal.loop-word-preserved
loop-word-preserved c =
    words-turn c.args.words.now c.loop-word.word-index c.word-item.result _ (lookup c.loop-word.table) (lookup c.obey.new.table) (first_table c.args.words.now)
    (omega (arith, c.loop-word-test.true)) c.word-item.is c.in_ok-obey.ensures c.loop-word.invariant

pub returns : goal.returns
returns c =
    words-end c.args.words.now c.loop-word.word-index (lookup c.loop-word.table) (first_table c.args.words.now)
    (omega (arith, c.loop-word-test.false)) c.loop-word.invariant
