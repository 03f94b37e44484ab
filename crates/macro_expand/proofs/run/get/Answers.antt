use Rattle.std.proofs.Common.{sym, ◌∙◌, arith}
use Rattle.macro_defs.specs.Runs.{run_tokens}
use Rattle.macro_expand.proofs.PendingLemmas.{dropped_first, dropped_none, read_behind}
use Rattle.macro_expand.proofs.run.get.Goals as goal

pub returns-in-None : goal.returns-in-None
returns-in-None c =
    sym (dropped_none (run_tokens c.args.run) c.loop-before._before c.args.place (sym c.loop-before.invariant ∙ c.in-None.ensures.0) (omega arith))

pub loop-before-preserved : goal.loop-before-preserved
loop-before-preserved c = sym (dropped_first (run_tokens c.args.run) c.loop-before._before _ _ (sym c.loop-before.invariant ∙ c.in-Some.ensures)).1

pub returns : goal.returns
returns c =
    read_behind (run_tokens c.args.run) (run_tokens c.loop-before.run) (run_tokens c.next-2.new.self) c.loop-before._before c.args.place c.next-2.result
    c.loop-before.invariant c.loop-before.auto._before-end c.loop-before-test.false c.next-2.ensures
