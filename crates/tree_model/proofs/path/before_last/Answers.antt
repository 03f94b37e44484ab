use Rattle.std.proofs.Common.{◌≡◌, ◌-◌, suc, arith}
use Rattle.tree_model.proofs.PathLemmas.{last_slash}
use Rattle.tree_model.proofs.path.before_last.Goals as goal

pub returns-then-text-end-eq47 : goal.returns-then-text-end-eq47
returns-then-text-end-eq47 c =
    let last : c.loop-end.end ≡ suc (c.loop-end.end - 1) = omega arith in
    last_slash c.args.text.now c.loop-end.end (c.loop-end.end - 1) last (omega arith) c.if-text-end-eq47.true c.loop-end.invariant.plain
