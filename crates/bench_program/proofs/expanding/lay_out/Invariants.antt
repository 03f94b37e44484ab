use Rattle.std.proofs.Common.{◌+◌}
use Rattle.macro_expand.specs.Stream.{at_hand}
use Rattle.bench_program.proofs.expanding.lay_out.Given as goal

abbrev pub decreases-loop-work : goal.decreases-loop-work
decreases-loop-work l = at_hand l.stream + l.work.left
