use Rattle.std.proofs.Common.{◌-◌, length}
use Rattle.closure_fixpoint.proofs.wanting.of_headers_from.Given as goal

abbrev pub decreases-loop-number : goal.decreases-loop-number
decreases-loop-number l = length l.headers - l.number
