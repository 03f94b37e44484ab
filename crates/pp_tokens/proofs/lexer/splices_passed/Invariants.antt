use Rattle.std.proofs.Common.{◌≤◌, ◌-◌, length}
use Rattle.pp_tokens.specs.Lined.{spliced_up_to}
use Rattle.pp_tokens.proofs.lexer.splices_passed.Given as goal

abbrev pub invariant-loop-count : goal.invariant-loop-count
invariant-loop-count l = l.count ≤ spliced_up_to l.splices l.at

abbrev pub decreases-loop-count : goal.decreases-loop-count
decreases-loop-count l = length l.splices - l.count
