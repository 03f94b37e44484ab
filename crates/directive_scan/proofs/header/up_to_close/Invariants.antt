use Rattle.std.proofs.Common.{◌≡◌, drop, true}
use Rattle.directive_scan.specs.HeaderNames.{up_to_close}
use Rattle.directive_scan.proofs.ClosedNames.{gathered}
use Rattle.directive_scan.proofs.header.up_to_close.Given as goal

-- the name so far, with what the other tokens add
abbrev pub invariant-loop-token : goal.invariant-loop-token
invariant-loop-token l = gathered l.name (up_to_close l.first (drop l.token-index l.tokens)) ≡ up_to_close true l.tokens
