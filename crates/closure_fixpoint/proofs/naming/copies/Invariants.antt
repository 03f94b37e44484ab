use Rattle.std.proofs.Common.{◌≡◌, take}
use Rattle.closure_fixpoint.proofs.naming.copies.Given as goal

-- the headers so far were copied
abbrev pub invariant-loop-header : goal.invariant-loop-header
invariant-loop-header l = l.copies.items ≡ take l.header-index l.headers
