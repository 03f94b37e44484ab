use Rattle.std.proofs.Common.{take}
use Rattle.closure_fixpoint.specs.parts.Wanting.{AllMade}
use Rattle.closure_fixpoint.proofs.wanting.of_headers.Given as goal

-- the searches of the headers so far were made
abbrev pub invariant-loop-header : goal.invariant-loop-header
invariant-loop-header l = AllMade l.searches l.found l.visit l.form l.include (take l.header-index l.headers)
