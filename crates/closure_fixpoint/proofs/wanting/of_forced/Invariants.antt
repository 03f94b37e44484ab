use Rattle.std.proofs.Common.{take}
use Rattle.closure_fixpoint.specs.parts.Wanting.{AllForced}
use Rattle.closure_fixpoint.proofs.wanting.of_forced.Given as goal

-- the searches for the files so far were made
abbrev pub invariant-loop-name : goal.invariant-loop-name
invariant-loop-name l = AllForced l.searches l.found (take l.name-index l.names)
