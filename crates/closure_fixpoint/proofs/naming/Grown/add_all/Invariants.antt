use Rattle.std.proofs.Common.{take, map}
use Rattle.sheet_build.specs.Sheet.{named_pair}
use Rattle.closure_fixpoint.specs.Naming.{Grew}
use Rattle.closure_fixpoint.proofs.naming.Grown.add_all.Given as goal

-- the definitions so far were added
abbrev pub invariant-loop-definition : goal.invariant-loop-definition
invariant-loop-definition l = Grew l.fn.self (map named_pair (take l.definition-index l.definitions)) l.self
