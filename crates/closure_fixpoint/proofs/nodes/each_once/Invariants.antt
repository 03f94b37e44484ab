use Rattle.std.proofs.Common.{◌≡◌, ◌++◌, drop}
use Rattle.closure_fixpoint.specs.Gathering as gathering
use Rattle.closure_fixpoint.proofs.nodes.each_once.Given as goal

abbrev pub invariant-loop-i : goal.invariant-loop-i
invariant-loop-i l = l.list.items ++ gathering.paths_once (drop l.i l.nodes) ≡ gathering.paths_once l.nodes
