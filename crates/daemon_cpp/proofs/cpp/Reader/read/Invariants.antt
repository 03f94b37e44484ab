use Rattle.std.proofs.Common.{◌≡◌, ◌≤◌, Some}
use Rattle.tree_model.specs.Trees.{FileTree}
use Rattle.daemon_cpp.specs.declared.cpp.Told.{Told}
use Rattle.daemon_cpp.specs.Prep.{world_of}
use Rattle.daemon_cpp.specs.parts.Files.{After, RestLeadsTo, work_ahead}
use Rattle.daemon_cpp.proofs.cpp.Reader.read.Given as goal

abbrev pub invariant-files : goal.invariant-files
invariant-files g l =
    record {
      same : g.T.Tree.told l.tree ≡ g.T.Tree.told l.fn.tree;
      later : g.T.Tree.faults l.fn.tree ≤ g.T.Tree.faults l.tree;
      left : (told : FileTree) → g.T.Tree.told l.fn.tree ≡ Some told → (behind : After) (whole : Told) → RestLeadsTo (world_of told l.fn.setup) behind l.fn.self whole → RestLeadsTo (world_of told l.fn.setup) behind l.self whole;
    }

abbrev pub decreases-files : goal.decreases-files
decreases-files g l = work_ahead l.self
