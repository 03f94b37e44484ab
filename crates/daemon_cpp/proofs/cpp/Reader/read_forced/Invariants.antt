use Rattle.std.proofs.Common.{◌≡◌, ◌≤◌, drop, Some}
use Rattle.tree_model.specs.Trees.{FileTree}
use Rattle.search_path.specs.Search.{Hit}
use Rattle.daemon_cpp.specs.declared.cpp.Told.{Told}
use Rattle.daemon_cpp.specs.Prep.{world_of}
use Rattle.daemon_cpp.specs.parts.Files.{AllRead, ComesTo, source_behind}
use Rattle.daemon_cpp.proofs.cpp.Reader.read_forced.Given as goal

abbrev pub invariant-loop-name : goal.invariant-loop-name
invariant-loop-name g l =
    record {
      same : g.T.Tree.told l.tree ≡ g.T.Tree.told l.fn.tree;
      later : g.T.Tree.faults l.fn.tree ≤ g.T.Tree.faults l.tree;
      read : AllRead l.self;
      comes : (told : FileTree) → g.T.Tree.told l.fn.tree ≡ Some told → (source : Hit) (whole : Told) → ComesTo (world_of told l.fn.job.setup) (source_behind (world_of told l.fn.job.setup) source l.fn.job.forced) l.fn.self whole → ComesTo (world_of told l.fn.job.setup) (source_behind (world_of told l.fn.job.setup) source (drop l.name-index l.fn.job.forced)) l.self whole;
    }
