use Rattle.std.proofs.Common.{◌≡◌, ◌≤◌, take}
use Rattle.std.specs.Option.{ForSome}
use Rattle.search_path.specs.Search.{search}
use Rattle.sheet_build.specs.parts.Stored.{sheet_of_parts, asked_from}
use Rattle.sheet_build.proofs.building.parts_of_pieces.Given as goal

abbrev pub invariant-loop-number : goal.invariant-loop-number
invariant-loop-number g l = record {
  same : g.T.Tree.told l.tree ≡ g.T.Tree.told l.initial.tree;
  parts : ForSome (g.T.Tree.told l.initial.tree) (λ told. sheet_of_parts l.parts ≡ asked_from (search told l.setup) l.visit (take l.number l.pieces));
  later : g.T.Tree.faults l.initial.tree ≤ g.T.Tree.faults l.tree;
  reads : g.T.Tree.reads l.tree ≡ g.T.Tree.reads l.initial.tree;
}
