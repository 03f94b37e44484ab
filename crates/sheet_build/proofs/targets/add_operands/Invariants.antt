use Rattle.std.proofs.Common.{◌≡◌, ◌≤◌, map, false, true}
use Rattle.std.specs.Option.{ForSome}
use Rattle.search_path.specs.Search.{search}
use Rattle.sheet_build.specs.Sheet.{asked_so}
use Rattle.sheet_build.specs.parts.Stored.{sheet_of_parts, with_probes}
use Rattle.sheet_build.proofs.targets.add_operands.Given as goal

abbrev pub invariant-loop-target : goal.invariant-loop-target
invariant-loop-target g l = record {
  same : g.T.Tree.told l.tree ≡ g.T.Tree.told l.initial.tree;
  adds : ForSome (g.T.Tree.told l.initial.tree) (λ told. with_probes (search told l.setup) l.visit (map (asked_so false true) l.target-iterator.rest.items) (sheet_of_parts l.parts)
      ≡ with_probes (search told l.setup) l.visit (map (asked_so false true) l.initial.target-iterator.rest.items) (sheet_of_parts l.initial.parts));
  later : g.T.Tree.faults l.initial.tree ≤ g.T.Tree.faults l.tree;
  reads : g.T.Tree.reads l.tree ≡ g.T.Tree.reads l.initial.tree;
}
