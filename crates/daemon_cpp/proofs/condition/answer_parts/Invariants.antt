use Rattle.std.proofs.Common.{◌≡◌, ◌≤◌}
use Rattle.std.specs.Option.{ForSome}
use Rattle.daemon_cpp.specs.Prep.{world_of}
use Rattle.daemon_cpp.specs.parts.Showing.{here_seen}
use Rattle.daemon_cpp.proofs.Conditions.{Answers}
use Rattle.daemon_cpp.proofs.condition.answer_parts.Given as goal

abbrev pub invariant-loop-part : goal.invariant-loop-part
invariant-loop-part g l = record {
  same : g.T.Tree.told l.tree ≡ g.T.Tree.told l.initial.tree;
  answers : ForSome (g.T.Tree.told l.initial.tree) (λ told. Answers (world_of told l.places.setup.now) l.at l.places.source.now (here_seen l.places) l.initial.part-iterator.rest.items l.initial.kept l.kept l.answered l.part-iterator.rest.items);
  spends : l.kept.work.left ≤ l.initial.kept.work.left;
  later : g.T.Tree.faults l.initial.tree ≤ g.T.Tree.faults l.tree;
}
