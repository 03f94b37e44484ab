use Rattle.std.proofs.Common.{◌≡◌, take, true}
use Rattle.std.specs.List.{list_all}
use Rattle.tree_model.specs.Entries.{has_parent}
use Rattle.tree_model.specs.Paths.{is_canonical}
use Rattle.tree_model.proofs.order.have_parents.Given as goal

abbrev pub invariant-loop-entry : goal.invariant-loop-entry
invariant-loop-entry l = record {
  parents : list_all (λ e. has_parent l.entries e.0) (take l.entry-index l.entries) ≡ true;
  canonical : list_all (λ e. is_canonical e.0) (take l.entry-index l.entries) ≡ true;
}
