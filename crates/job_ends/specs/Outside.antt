-- What contracts see of the outside, as plain data: the ends of the clients, the list, the spawner and the report.
use Rattle.std.specs.Prelude.{ℕ, List, Option}
use Rattle.tree_model.specs.Trees.{FileTree}
use Rattle.io_edges.specs.declared.wire.Exchange.{Exchange}
use Rattle.io_edges.specs.declared.wire.LinkState.{LinkState}
use Rattle.job_ends.specs.declared.record.End.{End}

-- an end: what its tree, its wire and its outs tell, and their counts
pub record EndSeen : Type 0 where
  pub told : Option FileTree
  pub reads : ℕ
  pub talk : Option (List Exchange)
  pub state : LinkState
  pub kept : Option (List (List ℕ × List ℕ))
  pub tree_faults : ℕ
  pub wire_faults : ℕ
  pub outs_faults : ℕ

-- an end, seen by the members of its three bounds
abbrev pub seen_end : {T W O F : Type 0} → (T → Option FileTree) → (T → ℕ) → (T → ℕ) → (W → Option (List Exchange)) → (W → LinkState) → (W → ℕ) → (O → Option (List (List ℕ × List ℕ))) → (O → ℕ) → End T W O F → EndSeen
seen_end told tree_faults reads talk state wire_faults kept outs_faults end = record {
  told = told end.tree;
  reads = reads end.tree;
  talk = talk end.wire;
  state = state end.wire;
  kept = kept end.outs;
  tree_faults = tree_faults end.tree;
  wire_faults = wire_faults end.wire;
  outs_faults = outs_faults end.outs;
}
