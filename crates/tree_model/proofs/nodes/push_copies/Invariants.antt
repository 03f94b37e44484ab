use Rattle.std.proofs.Common.{◌≡◌, ◌++◌, take}
use Rattle.tree_model.proofs.nodes.push_copies.Given as goal

abbrev pub invariant-loop-path : goal.invariant-loop-path
invariant-loop-path l = l.paths ≡ l.initial.paths ++ take l.path-index l.more
