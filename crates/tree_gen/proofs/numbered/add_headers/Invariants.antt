use Rattle.std.proofs.Common.{◌≡◌, ◌++◌, map}
use Rattle.std.specs.List.{range_with_len}
use Rattle.tree_gen.specs.Generated as made
use Rattle.tree_gen.proofs.numbered.add_headers.Given as goal

abbrev pub invariant-loop-number : goal.invariant-loop-number
invariant-loop-number l = l.nodes.items ≡ l.fn.nodes.items ++ map made.header (range_with_len 0 l.number)
