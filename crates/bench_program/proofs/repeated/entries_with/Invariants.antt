use Rattle.std.specs.Prelude.{IsTrue}
use Rattle.tree_model.specs.Entries.{links_fit}
use Rattle.bench_program.proofs.repeated.entries_with.Given as goal

abbrev pub invariant-loop-number : goal.invariant-loop-number
invariant-loop-number l = IsTrue (links_fit l.entries.items)
