use Rattle.std.specs.Prelude.{IsTrue}
use Rattle.tree_model.specs.Entries.{links_fit}
use Rattle.bench_program.proofs.described.entries_of.Given as goal

abbrev pub invariant-loop-line : goal.invariant-loop-line
invariant-loop-line l = IsTrue (links_fit l.entries.items)
