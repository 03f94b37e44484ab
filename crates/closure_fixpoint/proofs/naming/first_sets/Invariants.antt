use Rattle.std.proofs.Common.{take, ◌++◌}
use Rattle.std.specs.List.{filter_map}
use Rattle.macro_defs.specs.Table.{initial_entries}
use Rattle.closure_fixpoint.specs.Closure.{initial_definition, word_definition}
use Rattle.closure_fixpoint.specs.Naming.{HasJust}
use Rattle.closure_fixpoint.proofs.naming.first_sets.Given as goal

-- those of every translation, and those of the words so far
abbrev pub invariant-loop-word : goal.invariant-loop-word
invariant-loop-word l = HasJust l.sets (filter_map initial_definition initial_entries ++ filter_map word_definition (take l.word-index l.words))
