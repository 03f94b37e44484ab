use Rattle.std.proofs.Common.{◌≡◌, drop}
use Rattle.macro_defs.specs.Table.{lookup}
use Rattle.daemon_cpp.specs.Prep.{first_table, with_words}
use Rattle.daemon_cpp.proofs.kept.first_table.Given as goal

-- what the words that are left make of the table
abbrev pub invariant-loop-word : goal.invariant-loop-word
invariant-loop-word l = with_words (drop l.word-index l.words) (lookup l.table) ≡ first_table l.words
