-- A job, as contracts see it.
use Rattle.std.specs.Prelude.{List}
use Rattle.tree_model.specs.Paths.{Text}
use Rattle.search_path.specs.SetupOf.{SetupData}
use Rattle.job_words.specs.declared.job.Parts.{Parts}
use Rattle.job_words.specs.declared.macro_word.MacroWord.{MacroWord}

-- the compile words, the source's name, what the words say of searches, what they define and undefine, the names of the files that
-- are included in front of the source, and the name under which the text is put
pub record JobData : Type 0 where
  pub words : List Text
  pub source : Text
  pub setup : SetupData
  pub macros : List MacroWord
  pub forced : List Text
  pub output : Text

-- the job of these parts
abbrev pub job_of_parts : Parts → JobData
job_of_parts parts = record { words = parts.words; source = parts.source; setup = parts.setup; macros = parts.macros; forced = parts.forced; output = parts.output }
