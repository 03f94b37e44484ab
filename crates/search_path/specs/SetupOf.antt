-- What a job's words say of its searches, as contracts see it.
use Rattle.std.specs.Prelude.{Bool, List, cond, ◌∷◌, ◌++◌}
use Rattle.base_types.specs.Ascii.{slash}
use Rattle.tree_model.specs.Paths.{Text}
use Rattle.tree_model.specs.Walk.{is_absolute}

-- the working directory, the directories of quoted names, those of all names, and whether trigraphs are read
pub record SetupData : Type 0 where
  pub cwd : Text
  pub quote : List Text
  pub bracket : List Text
  pub trigraphs : Bool

-- the setup of these
abbrev pub setup_of : Text → List Text → List Text → Bool → SetupData
setup_of cwd quote bracket trigraphs = record { cwd = cwd; quote = quote; bracket = bracket; trigraphs = trigraphs }

-- a text below a working directory, or itself where it begins with `/`
abbrev pub absolute : Text → Text → Text
absolute cwd text = cond (is_absolute text) text (cwd ++ slash ∷ text)
