-- What is kept of the files of a tree that were lexed. No public contract rests on it.
use Rattle.std.specs.Prelude.{◌≡◌, Option, None, Some}
use Rattle.std.specs.HashMap.{get}
use Rattle.pp_tokens.specs.Lines.{lexed}
use Rattle.tree_model.specs.Paths.{Text, Path, is_same_path}
use Rattle.tree_model.specs.Bodies.{body_within}
use Rattle.daemon_cpp.specs.declared.file_text.FileText.{FileText}
use Rattle.daemon_cpp.specs.declared.lexed_files.LexedFiles.{LexedFiles}
use Rattle.daemon_cpp.specs.Prep.{World}
use Rattle.daemon_cpp.specs.parts.FileTexts.{IsTextOf}

-- it is what the file at a path is read as
pub record IsTextAt (world : World) (path : Path) (text : FileText) : Type 0 where
  pub body : Text
  pub read : Some body ≡ body_within (world.body path)
  pub is : IsTextOf (lexed world.trigraphs body) text

-- what the file at a path is read as, or none where it is too large
abbrev pub IsReadAt : World → Path → Option FileText → Type 0
IsReadAt world path None = None ≡ body_within (world.body path)
IsReadAt world path (Some text) = IsTextAt world path text

-- what is kept of the file at a path
abbrev pub text_kept : LexedFiles → Path → Option FileText
text_kept files = get is_same_path files.known

-- what is kept of each file is what it is read as
pub record KnowsTexts (world : World) (files : LexedFiles) : Type 0 where
  pub each : (path : Path) (text : FileText) → text_kept files path ≡ Some text → IsTextAt world path text
