-- The bytes of files.
use Rattle.std.specs.Prelude.{[], length, Option, None, Some, cond, nat_le, unwrap_or}
use Rattle.tree_model.specs.Paths.{Text, Path}
use Rattle.base_types.specs.Limits.{body_limit}
use Rattle.tree_model.specs.Trees.{FileTree, body_at}

-- the bytes of the file at a path, none where no file is
abbrev pub body_at_path : FileTree → Path → Text
body_at_path tree path = unwrap_or (body_at tree path) []

-- a body, where it isn't too large
abbrev pub body_within : Text → Option Text
body_within body = cond (nat_le (length body) body_limit) (Some body) None
