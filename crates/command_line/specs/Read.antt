-- What is read of the host's files.
use Rattle.std.specs.Prelude.{◌≤◌, length}
use Rattle.base_types.specs.Limits.{body_limit}
use Rattle.command_line.specs.declared.body.FileBody.{FileBody}
use Rattle.command_line.specs.declared.body.FileBody.TheVariants.{NoFile, Large, Whole}

-- a whole body has at most 16,777,216 bytes
abbrev pub IsSmallFile : FileBody → Type 0
IsSmallFile NoFile = Unit {0}
IsSmallFile Large = Unit {0}
IsSmallFile (Whole bytes) = length bytes.items ≤ body_limit
