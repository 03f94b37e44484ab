-- The status of a program that the host failed.
use Rattle.std.specs.Prelude.{ℕ}
use Rattle.std.specs.declared.io.ErrorKind.{ErrorKind}
use Rattle.std.specs.declared.io.ErrorKind.TheVariants.{InvalidData, OutOfMemory}

-- 2 for a word that isn't UTF-8, 5 for want of memory, and 4 for any other failure
abbrev pub failure_status : ErrorKind → ℕ
failure_status InvalidData = 2
failure_status OutOfMemory = 5
failure_status _ = 4
