-- How far presumed lines may lie from physical ones.
use Rattle.std.specs.Prelude.{◌≤◌, ℤ, pos, negsuc}

-- what a `#line` in a file of less than 2^32 lines adds to a line
abbrev pub IsNarrow : ℤ → Type 0
IsNarrow (pos n) = n ≤ 4294967296
IsNarrow (negsuc n) = n ≤ 4294967296
