-- Paths as diagnostics and line markers show them.
use Rattle.std.specs.Prelude.{ℕ, Bool, not, ◌&&◌, [], ◌∷◌, if◌then◌else◌, ◌==◌, codes}
use Rattle.std.specs.List.{flat_map}
use Rattle.base_types.specs.Ascii as ascii
use Rattle.tree_model.specs.Paths.{Text, Path, spelled}

-- a byte as it is shown in a name: `\`, `"` and a newline are escaped
abbrev pub shown_byte : ℕ → Text
shown_byte b = if b == ascii.backslash then codes "\\\\" else (if b == ascii.quote then codes "\\\"" else (if b == ascii.newline then codes "\\n" else b ∷ []))

-- a byte that is shown as it is
abbrev pub is_plain : ℕ → Bool
is_plain b = not (b == ascii.backslash) && (not (b == ascii.quote) && not (b == ascii.newline))

unfoldable pub shown : Text → Text
shown text = flat_map shown_byte text

-- the presumed name of a file, as it is before any `#line` (ISO C 6.10.4)
abbrev pub presumed_name : Path → Text
presumed_name place = shown (spelled place)
