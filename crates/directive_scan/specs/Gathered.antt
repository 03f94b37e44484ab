-- How the pieces of a file come together, line by line.
use Rattle.std.specs.Prelude.{ℕ, List, [], ◌∷◌, ◌++◌, if◌then◌else◌, Option, None, Some, unwrap_or}
use Rattle.std.specs.List.{slice_get}
use Rattle.pp_tokens.specs.declared.Token.{Token}
use Rattle.pp_tokens.specs.Lines.{LexedFile, spells_hash}
use Rattle.directive_scan.specs.declared.directive.Piece.{Piece}
use Rattle.directive_scan.specs.Directives.{onto_run}

-- the tokens of a logical line, none behind the last one
abbrev pub tokens_at_line : LexedFile → ℕ → List Token
tokens_at_line file line = unwrap_or (slice_get file.lines line) []

-- the physical line of the `#` of a directive; none where the logical line is text (6.10 paragraph 2)
unfoldable pub hash_of : List Token → Option ℕ
hash_of [] = None
hash_of (t ∷ ts) = if spells_hash t.text then Some t.line else None

-- the pieces of a file: those of the lines that were gone through, of which the last ones may be a run that goes on,
-- and those of the other lines
abbrev pub gathered_pieces : List Piece → Option (List Token) → List Piece → List Piece
gathered_pieces pieces None others = pieces ++ others
gathered_pieces pieces (Some run) others = pieces ++ onto_run run others
