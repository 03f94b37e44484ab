-- Where the pieces of a file lie in its lexed form.
use Rattle.std.specs.Prelude.{◌≡◌, ℕ, ◌-◌, ◌≤◌, List, [], ◌∷◌, length, map, take, drop, Option, None, Some, option_map}
use Rattle.std.specs.Arc.{arc_value}
use Rattle.std.specs.List.{flat_map}
use Rattle.pp_tokens.specs.declared.Token.{Token}
use Rattle.pp_tokens.specs.Lines.{LexedFile, all_tokens}
use Rattle.pp_tokens.specs.Tokens.{rest_of}
use Rattle.directive_scan.specs.declared.directive.Piece.{Piece}
use Rattle.directive_scan.specs.declared.directive.Piece.TheVariants as piece
use Rattle.directive_scan.specs.declared.conditional.BranchName.TheVariants as name
use Rattle.directive_scan.specs.declared.pieces.PieceRef.{PieceRef}
use Rattle.directive_scan.specs.declared.pieces.PieceRef.TheVariants as lent
use Rattle.directive_scan.specs.declared.pieces.DirectiveRef.{DirectiveRef}
use Rattle.directive_scan.specs.declared.role.Nesting.{Nesting}
use Rattle.directive_scan.specs.declared.role.Nesting.TheVariants as nesting
use Rattle.directive_scan.specs.declared.spots.Spot.{Spot}
use Rattle.directive_scan.specs.declared.spots.Spot.TheVariants as spot
use Rattle.directive_scan.specs.declared.directive.Directive.{Directive}
use Rattle.directive_scan.specs.declared.directive.Directive.TheVariants as directive
use Rattle.directive_scan.specs.declared.asked.Asked.{Asked}
use Rattle.directive_scan.specs.declared.asked.Asked.TheVariants as asked
use Rattle.directive_scan.specs.Directives.{directive_of}
use Rattle.directive_scan.specs.Gathered.{tokens_at_line, gathered_pieces}
use Rattle.directive_scan.specs.Groups.{Role, single, opening, elif_line, else_line, endif_line}
use Rattle.directive_scan.specs.Names.{directive_told, tokens_behind}

-- the role that a line's kind in the nesting is
abbrev pub role_told : Nesting → Role
role_told nesting.Single = single
role_told nesting.Opening = opening
role_told (nesting.Branch name.Elif) = elif_line
role_told (nesting.Branch name.Else) = else_line
role_told (nesting.Branch name.Endif) = endif_line

-- the directive on a logical line
abbrev pub directive_on : LexedFile → ℕ → Directive
directive_on file line = directive_of (drop 1 (tokens_at_line file line))

-- how many tokens stand on the lines before one
abbrev pub tokens_before : LexedFile → ℕ → ℕ
tokens_before file line = length (flat_map (λ l. l) (take line file.lines))

-- the tokens from one number up to another
abbrev pub tokens_between : LexedFile → ℕ → ℕ → List Token
tokens_between file from end = take (end - from) (drop from (all_tokens file))

abbrev pub piece_at : LexedFile → Spot → Piece
piece_at file (spot.Text from end) = piece.Run (tokens_between file from end)
piece_at file (spot.Line name line at) = piece.Line at (directive_on file line)

-- a directive's name is known
abbrev pub KnowsName : LexedFile → Spot → Type 0
KnowsName file (spot.Text from end) = Unit {0}
KnowsName file (spot.Line name line at) = directive_on file line ≡ directive_told name (drop 2 (tokens_at_line file line))

unfoldable pub EachKnowsName : LexedFile → List Spot → Type 0
EachKnowsName file [] = Unit {0}
EachKnowsName file (s ∷ ss) = KnowsName file s × EachKnowsName file ss

-- what a lent piece shows
abbrev pub directive_seen : DirectiveRef → Directive
directive_seen line = directive_told line.name (tokens_behind line)

abbrev pub piece_seen : PieceRef → Piece
piece_seen (lent.Run tokens) = piece.Run (rest_of tokens)
piece_seen (lent.Line at line) = piece.Line at (directive_seen line)

-- a directive that is no condition's line and no definition
abbrev pub AsksNothing : Directive → Type 0
AsksNothing (directive.If tokens) = ⊥
AsksNothing (directive.Elif tokens) = ⊥
AsksNothing (directive.Ifdef tokens) = ⊥
AsksNothing (directive.Ifndef tokens) = ⊥
AsksNothing (directive.Define tokens) = ⊥
AsksNothing _ = Unit {0}

-- what a directive asks (6.10.1)
abbrev pub AsksOf : Asked → Directive → Type 0
AsksOf (asked.If tokens) what = what ≡ directive.If (rest_of tokens)
AsksOf (asked.Elif tokens) what = what ≡ directive.Elif (rest_of tokens)
AsksOf (asked.Ifdef tokens) what = what ≡ directive.Ifdef (rest_of tokens)
AsksOf (asked.Ifndef tokens) what = what ≡ directive.Ifndef (rest_of tokens)
AsksOf (asked.Define file from end) what = what ≡ directive.Define (tokens_between (arc_value file.now) from end)
AsksOf asked.Nothing what = AsksNothing what

-- the pieces of a file: those of the spots so far, a run that goes on from a token up to a line, and those of the other lines
abbrev pub so_far : LexedFile → List Spot → Option ℕ → ℕ → List Piece → List Piece
so_far file spots run line others = gathered_pieces (map (piece_at file) spots) (option_map (λ from. tokens_between file from (tokens_before file line)) run) others

-- a run begins no later than a line
abbrev pub BeginsBefore : LexedFile → Option ℕ → ℕ → Type 0
BeginsBefore file None line = Unit {0}
BeginsBefore file (Some from) line = from ≤ tokens_before file line
