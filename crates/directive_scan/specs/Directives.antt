-- The directives of a file, from its logical lines of tokens (ISO C 6.10).
use Rattle.std.specs.Prelude.{ℕ, ◌-◌, Bool, true, false, List, [], ◌∷◌, ◌++◌, length, take, drop, if◌then◌else◌, nat_eq, codes, bytes_eq}
use Rattle.std.specs.List.{filter, starts_with}
use Rattle.pp_tokens.specs.declared.Kind.{Kind}
use Rattle.pp_tokens.specs.declared.Kind.TheVariants as kind
use Rattle.pp_tokens.specs.declared.Token.{Token}
use Rattle.pp_tokens.specs.Lines.{spells_hash}
use Rattle.directive_scan.specs.declared.directive.HeaderName.{HeaderName}
use Rattle.directive_scan.specs.declared.directive.Target.{Target}
use Rattle.directive_scan.specs.declared.directive.Target.TheVariants.{Plain, Computed}
use Rattle.directive_scan.specs.declared.directive.Directive.{Directive}
use Rattle.directive_scan.specs.declared.directive.Directive.TheVariants as directive
use Rattle.directive_scan.specs.declared.directive.Piece.{Piece}
use Rattle.directive_scan.specs.declared.directive.Piece.TheVariants.{Run, Line}

-- the header name that a token's spelling is, delimiters and all (6.4.7)
abbrev pub header_name : List ℕ → HeaderName
header_name text =
    record { angle = starts_with nat_eq text (codes "<"); name = take (length text - 2) (drop 1 text) }

-- what the tokens behind include or include_next name: a header name that stands first, else all of them (6.10.2)
abbrev pub target_of_first : Token → List Token → Kind → Target
target_of_first t ts kind.Header = Plain (header_name t.text)
target_of_first t ts kind.Ident = Computed (t ∷ ts)
target_of_first t ts kind.Number = Computed (t ∷ ts)
target_of_first t ts kind.Char = Computed (t ∷ ts)
target_of_first t ts kind.Str = Computed (t ∷ ts)
target_of_first t ts kind.Punct = Computed (t ∷ ts)
target_of_first t ts kind.Other = Computed (t ∷ ts)

unfoldable pub target_of : List Token → Target
target_of [] = Computed []
target_of (t ∷ ts) = target_of_first t ts t.kind

-- a pragma, by its tokens (6.10.6)
unfoldable pub pragma_of : List Token → Directive
pragma_of [] = directive.Pragma []
pragma_of (t ∷ ts) = if bytes_eq t.text (codes "once") then directive.Once else directive.Pragma (t ∷ ts)

-- the directives by their names: what each is, by the tokens behind its name (6.10)
abbrev pub directives : List (List ℕ × (List Token → Directive))
directives =
    (codes "include", λ ts. directive.Include (target_of ts))
    ∷ (codes "include_next", λ ts. directive.Next (target_of ts))
    ∷ (codes "define", λ ts. directive.Define ts)
    ∷ (codes "undef", λ ts. directive.Undef ts)
    ∷ (codes "if", λ ts. directive.If ts)
    ∷ (codes "ifdef", λ ts. directive.Ifdef ts)
    ∷ (codes "ifndef", λ ts. directive.Ifndef ts)
    ∷ (codes "elif", λ ts. directive.Elif ts)
    ∷ (codes "else", λ ts. directive.Else)
    ∷ (codes "endif", λ ts. directive.Endif)
    ∷ (codes "line", λ ts. directive.Line ts)
    ∷ (codes "error", λ ts. directive.Error ts)
    ∷ (codes "warning", λ ts. directive.Warning)
    ∷ (codes "pragma", pragma_of)
    ∷ []

-- the directive with a name, by the rows of such a table; unknown where none has the name
abbrev pub named_in : List (List ℕ × (List Token → Directive)) → List ℕ → List Token → Directive
named_in [] name ts = directive.Unknown
named_in (row ∷ rows) name ts = if bytes_eq name row.0 then row.1 ts else named_in rows name ts

-- a directive, by its name and the tokens behind that (6.10)
unfoldable pub directive_named : List ℕ → List Token → Directive
directive_named = named_in directives

-- a directive, by the tokens behind its `#` (6.10, 6.10.7)
unfoldable pub directive_of : List Token → Directive
directive_of [] = directive.Null
directive_of (t ∷ ts) = directive_named t.text ts

-- a line of text more in front
abbrev pub onto_run : List Token → List Piece → List Piece
onto_run line [] = Run line ∷ []
onto_run line (Run tokens ∷ ps) = Run (line ++ tokens) ∷ ps
onto_run line (Line at what ∷ ps) = Run line ∷ (Line at what ∷ ps)

-- a logical line more in front: a directive where its first token is `#` or `%:`, else text (6.10 paragraph 2)
abbrev pub line_before : List Token → List Piece → List Piece
line_before [] ps = onto_run [] ps
line_before (t ∷ ts) ps = if spells_hash t.text then Line t.line (directive_of ts) ∷ ps else onto_run (t ∷ ts) ps

-- the pieces of a file, from its logical lines
unfoldable pub pieces : List (List Token) → List Piece
pieces [] = []
pieces (line ∷ lines) = line_before line (pieces lines)

-- the piece is a directive
abbrev pub is_directive : Piece → Bool
is_directive (Run tokens) = false
is_directive (Line at what) = true

-- the directives among pieces, in their order
abbrev pub directives_of : List Piece → List Piece
directives_of = filter is_directive
