-- The directives of a file, whatever stands on its lines of text.
use Rattle.std.specs.Prelude.{◌≡◌, Bool, true, false, cond, List, [], ◌∷◌, map, refl}
use Rattle.std.proofs.Common.{sym, ◌∙◌, ap}
use Rattle.pp_tokens.specs.declared.Token.{Token}
use Rattle.pp_tokens.specs.Lines.{spells_hash}
use Rattle.pp_tokens.specs.DirectiveLines.{directive_line}
use Rattle.directive_scan.specs.declared.directive.Piece.{Piece}
use Rattle.directive_scan.specs.declared.directive.Piece.TheVariants.{Run, Line}
use Rattle.directive_scan.specs.Directives.{directive_of, onto_run, line_before, pieces, directives_of}

-- a line of text adds no directive
text_adds_none : (line : List Token) (ps : List Piece) → directives_of (onto_run line ps) ≡ directives_of ps
text_adds_none line [] = refl
text_adds_none line (Run tokens ∷ ps) = refl
text_adds_none line (Line at what ∷ ps) = refl

line_alone : (line : List Token) (ps qs : List Piece) → directives_of ps ≡ directives_of qs → directives_of (line_before (directive_line line) ps) ≡ directives_of (line_before line qs)
line_alone [] ps qs same = text_adds_none [] ps ∙ same ∙ sym (text_adds_none [] qs)
line_alone (t ∷ ts) ps qs same = by_hash (spells_hash t.text) refl
  where
    by_hash : (hash : Bool) → spells_hash t.text ≡ hash
        → directives_of (line_before (cond hash (t ∷ ts) []) ps) ≡ directives_of (cond hash (Line t.line (directive_of ts) ∷ qs) (onto_run (t ∷ ts) qs))
    by_hash true e =
        ap (λ (b : Bool). directives_of (cond b (Line t.line (directive_of ts) ∷ ps) (onto_run (t ∷ ts) ps))) e
        ∙ ap (λ (others : List Piece). Line t.line (directive_of ts) ∷ others) same
    by_hash false e = text_adds_none [] ps ∙ same ∙ sym (text_adds_none (t ∷ ts) qs)

pub directives_alone : (lines : List (List Token)) → directives_of (pieces (map directive_line lines)) ≡ directives_of (pieces lines)
unfolding pieces
directives_alone [] = refl
directives_alone (line ∷ lines) = line_alone line (pieces (map directive_line lines)) (pieces lines) (directives_alone lines)
