-- The pieces of a file are at most twice its tokens and one more.
use Rattle.std.proofs.Common.{◌≡◌, ◌≤◌, ◌+◌, ℕ, suc, List, [], ◌∷◌, Bool, true, false, length, refl, arith, length-append}
use Rattle.std.specs.Prelude.{if◌then◌else◌}
use Rattle.std.specs.List.{flat_map}
use Rattle.pp_tokens.specs.declared.Token.{Token}
use Rattle.pp_tokens.specs.Lines.{LexedFile, spells_hash}
use Rattle.directive_scan.specs.declared.Directive.{Directive}
use Rattle.directive_scan.specs.declared.Piece.{Piece}
use Rattle.directive_scan.specs.declared.Piece.TheVariants.{Run, Line}
use Rattle.directive_scan.specs.Directives.{directive_of, onto_run, line_before, pieces}
use Rattle.daemon_cpp.specs.declared.file_text.FileText.{FileText}
use Rattle.daemon_cpp.specs.parts.FileTexts.{IsTextOf, HasFewPieces}
use Rattle.daemon_cpp.specs.parts.Reading.{token_count}

-- how many runs stand first: a line of text goes on with one
abbrev first_runs : List Piece → ℕ
first_runs [] = 0
first_runs (Run tokens ∷ ps) = 1
first_runs (Line at what ∷ ps) = 0

run_count : (line : List Token) (ps : List Piece) → length (onto_run line ps) + first_runs ps ≡ suc (length ps)
run_count line [] = refl
run_count line (Run tokens ∷ ps) = omega arith
run_count line (Line at what ∷ ps) = omega arith

run_first : (line : List Token) (ps : List Piece) → first_runs (onto_run line ps) ≡ 1
run_first line [] = refl
run_first line (Run tokens ∷ ps) = refl
run_first line (Line at what ∷ ps) = refl

text_line : (line : List Token) (ps : List Piece) (tokens all : ℕ) → length ps ≤ first_runs ps + (tokens + tokens) → tokens ≤ all → length (onto_run line ps) ≤ first_runs (onto_run line ps) + (all + all)
text_line line ps tokens all few more = rw (run_first line ps) (omega (arith, run_count line ps))

directive_line : (at : ℕ) (what : Directive) (ps : List Piece) (tokens all : ℕ) → first_runs ps ≤ 1 → length ps ≤ first_runs ps + (tokens + tokens) → suc tokens ≤ all → length (Line at what ∷ ps) ≤ first_runs (Line at what ∷ ps) + (all + all)
directive_line at what ps tokens all one few more = omega arith

at_most_one : (ps : List Piece) → first_runs ps ≤ 1
at_most_one [] = omega arith
at_most_one (Run tokens ∷ ps) = omega arith
at_most_one (Line at what ∷ ps) = omega arith

one_line : (line : List Token) (ps : List Piece) (tokens all : ℕ) → length ps ≤ first_runs ps + (tokens + tokens) → length line + tokens ≤ all → length (line_before line ps) ≤ first_runs (line_before line ps) + (all + all)
one_line [] ps tokens all few more = text_line [] ps tokens all few (omega arith)
one_line (t ∷ ts) ps tokens all few more = by_hash (spells_hash t.text)
  where
    by_hash : (b : Bool) → length (if b then Line t.line (directive_of ts) ∷ ps else onto_run (t ∷ ts) ps) ≤ first_runs (if b then Line t.line (directive_of ts) ∷ ps else onto_run (t ∷ ts) ps) + (all + all)
    by_hash true = directive_line t.line (directive_of ts) ps tokens all (at_most_one ps) few (omega arith)
    by_hash false = text_line (t ∷ ts) ps tokens all few (omega arith)

pieces_few : (lines : List (List Token)) → length (pieces lines) ≤ first_runs (pieces lines) + (token_count lines + token_count lines)
unfolding pieces
pieces_few [] = omega arith
pieces_few (line ∷ lines) =
    one_line line (pieces lines) (token_count lines) (token_count (line ∷ lines)) (pieces_few lines)
    (omega (arith, length-append line (flat_map (λ (l : List Token). l) lines)))

pub pieces-few : (lines : List (List Token)) → length (pieces lines) ≤ suc (token_count lines + token_count lines)
pieces-few lines = omega (arith, pieces_few lines, at_most_one (pieces lines))

-- so are those of what is kept of it
pub text_few : (file : LexedFile) (text : FileText) → IsTextOf file text → HasFewPieces text
text_few file text is = rw (is.pieces, is.tokens) (pieces-few file.lines)
