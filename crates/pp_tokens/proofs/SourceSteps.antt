-- The reading of a body up to a place: its text and splices so far, and what is left of it.
use Rattle.std.specs.Prelude.{◌≡◌, ℕ, ◌+◌, ◌<◌, Bool, true, false, cond, List, [], ◌∷◌, ◌++◌, length, take, drop, refl, ◌==◌}
use Rattle.std.proofs.Common.{sym, ◌∙◌, ap, append_assoc, subst, arith}
use Rattle.std.proofs.lemmas.List.{append-nil, length-append, drop-append-le, take-append-drop}
use Rattle.pp_tokens.specs.declared.source.Piece.TheVariants.{Byte, Splice}
use Rattle.pp_tokens.specs.Phases.{Cell, cell, newline_ended, with_newlines, numbered, without_trigraphs, spliced, source_text}
use Rattle.pp_tokens.specs.Lined.{lined}
use Rattle.pp_tokens.specs.parts.Seen.{Ascends}
use Rattle.pp_tokens.specs.parts.Pieces.{characters, source_from, line_behind, FrontStays, IsFront}
use Rattle.pp_tokens.proofs.LinedText.{line_behind-append, line_behind-add, next_line, lined_more, lined_splice}
use Rattle.pp_tokens.proofs.FrontPieces.{source_end}

-- the line on which the next byte stands
abbrev pub line_now : List ℕ → List ℕ → ℕ
line_now text splices = line_behind 1 text + length splices

-- what has been read, and what is read of the rest, are the whole text
pub record SourceState (trigraphs : Bool) (body text splices rest : List ℕ) : Type 0 where
  whole : lined splices 0 1 text ++ source_from trigraphs (line_now text splices) rest ≡ source_text trigraphs body

pub source_start : (trigraphs : Bool) (body lines : List ℕ) → newline_ended body ≡ lines ++ (10 ∷ []) → SourceState trigraphs body [] [] (lines ++ (10 ∷ []))
unfolding source_text source_from characters lined line_behind
source_start trigraphs body lines is = record { whole = ap (source_from trigraphs 1) (sym is) }

pub source_run : (trigraphs : Bool) (body text splices run rest : List ℕ) → Ascends 0 splices (length text)
    → ((line : ℕ) → source_from trigraphs line (run ++ rest) ≡ numbered line run ++ source_from trigraphs (line_behind line run) rest)
    → SourceState trigraphs body text splices (run ++ rest) → SourceState trigraphs body (text ++ run) splices rest
source_run trigraphs body text splices run rest ascends stays state =
    let line = line_now text splices in
    let further : line_behind line run ≡ line_now (text ++ run) splices =
    line_behind-add (line_behind 1 text) (length splices) run ∙ ap (λ n. n + length splices) (sym (line_behind-append 1 text run)) in
    let front : source_from trigraphs line (run ++ rest) ≡ numbered line run ++ source_from trigraphs (line_now (text ++ run) splices) rest =
    stays line ∙ ap (λ n. numbered line run ++ source_from trigraphs n rest) further in
    record {
      whole = ap (λ (cs : List Cell). cs ++ source_from trigraphs (line_now (text ++ run) splices) rest) (lined_more splices text run ascends)
          ∙ append_assoc (lined splices 0 1 text) (numbered line run) (source_from trigraphs (line_now (text ++ run) splices) rest)
          ∙ ap (λ (cs : List Cell). lined splices 0 1 text ++ cs) (sym front)
          ∙ state.whole;
    }

pub source_byte : (trigraphs : Bool) (body text splices rest : List ℕ) (b n : ℕ) → Ascends 0 splices (length text) → IsFront trigraphs (line_now text splices) rest (Byte b) n
    → SourceState trigraphs body text splices rest → SourceState trigraphs body (text ++ (b ∷ [])) splices (drop n rest)
unfolding numbered line_behind
source_byte trigraphs body text splices rest b n ascends front state =
    let line = line_now text splices in
    let further : cond (b == 10) (line + 1) line ≡ line_now (text ++ (b ∷ [])) splices =
    next_line (b == 10) (line_behind 1 text) (length splices) ∙ ap (λ k. k + length splices) (sym (line_behind-append 1 text (b ∷ []))) in
    record {
      whole = ap (λ (cs : List Cell). cs ++ source_from trigraphs (line_now (text ++ (b ∷ [])) splices) (drop n rest)) (lined_more splices text (b ∷ []) ascends)
          ∙ append_assoc (lined splices 0 1 text) (cell b line ∷ []) (source_from trigraphs (line_now (text ++ (b ∷ [])) splices) (drop n rest))
          ∙ ap (λ k. lined splices 0 1 text ++ (cell b line ∷ source_from trigraphs k (drop n rest))) (sym further)
          ∙ ap (λ (cs : List Cell). lined splices 0 1 text ++ cs) (sym front)
          ∙ state.whole;
    }

pub source_splice : (trigraphs : Bool) (body text splices rest : List ℕ) (n : ℕ) → IsFront trigraphs (line_now text splices) rest Splice n
    → SourceState trigraphs body text splices rest → SourceState trigraphs body text (splices ++ (length text ∷ [])) (drop n rest)
source_splice trigraphs body text splices rest n front state =
    let more : length (splices ++ (length text ∷ [])) ≡ length splices + 1 = length-append splices (length text ∷ []) in
    let further : line_now text (splices ++ (length text ∷ [])) ≡ line_now text splices + 1 = omega (arith, more) in
    record {
      whole = (λ i. lined_splice splices (length text) 0 1 text (omega arith) i ++ source_from trigraphs (further i) (drop n rest))
          ∙ ap (λ (cs : List Cell). lined splices 0 1 text ++ cs) (sym front)
          ∙ state.whole;
    }

pub source_done : (trigraphs : Bool) (body text splices rest : List ℕ) → rest ≡ [] → SourceState trigraphs body text splices rest → lined splices 0 1 text ≡ source_text trigraphs body
source_done trigraphs body text splices rest is state =
    let none : source_from trigraphs (line_now text splices) rest ≡ [] = ap (source_from trigraphs (line_now text splices)) is ∙ source_end trigraphs (line_now text splices) in
    sym (append-nil (lined splices 0 1 text)) ∙ ap (λ (cs : List Cell). lined splices 0 1 text ++ cs) (sym none) ∙ state.whole

pub empty_source : (trigraphs : Bool) (body : List ℕ) → length body ≡ 0 → lined [] 0 1 [] ≡ source_text trigraphs body
unfolding source_text newline_ended with_newlines numbered without_trigraphs spliced lined
empty_source true [] none = refl
empty_source false [] none = refl
empty_source trigraphs (b ∷ bs) none = absurd (omega arith)

-- a run of bytes at the front of the rest
pub source_front : (trigraphs : Bool) (body text splices rest : List ℕ) (n : ℕ) → Ascends 0 splices (length text) → FrontStays trigraphs rest n
    → SourceState trigraphs body text splices rest → SourceState trigraphs body (text ++ take n rest) splices (drop n rest)
source_front trigraphs body text splices rest n ascends stays state =
    source_run trigraphs body text splices (take n rest) (drop n rest) ascends (λ line. ap (source_from trigraphs line) (take-append-drop n rest) ∙ stays line)
    (subst (SourceState trigraphs body text splices) (sym (take-append-drop n rest)) state)

-- what is left of a body that ends with a newline
pub rest_lines : (body lines : List ℕ) (at : ℕ) → body ≡ lines ++ (10 ∷ []) → at < length body → drop at body ≡ drop at lines ++ (10 ∷ [])
rest_lines body lines at is before =
    ap (drop at) is ∙ drop-append-le at lines (10 ∷ []) (omega (arith, ap length is, length-append lines (10 ∷ [])))
