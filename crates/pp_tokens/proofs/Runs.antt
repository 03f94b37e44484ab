-- Runs of bytes that phases 1 and 2 leave as they are.
use Rattle.std.specs.Prelude.{◌≡◌, ℕ, ◌+◌, ◌≤◌, ◌<◌, Bool, true, false, cond, List, [], ◌∷◌, ◌++◌, length, take, drop, get_or, refl, ◌==◌}
use Rattle.std.specs.List.{list_all}
use Rattle.std.proofs.Common.{sym, ◌∙◌, ap, append_assoc, subst, arith}
use Rattle.std.proofs.Math.Seq.{take-add}
use Rattle.std.proofs.lemmas.List.{drop-drop, take-append-drop, take-append-le}
use Rattle.pp_tokens.specs.Phases.{Cell, cell, numbered}
use Rattle.pp_tokens.specs.parts.Pieces.{source_from, newline_length, is_kept, line_behind, FrontStays}
use Rattle.pp_tokens.proofs.Closing.{rest_is}
use Rattle.pp_tokens.proofs.FrontPieces.{kept_front, backslash_front, kept_run}
use Rattle.pp_tokens.proofs.LinedText.{line_behind-append}

-- no byte
pub run_none : (trigraphs : Bool) (rest : List ℕ) → FrontStays trigraphs rest 0
unfolding numbered line_behind
run_none trigraphs rest line = refl

numbered-append : (line : ℕ) (xs ys : List ℕ) → numbered line (xs ++ ys) ≡ numbered line xs ++ numbered (line_behind line xs) ys
unfolding numbered line_behind
numbered-append line [] ys = refl
numbered-append line (x ∷ xs) ys = ap (λ (l : List Cell). cell x line ∷ l) (numbered-append (cond (x == 10) (line + 1) line) xs ys)

-- one run behind another
pub run_behind : (trigraphs : Bool) (rest : List ℕ) (n m : ℕ) → FrontStays trigraphs rest n → FrontStays trigraphs (drop n rest) m → FrontStays trigraphs rest (n + m)
run_behind trigraphs rest n m first behind line =
    let xs = take n rest in
    let ys = take m (drop n rest) in
    let more = source_from trigraphs (line_behind (line_behind line xs) ys) (drop m (drop n rest)) in
    let all : List ℕ = xs ++ ys in
    first line
    ∙ ap (λ (l : List Cell). numbered line xs ++ l) (behind (line_behind line xs))
    ∙ sym (append_assoc (numbered line xs) (numbered (line_behind line xs) ys) more)
    ∙ ap (λ (l : List Cell). l ++ more) (sym (numbered-append line xs ys))
    ∙ (λ i. numbered line all ++ source_from trigraphs (sym (line_behind-append line xs ys) i) (drop-drop m n rest i))
    ∙ ap (λ (l : List ℕ). numbered line l ++ source_from trigraphs (line_behind line l) (drop (n + m) rest)) (sym (take-add n m rest))

-- bytes that stay whatever stands behind them
pub run_kept : (trigraphs : Bool) (rest after : List ℕ) (n : ℕ) → n ≤ length rest → list_all (is_kept trigraphs) (take n rest) ≡ true → FrontStays trigraphs (rest ++ after) n
run_kept trigraphs rest after n within kept line =
    let all : List ℕ = rest ++ after in
    let kept' : list_all (is_kept trigraphs) (take n all) ≡ true = ap (list_all (is_kept trigraphs)) (take-append-le n rest after within) ∙ kept in
    ap (source_from trigraphs line) (sym (take-append-drop n all)) ∙ kept_run trigraphs line (take n all) (drop n all) kept'

-- a byte that stays
one_kept : (trigraphs : Bool) (b : ℕ) (bs : List ℕ) → is_kept trigraphs b ≡ true → FrontStays trigraphs (b ∷ bs) 1
unfolding numbered line_behind
one_kept trigraphs b bs kept line = kept_front trigraphs line b bs kept

-- a backslash that no newline follows
one_backslash : (trigraphs : Bool) (behind : List ℕ) → newline_length behind ≡ 0 → FrontStays trigraphs (92 ∷ behind) 1
unfolding numbered line_behind
one_backslash trigraphs behind none line = backslash_front trigraphs line behind none

no_newline : (b : ℕ) (bs : List ℕ) → (b == 10) ≡ false → (b == 13) ≡ false → newline_length (b ∷ bs) ≡ 0
unfolding newline_length
no_newline b bs feed return = rw (feed, return) refl

-- the byte at a place
pub kept_stays : (trigraphs : Bool) (bytes after : List ℕ) (at : ℕ) → at < length bytes → is_kept trigraphs (get_or bytes at 0) ≡ true
    → FrontStays trigraphs (drop at bytes ++ after) 1
kept_stays trigraphs bytes after at within kept =
    subst (λ (l : List ℕ). FrontStays trigraphs (l ++ after) 1) (sym (rest_is bytes at within)) (one_kept trigraphs (get_or bytes at 0) (drop (at + 1) bytes ++ after) kept)

pub backslash_stays : (trigraphs : Bool) (bytes after : List ℕ) (at : ℕ) → at + 1 < length bytes → get_or bytes at 0 ≡ 92
    → (get_or bytes (at + 1) 0 == 10) ≡ false → (get_or bytes (at + 1) 0 == 13) ≡ false → FrontStays trigraphs (drop at bytes ++ after) 1
backslash_stays trigraphs bytes after at within backslash feed return =
    let next = rest_is bytes (at + 1) within in
    let none : newline_length (drop (at + 1) bytes ++ after) ≡ 0 =
    ap (λ (l : List ℕ). newline_length (l ++ after)) next ∙ no_newline (get_or bytes (at + 1) 0) (drop (at + 1 + 1) bytes ++ after) feed return in
    let front : drop at bytes ≡ 92 ∷ drop (at + 1) bytes = rest_is bytes at (omega arith) ∙ ap (λ b. b ∷ drop (at + 1) bytes) backslash in
    subst (λ (l : List ℕ). FrontStays trigraphs (l ++ after) 1) (sym front) (one_backslash trigraphs (drop (at + 1) bytes ++ after) none)
