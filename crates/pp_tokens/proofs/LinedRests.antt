-- A text with its lines, from a place on.
use Rattle.std.specs.Prelude.{◌≡◌, ℕ, zero, suc, ◌+◌, ◌<◌, Bool, true, false, cond, List, [], ◌∷◌, length, take, drop, refl, ◌==◌}
use Rattle.std.proofs.Common.{sym, ◌∙◌, ap, arith}
use Rattle.std.proofs.lemmas.List.{take-map}
use Rattle.std.proofs.lemmas.List.Sums.{sum_by-cons}
use Rattle.pp_tokens.specs.Phases.{Cell, bytes}
use Rattle.pp_tokens.specs.Lined.{lined, spliced_up_to}
use Rattle.pp_tokens.specs.Lines.{line_of}
use Rattle.pp_tokens.specs.parts.Gathered.{newlines}

pub lined_bytes : (splices : List ℕ) (at line : ℕ) (xs : List ℕ) → bytes (lined splices at line xs) ≡ xs
unfolding lined
lined_bytes splices at line [] = refl
lined_bytes splices at line (b ∷ bs) = ap (λ (l : List ℕ). b ∷ l) (lined_bytes splices (suc at) (cond (b == 10) (line + 1) line) bs)

pub newline_next : (b : ℕ) (bs : List ℕ) → newlines (b ∷ bs) ≡ cond (b == 10) 1 0 + newlines bs
newline_next b bs = sum_by-cons (λ c. cond (c == 10) 1 0) b bs

-- the line behind a byte, and the newlines behind that
newline_more : (line b : ℕ) (bs : List ℕ) → cond (b == 10) (line + 1) line + newlines bs ≡ line + newlines (b ∷ bs)
newline_more line b bs = by_test (b == 10) ∙ ap (λ n. line + n) (sym (newline_next b bs))
  where
    by_test : (t : Bool) → cond t (line + 1) line + newlines bs ≡ line + (cond t 1 0 + newlines bs)
    by_test true = omega arith
    by_test false = omega arith

pub lined_past : (n : ℕ) (splices : List ℕ) (at line : ℕ) (xs : List ℕ) → drop n (lined splices at line xs) ≡ lined splices (at + n) (line + newlines (take n xs)) (drop n xs)
unfolding lined
lined_past zero splices at line xs =
    let place : at + 0 ≡ at = omega arith in
    let same : line + 0 ≡ line = omega arith in
    rw (place, same) refl
lined_past (suc n) splices at line [] = refl
lined_past (suc n) splices at line (b ∷ bs) =
    let place : suc at + n ≡ at + suc n = omega arith in
    let same = newline_more line b (take n bs) in
    lined_past n splices (suc at) (cond (b == 10) (line + 1) line) bs
    ∙ (λ i. lined splices (place i) (same i) (drop n bs))

-- the bytes and the line of an element
pub cut_bytes : (n : ℕ) (splices : List ℕ) (at line : ℕ) (xs : List ℕ) → bytes (take n (lined splices at line xs)) ≡ take n xs
cut_bytes n splices at line xs = sym (take-map (λ (d : Cell). d.byte) n (lined splices at line xs)) ∙ ap (take n) (lined_bytes splices at line xs)

pub cut_line : (n : ℕ) (splices : List ℕ) (at line : ℕ) (xs : List ℕ) → 0 < n → 0 < length xs → line_of (take n (lined splices at line xs)) ≡ line + spliced_up_to splices at
unfolding lined
cut_line zero splices at line xs h k = absurd (omega arith)
cut_line (suc n) splices at line [] h k = absurd (omega arith)
cut_line (suc n) splices at line (b ∷ bs) h k = refl
