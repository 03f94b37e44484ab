-- The lines of macros, byte by byte.
use Rattle.std.proofs.Common.{◌≡◌, ◌-◌, ℕ, zero, suc, List, [], ◌∷◌, ◌++◌, length, take, drop, set, refl, ap, ◌∙◌, arith}
use Rattle.std.specs.Prelude.{codes}
use Rattle.std.specs.List.{flat_map, slice_get}
use Rattle.std.specs.Option.{option_map_or, unwrap_or}
use Rattle.std.proofs.Math.Seq.{take-append_seam}
use Rattle.pp_tokens.specs.declared.Token.{Token}
use Rattle.job_words.specs.Macros.{define_line}
use Rattle.job_words.specs.parts.Told.{IsFirst, NoneFrom}

-- a text whose first `=` stands at a place
pub line-equals : (text : List ℕ) (place : ℕ) → IsFirst place 61 text → define_line text ≡ set text place 32
unfolding define_line
line-equals [] place first = absurd (omega (arith, first.0))
line-equals (b ∷ bs) zero first = rw first.1 refl
line-equals (b ∷ bs) (suc place) first =
    rw (first.2 0 (omega arith)) (ap (λ rest. b ∷ rest) (line-equals bs place (omega (arith, first.0), first.1, λ k below. first.2 (suc k) (omega (arith, below)))))

-- and one without
pub line-plain : (text : List ℕ) → NoneFrom 0 61 text → define_line text ≡ text ++ codes " 1"
unfolding define_line
line-plain [] none = refl
line-plain (b ∷ bs) none =
    rw (none 0 (omega arith) (omega arith)) (ap (λ rest. b ∷ rest) (line-plain bs (λ k from within. none (suc k) (omega arith) (omega (arith, within)))))

-- the tokens of a file's first line are those that stand first
pub first-tokens : (lines : List (List Token)) → take (option_map_or length (slice_get lines 0) 0 - 0) (drop 0 (flat_map (λ l. l) lines)) ≡ unwrap_or (slice_get lines 0) []
first-tokens [] = refl
first-tokens (l ∷ ls) =
    let all : length l - 0 ≡ length l = omega arith in
    ap (λ (n : ℕ). take n (l ++ flat_map (λ l. l) ls)) all ∙ take-append_seam l (flat_map (λ l. l) ls)
