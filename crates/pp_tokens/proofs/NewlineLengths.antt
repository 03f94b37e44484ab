-- The newline at the front of what is left of a body, by its first two bytes.
use Rattle.std.specs.Prelude.{◌≡◌, ℕ, Bool, true, false, cond, ◌&&◌, ◌||◌, List, [], ◌∷◌, ◌++◌, length, get_or, refl, ◌==◌, nat_eq}
use Rattle.std.proofs.Common.{sym, ◌∙◌, arith, eq-eqb}
use Rattle.std.proofs.lemmas.Bool.{ne_eqb, eqb-true, eqb-false}
use Rattle.pp_tokens.specs.parts.Pieces.{newline_length}

-- the order of two numbers makes no difference to a test of them
swapped : (a b : ℕ) → (a == b) ≡ (b == a)
swapped a b = by_test (b == a) refl
  where
    by_test : (t : Bool) → (b == a) ≡ t → (a == b) ≡ t
    by_test true e = eq-eqb a b (sym (eqb-true b a e))
    by_test false e = ne_eqb a b (λ same. eqb-false b a e (sym same))

alone : (t : Bool) → (t && true) ≡ t
alone true = refl
alone false = refl

pub newline_at : (rest : List ℕ) → newline_length (rest ++ (10 ∷ []))
    ≡ cond ((length rest == 0) || (get_or rest 0 0 == 10)) 1 (cond ((get_or rest 0 0 == 13) && ((length rest == 1) || (get_or rest 1 0 == 10))) 2 0)
unfolding newline_length
newline_at [] = refl
newline_at (a ∷ []) = refl
newline_at (a ∷ b ∷ bs) =
    let some : (length (a ∷ b ∷ bs) == 0) ≡ false = ne_eqb (length (a ∷ b ∷ bs)) 0 (λ h. omega arith) in
    let two : (length (a ∷ b ∷ bs) == 1) ≡ false = ne_eqb (length (a ∷ b ∷ bs)) 1 (λ h. omega arith) in
    let second : (nat_eq 10 b && true) ≡ (b == 10) = alone (nat_eq 10 b) ∙ swapped 10 b in
    rw (some, two, second) refl
