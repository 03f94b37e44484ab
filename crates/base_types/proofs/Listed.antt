-- What the search of a list answers as membership, where the test tells values apart.
use Rattle.std.proofs.Common.{◌≡◌, List, [], ◌∷◌, Bool, true, false, ◌||◌, sym, ◌∙◌, ap, inl, inr}
use Rattle.std.specs.List.{list_any}
use Rattle.std.proofs.lemmas.Bool.{cases_Bool}
use Rattle.base_types.specs.Calls.{TellsApart}
use Rattle.base_types.specs.Members.{Member}

pub member-found : {N : Type 0} (eq : N → N → Bool) → TellsApart eq → (k : N) (xs : List N) → list_any (λ x. eq x k) xs ≡ true → Member k xs
member-found eq apart k [] found = absurd (cc)
member-found eq apart k (x ∷ xs) found =
    elim (cases_Bool (eq x k)) [
      | inl same ↦ inl ((apart x k).0 same)
      | inr other ↦ inr (member-found eq apart k xs (sym (ap (λ b. b || list_any (λ y. eq y k) xs) other) ∙ found))
    ]

pub member-missed : {N : Type 0} (eq : N → N → Bool) → TellsApart eq → (k : N) (xs : List N) → list_any (λ x. eq x k) xs ≡ false → Member k xs → ⊥
member-missed eq apart k [] missed m = m
member-missed eq apart k (x ∷ xs) missed (inl is) =
    absurd (let found : true ≡ false = sym (ap (λ b. b || list_any (λ y. eq y k) xs) ((apart x k).1 is)) ∙ missed in cc)
member-missed eq apart k (x ∷ xs) missed (inr rest) =
    elim (cases_Bool (eq x k)) [
      | inl same ↦ absurd (let found : true ≡ false = sym (ap (λ b. b || list_any (λ y. eq y k) xs) same) ∙ missed in cc)
      | inr other ↦ member-missed eq apart k xs (sym (ap (λ b. b || list_any (λ y. eq y k) xs) other) ∙ missed) rest
    ]
