-- Going through a list by its places.
use Rattle.std.proofs.Common.{◌≡◌, ◌≤◌, ◌+◌, ℕ, zero, suc, List, [], ◌∷◌, ◌++◌, length, drop, refl, sym, ◌∙◌, ap, arith, append_assoc, append-nil}
use Rattle.std.specs.Prelude.{Err, IsErrOf}

pub none-at : {X : Type 0} (xs : List X) (i : ℕ) → length xs ≤ i → drop i xs ≡ []
none-at [] zero past = refl
none-at [] (suc i) past = refl
none-at (x ∷ xs) zero past = absurd (omega arith)
none-at (x ∷ xs) (suc i) past = none-at xs i (omega arith)

-- what one element more adds to what is done
pub goes-on : {X Y : Type 0} (f : List X → List Y) (one : List Y) (xs : List X) (i : ℕ) (done more whole : List Y) → f (drop i xs) ≡ one ++ f (drop (i + 1) xs)
    → done ++ f (drop i xs) ≡ whole → more ≡ done ++ one → more ++ f (drop (i + 1) xs) ≡ whole
goes-on f one xs i done more whole cut is added =
    ap (λ m. m ++ f (drop (i + 1) xs)) added
    ∙ append_assoc done one (f (drop (i + 1) xs))
    ∙ ap (λ t. done ++ t) (sym cut)
    ∙ is

-- at the end all is done
pub ends : {X Y : Type 0} (f : List X → List Y) (xs : List X) (i : ℕ) (done whole : List Y) → f [] ≡ [] → length xs ≤ i → done ++ f (drop i xs) ≡ whole → done ≡ whole
ends f xs i done whole none past is =
    sym (append-nil done) ∙ ap (λ t. done ++ t) (sym (ap f (none-at xs i past) ∙ none)) ∙ is

-- an error of one result is one of another
pub other-error : {T U E : Type 0} (e f : E) → IsErrOf {T = T} {E = E} (Err e) f → IsErrOf {T = U} {E = E} (Err e) f
other-error e f h = let same : e ≡ f = cc in ap (λ x. Err x) same
