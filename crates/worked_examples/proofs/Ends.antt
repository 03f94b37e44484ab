-- One end more.
use Rattle.std.proofs.Common.{◌≡◌, ◌≤◌, ◌+◌, ◌-◌, ℕ, List, [], ◌∷◌, ◌++◌, length, sym, subst, arith}
use Rattle.std.specs.List.{All}
use Rattle.std.proofs.lemmas.List.Elements.{All-push}
use Rattle.std.proofs.lemmas.List.{length_push}

pub few-more : {X : Type 0} (xs new : List X) (x : X) (more : ℕ) → new ≡ xs ++ x ∷ [] → length xs + more ≤ 64 → 1 ≤ more → length new + (more - 1) ≤ 64
few-more xs new x more is few some =
    let e : length new ≡ length xs + 1 = subst (λ (ys : List _). length ys ≡ length xs + 1) (sym is) (length_push xs x) in
    omega (arith, e, few, some)

pub all-more : {X : Type 0} (P : X → Type 0) (xs new : List X) (x : X) → new ≡ xs ++ x ∷ [] → All P xs → P x → All P new
all-more P xs new x is all one = subst (λ (ys : List _). All P ys) (sym is) (All-push P xs x all one)
