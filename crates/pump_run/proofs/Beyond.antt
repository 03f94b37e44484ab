-- The ends beyond those of the clients.
use Rattle.std.proofs.Common.{◌≡◌, ℕ, zero, suc, ◌+◌, ◌<◌, ◌≤◌, List, [], ◌∷◌, take, drop, false, refl, sym, subst, arith}
use Rattle.std.specs.Prelude.{◌==◌}
use Rattle.std.specs.List.{AllByRecursion}
use Rattle.std.proofs.lemmas.Bool.Decides.{nat_tests}
use Rattle.job_ends.specs.Outside.{EndSeen}
use Rattle.job_ends.specs.Works.{Work, EachEnd, EndHolds, works_of}
use Rattle.job_ends.proofs.Unused.{still-end}

-- each work is of a client below n
abbrev pub OfClients : ℕ → List Work → Type 0
OfClients n works = AllByRecursion (λ (w : Work). w.done.client < n) works

other-client : (a b : ℕ) → a < b → (a == b) ≡ false
other-client a b below = grind (arith, nat_tests)

-- a client at or above n did nothing
no-works : (n client : ℕ) (works : List Work) → OfClients n works → n ≤ client → works_of client works ≡ []
no-works n client [] all above = refl
no-works n client (w ∷ works) all above = rw (other-client w.done.client client (omega (arith, all.0, above))) (no-works n client works all.1 above)

-- ends of clients at or above n stay
ends-beyond : (n client : ℕ) (works : List Work) (ends : List EndSeen) → OfClients n works → n ≤ client → EachEnd client works ends ends
ends-beyond n client works [] all above = tt
ends-beyond n client works (e ∷ ends) all above = (
  subst (λ (own : List Work). EndHolds own e e) (sym (no-works n client works all above)) (still-end e),
  ends-beyond n (suc client) works ends all (omega (arith, above)),
)

-- the first ends hold by the works, and the rest stayed
pub all-ends : (n client m : ℕ) (works : List Work) (before after : List EndSeen) → client + m ≡ n → OfClients n works
    → EachEnd client works (take m before) (take m after) → drop m after ≡ drop m before → EachEnd client works before after
all-ends n client zero works before after sum all each rest = subst (λ (ends : List EndSeen). EachEnd client works before ends) (sym rest) (ends-beyond n client works before all (omega (arith, sum)))
all-ends n client (suc m) works [] [] sum all each rest = tt
all-ends n client (suc m) works [] (now ∷ after) sum all each rest = each
all-ends n client (suc m) works (old ∷ before) [] sum all each rest = each
all-ends n client (suc m) works (old ∷ before) (now ∷ after) sum all each rest = (each.0, all-ends n (suc client) m works before after (omega (arith, sum)) all each.1 rest)
