-- How many of the splices, which stand in rising order, are at a place or before it.
use Rattle.std.specs.Prelude.{◌≡◌, ℕ, zero, suc, ◌+◌, ◌≤◌, ◌<◌, Bool, true, false, cond, List, [], ◌∷◌, length, get_or, leb, refl}
use Rattle.std.specs.List.{filter}
use Rattle.std.proofs.Common.{arith}
use Rattle.std.proofs.lemmas.Bool.{le-leb, lt-leb, leb-true}
use Rattle.pp_tokens.specs.Lined.{spliced_up_to, Rising}

up_to_passed : (splice at : ℕ) (splices : List ℕ) → splice ≤ at → spliced_up_to (splice ∷ splices) at ≡ suc (spliced_up_to splices at)
up_to_passed splice at splices h = rw (le-leb splice at h) refl

up_to_one_more : (splice at : ℕ) (splices : List ℕ) → spliced_up_to (splice ∷ splices) at ≤ suc (spliced_up_to splices at)
up_to_one_more splice at splices = by_test (leb splice at)
  where
    by_test : (t : Bool) → length (cond t (splice ∷ filter (λ s. leb s at) splices) (filter (λ s. leb s at) splices)) ≤ suc (length (filter (λ s. leb s at) splices))
    by_test true = omega arith
    by_test false = omega arith

up_to_behind : (splice at : ℕ) (splices : List ℕ) → spliced_up_to splices at ≤ spliced_up_to (splice ∷ splices) at
up_to_behind splice at splices = by_test (leb splice at)
  where
    by_test : (t : Bool) → length (filter (λ s. leb s at) splices) ≤ length (cond t (splice ∷ filter (λ s. leb s at) splices) (filter (λ s. leb s at) splices))
    by_test true = omega arith
    by_test false = omega arith

pub up_to_all : (splices : List ℕ) (at : ℕ) → spliced_up_to splices at ≤ length splices
up_to_all [] at = omega arith
up_to_all (s ∷ ss) at = let later = up_to_all ss at in omega (arith, later, up_to_one_more s at ss)

-- each is no earlier than the first
rising_low : (from : ℕ) (splices : List ℕ) (k : ℕ) → Rising from splices → k < length splices → from ≤ get_or splices k 0
unfolding Rising
rising_low from [] k h below = absurd (omega arith)
rising_low from (s ∷ ss) zero h below = h.0
rising_low from (s ∷ ss) (suc k) h below = let later : s ≤ get_or ss k 0 = rising_low s ss k h.1 (omega arith) in omega (arith, h.0, later)

none_up_to : (from : ℕ) (splices : List ℕ) (at : ℕ) → Rising from splices → at < from → spliced_up_to splices at ≡ 0
unfolding Rising
none_up_to from [] at h below = refl
none_up_to from (s ∷ ss) at h below = rw (lt-leb s at (omega (arith, h.0))) (none_up_to s ss at h.1 (omega (arith, h.0)))

-- the splice with this number is among them, and with it those before
pub up_to_more : (from : ℕ) (splices : List ℕ) (k at : ℕ) → Rising from splices → k < length splices → get_or splices k 0 ≤ at → k + 1 ≤ spliced_up_to splices at
unfolding Rising
up_to_more from [] k at h below is = absurd (omega arith)
up_to_more from (s ∷ ss) zero at h below is = omega (arith, up_to_passed s at ss is)
up_to_more from (s ∷ ss) (suc k) at h below is =
    let low : s ≤ get_or ss k 0 = rising_low s ss k h.1 (omega arith) in
    let later : k + 1 ≤ spliced_up_to ss at = up_to_more s ss k at h.1 (omega arith) is in
    omega (arith, later, up_to_passed s at ss (omega (arith, low, is)))

-- it is not, nor are those behind
pub up_to_most : (from : ℕ) (splices : List ℕ) (k at : ℕ) → Rising from splices → k < length splices → at < get_or splices k 0 → spliced_up_to splices at ≤ k
unfolding Rising
up_to_most from [] k at h below is = absurd (omega arith)
up_to_most from (s ∷ ss) zero at h below is = rw (lt-leb s at is) (let none : spliced_up_to ss at ≡ 0 = none_up_to s ss at h.1 is in omega (arith, none))
up_to_most from (s ∷ ss) (suc k) at h below is =
    let later : spliced_up_to ss at ≤ k = up_to_most s ss k at h.1 (omega arith) is in
    omega (arith, later, up_to_one_more s at ss)

-- at a later place there are no fewer
pub up_to_later : (splices : List ℕ) (at more : ℕ) → spliced_up_to splices at ≤ spliced_up_to splices (at + more)
up_to_later [] at more = omega arith
up_to_later (s ∷ ss) at more = by_test (leb s at) refl (up_to_later ss at more)
  where
    by_test : (t : Bool) → leb s at ≡ t → spliced_up_to ss at ≤ spliced_up_to ss (at + more) → spliced_up_to (s ∷ ss) at ≤ spliced_up_to (s ∷ ss) (at + more)
    by_test true e ih =
        let low : s ≤ at = leb-true s at e in
        omega (arith, ih, up_to_passed s at ss low, up_to_passed s (at + more) ss (omega (arith, low)))
    by_test false e ih =
        let same : spliced_up_to (s ∷ ss) at ≡ spliced_up_to ss at = rw e refl in
        omega (arith, ih, same, up_to_behind s (at + more) ss)
