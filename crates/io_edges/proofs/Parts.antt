-- A list of which a part was taken.
use Rattle.std.proofs.Common.{◌≡◌, ℕ, ◌+◌, List, ◌++◌, take, drop, sym}
use Rattle.std.proofs.lemmas.List.{take-append-drop, drop-drop}

-- what was taken stands before what is left
pub front-then-rest : (at n : ℕ) (xs room : List ℕ) → take n room ≡ take n (drop at xs) → drop at xs ≡ take n room ++ drop (at + n) xs
front-then-rest at n xs room same = rw (same, ← drop-drop n at xs) (sym (take-append-drop n (drop at xs)))
