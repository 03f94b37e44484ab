-- A row of numbers that is one longer.
use Rattle.std.proofs.Common.{◌≡◌, ℕ, zero, suc, ◌+◌, [], ◌∷◌, ◌++◌, arith, ap, ◌∙◌}
use Rattle.std.specs.List.{range_with_len}

range_suc : (first n : ℕ) → range_with_len first (suc n) ≡ range_with_len first n ++ (first + n) ∷ []
range_suc first zero = ap (λ k. k ∷ []) (omega arith)
range_suc first (suc n) = ap (λ l. first ∷ l) (range_suc (first + 1) n ∙ ap (λ k. range_with_len (first + 1) n ++ k ∷ []) (omega arith))

pub range_snoc : (n : ℕ) → range_with_len 0 (n + 1) ≡ range_with_len 0 n ++ n ∷ []
range_snoc n = let e : n + 1 ≡ suc n = omega arith in rw e (range_suc 0 n ∙ ap (λ k. range_with_len 0 n ++ k ∷ []) (omega arith))
