-- Newlines in blocks of 64, and what is left of a block.
use Rattle.std.proofs.Common.{◌≡◌, ℕ, ◌+◌, ◌*◌, ◌/◌, ◌%◌, ◌≤◌, List, ◌++◌, take, append_assoc, arith, ◌∙◌, ap}
use Rattle.std.specs.Prelude.{replicate}
use Rattle.std.proofs.lemmas.List.{replicate-append-replicate, take-replicate}

-- a further block
pub next_block : (old now next : List ℕ) (k : ℕ) → now ≡ old ++ replicate (64 * k) 10 → next ≡ now ++ replicate 64 10 → next ≡ old ++ replicate (64 * (k + 1)) 10
next_block old now next k so_far more =
    let total : 64 * k + 64 ≡ 64 * (k + 1) = omega arith in
    more
    ∙ ap (λ xs. xs ++ replicate 64 10) so_far
    ∙ append_assoc old (replicate (64 * k) 10) (replicate 64 10)
    ∙ ap (λ xs. old ++ xs) (replicate-append-replicate (64 * k) 64 10 ∙ ap (λ n. replicate n 10) total)

-- the part of a block that is left behind the whole ones
pub last_block : (old now next : List ℕ) (count k : ℕ) → k ≡ count / 64 → now ≡ old ++ replicate (64 * k) 10 → next ≡ now ++ take (count % 64) (replicate 64 10) → next ≡ old ++ replicate count 10
last_block old now next count k whole so_far more =
    let short : count % 64 ≤ 64 = omega arith in
    let total : 64 * k + count % 64 ≡ count = omega arith in
    more
    ∙ ap (λ xs. now ++ xs) (take-replicate (count % 64) 64 10 short)
    ∙ ap (λ xs. xs ++ replicate (count % 64) 10) so_far
    ∙ append_assoc old (replicate (64 * k) 10) (replicate (count % 64) 10)
    ∙ ap (λ xs. old ++ xs) (replicate-append-replicate (64 * k) (count % 64) 10 ∙ ap (λ n. replicate n 10) total)
