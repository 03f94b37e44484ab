-- What is longer than a body may be has a newline.
use Rattle.std.specs.Prelude.{◌≡◌, ℕ, ◌+◌, ◌≤◌, cond, List, ◌++◌, length, take, drop, ◌==◌}
use Rattle.std.proofs.Common.{sym, ◌∙◌, ap, arith, length-drop}
use Rattle.std.proofs.lemmas.List.{take-append-drop, length-take-le}
use Rattle.std.proofs.lemmas.List.Sums.{sum_by-append, count_by-le-length}
use Rattle.pp_tokens.specs.parts.Gathered.{newlines}

pub newlines_both : (xs ys : List ℕ) → newlines (xs ++ ys) ≡ newlines xs + newlines ys
newlines_both xs ys = sum_by-append (λ b. cond (b == 10) 1 0) xs ys

-- so is it with each stretch of a text of which it is so
pub short_stretch : (text : List ℕ) (at n limit : ℕ) → at + n ≤ length text → length text ≤ limit + newlines text → n ≤ limit + newlines (take n (drop at text))
short_stretch text at n limit within short =
    let front = take at text in
    let rest = drop at text in
    let first = take n rest in
    let behind = drop n rest in
    let whole : front ++ rest ≡ text = take-append-drop at text in
    let parts : first ++ behind ≡ rest = take-append-drop n rest in
    let all : newlines text ≡ newlines front + newlines rest = ap newlines (sym whole) ∙ newlines_both front rest in
    let some : newlines rest ≡ newlines first + newlines behind = ap newlines (sym parts) ∙ newlines_both first behind in
    omega (
      arith,
      short,
      within,
      all,
      some,
      count_by-le-length (λ b. b == 10) front,
      count_by-le-length (λ b. b == 10) behind,
      length-take-le at text (omega (arith, within)),
      length-drop at text,
      length-drop n rest,
    )
