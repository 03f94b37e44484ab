-- More words than are read.
use Rattle.std.proofs.Common.{◌≡◌, ℕ, ◌<◌, ◌&&◌, nat_le, false, List, length, take, refl, ap, inl, inr, arith}
use Rattle.std.specs.List.{list_all}
use Rattle.std.proofs.lemmas.List.{take_all, length-take-le}
use Rattle.std.proofs.lemmas.Bool.Decides.{leb_tells}
use Rattle.tree_model.specs.Paths.{Text}
use Rattle.job_words.specs.Words.{job_reading, are_short}
use Rattle.job_words.specs.FirstWords.{FirstWordsDecide}

-- more than 1,000 words are too many
too-many : (words : List Text) → 1000 < length words → are_short words ≡ false
unfolding are_short
too-many words many = elim (leb_tells (length words) 1000) [
  | inl few ↦ absurd (omega (arith, few.1, many))
  | inr more ↦ ap (λ b. b && list_all (λ word. nat_le (length word) 4096) words) more.0
]

-- words that are too many give the same, whichever they are
both-long : (cwd : Text) (one other : List Text) → are_short one ≡ false → are_short other ≡ false → job_reading cwd one ≡ job_reading cwd other
unfolding job_reading
both-long cwd one other p q = rw (p, q) refl

first : (n : ℕ) (cwd : Text) (words : List Text) → 1000 < n → job_reading cwd (take n words) ≡ job_reading cwd words
first n cwd words large = elim (leb_tells (length words) n) [
  | inl few ↦ ap (λ (l : List Text). job_reading cwd l) (take_all n words few.1)
  | inr more ↦
      let cut : length (take n words) ≡ n = length-take-le n words (omega (arith, more.1)) in
      both-long cwd (take n words) words (too-many (take n words) (omega (arith, cut, large))) (too-many words (omega (arith, more.1, large)))
]

pub first-words-decide : FirstWordsDecide
first-words-decide cwd words = first 1001 cwd words (omega arith)
