-- A flag and its word, taken off the words in front.
use Rattle.std.proofs.Common.{◌≡◌, ◌-◌, ◌≤◌, List, [], ◌∷◌, length, map, take, drop, get_or, Option, None, Some, sym, ◌∙◌, ap, arith}
use Rattle.std.proofs.lemmas.List.{take_rest}
use Rattle.tree_model.specs.Paths.{Text}
use Rattle.run_words.specs.Asked.{FlagsGiven, with_flag, with_flags}

module _ {W : Type 0} (now : W → Text) (o a : W) where
  front : (words : List W) (given : FlagsGiven) → 2 ≤ length words
      → with_flags (map now words) (Some given) ≡ with_flags (map now (take (length words - 2) (drop 2 words))) (with_flag given (now (get_or words 0 o)) (now (get_or words 1 a)))
  unfolding with_flags
  front [] given long = absurd (omega (arith, long))
  front (v ∷ []) given long = absurd (omega (arith, long))
  front (v ∷ w ∷ words) given long = ap (λ l. with_flags (map now l) (with_flag given (now v) (now w))) (sym (take_rest (v ∷ w ∷ words) 2))

  module _ (words : List W) (given : FlagsGiven) (all : Option FlagsGiven) (long : 2 ≤ length words) (so_far : with_flags (map now words) (Some given) ≡ all) where
    pub more-flags : (next : FlagsGiven) → Some next ≡ with_flag given (now (get_or words 0 o)) (now (get_or words 1 a))
        → with_flags (map now (take (length words - 2) (drop 2 words))) (Some next) ≡ all
    more-flags next is = ap (λ given. with_flags (map now (take (length words - 2) (drop 2 words))) given) is ∙ sym (front words given long) ∙ so_far

    pub no-flags : None ≡ with_flag given (now (get_or words 0 o)) (now (get_or words 1 a)) → None ≡ all
    unfolding with_flags
    no-flags is = ap (λ given. with_flags (map now (take (length words - 2) (drop 2 words))) given) is ∙ sym (front words given long) ∙ so_far
