use Rattle.std.proofs.Common.{◌≡◌, ℕ, zero, suc, ◌∷◌, ◌==◌, [], List, length, take, not, cond, refl, sym, ap, subst, ◌∙◌, true, false, Bool}
use Rattle.std.specs.List.{list_all, take_while}
use Rattle.std.specs.Cmp.Derive.{both_true}
use Rattle.std.proofs.lemmas.List.Sums.{take_while-cons}
use Rattle.pp_tokens.proofs.source.run_without.Goals as goal

-- the elements that stand before the first of the first so many that doesn't pass do
passing : (test : ℕ → Bool) (n : ℕ) (bytes : List ℕ) → list_all test (take (length (take_while test (take n bytes))) bytes) ≡ true
passing test zero bytes = refl
passing test (suc n) [] = refl
passing test (suc n) (b ∷ bs) =
    ap (λ (run : List ℕ). list_all test (take (length run) (b ∷ bs))) (take_while-cons test b (take n bs)) ∙ go (passing test n bs) (test b) refl
  where
    go : list_all test (take (length (take_while test (take n bs))) bs) ≡ true
        → (passes : Bool) → test b ≡ passes → list_all test (take (length (cond passes (b ∷ take_while test (take n bs)) [])) (b ∷ bs)) ≡ true
    go others true is = both_true is others
    go others false is = refl

pub returns-clause-clear : goal.returns-clause-clear
returns-clause-clear c =
    let test = λ (b : ℕ). not (b == c.args.stop) in
    let is = c.bytes_before.ensures.run ∙ ap (λ (l : List ℕ). length (take_while test l)) c.split_at.ensures.front in
    subst (λ (n : ℕ). list_all test (take n c.args.rest.now) ≡ true) (sym is) (passing test c.args.bound c.args.rest.now)
