-- The steps of a stack, by its last element.
use Rattle.std.specs.Prelude.{◌≡◌, ◌-◌, ℕ, Bool, true, false, cond, List, [], ◌∷◌, ◌++◌, length, Some, None, refl, ◌⊎◌, slice_get}
use Rattle.std.proofs.Common.{sym, ◌∙◌, ap, inl, inr, suc, arith}
use Rattle.std.proofs.lemmas.List.{append-nil}
use Rattle.directive_scan.specs.declared.conditional.BranchName.{BranchName}
use Rattle.directive_scan.specs.declared.conditional.BranchName.TheVariants as name
use Rattle.directive_scan.specs.declared.conditional.Malformed.{Malformed}
use Rattle.directive_scan.specs.declared.conditional.Malformed.TheVariants.{WithoutIf, AfterElse, Unended}
use Rattle.directive_scan.specs.declared.outline.Open.{Open}
use Rattle.directive_scan.specs.parts.OpenStack.{around, at_last, is_else, branched, branch_step, endif_step, unended_last}

-- a result behind these conditionals
abbrev behind : List Open → Malformed ⊎ List Open → Malformed ⊎ List Open
behind os (inl m) = inl m
behind os (inr ps) = inr (os ++ ps)

behind_around : (o : Open) (os : List Open) (r : Malformed ⊎ List Open) → around o (behind os r) ≡ behind (o ∷ os) r
behind_around o os (inl m) = refl
behind_around o os (inr ps) = refl

behind_none : (r : Malformed ⊎ List Open) → r ≡ behind [] r
behind_none (inl m) = refl
behind_none (inr ps) = refl

at_last_end : (wrong : Malformed) (change : Open → Malformed ⊎ List Open) (os : List Open) (o : Open) → at_last wrong change (os ++ (o ∷ [])) ≡ behind os (change o)
at_last_end wrong change [] o = behind_none (change o)
at_last_end wrong change (p ∷ []) o = ap (around p) (behind_none (change o)) ∙ behind_around p [] (change o)
at_last_end wrong change (p ∷ q ∷ os) o = ap (around p) (at_last_end wrong change (q ∷ os) o) ∙ behind_around p (q ∷ os) (change o)

pub branch_outside : (n : BranchName) (at : ℕ) (os : List Open) → os ≡ [] → branch_step n at os ≡ inl (WithoutIf n at)
unfolding branch_step
branch_outside n at os e = ap (at_last (WithoutIf n at) (branched n at)) e

pub branch_after_else : (n : BranchName) (at : ℕ) (os before : List Open) (o : Open) → os ≡ before ++ (o ∷ []) → o.else_seen ≡ true
    → branch_step n at os ≡ inl (AfterElse n at)
unfolding branch_step
branch_after_else n at os before o e seen =
    ap (at_last (WithoutIf n at) (branched n at)) e ∙ at_last_end _ _ before o
    ∙ ap (λ (b : Bool). behind before (cond b (inl (AfterElse n at)) (inr (record { at = o.at; else_seen = is_else n } ∷ [])))) seen

pub branch_more : (n : BranchName) (at : ℕ) (os before after : List Open) (o : Open) (b : Bool) → os ≡ before ++ (o ∷ []) → o.else_seen ≡ false → b ≡ is_else n
    → after ≡ before ++ (record { at = o.at; else_seen = b } ∷ []) → branch_step n at os ≡ inr after
unfolding branch_step
branch_more n at os before after o b e seen is new =
    ap (at_last (WithoutIf n at) (branched n at)) e ∙ at_last_end _ _ before o
    ∙ ap (λ (c : Bool). behind before (cond c (inl (AfterElse n at)) (inr (record { at = o.at; else_seen = is_else n } ∷ [])))) seen
    ∙ ap (λ (c : Bool). inr (before ++ (record { at = o.at; else_seen = c } ∷ []))) (sym is) ∙ ap inr (sym new)

pub endif_outside : (at : ℕ) (os : List Open) → os ≡ [] → endif_step at os ≡ inl (WithoutIf name.Endif at)
unfolding endif_step
endif_outside at os e = ap (at_last (WithoutIf name.Endif at) (λ o. inr [])) e

pub endif_more : (at : ℕ) (os before : List Open) (o : Open) → os ≡ before ++ (o ∷ []) → endif_step at os ≡ inr before
unfolding endif_step
endif_more at os before o e =
    ap (at_last (WithoutIf name.Endif at) (λ o. inr [])) e ∙ at_last_end _ _ before o ∙ ap inr (append-nil before)

-- the last element, where there is one
pub last_more : (o p : Open) (os : List Open) → slice_get (o ∷ p ∷ os) (length (o ∷ p ∷ os) - 1) ≡ slice_get (p ∷ os) (length (p ∷ os) - 1)
last_more o p os =
    let outer : length (o ∷ p ∷ os) - 1 ≡ suc (length os) = omega arith in
    let inner : length (p ∷ os) - 1 ≡ length os = omega arith in
    ap (slice_get (o ∷ p ∷ os)) outer ∙ sym (ap (slice_get (p ∷ os)) inner)

pub unended_some : (os : List Open) (o : Open) → Some o ≡ slice_get os (length os - 1) → Some (Unended o.at) ≡ unended_last os
unfolding unended_last
unended_some [] o e = cc
unended_some (p ∷ []) o e = let same : Some o ≡ Some p = e in let is : o ≡ p = cc in ap (λ (r : Open). Some (Unended r.at)) is
unended_some (p ∷ q ∷ os) o e = unended_some (q ∷ os) o (e ∙ last_more p q os)

pub unended_none : (os : List Open) → None ≡ slice_get os (length os - 1) → None ≡ unended_last os
unfolding unended_last
unended_none [] e = refl
unended_none (p ∷ []) e = let same : None ≡ Some p = e in cc
unended_none (p ∷ q ∷ os) e = unended_none (q ∷ os) (e ∙ last_more p q os)
