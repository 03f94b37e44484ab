-- Two sets that agree on the names met under the first, by a set between them: that of the second for the names met, and that
-- of the first for all others. It has the members of the first, and the lists of the second where that matters.
use Rattle.std.proofs.Common.{◌≡◌, ℕ, zero, suc, ◌≤◌, Bool, true, false, List, [], ◌∷◌, length, map, bytes_eq, refl, ap, sym, subst, Option, arith}
use Rattle.std.specs.List.{list_any, Contains}
use Rattle.std.proofs.lemmas.Slice.Eq.{bytes_eq-Decides}
use Rattle.std.proofs.lemmas.Map.Views.{Contains-from_any}
use Rattle.std.proofs.lemmas.Bool.{or_left, or_right}
use Rattle.base_types.specs.Limits.{choice_work_limit}
use Rattle.macro_defs.specs.MacroDefinition.{MacroDefinition}
use Rattle.macro_expand.specs.declared.outcome.Mode.TheVariants.{Text}
use Rattle.macro_expand.specs.Asking.{Asking}
use Rattle.macro_expand.specs.Replacement.{unmarked}
use Rattle.macro_expand.specs.Expansion.{Expanded, expansion}
use Rattle.macro_expand.specs.Choice.{HasNoRepeat, Sets, IsDistinct, AreAmong, Run, complete_runs, met_names, computed_runs}
use Rattle.symbolic_expand.specs.Laws.{SameMembers, SupportDecides}
use Rattle.symbolic_expand.proofs.MoreLaws.{more_runs}
use Rattle.symbolic_expand.proofs.CountLaws.{complete_runs-more}
use Rattle.symbolic_expand.proofs.SupportLaws.{complete_runs-support, met_names-support, met_names-more}
use Rattle.symbolic_expand.proofs.KeptLaws.{Keeps, header_kept, long_kept, presumed_kept}

one_of : Bool → List MacroDefinition → List MacroDefinition → List MacroDefinition
one_of true ds es = es
one_of false ds es = ds

middle : List (List ℕ) → Sets → Sets → Sets
middle names sets other n = one_of (list_any (bytes_eq n) names) (sets n) (other n)

in_test : (n : List ℕ) (names : List (List ℕ)) → Contains names n → list_any (bytes_eq n) names ≡ true
in_test n [] (k, below, is) = absurd (omega arith)
in_test n (x ∷ names) (zero, below, is) = or_left (bytes_eq n x) (list_any (bytes_eq n) names) ((bytes_eq-Decides n x).1 (sym is))
in_test n (x ∷ names) (suc k, below, is) = or_right (bytes_eq n x) (list_any (bytes_eq n) names) (in_test n names (k, omega arith, is))

module _ {A : Type 0} (sets other : Sets) (file : Option (List ℕ)) (t : Asking A)
    (once : IsDistinct sets) (other_once : IsDistinct other)
    (agree : (n : List ℕ) → Contains (met_names sets file t) n → SameMembers (sets n) (other n)) where
  between : Sets
  between = middle (met_names sets file t) sets other

  between-members : (n : List ℕ) → SameMembers (sets n) (between n)
  unfolding between middle one_of
  between-members n = go (list_any (bytes_eq n) (met_names sets file t)) refl
    where
      go : (b : Bool) → list_any (bytes_eq n) (met_names sets file t) ≡ b → SameMembers (sets n) (one_of b (sets n) (other n))
      go true e = agree n (Contains-from_any (λ m x. (bytes_eq-Decides m x).0) n (met_names sets file t) e)
      go false e = λ d. (λ k. k, λ k. k)

  between-once : IsDistinct between
  unfolding between middle one_of
  between-once n = go (list_any (bytes_eq n) (met_names sets file t))
    where
      go : (b : Bool) → HasNoRepeat (one_of b (sets n) (other n))
      go true = other_once n
      go false = once n

  from_between : AreAmong between sets
  from_between n d k = (between-members n d).1 k

  to_between : AreAmong sets between
  to_between n d k = (between-members n d).0 k

  between-is : (n : List ℕ) → Contains (met_names between file t) n → between n ≡ other n
  unfolding middle between one_of
  between-is n k =
      ap (λ b. one_of b (sets n) (other n))
      (in_test n (met_names sets file t) (met_names-more between sets file t n from_between k))

  same_runs : complete_runs between file t ≡ complete_runs other file t
  same_runs = complete_runs-support between other file t between-is

  pub runs_forth : (r : Run A) → Contains (complete_runs sets file t) r →
      (s : Run A) × (Contains (complete_runs other file t) s) × (s.ending ≡ r.ending)
  runs_forth r k =
      let s = more_runs sets between file t r to_between k in
      (s.0, subst (λ (w : List (Run A)). Contains w s.0) same_runs s.1, s.2)

  pub runs_back : (r : Run A) → Contains (complete_runs other file t) r →
      (s : Run A) × (Contains (complete_runs sets file t) s) × (s.ending ≡ r.ending)
  runs_back r k = more_runs between sets file t r from_between (subst (λ (w : List (Run A)). Contains w r) (sym same_runs) k)

  pub names_forth : (n : List ℕ) → Contains (met_names sets file t) n → Contains (met_names other file t) n
  names_forth n k =
      subst (λ (w : List (List ℕ)). Contains w n) (met_names-support between other file t between-is)
      (met_names-more sets between file t n to_between k)

  pub names_back : (n : List ℕ) → Contains (met_names other file t) n → Contains (met_names sets file t) n
  names_back n k =
      met_names-more between sets file t n from_between
      (subst (λ (w : List (List ℕ)). Contains w n) (sym (met_names-support between other file t between-is)) k)

  pub as_many : length (complete_runs sets file t) ≡ length (complete_runs other file t)
  as_many =
      let more : length (complete_runs sets file t) ≤ length (complete_runs between file t) = complete_runs-more sets between once to_between file t in
      let fewer : length (complete_runs between file t) ≤ length (complete_runs sets file t) = complete_runs-more between sets between-once from_between file t in
      let same : length (complete_runs between file t) ≡ length (complete_runs other file t) = ap (λ (w : List (Run A)). length w) same_runs in
      omega (arith, more, fewer, same)

pub support_decides : {H : Type 0} → SupportDecides H
support_decides sets other file ts once other_once agree =
    let t : Asking Expanded = expansion Text 0 choice_work_limit (map unmarked ts) in
    let forth : Keeps (computed_runs sets file ts) (computed_runs other file ts) = runs_forth sets other file t once other_once agree in
    let back : Keeps (computed_runs other file ts) (computed_runs sets file ts) = runs_back sets other file t once other_once agree in
    let count : length (computed_runs sets file ts) ≡ length (computed_runs other file ts) = as_many sets other file t once other_once agree in
    record {
      headers = λ reading h. (header_kept sets other file ts forth reading h, header_kept other sets file ts back reading h);
      support = λ name. (names_forth sets other file t once other_once agree name, names_back sets other file t once other_once agree name);
      many = λ budget. (λ h. omega (arith, count, h), λ h. omega (arith, count, h));
      long = (long_kept sets other file ts forth, long_kept other sets file ts back);
      presumed = (presumed_kept sets other file ts forth, presumed_kept other sets file ts back);
    }
