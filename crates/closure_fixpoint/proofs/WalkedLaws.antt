-- The nodes that were walked, each once.
use Rattle.std.proofs.Common.{◌≡◌, ◌⊎◌, ◌+◌, ◌<◌, ℕ, zero, suc, ◌∷◌, ◌++◌, [], List, length, drop, arith, add-one, Some, Bool, true, false, ◌||◌, cond, inl, inr, refl, sym, ap, subst, ◌∙◌}
use Rattle.std.specs.Prelude.{◌↔◌}
use Rattle.std.specs.List.{list_any, flat_map, slice_get}
use Rattle.base_types.specs.Members.{Member}
use Rattle.tree_model.specs.Paths.{Path, is_same_path, is_same_path-Decides}
use Rattle.tree_model.proofs.MemberLemmas.{Member-append, Member-append_left, Member-append_right, Member-flat_map}
use Rattle.closure_fixpoint.specs.parts.Walked.{with_path, with_paths, upward_from, all_upward_from}
use Rattle.closure_fixpoint.specs.Gathering.{upward, all_upward}
use Rattle.closure_fixpoint.proofs.MemberLaws.{MadeBy, list_any-by, flat_map-Member}

-- STEPS OF LOOPS

pub with-append : (paths xs ys : List Path) → with_paths paths (xs ++ ys) ≡ with_paths (with_paths paths xs) ys
unfolding with_paths
with-append paths [] ys = refl
with-append paths (x ∷ xs) ys = with-append (with_path paths x) xs ys

-- what one element more adds to what was walked
pub walks-on : {X : Type 0} (f : List X → List Path) (one : List Path) (xs : List X) (i : ℕ) (done next whole : List Path) → f (drop i xs) ≡ one ++ f (drop (i + 1) xs)
    → with_paths done (f (drop i xs)) ≡ whole → next ≡ with_paths done one → with_paths next (f (drop (i + 1) xs)) ≡ whole
walks-on f one xs i done next whole cut is added =
    ap (λ (l : List Path). with_paths l (f (drop (i + 1) xs))) added
    ∙ sym (with-append done one (f (drop (i + 1) xs)))
    ∙ ap (λ (l : List Path). with_paths done l) (sym cut)
    ∙ is

pub with-one : (paths : List Path) (path : Path) (next : List Path) → next ≡ with_path paths path → next ≡ with_paths paths (path ∷ [])
unfolding with_paths
with-one paths path next is = is

-- the files of a sheet added in two parts
pub in-two-parts : (before then whole plain probes : List Path) → then ≡ with_paths before plain → whole ≡ with_paths then probes → whole ≡ with_paths before (plain ++ probes)
in-two-parts before then whole plain probes first second = second ∙ ap (λ (l : List Path). with_paths l probes) first ∙ sym (with-append before plain probes)

-- a path with a number, and those behind it
pub path-next : (f : Path → List Path) (paths : List Path) (i : ℕ) (path : Path) → i < length paths → slice_get paths i ≡ Some path → flat_map f (drop i paths) ≡ f path ++ flat_map f (drop (i + 1) paths)
path-next f paths i path below is = rw (add-one i) (by_suc paths i path below is)
  where
    by_suc : (paths : List Path) (i : ℕ) (path : Path) → i < length paths → slice_get paths i ≡ Some path → flat_map f (drop i paths) ≡ f path ++ flat_map f (drop (suc i) paths)
    by_suc [] i path below is = absurd (omega (arith, below))
    by_suc (other ∷ paths) zero path below is = let same : other ≡ path = cc in ap (λ (p : Path). f p ++ flat_map f paths) same
    by_suc (other ∷ paths) (suc i) path below is = by_suc paths i path (omega (arith, below)) is

-- MEMBERS

-- a path with a number that passes
pub passes-at : (test : Path → Bool) (paths : List Path) (number : ℕ) (path : Path) → slice_get paths number ≡ Some path → test path ≡ true → list_any test paths ≡ true
passes-at test [] number path is passes = absurd (cc)
passes-at test (other ∷ paths) zero path is passes = let same : other ≡ path = cc in ap (λ b. b || list_any test paths) (ap test same ∙ passes)
passes-at test (other ∷ paths) (suc number) path is passes = ap (λ b. test other || b) (passes-at test paths number path is passes) ∙ or_yes (test other)
  where
    or_yes : (b : Bool) → (b || true) ≡ true
    or_yes true = refl
    or_yes false = refl

among : (paths : List Path) (path : Path) → list_any (is_same_path path) paths ≡ true → Member path paths
among paths path is = let by = list_any-by (is_same_path path) paths is in subst (λ (p : Path). Member p paths) (sym ((is_same_path-Decides path by.by).0 by.passes)) by.member

kept-path : (paths : List Path) (path x : Path) → Member x paths ⊎ (path ≡ x) → Member x (with_path paths path)
kept-path paths path x there = go (list_any (is_same_path path) paths) refl there
  where
    go : (b : Bool) → list_any (is_same_path path) paths ≡ b → Member x paths ⊎ (path ≡ x) → Member x (cond b paths (paths ++ path ∷ []))
    go true is (inl m) = m
    go true is (inr e) = subst (λ (p : Path). Member p paths) e (among paths path is)
    go false is (inl m) = Member-append_left x paths (path ∷ []) m
    go false is (inr e) = Member-append_right x paths (path ∷ []) (inl e)

from-path : (paths : List Path) (path x : Path) → Member x (with_path paths path) → Member x paths ⊎ (path ≡ x)
from-path paths path x m = go (list_any (is_same_path path) paths) m
  where
    last_one : Member x paths ⊎ Member x (path ∷ []) → Member x paths ⊎ (path ≡ x)
    last_one (inl n) = inl n
    last_one (inr (inl e)) = inr e
    last_one (inr (inr n)) = elim n [ ]

    go : (b : Bool) → Member x (cond b paths (paths ++ path ∷ [])) → Member x paths ⊎ (path ≡ x)
    go true n = inl n
    go false n = last_one (Member-append x paths (path ∷ []) n)

kept-paths : (others paths : List Path) (x : Path) → Member x paths ⊎ Member x others → Member x (with_paths paths others)
unfolding with_paths
kept-paths [] paths x (inl m) = m
kept-paths [] paths x (inr m) = elim m [ ]
kept-paths (path ∷ others) paths x (inl m) = kept-paths others (with_path paths path) x (inl (kept-path paths path x (inl m)))
kept-paths (path ∷ others) paths x (inr (inl e)) = kept-paths others (with_path paths path) x (inl (kept-path paths path x (inr e)))
kept-paths (path ∷ others) paths x (inr (inr m)) = kept-paths others (with_path paths path) x (inr m)

from-paths : (others paths : List Path) (x : Path) → Member x (with_paths paths others) → Member x paths ⊎ Member x others
unfolding with_paths
from-paths [] paths x m = inl m
from-paths (path ∷ others) paths x m = first (from-paths others (with_path paths path) x m)
  where
    begins : Member x paths ⊎ (path ≡ x) → Member x paths ⊎ Member x (path ∷ others)
    begins (inl n) = inl n
    begins (inr e) = inr (inl e)

    first : Member x (with_path paths path) ⊎ Member x others → Member x paths ⊎ Member x (path ∷ others)
    first (inl n) = begins (from-path paths path x n)
    first (inr n) = inr (inr n)

pub each-walked : (gathered : List Path) (x : Path) → Member x (with_paths [] gathered) ↔ Member x gathered
each-walked gathered x = (
  λ m. elim (from-paths gathered [] x m) [ inl never ↦ elim never [ ] | inr n ↦ n ],
  λ m. kept-paths gathered [] x (inr m),
)

above-walked : (walked : List Path) (path x : Path) → Member path walked → Member x (upward path) → Member x (all_upward_from walked walked)
above-walked walked [] x m n = elim n [ ]
above-walked walked (name ∷ path) x m n = go (list_any (is_same_path path) walked) refl n (above-walked walked path x)
  where
    made : Member x (cond (list_any (is_same_path path) walked) ((name ∷ path) ∷ []) (upward (name ∷ path))) → Member x (all_upward_from walked walked)
    made k = Member-flat_map (λ (p : Path). upward_from walked p) (name ∷ path) x walked m k

    go : (b : Bool) → list_any (is_same_path path) walked ≡ b → Member x ((name ∷ path) ∷ upward path) → (Member path walked → Member x (upward path) → Member x (all_upward_from walked walked))
        → Member x (all_upward_from walked walked)
    go true is (inl e) again = made (subst (λ (b : Bool). Member x (cond b ((name ∷ path) ∷ []) (upward (name ∷ path)))) (sym is) (inl e))
    go true is (inr k) again = again (among walked path is) k
    go false is k again = made (subst (λ (b : Bool). Member x (cond b ((name ∷ path) ∷ []) (upward (name ∷ path)))) (sym is) k)

within-from : (walked : List Path) (path x : Path) → Member x (upward_from walked path) → Member x (upward path)
within-from walked [] x m = m
within-from walked (name ∷ path) x m = go (list_any (is_same_path path) walked) m
  where
    go : (b : Bool) → Member x (cond b ((name ∷ path) ∷ []) (upward (name ∷ path))) → Member x ((name ∷ path) ∷ upward path)
    go true (inl e) = inl e
    go true (inr never) = elim never [ ]
    go false n = n

pub each-above : (walked : List Path) (x : Path) → Member x (all_upward_from walked walked) ↔ Member x (all_upward walked)
each-above walked x = (
  λ m.
      let made : MadeBy (λ (p : Path). upward_from walked p) walked x = flat_map-Member (λ (p : Path). upward_from walked p) x walked m in
      Member-flat_map upward made.by x walked made.member (within-from walked made.by x made.gives),
  λ m.
      let made : MadeBy upward walked x = flat_map-Member upward x walked m in
      above-walked walked made.by x made.member made.gives,
)
