-- The files that are read once, one more.
use Rattle.std.proofs.Common.{◌≡◌, Bool, true, false, ◌||◌, List, [], ◌∷◌, ◌++◌, refl, ap, ◌∙◌, if◌then◌else◌}
use Rattle.std.specs.List.{list_any}
use Rattle.std.proofs.lemmas.List.Folds.{list_any-append}
use Rattle.indexmap.specs.IndexSet.{insert_key}
use Rattle.tree_model.specs.Paths.{Path, is_same_path, is_same_path-Decides}

last-first : (p q : Bool) → (p || (q || false)) ≡ (q || p)
last-first true true = refl
last-first true false = refl
last-first false true = refl
last-first false false = refl

known-already : (p q : Bool) → (p ≡ true → q ≡ true) → q ≡ (p || q)
known-already true q so = so refl
known-already false q so = refl

pub marked : (paths : List Path) (path other : Path) → list_any (is_same_path other) (insert_key is_same_path paths path) ≡ (is_same_path other path || list_any (is_same_path other) paths)
marked paths path other = by (list_any (is_same_path path) paths) refl
  where
    by : (known : Bool) → list_any (is_same_path path) paths ≡ known →
        list_any (is_same_path other) (if known then paths else paths ++ path ∷ []) ≡ (is_same_path other path || list_any (is_same_path other) paths)
    by true is =
        known-already (is_same_path other path) (list_any (is_same_path other) paths)
        (λ same. ap (λ (p : Path). list_any (is_same_path p) paths) ((is_same_path-Decides other path).0 same) ∙ is)
    by false is =
        list_any-append (is_same_path other) paths (path ∷ [])
        ∙ last-first (list_any (is_same_path other) paths) (is_same_path other path)
