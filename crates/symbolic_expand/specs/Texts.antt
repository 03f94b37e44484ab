-- Sets of texts in order of their bytes.
use Rattle.std.specs.Prelude.{ℕ, List, [], ◌∷◌, Vec}
use Rattle.std.specs.Ordering.{nat_cmp, match_ordering}
use Rattle.std.specs.declared.cmp.Ordering.{Ordering}
use Rattle.std.specs.Cmp.Lexicographic.{slice_cmp}
use Rattle.std.specs.declared.alloc.Global.{Global}

-- texts by their bytes, from left to right
abbrev pub text_cmp : List ℕ → List ℕ → Ordering
text_cmp = slice_cmp nat_cmp

-- the texts in order, with one more, where it isn't there
unfoldable pub text_inserted : List ℕ → List (List ℕ) → List (List ℕ)
text_inserted t [] = t ∷ []
text_inserted t (u ∷ us) = match_ordering (text_cmp t u) (t ∷ u ∷ us) (u ∷ us) (u ∷ text_inserted t us)

-- the texts that code keeps
unfoldable pub texts_of : List (Vec ℕ Global × Unit {0}) → List (List ℕ)
texts_of [] = []
texts_of (e ∷ es) = e.0.items ∷ texts_of es

-- the texts in order, with others
unfoldable pub all_inserted : List (List ℕ) → List (List ℕ) → List (List ℕ)
all_inserted [] us = us
all_inserted (t ∷ ts) us = all_inserted ts (text_inserted t us)
