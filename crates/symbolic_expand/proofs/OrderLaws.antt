-- Sets of texts are in order.
use Rattle.std.proofs.Common.{◌≡◌, ℕ, Vec, Global, List, [], ◌∷◌}
use Rattle.std.specs.Ordering.{nat_cmp}
use Rattle.std.specs.declared.cmp.Ordering.TheVariants.{Less}
use Rattle.std.specs.List.{AllByRecursion}
use Rattle.std.specs.List.Sorted.{IsStrictlySortedBy}
use Rattle.std.specs.Cmp.Lexicographic.{slice_cmp}
use Rattle.std.specs.Map.{keys_of}
use Rattle.symbolic_expand.specs.Texts.{text_cmp, texts_of}

all_texts : (t : List ℕ) (es : List (Vec ℕ Global × Unit {0})) → AllByRecursion (λ (k : Vec ℕ Global). slice_cmp nat_cmp t k.items ≡ Less) (keys_of es) →
    AllByRecursion (λ u. text_cmp t u ≡ Less) (texts_of es)
unfolding texts_of
all_texts t [] h = tt
all_texts t (e ∷ es) h = (h.0, all_texts t es h.1)

pub sorted_texts : (es : List (Vec ℕ Global × Unit {0})) → IsStrictlySortedBy (λ (a b : Vec ℕ Global). slice_cmp nat_cmp a.items b.items) (keys_of es) →
    IsStrictlySortedBy text_cmp (texts_of es)
unfolding texts_of IsStrictlySortedBy
sorted_texts [] h = tt
sorted_texts (e ∷ es) h = (all_texts e.0.items es h.0, sorted_texts es h.1)
