-- Sets of texts in order.
use Rattle.std.proofs.Common.{◌≡◌, ℕ, Vec, Global, List, [], ◌∷◌, refl, ap, ◌∙◌, subst, arith, length, ◌<◌, Bool, true, false}
use Rattle.std.specs.Ordering.{nat_cmp, match_ordering}
use Rattle.std.specs.declared.cmp.Ordering.{Ordering}
use Rattle.std.specs.declared.cmp.Ordering.TheVariants.{Less, Equal, Greater}
use Rattle.std.specs.BTreeMap.{insert_entry}
use Rattle.std.specs.Cmp.Lexicographic.{slice_cmp}
use Rattle.symbolic_expand.specs.Texts.{text_cmp, text_inserted, texts_of}

texts_of-ordering : (o : Ordering) (x y z : List (Vec ℕ Global × Unit {0})) →
    texts_of (match_ordering o x y z) ≡ match_ordering o (texts_of x) (texts_of y) (texts_of z)
texts_of-ordering Less x y z = refl
texts_of-ordering Equal x y z = refl
texts_of-ordering Greater x y z = refl

-- to insert a text into a map
pub texts_of-insert : (es : List (Vec ℕ Global × Unit {0})) (v : Vec ℕ Global) (u : Unit {0}) →
    texts_of (insert_entry (λ a b. slice_cmp nat_cmp a.items b.items) es v u) ≡ text_inserted v.items (texts_of es)
unfolding texts_of text_inserted
texts_of-insert [] v u = refl
texts_of-insert (e ∷ es) v u =
    texts_of-ordering (text_cmp v.items e.0.items) ((v, u) ∷ e ∷ es) ((e.0, u) ∷ es) (e ∷ insert_entry (λ a b. slice_cmp nat_cmp a.items b.items) es v u)
    ∙ ap (λ q. match_ordering (text_cmp v.items e.0.items) (v.items ∷ e.0.items ∷ texts_of es) (e.0.items ∷ texts_of es) (e.0.items ∷ q))
    (texts_of-insert es v u)

no_bool : false ≡ true → ⊥
no_bool e = subst is_false e tt
  where
    is_false : Bool → Type 0
    is_false b = elim b [ true ↦ ⊥ | false ↦ Unit {0} ]

pub nil_if_empty : {A : Type 0} (es : List A) → (0 < length es → false ≡ true) → es ≡ []
nil_if_empty [] h = refl
nil_if_empty (e ∷ es) h = absurd (no_bool (h (omega arith)))
