-- Entries that are sorted and apart increase.
use Rattle.std.proofs.Common.{◌≡◌, ◌+◌, ◌<◌, List, [], ◌∷◌, map, get_or, refl, ◌∙◌, ap, subst, arith, Bool, true, false}
use Rattle.std.specs.List.{list_all, AllByRecursion, IsDistinct}
use Rattle.std.specs.List.Sorted.{IsSortedBy, IsStrictlySortedBy}
use Rattle.std.specs.Ordering.{nat_cmp, is_lt, is_eq, eq_by_cmp, ordering_reverse}
use Rattle.std.specs.declared.cmp.Ordering.{Ordering}
use Rattle.std.specs.declared.cmp.Ordering.TheVariants.{Less, Equal, Greater}
use Rattle.std.specs.Cmp.Lexicographic.{slice_cmp}
use Rattle.std.proofs.Math.ListN.{get_or-map}
use Rattle.std.proofs.lemmas.Bool.{and_from}
use Rattle.std.proofs.lemmas.List.{length-map}
use Rattle.std.proofs.lemmas.Cmp.{nat_list_cmp_total}
use Rattle.std.proofs.lemmas.Map.Keys.{sorted_head, sorted_tail, apart_from_distinct, sorted_from_all_adjacent}
use Rattle.tree_model.specs.Paths.{Text, Path, spelled}
use Rattle.tree_model.specs.Entries.{Entries, below, is_increasing}
use Rattle.tree_model.specs.declared.entry.Entry.{Entry}
use Rattle.tree_model.specs.declared.entry.Entry.TheVariants.{Dir}

abbrev pub cmp : Text → Text → Ordering
cmp = slice_cmp nat_cmp

abbrev pub key : Path × Entry → Text
key e = spelled e.0

abbrev pub keys : Entries → List Text
keys es = map (λ e. spelled e.0) es

abbrev pub same : Text → Text → Bool
same = eq_by_cmp cmp

less_by : (a b : Text) (o : Ordering) → cmp a b ≡ o → is_lt (cmp b a) ≡ false → is_eq (cmp a b) ≡ false → cmp a b ≡ Less
less_by a b Less is back apart = is
less_by a b Equal is back apart = let both : is_eq (cmp a b) ≡ true = ap is_eq is in cc
less_by a b Greater is back apart =
    let both : is_lt (cmp b a) ≡ true = ap is_lt (nat_list_cmp_total.antisymm b a ∙ ap ordering_reverse is) in cc

-- sorted, and apart, each is below the next
strictly : (es : Entries) → IsSortedBy (λ a b. below (spelled a.0) (spelled b.0)) es → IsDistinct same (keys es) → IsStrictlySortedBy cmp (keys es)
strictly es sorted apart =
    let none : Path × Entry = ([], Dir) in
    sorted_from_all_adjacent nat_list_cmp_total (keys es) (key none) (λ k within.
    less_by (get_or (keys es) k (key none)) (get_or (keys es) (k + 1) (key none)) _ refl
    (rw (get_or-map key es k none, get_or-map key es (k + 1) none) (sorted k none (omega arith) (subst (λ n. k + 1 < n) (length-map es key) within)))
    (apart_from_distinct same (keys es) k (k + 1) (key none) apart (omega arith) within))

all_less : (x : Text) (es : Entries) → AllByRecursion (λ y. cmp x y ≡ Less) (keys es) → list_all (λ f. below x (spelled f.0)) es ≡ true
all_less x [] h = refl
all_less x (e ∷ es) h = and_from _ _ (ap is_lt h.0) (all_less x es h.1)

rising : (es : Entries) → IsStrictlySortedBy cmp (keys es) → is_increasing es ≡ true
rising [] h = refl
rising (e ∷ es) h = and_from _ _ (all_less (key e) es (sorted_head cmp (key e) (keys es) h)) (rising es (sorted_tail cmp (key e) (keys es) h))

pub sorted_increase : (es : Entries) → IsSortedBy (λ a b. below (spelled a.0) (spelled b.0)) es → IsDistinct same (keys es) → is_increasing es ≡ true
sorted_increase es sorted apart = rising es (strictly es sorted apart)
