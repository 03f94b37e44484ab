-- Where entries stand, and what is found by it.
use Rattle.std.proofs.Common.{◌≡◌, ◌<◌, ℕ, [], ◌∷◌, length, get_or, refl, sym, ◌∙◌, ap, cond, true, false, Bool, Option, None, Some, is_some, nat_eq}
use Rattle.std.specs.HashMap.{HashMap, Updates, get}
use Rattle.std.specs.List.{list_all}
use Rattle.std.proofs.lemmas.Bool.{and_parts, and_from}
use Rattle.std.proofs.lemmas.Cmp.{nat_list_cmp_total, tied_itself}
use Rattle.std.specs.Cmp.Lexicographic.{slice_cmp}
use Rattle.std.specs.Ordering.{nat_cmp}
use Rattle.std.specs.declared.cmp.Ordering.TheVariants.{Equal}
use lib.Pointwise.{pointwise}
use Rattle.tree_model.specs.Entries.{Entries, Increasing}
use Rattle.tree_model.specs.Paths.{Text, Path, spelled}
use Rattle.tree_model.specs.Trees.{by_bytes}
use Rattle.tree_model.specs.declared.entry.Entry.{Entry}
use Rattle.tree_model.specs.parts.Placed.{is_placed}
use Rattle.tree_model.specs.parts.Remembered.{number_of}
use Rattle.tree_model.proofs.OrderLemmas.{found_at, at_middle}
use Rattle.tree_model.proofs.PathLemmas.{text_same}

-- with one place more no entry loses its own
module _ {S : Type 0} (before now : HashMap ℕ ℕ S) (key place : ℕ) (put : Updates nat_eq before now key (Some place)) where
  stays : (entry : Path × Entry) → is_placed before entry ≡ true → is_placed now entry ≡ true
  stays entry there = ap is_some (put.0 (number_of (spelled entry.0))) ∙ by_test (nat_eq key (number_of (spelled entry.0))) (get nat_eq before (number_of (spelled entry.0))) there
    where
      by_test : (same : Bool) (known : Option ℕ) → is_some known ≡ true → is_some (cond same (Some place) known) ≡ true
      by_test true known h = refl
      by_test false known h = h

  pub all_stay : (es : Entries) → list_all (is_placed before) es ≡ true → list_all (is_placed now) es ≡ true
  all_stay [] h = refl
  all_stay (e ∷ es) h =
      let pair = and_parts (is_placed before e) (list_all (is_placed before) es) h in
      and_from (is_placed now e) (list_all (is_placed now) es) (stays e pair.0) (all_stay es pair.1)

  -- and the entry of that number has one
  pub is_there : (entry : Path × Entry) → number_of (spelled entry.0) ≡ key → is_placed now entry ≡ true
  is_there entry at = ap (λ k. is_some (get nat_eq now k)) at ∙ ap is_some put.1

-- an entry at a place that is spelled as a text is the one that is found
pub spelled_there : (es : Entries) (text : Text) (m : ℕ) (e : Path × Entry) (bytes : Text) → Increasing es → m < length es → e ≡ get_or es m e → bytes ≡ spelled e.0
    → pointwise nat_eq bytes text ≡ true → by_bytes text es ≡ Some e.1
spelled_there es text m e bytes inc within is spelling same =
    let equal : Equal ≡ slice_cmp nat_cmp bytes text = sym (tied_itself nat_list_cmp_total bytes) ∙ ap (slice_cmp nat_cmp bytes) (text_same bytes text same) in
    found_at es text m e inc within (at_middle es m e bytes text Equal is spelling equal) ∙ ap (λ (x : Path × Entry). Some x.1) (sym is)

-- where each entry has a place, no entry is spelled as a text whose number has none
pub none_placed : {S : Type 0} (places : HashMap ℕ ℕ S) (es : Entries) (text : Text) → list_all (is_placed places) es ≡ true → get nat_eq places (number_of text) ≡ None
    → None ≡ by_bytes text es
none_placed places [] text h none = refl
none_placed places (e ∷ es) text h none =
    let pair = and_parts (is_placed places e) (list_all (is_placed places) es) h in
    by_test (pointwise nat_eq (spelled e.0) text) refl pair.0 (none_placed places es text pair.1 none)
  where
    by_test : (same : Bool) → pointwise nat_eq (spelled e.0) text ≡ same → is_placed places e ≡ true → None ≡ by_bytes text es → None ≡ cond same (Some e.1) (by_bytes text es)
    by_test true is there rest =
        let clash : true ≡ false = sym there ∙ ap (λ (t : Text). is_some (get nat_eq places (number_of t))) (text_same (spelled e.0) text is) ∙ ap is_some none in
        absurd (cc)
    by_test false is there rest = rest
