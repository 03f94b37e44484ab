-- The nodes gathered of what was told are those of its located files.
use Rattle.std.proofs.Common.{◌≡◌, ◌<◌, ◌+◌, ℕ, zero, suc, length, drop, arith, add-one, ◌++◌, ◌∷◌, [], List, Option, None, Some, true, false, inl, inr, refl, sym, ◌∙◌, ap, subst, map, append_assoc}
use Rattle.std.specs.Prelude.{IsTrue, IfSome, IfOk, Result, Ok, Err, ◌↔◌}
use Rattle.std.specs.List.{list_all, flat_map, slice_get}
use Rattle.std.proofs.lemmas.Bool.{and_parts}
use Rattle.base_types.specs.Members.{Member, EachOnce}
use Rattle.tree_model.specs.Paths.{Path, IsAtOrAbove}
use Rattle.tree_model.specs.declared.walk.Located.{Located}
use Rattle.tree_model.proofs.MemberLemmas.{Member-flat_map}
use Rattle.search_path.specs.Search.{Hit}
use Rattle.search_path.specs.declared.asking.Visit.{Visit}
use Rattle.search_path.specs.declared.asking.Ask.{Ask}
use Rattle.sheet_build.specs.Sheet.{SheetData}
use Rattle.closure_fixpoint.specs.Progress.{Heard, located_by_search, located_in_sheet, located_told}
use Rattle.closure_fixpoint.specs.Told.{AreNodesOf}
use Rattle.closure_fixpoint.specs.Gathering.{upward, all_upward, walked_of, found_walked, searched_walked, hits_walked, sheets_walked, comes_before, are_rising}
use Rattle.closure_fixpoint.proofs.Orders.{in_order}
use Rattle.closure_fixpoint.proofs.MemberLaws.{MadeBy, flat_map-Member, test-all}

-- NODES OF JOINED LISTS

nodes-joined : (a b : List Located) → walked_of (a ++ b) ≡ walked_of a ++ walked_of b
nodes-joined [] b = refl
nodes-joined (l ∷ a) b = ap (λ (t : List Path). l.walked ++ t) (nodes-joined a b) ∙ sym (append_assoc l.walked (walked_of a) (walked_of b))

append-none : (xs : List Path) → xs ++ [] ≡ xs
append-none [] = refl
append-none (x ∷ xs) = ap (λ (t : List Path). x ∷ t) (append-none xs)

one-search : (ask : Ask) (got : Option Hit) → walked_of (located_by_search (ask, got)) ≡ found_walked got
one-search ask None = refl
one-search ask (Some hit) = append-none hit.1.walked

of-searches : (searches : List (Ask × Option Hit)) → walked_of (flat_map located_by_search searches) ≡ searched_walked searches
of-searches [] = refl
of-searches ((ask, got) ∷ searches) =
    nodes-joined (located_by_search (ask, got)) (flat_map located_by_search searches)
    ∙ ap (λ (t : List Path). t ++ walked_of (flat_map located_by_search searches)) (one-search ask got)
    ∙ ap (λ (t : List Path). found_walked got ++ t) (of-searches searches)

of-hits : (hits : List Hit) → walked_of (map (λ hit. hit.1) hits) ≡ hits_walked hits
of-hits [] = refl
of-hits (hit ∷ hits) = ap (λ (t : List Path). hit.1.walked ++ t) (of-hits hits)

one-sheet : (sheet : SheetData) → walked_of (located_in_sheet sheet) ≡ hits_walked sheet.plain ++ walked_of sheet.probes
one-sheet sheet =
    nodes-joined (map (λ hit. hit.1) sheet.plain) sheet.probes ∙ ap (λ (t : List Path). t ++ walked_of sheet.probes) (of-hits sheet.plain)

of-sheets : (sheets : List (Visit × SheetData)) → walked_of (flat_map (λ told. located_in_sheet told.1) sheets) ≡ sheets_walked sheets
of-sheets [] = refl
of-sheets ((visit, sheet) ∷ sheets) =
    nodes-joined (located_in_sheet sheet) (flat_map (λ told. located_in_sheet told.1) sheets)
    ∙ ap (λ (t : List Path). t ++ walked_of (flat_map (λ told. located_in_sheet told.1) sheets)) (one-sheet sheet)
    ∙ ap (λ (t : List Path). (hits_walked sheet.plain ++ walked_of sheet.probes) ++ t) (of-sheets sheets)

nodes-told : (heard : Heard) → searched_walked heard.searches ++ sheets_walked heard.sheets ≡ walked_of (located_told heard)
unfolding located_told
nodes-told heard =
    sym (nodes-joined (flat_map located_by_search heard.searches) (flat_map (λ told. located_in_sheet told.1) heard.sheets)
    ∙ ap (λ (t : List Path). t ++ walked_of (flat_map (λ told. located_in_sheet told.1) heard.sheets)) (of-searches heard.searches)
    ∙ ap (λ (t : List Path). searched_walked heard.searches ++ t) (of-sheets heard.sheets))

-- NODES ABOVE

above-member : (path met : Path) → Member path (upward met) → IsAtOrAbove path met
above-member path [] m = elim m [ ]
above-member path (name ∷ met) (inl e) = inl (sym e)
above-member path (name ∷ met) (inr m) = inr (above-member path met m)

below-root : (path met : Path) → Member path (upward met) → path ≡ [] → ⊥
below-root path [] m e = elim m [ ]
below-root path (name ∷ met) (inl same) e = let never : name ∷ met ≡ [] = same ∙ e in absurd (cc)
below-root path (name ∷ met) (inr m) e = below-root path met m e

member-above : (path met : Path) → IsAtOrAbove path met → (path ≡ [] → ⊥) → Member path (upward met)
member-above path [] above never = absurd (never above)
member-above path (name ∷ met) (inl e) never = inl (sym e)
member-above path (name ∷ met) (inr above) never = inr (member-above path met above never)

-- RISING PATHS STAND ONCE

pub rising-once : (paths : List Path) → are_rising paths ≡ true → EachOnce paths
rising-once [] up = tt
rising-once (path ∷ paths) up = (
  λ m.
      let is : comes_before path path ≡ true =
      test-all (λ other. comes_before path other) paths (and_parts (list_all (λ other. comes_before path other) paths) (are_rising paths) up).0 path m in
      let not_so : comes_before path path ≡ false = in_order.one_way path path is in absurd (cc),
  rising-once paths (and_parts (list_all (λ other. comes_before path other) paths) (are_rising paths) up).1,
)

-- THE NODES

-- `walked` are the nodes that were walked, each once; `raw` has these and all above them; `list` each of these once
module _ (heard : Heard) (gathered walked raw list : List Path) (is : gathered ≡ searched_walked heard.searches ++ sheets_walked heard.sheets)
    (once : (path : Path) → Member path walked ↔ Member path gathered) (above_are : (path : Path) → Member path raw ↔ Member path (all_upward walked))
    (rising : IsTrue (are_rising list)) (same : (path : Path) → Member path list ↔ Member path raw) where
  all_are : gathered ≡ walked_of (located_told heard)
  all_are = is ∙ nodes-told heard

  to_walked : (met : Path) → Member met (walked_of (located_told heard)) → Member met walked
  to_walked met m = (once met).1 (subst (λ (l : List Path). Member met l) (sym all_are) m)

  from_walked : (met : Path) → Member met walked → Member met (walked_of (located_told heard))
  from_walked met m = subst (λ (l : List Path). Member met l) all_are ((once met).0 m)

  to_list : (path : Path) → Member path (all_upward walked) → Member path list
  to_list path m = (same path).1 ((above_are path).1 m)

  from_list : (path : Path) → Member path list → Member path (all_upward walked)
  from_list path m = (above_are path).0 ((same path).0 m)

  pub are-nodes : AreNodesOf (located_told heard) list
  are-nodes = record {
    once = rising-once list rising;
    whole = λ l met path located walked_there above below.
        to_list path
        (Member-flat_map upward met path walked
        (to_walked met (Member-flat_map (λ (f : Located). f.walked) l met (located_told heard) located walked_there))
        (member-above path met above below));
    only = λ path m.
        let met : MadeBy upward walked path = flat_map-Member upward path walked (from_list path m) in
        let file : MadeBy (λ (f : Located). f.walked) (located_told heard) met.by =
        flat_map-Member (λ (f : Located). f.walked) met.by (located_told heard) (from_walked met.by met.member) in
        (file.by, met.by, file.member, file.gives, above-member path met.by met.gives, below-root path met.by met.gives);
  }

-- STEPS OF LOOPS

-- what a search with a number found, and those behind it
pub searches-next : (searches : List (Ask × Option Hit)) (i : ℕ) (got : Option Hit) → i < length searches → IfSome (slice_get searches i) (λ told. got ≡ told.1)
    → searched_walked (drop i searches) ≡ found_walked got ++ searched_walked (drop (i + 1) searches)
searches-next searches i got below is = rw (add-one i) (by_suc searches i got below is)
  where
    by_suc : (searches : List (Ask × Option Hit)) (i : ℕ) (got : Option Hit) → i < length searches → IfSome (slice_get searches i) (λ told. got ≡ told.1)
        → searched_walked (drop i searches) ≡ found_walked got ++ searched_walked (drop (suc i) searches)
    by_suc [] i got below is = absurd (omega (arith, below))
    by_suc (told ∷ searches) zero got below is = ap (λ (o : Option Hit). found_walked o ++ searched_walked searches) (sym is)
    by_suc (told ∷ searches) (suc i) got below is = by_suc searches i got (omega (arith, below)) is

-- of two facts a third
pub if_ok_both : {R E : Type 0} (r : Result R E) (P Q S : R → Type 0) → ((x : R) → P x → Q x → S x) → IfOk r P → IfOk r Q → IfOk r S
if_ok_both (Ok x) P Q S f p q = f x p q
if_ok_both (Err e) P Q S f p q = tt
