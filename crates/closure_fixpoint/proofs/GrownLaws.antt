-- Lists of visits that grow.
use Rattle.std.proofs.Common.{◌≡◌, ◌⊎◌, ◌≤◌, ◌<◌, ◌+◌, ℕ, zero, suc, ◌∷◌, ◌++◌, [], List, length, take, map, Option, Some, None, Bool, true, false, inl, inr, refl, sym, ap, subst, ◌∙◌, cond, arith}
use Rattle.std.specs.List.{list_any, slice_get}
use Rattle.std.proofs.lemmas.List.{take_more, take-append-le, map-append, length-append, append-nil}
use Rattle.std.proofs.lemmas.Option.{slice_get_within, get_or_from_slice_get}
use Rattle.base_types.specs.Members.{Member, Within, EachOnce}
use Rattle.search_path.specs.Search.{Hit}
use Rattle.search_path.specs.declared.asking.Visit.{Visit}
use Rattle.sheet_build.specs.Sheet.{SheetData}
use Rattle.tree_model.proofs.MemberLemmas.{Member-append, Member-append_left, Member-append_right, Member-map}
use Rattle.closure_fixpoint.specs.Progress.{Heard, with_sheet, visits_told, PlainAreFound}
use Rattle.closure_fixpoint.specs.parts.Worklist.{is_found_alike, with_visit, with_visits, with_hit}
use Rattle.closure_fixpoint.proofs.WantingLaws.{visit_there}

-- the longer list begins with the other
pub record Grows (xs ys : List Visit) : Type 0 where
  pub more : List Visit
  pub is : ys ≡ xs ++ more

append-assoc : {X : Type 0} (xs ys zs : List X) → (xs ++ ys) ++ zs ≡ xs ++ (ys ++ zs)
append-assoc [] ys zs = refl
append-assoc (x ∷ xs) ys zs = ap (λ l. x ∷ l) (append-assoc xs ys zs)

pub grows_none : (xs : List Visit) → Grows xs xs
grows_none xs = record { more = []; is = sym (append-nil xs) }

pub grows_visit : (found : List Visit) (visit : Visit) → Grows found (with_visit found visit)
grows_visit found visit = go (list_any (is_found_alike visit) found)
  where
    go : (b : Bool) → Grows found (cond b found (found ++ visit ∷ []))
    go true = grows_none found
    go false = record { more = visit ∷ []; is = refl }

grows_again : (xs ys zs : List Visit) → Grows xs ys → Grows ys zs → Grows xs zs
grows_again xs ys zs one two = record {
  more = one.more ++ two.more;
  is = two.is ∙ ap (λ (l : List Visit). l ++ two.more) one.is ∙ append-assoc xs one.more two.more;
}

pub grows_visits : (visits found : List Visit) → Grows found (with_visits found visits)
unfolding with_visits
grows_visits [] found = grows_none found
grows_visits (visit ∷ visits) found = grows_again found (with_visit found visit) (with_visits (with_visit found visit) visits) (grows_visit found visit) (grows_visits visits (with_visit found visit))

pub grows_hit : (include : Bool) (found : List Visit) (got : Option Hit) → Grows found (with_hit include found got)
grows_hit include found None = grows_none found
grows_hit true found (Some hit) = grows_visit found hit.0
grows_hit false found (Some hit) = grows_none found

pub grows_as : (xs ys zs : List Visit) → Grows xs ys → zs ≡ ys → Grows xs zs
grows_as xs ys zs g same = record { more = g.more; is = same ∙ g.is }

pub still_there : (xs ys : List Visit) → Grows xs ys → (visit : Visit) → Member visit xs → Member visit ys
still_there xs ys g visit m = subst (λ (l : List Visit). Member visit l) (sym g.is) (Member-append_left visit xs g.more m)

-- what was added is there
pub visit_added : (found : List Visit) (visit : Visit) → Member visit (with_visit found visit)
visit_added found visit = go (list_any (is_found_alike visit) found) refl
  where
    go : (b : Bool) → list_any (is_found_alike visit) found ≡ b → Member visit (cond b found (found ++ visit ∷ []))
    go true is = visit_there found visit is
    go false is = Member-append_right visit found (visit ∷ []) (inl refl)

pub visits_added : (visits found : List Visit) (visit : Visit) → Member visit visits → Member visit (with_visits found visits)
unfolding with_visits
visits_added [] found visit m = elim m [ ]
visits_added (v ∷ visits) found visit (inl same) =
    still_there (with_visit found v) (with_visits (with_visit found v) visits) (grows_visits visits (with_visit found v)) visit
    (subst (λ (w : Visit). Member w (with_visit found v)) same (visit_added found v))
visits_added (v ∷ visits) found visit (inr m) = visits_added visits (with_visit found v) visit m

-- IN ORDER

-- a front of a list is no longer than the list
pub front_fits : (sheets : List (Visit × SheetData)) (found : List Visit) → map (λ told. told.0) sheets ≡ take (length sheets) found → length sheets ≤ length found
front_fits [] found is = omega arith
front_fits (s ∷ sheets) [] is = absurd (cc)
front_fits (s ∷ sheets) (v ∷ found) is =
    let rest : map (λ (told : Visit × SheetData). told.0) sheets ≡ take (length sheets) found = cc in
    let less : length sheets ≤ length found = front_fits sheets found rest in
    omega (arith, less)

pub still_in_order : (sheets : List (Visit × SheetData)) (found found_now : List Visit) → Grows found found_now → map (λ told. told.0) sheets ≡ take (length sheets) found
    → map (λ told. told.0) sheets ≡ take (length sheets) found_now
still_in_order sheets found found_now g is =
    is ∙ sym (take-append-le (length sheets) found g.more (front_fits sheets found is)) ∙ ap (λ (l : List Visit). take (length sheets) l) (sym g.is)

one_front : (found more : List Visit) (n : ℕ) (visit : Visit) → slice_get found n ≡ Some visit → take (suc n) (found ++ more) ≡ take n found ++ visit ∷ []
one_front [] more n visit is = absurd (cc)
one_front (v ∷ found) more zero visit is = let same : v ≡ visit = cc in ap (λ (w : Visit). w ∷ []) same
one_front (v ∷ found) more (suc n) visit is = ap (λ (l : List Visit). v ∷ l) (one_front found more n visit is)

-- the sheet of the first visit without one is in order too
pub next_in_order : (sheets : List (Visit × SheetData)) (found found_now : List Visit) (visit : Visit) (sheet : SheetData) → Grows found found_now → slice_get found (length sheets) ≡ Some visit
    → map (λ told. told.0) sheets ≡ take (length sheets) found
    → map (λ told. told.0) (sheets ++ (visit, sheet) ∷ []) ≡ take (length (sheets ++ (visit, sheet) ∷ [])) found_now
next_in_order sheets found found_now visit sheet g at is =
    let longer : length (sheets ++ (visit, sheet) ∷ []) ≡ suc (length sheets) = length-append sheets ((visit, sheet) ∷ []) ∙ omega arith in
    map-append (λ (told : Visit × SheetData). told.0) sheets ((visit, sheet) ∷ [])
    ∙ ap (λ (l : List Visit). l ++ visit ∷ []) is
    ∙ sym (one_front found g.more (length sheets) visit at)
    ∙ ap (λ (l : List Visit). take (suc (length sheets)) l) (sym g.is)
    ∙ ap (λ (n : ℕ). take n found_now) (sym longer)

-- what stands at a number is there
pub stands_at : (found : List Visit) (n : ℕ) (visit : Visit) → slice_get found n ≡ Some visit → Member visit found
stands_at [] n visit at = absurd (cc)
stands_at (v ∷ found) zero visit at = let same : v ≡ visit = cc in inl same
stands_at (v ∷ found) (suc n) visit at = inr (stands_at found n visit at)

-- a visit behind the front isn't in the front
taken_apart : (found : List Visit) (n : ℕ) (visit : Visit) → EachOnce found → slice_get found n ≡ Some visit → Member visit (take n found) → ⊥
taken_apart [] n visit once at m = absurd (cc)
taken_apart (v ∷ found) zero visit once at m = m
taken_apart (v ∷ found) (suc n) visit once at (inl same) = once.0 (subst (λ (w : Visit). Member w found) (sym same) (stands_at found n visit at))
taken_apart (v ∷ found) (suc n) visit once at (inr m) = taken_apart found n visit once.1 at m

pub next_is_new : (sheets : List (Visit × SheetData)) (found : List Visit) (visit : Visit) → EachOnce found → slice_get found (length sheets) ≡ Some visit
    → map (λ told. told.0) sheets ≡ take (length sheets) found → Member visit (map (λ told. told.0) sheets) → ⊥
next_is_new sheets found visit once at is m = taken_apart found (length sheets) visit once at (subst (λ (l : List Visit). Member visit l) is m)

-- a front in which all of a list stands is the whole list
pub whole_front : (found : List Visit) (n : ℕ) → EachOnce found → Within found (take n found) → take n found ≡ found
whole_front [] zero once within = refl
whole_front [] (suc n) once within = refl
whole_front (v ∷ found) zero once within = elim (within v (inl refl)) [ ]
whole_front (v ∷ found) (suc n) once within = ap (λ (l : List Visit). v ∷ l) (whole_front found n once.1 (λ x m. behind x m (within x (inr m))))
  where
    behind : (x : Visit) → Member x found → Member x (v ∷ take n found) → Member x (take n found)
    behind x m (inl same) = absurd (once.0 (subst (λ (w : Visit). Member w found) (sym same) m))
    behind x m (inr there) = there

-- where the sheet of each visit was told, the visits found are those of the sheets
pub all_told : (sheets : List (Visit × SheetData)) (found : List Visit) → EachOnce found → Within found (map (λ told. told.0) sheets)
    → map (λ told. told.0) sheets ≡ take (length sheets) found → found ≡ map (λ told. told.0) sheets
all_told sheets found once within is = sym (whole_front found (length sheets) once (subst (λ (l : List Visit). Within found l) is within)) ∙ sym is

-- PLAIN INCLUDES

pub still_plain : (heard : Heard) (found found_now : List Visit) → Grows found found_now → PlainAreFound heard found → PlainAreFound heard found_now
still_plain heard found found_now g plain visit sheet hit m n = still_there found found_now g hit.0 (plain visit sheet hit m n)

pub plain_of_sheet : (heard : Heard) (found : List Visit) (visit : Visit) (sheet : SheetData) → PlainAreFound heard found
    → PlainAreFound (with_sheet heard visit sheet) (with_visits found (map (λ file. file.0) sheet.plain))
plain_of_sheet heard found visit sheet plain v s hit m n = go (Member-append (v, s) heard.sheets ((visit, sheet) ∷ []) m)
  where
    go : Member {X = Visit × SheetData} (v, s) heard.sheets ⊎ Member {X = Visit × SheetData} (v, s) ((visit, sheet) ∷ []) → Member hit.0 (with_visits found (map (λ file. file.0) sheet.plain))
    go (inl old) = still_there found (with_visits found (map (λ file. file.0) sheet.plain)) (grows_visits (map (λ file. file.0) sheet.plain) found) hit.0 (plain v s hit old n)
    go (inr (inl same)) =
        visits_added (map (λ file. file.0) sheet.plain) found hit.0
        (Member-map (λ (file : Hit). file.0) hit sheet.plain (subst (λ (x : SheetData). Member hit x.plain) (sym (ap (λ (p : Visit × SheetData). p.1) same)) n))
    go (inr (inr never)) = absurd never

-- a visit that wasn't there makes the list longer
pub grows_by_one : (found : List Visit) (visit : Visit) → (Member visit found → ⊥) → with_visit found visit ≡ found ++ visit ∷ []
grows_by_one found visit new = go (list_any (is_found_alike visit) found) refl
  where
    go : (b : Bool) → list_any (is_found_alike visit) found ≡ b → cond b found (found ++ visit ∷ []) ≡ found ++ visit ∷ []
    go true is = absurd (new (visit_there found visit is))
    go false is = refl

pub more_to_ask : (heard : Heard) (found found_now : List Visit) (visit : Visit) → visits_told heard ≡ take (length heard.sheets) found → (Member visit found → ⊥) → found_now ≡ with_visit found visit
    → length heard.sheets < length found_now
more_to_ask heard found found_now visit is new adds =
    let fits : length heard.sheets ≤ length found = front_fits heard.sheets found is in
    let longer : length found_now ≡ length found + 1 = ap length (adds ∙ grows_by_one found visit new) ∙ length-append found (visit ∷ []) in
    omega (arith, fits, longer)

-- one visit more was copied
pub one_copied : (found so_far longer : List Visit) (n : ℕ) (visit copy : Visit) → Some visit ≡ slice_get found n → copy ≡ visit → so_far ≡ take n found → longer ≡ so_far ++ copy ∷ []
    → longer ≡ take (n + 1) found
one_copied found so_far longer n visit copy at same before adds =
    let below : n < length found = slice_get_within found n visit (sym at) in
    adds
    ∙ ap (λ (l : List Visit). l ++ copy ∷ []) before
    ∙ ap (λ (v : Visit). take n found ++ v ∷ []) (same ∙ sym (get_or_from_slice_get found n visit visit (sym at)))
    ∙ sym (take_more found n visit below)
