-- Visits that are due may be added to those that were found.
use Rattle.std.proofs.Common.{◌≡◌, ◌<◌, ◌+◌, ℕ, zero, suc, ◌∷◌, ◌++◌, [], List, length, take, drop, get_or, arith, map, Option, Some, None, Bool, true, false, inl, inr, refl, sym, ap, subst, ◌∙◌, cond}
use Rattle.std.specs.List.{list_any}
use Rattle.base_types.specs.Members.{Member, Within}
use Rattle.directive_scan.specs.declared.HeaderName.{HeaderName}
use Rattle.symbolic_expand.specs.Laws.{MoreKeepHeaders}
use Rattle.search_path.specs.Search.{Hit}
use Rattle.search_path.specs.declared.asking.Visit.{Visit}
use Rattle.search_path.specs.declared.asking.Ask.{Ask}
use Rattle.job_words.specs.JobOf.{JobData}
use Rattle.sheet_build.specs.Sheet.{SheetData}
use Rattle.tree_model.proofs.MemberLemmas.{Member-append_right, list_any-true}
use Rattle.closure_fixpoint.specs.Progress.{Heard, with_search, with_sheet, IsWanted, AtFirst, ForTarget, IsDue, ByPlain, FoundKeeps}
use Rattle.closure_fixpoint.specs.parts.Worklist.{is_found_alike, with_visit, with_visits, TellsSome, with_hit, TellsNoVisit}
use Rattle.closure_fixpoint.proofs.MemberLaws.{MappedBy, map-Member}
use Rattle.closure_fixpoint.proofs.Bounds.{is_found_alike-Decides}
use Rattle.closure_fixpoint.proofs.ProgressLaws.{keeps_search, keeps_sheet, keeps_found}

pub keeps_visit : MoreKeepHeaders HeaderName → (job : JobData) (heard : Heard) (found : List Visit) (visit : Visit) → FoundKeeps job heard found → IsDue job heard visit → FoundKeeps job heard (with_visit found visit)
keeps_visit keep job heard found visit keeps due = go (list_any (is_found_alike visit) found) refl
  where
    go : (b : Bool) → list_any (is_found_alike visit) found ≡ b → FoundKeeps job heard (cond b found (found ++ visit ∷ []))
    go true is = keeps
    go false is =
        keeps_found keep job heard found visit keeps due
        (λ m.
        let some : list_any (is_found_alike visit) found ≡ true = list_any-true (is_found_alike visit) visit found m ((is_found_alike-Decides visit visit).1 refl) in
        absurd (cc))

pub keeps_visits : MoreKeepHeaders HeaderName → (job : JobData) (heard : Heard) (visits found : List Visit) → FoundKeeps job heard found → ((visit : Visit) → Member visit visits → IsDue job heard visit)
    → FoundKeeps job heard (with_visits found visits)
unfolding with_visits
keeps_visits keep job heard [] found keeps due = keeps
keeps_visits keep job heard (visit ∷ visits) found keeps due =
    keeps_visits keep job heard visits (with_visit found visit) (keeps_visit keep job heard found visit keeps (due visit (inl refl))) (λ other m. due other (inr m))

pub Member-take : {X : Type 0} (x : X) (n : ℕ) (xs : List X) → Member x (take n xs) → Member x xs
Member-take x zero xs m = elim m [ ]
Member-take x (suc n) [] m = m
Member-take x (suc n) (y ∷ xs) (inl same) = inl same
Member-take x (suc n) (y ∷ xs) (inr m) = inr (Member-take x n xs m)

-- a front of the files of a sheet that was told
pub keeps_plain : MoreKeepHeaders HeaderName → (job : JobData) (heard : Heard) (found : List Visit) (visit : Visit) (sheet : SheetData) (files : List Hit) → FoundKeeps job heard found → Member visit found
    → Within files sheet.plain → FoundKeeps job (with_sheet heard visit sheet) (with_visits found (map (λ file. file.0) files))
keeps_plain keep job heard found visit sheet files keeps there within =
    keeps_visits keep job (with_sheet heard visit sheet) (map (λ file. file.0) files) found (keeps_sheet keep job heard found visit sheet keeps there)
    (λ target m.
    let by : MappedBy (λ (file : Hit). file.0) files target = map-Member (λ (file : Hit). file.0) target files m in
    ByPlain visit sheet by.by (Member-append_right (visit, sheet) heard.sheets ((visit, sheet) ∷ []) (inl refl)) (within by.by by.member) by.gives)

-- one file more of those that are left, and of those so far
left_by : (files : List Hit) (i : ℕ) (file : Hit) (found : List Visit) → i < length files → file ≡ get_or files i file
    → with_visits found (map (λ f. f.0) (drop i files)) ≡ with_visits (with_visit found file.0) (map (λ f. f.0) (drop (suc i) files))
unfolding with_visits
left_by [] i file found below is = absurd (omega (arith, below))
left_by (f ∷ files) zero file found below is = ap (λ (x : Hit). with_visits (with_visit found x.0) (map (λ y. y.0) files)) (sym is)
left_by (f ∷ files) (suc i) file found below is = left_by files i file found (omega (arith, below)) is

more_by : (files : List Hit) (i : ℕ) (file : Hit) (found : List Visit) → i < length files → file ≡ get_or files i file
    → with_visit (with_visits found (map (λ f. f.0) (take i files))) file.0 ≡ with_visits found (map (λ f. f.0) (take (suc i) files))
unfolding with_visits
more_by [] i file found below is = absurd (omega (arith, below))
more_by (f ∷ files) zero file found below is = ap (λ (x : Hit). with_visit found x.0) is
more_by (f ∷ files) (suc i) file found below is = more_by files i file (with_visit found f.0) (omega (arith, below)) is

pub one_left : (files : List Hit) (i : ℕ) (file : Hit) (found : List Visit) → i < length files → file ≡ get_or files i file
    → with_visits found (map (λ f. f.0) (drop i files)) ≡ with_visits (with_visit found file.0) (map (λ f. f.0) (drop (i + 1) files))
one_left files i file found below is = let next : i + 1 ≡ suc i = omega arith in rw next (left_by files i file found below is)

pub one_more : (files : List Hit) (i : ℕ) (file : Hit) (found : List Visit) → i < length files → file ≡ get_or files i file
    → with_visit (with_visits found (map (λ f. f.0) (take i files))) file.0 ≡ with_visits found (map (λ f. f.0) (take (i + 1) files))
one_more files i file found below is = let next : i + 1 ≡ suc i = omega arith in rw next (more_by files i file found below is)

-- WHAT AN ANALYSIS KEEPS

-- a sheet was told, or nothing was: the visits found are those that may be
pub keeps_told : MoreKeepHeaders HeaderName → (job : JobData) (heard : Heard) (found : List Visit) (visit : Visit) (sheet : SheetData) (sheets_now : List (Visit × SheetData)) (found_now : List Visit)
    → FoundKeeps job heard found → Member visit found → TellsSome heard.sheets found visit sheet sheets_now found_now
    → FoundKeeps job (record heard { sheets = sheets_now }) found_now
keeps_told keep job heard found visit sheet sheets_now found_now keeps there (inl (same, as_before)) =
    subst (λ (list : List Visit). FoundKeeps job (record heard { sheets = sheets_now }) list) (sym as_before)
    (subst (λ (list : List (Visit × SheetData)). FoundKeeps job (record heard { sheets = list }) found) (sym same) keeps)
keeps_told keep job heard found visit sheet sheets_now found_now keeps there (inr (more, (n, adds))) =
    subst (λ (list : List Visit). FoundKeeps job (record heard { sheets = sheets_now }) list) (sym adds)
    (subst (λ (list : List (Visit × SheetData)). FoundKeeps job (record heard { sheets = list }) (with_visits found (map (λ file. file.0) (take n sheet.plain)))) (sym more)
    (keeps_plain keep job heard found visit sheet (take n sheet.plain) keeps there (λ file m. Member-take file n sheet.plain m)))

-- all of the sheet's plain includes
pub keeps_whole : MoreKeepHeaders HeaderName → (job : JobData) (heard : Heard) (found : List Visit) (visit : Visit) (sheet : SheetData) (sheets_now : List (Visit × SheetData)) (found_now : List Visit)
    → FoundKeeps job heard found → Member visit found → sheets_now ≡ heard.sheets ++ (visit, sheet) ∷ [] → found_now ≡ with_visits found (map (λ file. file.0) sheet.plain)
    → FoundKeeps job (record heard { sheets = sheets_now }) found_now
keeps_whole keep job heard found visit sheet sheets_now found_now keeps there more adds =
    subst (λ (list : List Visit). FoundKeeps job (record heard { sheets = sheets_now }) list) (sym adds)
    (subst (λ (list : List (Visit × SheetData)). FoundKeeps job (record heard { sheets = list }) (with_visits found (map (λ file. file.0) sheet.plain))) (sym more)
    (keeps_plain keep job heard found visit sheet sheet.plain keeps there (λ file m. m)))

-- the answer to a search was told, and its file's visit was added where it is due
pub keeps_answer : MoreKeepHeaders HeaderName → (job : JobData) (heard : Heard) (found : List Visit) (ask : Ask) (include : Bool) (got : Option Hit) → FoundKeeps job heard found → IsWanted job heard ask
    → ((hit : Hit) → include ≡ true → IsDue job (with_search heard ask (Some hit)) hit.0) → FoundKeeps job (with_search heard ask got) (with_hit include found got)
keeps_answer keep job heard found ask include None keeps want due = keeps_search job heard found ask None keeps want
keeps_answer keep job heard found ask true (Some hit) keeps want due =
    keeps_visit keep job (with_search heard ask (Some hit)) found hit.0 (keeps_search job heard found ask (Some hit) keeps want) (due hit refl)
keeps_answer keep job heard found ask false (Some hit) keeps want due = keeps_search job heard found ask (Some hit) keeps want

pub keeps_answered : MoreKeepHeaders HeaderName → (job : JobData) (heard : Heard) (found : List Visit) (ask : Ask) (include : Bool) (got : Option Hit) (searches_now : List (Ask × Option Hit)) (found_now : List Visit)
    → FoundKeeps job heard found → IsWanted job heard ask → ((hit : Hit) → include ≡ true → IsDue job (with_search heard ask (Some hit)) hit.0)
    → searches_now ≡ heard.searches ++ (ask, got) ∷ [] → found_now ≡ with_hit include found got → FoundKeeps job (record heard { searches = searches_now }) found_now
keeps_answered keep job heard found ask include got searches_now found_now keeps want due more adds =
    subst (λ (list : List Visit). FoundKeeps job (record heard { searches = searches_now }) list) (sym adds)
    (subst (λ (list : List (Ask × Option Hit)). FoundKeeps job (record heard { searches = list }) (with_hit include found got)) (sym more)
    (keeps_answer keep job heard found ask include got keeps want due))

pub keeps_unanswered : (job : JobData) (heard : Heard) (found : List Visit) (ask : Ask) (got : Option Hit) (searches_now : List (Ask × Option Hit)) (found_now : List Visit)
    → FoundKeeps job heard found → IsWanted job heard ask → TellsNoVisit heard.searches found ask got searches_now found_now → FoundKeeps job (record heard { searches = searches_now }) found_now
keeps_unanswered job heard found ask got searches_now found_now keeps want (as_before, inl same) =
    subst (λ (list : List Visit). FoundKeeps job (record heard { searches = searches_now }) list) (sym as_before)
    (subst (λ (list : List (Ask × Option Hit)). FoundKeeps job (record heard { searches = list }) found) (sym same) keeps)
keeps_unanswered job heard found ask got searches_now found_now keeps want (as_before, inr more) =
    subst (λ (list : List Visit). FoundKeeps job (record heard { searches = searches_now }) list) (sym as_before)
    (subst (λ (list : List (Ask × Option Hit)). FoundKeeps job (record heard { searches = list }) found) (sym more) (keeps_search job heard found ask got keeps want))

-- that a file is too large was told, where nothing of the kind was
pub keeps_large : (job : JobData) (heard : Heard) (found : List Visit) (visit : Visit) → heard.large ≡ None → FoundKeeps job heard found → FoundKeeps job (record heard { large = Some visit }) found
keeps_large job heard found visit none keeps = record {
  once = keeps.once;
  asked = keeps.asked;
  wanted = λ ask got m. still ask (keeps.wanted ask got m);
  sure = λ answers is_large t. keeps.sure answers is_large (record { searches = t.searches; sheets = t.sheets; large = λ v is. let never : None ≡ Some v = sym none ∙ is in absurd (cc) });
}
  where
    still : (ask : Ask) → IsWanted job heard ask → IsWanted job (record heard { large = Some visit }) ask
    still ask (AtFirst m) = AtFirst m
    still ask (ForTarget v s c header told may same) = ForTarget v s c header (record { told = told.told; stands = told.stands }) may same
