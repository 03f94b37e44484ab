-- What a search of an analysis found was located in the tree.
use Rattle.std.proofs.Common.{◌≡◌, [], List, length, Option, Some, Bool, true, false, refl, subst, cond}
use Rattle.std.specs.Prelude.{nat_le}
use Rattle.std.specs.List.{flat_map, filter_map}
use Rattle.base_types.specs.Members.{Member}
use Rattle.pp_tokens.specs.Lines.{lexed}
use Rattle.directive_scan.specs.declared.HeaderName.{HeaderName}
use Rattle.directive_scan.specs.declared.Target.{Target}
use Rattle.directive_scan.specs.declared.Target.TheVariants.{Plain, Computed}
use Rattle.directive_scan.specs.Directives.{pieces}
use Rattle.tree_model.specs.Paths.{Text, Path, parent}
use Rattle.base_types.specs.Limits.{body_limit}
use Rattle.tree_model.specs.Trees.{FileTree, entry_at}
use Rattle.tree_model.specs.Walk.{locate}
use Rattle.tree_model.specs.declared.entry.Entry.TheVariants.{Dir}
use Rattle.tree_model.specs.declared.walk.Located.{Located}
use Rattle.search_path.specs.Search.{Hit, search}
use Rattle.search_path.specs.Laws.{SearchesLocate}
use Rattle.search_path.specs.declared.asking.Visit.{Visit}
use Rattle.search_path.specs.declared.asking.Ask.{Ask}
use Rattle.job_words.specs.JobOf.{JobData}
use Rattle.sheet_build.specs.Sheet.{AskedTarget, asked_for, plain_target, plain_hit, includes_in, probes_in, SheetData, empty_sheet, sheet_from, body_of_place, sheet_of_body, sheet_of}
use Rattle.closure_fixpoint.specs.Closure.{answers_of, first_asks, IsKnownSearch, AtFirst, Included, Probed, ByMacros, computed_ask}
use Rattle.closure_fixpoint.proofs.MemberLaws.{GivenBy, filter_map-Member, MappedBy, map-Member}

-- the place of a file stands in a directory
abbrev pub IsHome : FileTree → Path → Type 0
IsHome tree place = entry_at tree (parent place) ≡ Some Dir

-- a found file was located by some text
pub record IsLocatedSo (tree : FileTree) (l : Located) : Type 0 where
  pub dir : Path
  pub text : Text
  pub located : locate tree dir text ≡ Some l

-- WHAT IS KNOWN WAS FOUND

located_by : (tree : FileTree) (job : JobData) → SearchesLocate → (ask : Ask) (hit : Hit) → search tree job.setup ask ≡ Some hit → IsLocatedSo tree hit.1
located_by tree job locates ask hit is =
    let h = locates tree job.setup ask hit is in record { dir = h.dir; text = h.text; located = h.located }

-- a hit is found by what a visited file asks for
pub record IsSearched (tree : FileTree) (job : JobData) (visit : Visit) (hit : Hit) : Type 0 where
  pub next : Bool
  pub header : HeaderName
  pub found : search tree job.setup (asked_for visit next header) ≡ Some hit

plain_searched : (tree : FileTree) (job : JobData) (visit : Visit) (a : AskedTarget) (target : Target) (hit : Hit) → plain_target (search tree job.setup) visit a target ≡ Some hit
    → IsSearched tree job visit hit
plain_searched tree job visit a (Plain header) hit is = record { next = a.next; header = header; found = is }
plain_searched tree job visit a (Computed tokens) hit is = absurd (cc)

searched_located : (tree : FileTree) (job : JobData) → SearchesLocate → (visit : Visit) (hit : Hit) → IsSearched tree job visit hit → IsLocatedSo tree hit.1
searched_located tree job locates visit hit s = located_by tree job locates (asked_for visit s.next s.header) hit s.found

-- a member of a sheet's list is one of the list for the pieces, or of none
sheet_list : {X : Type 0} (f : SheetData → List X) → f empty_sheet ≡ [] → (find : Ask → Option Hit) (trigraphs : Bool) (visit : Visit) (body : Text) (x : X)
    → Member x (f (sheet_of_body find trigraphs visit body)) → Member x (f (sheet_from find visit (pieces (lexed trigraphs body).lines)))
sheet_list {X = X} f none find trigraphs visit body x m = go (nat_le (length body) body_limit) m
  where
    never : Member x (f empty_sheet) → ⊥
    never n = subst (λ (xs : List X). Member x xs) none n

    go : (b : Bool) → Member x (f (cond b (sheet_from find visit (pieces (lexed trigraphs body).lines)) empty_sheet)) → Member x (f (sheet_from find visit (pieces (lexed trigraphs body).lines)))
    go true m = m
    go false m = absurd (never m)

pub included_searched : (tree : FileTree) (job : JobData) (visit : Visit) (hit : Hit) → Member hit (sheet_of tree job.setup visit).plain → IsSearched tree job visit hit
unfolding sheet_of
included_searched tree job visit hit m =
    let body : Text = body_of_place tree visit.place in
    let by : GivenBy (plain_hit (search tree job.setup) visit) (flat_map includes_in (pieces (lexed job.setup.trigraphs body).lines)) hit =
    filter_map-Member (plain_hit (search tree job.setup) visit) hit _ (sheet_list (λ s. s.plain) refl (search tree job.setup) job.setup.trigraphs visit body hit m) in
    plain_searched tree job visit by.by by.by.target hit by.gives

-- a file that a probe found is that of a hit which the visited file asks for
pub record IsProbed (tree : FileTree) (job : JobData) (visit : Visit) (l : Located) : Type 0 where
  pub hit : Hit
  pub is : hit.1 ≡ l
  pub searched : IsSearched tree job visit hit

pub probed_searched : (tree : FileTree) (job : JobData) (visit : Visit) (l : Located) → Member l (sheet_of tree job.setup visit).probes → IsProbed tree job visit l
unfolding sheet_of
probed_searched tree job visit l m =
    let body : Text = body_of_place tree visit.place in
    let by : MappedBy (λ (hit : Hit). hit.1) (filter_map (plain_hit (search tree job.setup) visit) (flat_map probes_in (pieces (lexed job.setup.trigraphs body).lines))) l =
    map-Member (λ (hit : Hit). hit.1) l _ (sheet_list (λ s. s.probes) refl (search tree job.setup) job.setup.trigraphs visit body l m) in
    let given : GivenBy (plain_hit (search tree job.setup) visit) (flat_map probes_in (pieces (lexed job.setup.trigraphs body).lines)) by.by =
    filter_map-Member (plain_hit (search tree job.setup) visit) by.by _ by.member in
    record { hit = by.by; is = by.gives; searched = plain_searched tree job visit given.by given.by.target by.by given.gives }

probed_located : (tree : FileTree) (job : JobData) → SearchesLocate → (visit : Visit) (l : Located) → Member l (sheet_of tree job.setup visit).probes → IsLocatedSo tree l
probed_located tree job locates visit l m =
    let probed : IsProbed tree job visit l = probed_searched tree job visit l m in
    subst (λ (x : Located). IsLocatedSo tree x) probed.is (searched_located tree job locates visit probed.hit probed.searched)

pub known_located : (tree : FileTree) (job : JobData) → SearchesLocate → (visits : List Visit) (l : Located) → IsKnownSearch (answers_of tree job) job visits l → IsLocatedSo tree l
known_located tree job locates visits _ (AtFirst hit m) =
    let by : GivenBy (search tree job.setup) (first_asks job) hit = filter_map-Member (search tree job.setup) hit (first_asks job) m in
    located_by tree job locates by.by hit by.gives
known_located tree job locates visits _ (Included visit hit inside m) = searched_located tree job locates visit hit (included_searched tree job visit hit m)
known_located tree job locates visits _ (Probed visit l inside m) = probed_located tree job locates visit l m
known_located tree job locates visits _ (ByMacros visit c hit inside finds) = located_by tree job locates (computed_ask visit c finds.header) hit finds.found
