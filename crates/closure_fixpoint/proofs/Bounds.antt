-- Each job has a closure: there are finitely many visits.
use Rattle.std.proofs.Common.{◌≡◌, ℕ, zero, suc, ◌+◌, ◌∷◌, ◌++◌, [], List, length, Option, Some, None, IsSome, Bool, true, false, inl, inr, refl, sym, ap, subst, ◌∙◌, map, drop, cond, arith}
use Rattle.std.specs.Prelude.{nat_eq}
use Rattle.std.specs.Bool.{Decides}
use Rattle.std.specs.Cmp.{IsTotalOrder, unsigned_Decides, Equal-is}
use Rattle.std.proofs.lemmas.Cmp.{nat_list_cmp_total, lists_total, tied_itself}
use Rattle.std.specs.List.{flat_map, enumerate_from}
use Rattle.std.specs.Ordering.{eq_by_cmp, is_eq}
use Rattle.std.specs.FinMap.{keys, contains_key-keys, slice_cmp-IsAntisymmetric, nat_cmp-IsAntisymmetric}
use Rattle.std.proofs.lemmas.Bool.{and_parts, and_from}
use Rattle.base_types.specs.Members.{Member}
use Rattle.directive_scan.specs.declared.HeaderName.{HeaderName}
use Rattle.symbolic_expand.specs.Laws.{MoreKeepHeaders}
use Rattle.tree_model.specs.Paths.{Text, Path, is_same_path, is_same_path-Decides}
use Rattle.tree_model.specs.Trees.{FileTree, IsTree, entry_at, path_cmp}
use Rattle.tree_model.specs.Walk.{is_absolute, locate}
use Rattle.tree_model.specs.Frame.{LocatedHolds, HoldsOfLocated}
use Rattle.tree_model.specs.declared.entry.Entry.TheVariants.{Dir}
use Rattle.tree_model.specs.declared.walk.Located.{Located}
use Rattle.tree_model.proofs.MemberLemmas.{Member-map, Member-flat_map, list_any-true}
use Rattle.search_path.specs.SetupOf.{SetupData}
use Rattle.search_path.specs.Search.{Candidate, from_root, in_directory, chain_from, beside, quote_candidates, angle_candidates, next_candidates, of_visit, relative_candidates, found_absolute, candidates, Hit, hit_or, hit_by, first_located, search}
use Rattle.search_path.specs.Laws.{IsStart, SearchesLocate}
use Rattle.search_path.specs.declared.asking.Found.{Found}
use Rattle.search_path.specs.declared.asking.Found.TheVariants.{Primary, Absolute, Here, Chain}
use Rattle.search_path.specs.declared.asking.Visit.{Visit}
use Rattle.search_path.specs.declared.asking.Form.{Form}
use Rattle.search_path.specs.declared.asking.Form.TheVariants.{Source, Forced, Quote, Angle, NextQuote, NextAngle}
use Rattle.search_path.specs.declared.asking.Ask.{Ask}
use Rattle.job_words.specs.JobOf.{JobData}
use Rattle.search_path.specs.Asks.{forced_ask}
use Rattle.sheet_build.specs.Sheet.{asked_for}
use Rattle.closure_fixpoint.specs.Closure.{answers_of, computed_ask, LeadsTo, ByName, ByTokens, first_asks, first_hits, first_visits, IsClosedFor}
use Rattle.closure_fixpoint.specs.Laws.{ClosuresExist}
use Rattle.closure_fixpoint.specs.parts.Worklist.{found_number, is_found_alike}
use Rattle.closure_fixpoint.proofs.MemberLaws.{GivenBy, filter_map-Member, MappedBy, map-Member, flat_map-Member, list_any-by}
use Rattle.closure_fixpoint.proofs.ClosedLaws.{closure_exists}
use Rattle.closure_fixpoint.proofs.LeadsLaws.{leads_monotone, led, led_sound, led_whole}
use Rattle.closure_fixpoint.proofs.Searched.{IsHome, IsSearched, included_searched}

-- EQUALITY OF VISITS

same_number : (a b : Found) → found_number a ≡ found_number b → a ≡ b
same_number Primary Primary e = refl
same_number Primary Absolute e = absurd (omega (arith, e))
same_number Primary Here e = absurd (omega (arith, e))
same_number Primary (Chain k) e = absurd (omega (arith, e))
same_number Absolute Primary e = absurd (omega (arith, e))
same_number Absolute Absolute e = refl
same_number Absolute Here e = absurd (omega (arith, e))
same_number Absolute (Chain k) e = absurd (omega (arith, e))
same_number Here Primary e = absurd (omega (arith, e))
same_number Here Absolute e = absurd (omega (arith, e))
same_number Here Here e = refl
same_number Here (Chain k) e = absurd (omega (arith, e))
same_number (Chain j) Primary e = absurd (omega (arith, e))
same_number (Chain j) Absolute e = absurd (omega (arith, e))
same_number (Chain j) Here e = absurd (omega (arith, e))
same_number (Chain j) (Chain k) e = let same : j ≡ k = omega (arith, e) in ap Chain same

pub is_found_alike-Decides : (a b : Visit) → Decides (is_found_alike a b) (a ≡ b)
is_found_alike-Decides a b = (
  λ e.
      let both = and_parts (is_same_path a.place b.place) (nat_eq (found_number a.found) (found_number b.found)) e in
      let place : a.place ≡ b.place = (is_same_path-Decides a.place b.place).0 both.0 in
      let found : a.found ≡ b.found = same_number a.found b.found ((unsigned_Decides (found_number a.found) (found_number b.found)).0 both.1) in
      λ i. record { place = place i; found = found i },
  λ e. and_from (is_same_path a.place b.place) (nat_eq (found_number a.found) (found_number b.found))
      ((is_same_path-Decides a.place b.place).1 (ap (λ (v : Visit). v.place) e))
      ((unsigned_Decides (found_number a.found) (found_number b.found)).1 (ap (λ (v : Visit). found_number v.found) e)),
)

-- HOW A FILE MAY BE FOUND

abbrev ways : SetupData → List Found
ways setup = Primary ∷ Absolute ∷ Here ∷ map (λ entry. Chain entry.0) (enumerate_from 0 (setup.quote ++ setup.bracket))

AllWays : SetupData → List Candidate → Type 0
AllWays setup list = (c : Candidate) → Member c list → Member c.found (ways setup)

one_way : (setup : SetupData) (c : Candidate) → Member c.found (ways setup) → AllWays setup (c ∷ [])
unfolding AllWays
one_way setup c way d (inl same) = subst (λ (x : Candidate). Member x.found (ways setup)) same way
one_way setup c way d (inr never) = absurd never

more_ways : (setup : SetupData) (c : Candidate) (list : List Candidate) → Member c.found (ways setup) → AllWays setup list → AllWays setup (c ∷ list)
unfolding AllWays
more_ways setup c list way all d (inl same) = subst (λ (x : Candidate). Member x.found (ways setup)) same way
more_ways setup c list way all d (inr n) = all d n

no_ways : (setup : SetupData) → AllWays setup []
unfolding AllWays
no_ways setup c m = absurd m

Member-drop : {X : Type 0} (x : X) (k : ℕ) (xs : List X) → Member x (drop k xs) → Member x xs
Member-drop x zero xs m = m
Member-drop x (suc k) [] m = m
Member-drop x (suc k) (y ∷ xs) m = inr (Member-drop x k xs m)

chain_ways : (setup : SetupData) (k : ℕ) (name : Text) → AllWays setup (chain_from setup k name)
unfolding AllWays
chain_ways setup k name c m =
    let by : MappedBy (in_directory setup name) (drop k (enumerate_from 0 (setup.quote ++ setup.bracket))) c = map-Member (in_directory setup name) c _ m in
    let way : Member (Chain by.by.0) (ways setup) =
    inr (inr (inr (Member-map (λ entry. Chain entry.0) by.by (enumerate_from 0 (setup.quote ++ setup.bracket)) (Member-drop by.by k _ by.member)))) in
    subst (λ (x : Candidate). Member x.found (ways setup)) by.gives way

quote_ways : (setup : SetupData) (visit : Visit) (name : Text) → AllWays setup (quote_candidates setup visit name)
quote_ways setup visit name = more_ways setup (beside visit name) (chain_from setup 0 name) (inr (inr (inl refl))) (chain_ways setup 0 name)

next_ways : (setup : SetupData) (found : Found) (name : Text) (list : List Candidate) → AllWays setup list → AllWays setup (next_candidates setup found name list)
next_ways setup Primary name list all = all
next_ways setup Absolute name list all = all
next_ways setup Here name list all = chain_ways setup 0 name
next_ways setup (Chain k) name list all = chain_ways setup (k + 1) name

visit_ways : (setup : SetupData) (from : Option Visit) (list : Visit → List Candidate) → ((visit : Visit) → AllWays setup (list visit)) → AllWays setup (of_visit from list)
visit_ways setup None list all = no_ways setup
visit_ways setup (Some visit) list all = all visit

relative_ways : (setup : SetupData) (form : Form) (from : Option Visit) (name : Text) → AllWays setup (relative_candidates setup form from name)
relative_ways setup Source from name = one_way setup _ (inl refl)
relative_ways setup Forced from name = more_ways setup _ (chain_from setup 0 name) (inr (inr (inl refl))) (chain_ways setup 0 name)
relative_ways setup Quote from name = visit_ways setup from (λ visit. quote_candidates setup visit name) (λ visit. quote_ways setup visit name)
relative_ways setup Angle from name = chain_ways setup (length setup.quote) name
relative_ways setup NextQuote from name =
    visit_ways setup from (λ visit. next_candidates setup visit.found name (quote_candidates setup visit name)) (λ visit. next_ways setup visit.found name _ (quote_ways setup visit name))
relative_ways setup NextAngle from name =
    visit_ways setup from (λ visit. next_candidates setup visit.found name (angle_candidates setup name)) (λ visit. next_ways setup visit.found name _ (chain_ways setup (length setup.quote) name))

absolute_way : (setup : SetupData) (form : Form) → Member (found_absolute form) (ways setup)
absolute_way setup Source = inl refl
absolute_way setup Forced = inr (inl refl)
absolute_way setup Quote = inr (inl refl)
absolute_way setup Angle = inr (inl refl)
absolute_way setup NextQuote = inr (inl refl)
absolute_way setup NextAngle = inr (inl refl)

all_ways : (setup : SetupData) (ask : Ask) → AllWays setup (candidates setup ask)
all_ways setup ask = go (is_absolute ask.name)
  where
    go : (b : Bool) → AllWays setup (cond b (from_root (found_absolute ask.form) ask.name ∷ []) (relative_candidates setup ask.form ask.from ask.name))
    go true = one_way setup (from_root (found_absolute ask.form) ask.name) (absolute_way setup ask.form)
    go false = relative_ways setup ask.form ask.from ask.name

located_way : (tree : FileTree) (setup : SetupData) (list : List Candidate) → AllWays setup list → (hit : Hit) → first_located tree list ≡ Some hit → Member hit.0.found (ways setup)
unfolding AllWays
located_way tree setup [] all hit is = absurd (cc)
located_way tree setup (c ∷ list) all hit is = go (locate tree c.dir c.text) (located_way tree setup list (λ d m. all d (inr m)) hit) is
  where
    go : (o : Option Located) → (first_located tree list ≡ Some hit → Member hit.0.found (ways setup)) → hit_or c.found o (first_located tree list) ≡ Some hit → Member hit.0.found (ways setup)
    go None later is = later is
    go (Some l) later is =
        let same : ◌≡◌ {A = Hit} (hit_by c.found l) hit = cc in
        subst (λ (h : Hit). Member h.0.found (ways setup)) same (all c (inl refl))

pub way_found : (tree : FileTree) (setup : SetupData) (ask : Ask) (hit : Hit) → search tree setup ask ≡ Some hit → Member hit.0.found (ways setup)
unfolding search
way_found tree setup ask hit is = located_way tree setup (candidates setup ask) (all_ways setup ask) hit is

-- THE PLACES OF A TREE

paths_total : IsTotalOrder path_cmp
paths_total = lists_total nat_list_cmp_total

same_key : (p q : Path) → eq_by_cmp path_cmp p q ≡ true → p ≡ q
same_key p q h = slice_cmp-IsAntisymmetric (slice_cmp-IsAntisymmetric nat_cmp-IsAntisymmetric) p q ((Equal-is (path_cmp p q)).0 h)

key_there : (tree : FileTree) (path : Path) → IsSome (entry_at tree path) → Member path (keys tree)
key_there tree path there =
    let by = list_any-by (eq_by_cmp path_cmp path) (keys tree) (sym (contains_key-keys tree path) ∙ there) in
    subst (λ (p : Path). Member p (keys tree)) (sym (same_key path by.by by.passes)) by.member

there_key : (tree : FileTree) (path : Path) → Member path (keys tree) → IsSome (entry_at tree path)
there_key tree path m = contains_key-keys tree path ∙ list_any-true (eq_by_cmp path_cmp path) path (keys tree) m (own_key path)
  where
    own_key : (p : Path) → eq_by_cmp path_cmp p p ≡ true
    own_key p = ap is_eq (tied_itself paths_total p)

-- ALL VISITS

abbrev pub all_visits : FileTree → SetupData → List Visit
all_visits tree setup = flat_map (λ place. map (λ found. record { place = place; found = found }) (ways setup)) (keys tree)

visit_there : (tree : FileTree) (setup : SetupData) (visit : Visit) → IsSome (entry_at tree visit.place) → Member visit.found (ways setup) → Member visit (all_visits tree setup)
visit_there tree setup visit there way =
    Member-flat_map (λ place. map (λ found. record { place = place; found = found }) (ways setup)) visit.place visit (keys tree) (key_there tree visit.place there)
    (Member-map (λ found. record { place = visit.place; found = found }) visit.found (ways setup) way)

module _ (holds : HoldsOfLocated) (locates : SearchesLocate) (tree : FileTree) (whole : IsTree tree) (job : JobData) where
  -- what is searched from the root, or from a file that stands in a directory, is a visit of the tree
  hit_there : (ask : Ask) (hit : Hit) → ((visit : Visit) → ask.from ≡ Some visit → IsHome tree visit.place) → search tree job.setup ask ≡ Some hit
      → Member hit.0 (all_visits tree job.setup)
  hit_there ask hit from is =
      let h = locates tree job.setup ask hit is in
      let facts : LocatedHolds tree h.text hit.1 = holds tree h.dir h.text hit.1 whole (start_dir h.dir h.start) h.located in
      visit_there tree job.setup hit.0 (subst (λ (p : Path). IsSome (entry_at tree p)) (sym h.place) (facts.nodes hit.1.place facts.place)) (way_found tree job.setup ask hit is)
    where
      start_dir : (dir : Path) → IsStart ask dir → entry_at tree dir ≡ Some Dir
      start_dir dir (inl e) = ap (entry_at tree) e ∙ whole.root
      start_dir dir (inr (visit, same, e)) = ap (entry_at tree) e ∙ from visit same

  first_there : (visit : Visit) → Member visit (first_visits (answers_of tree job) job) → Member visit (all_visits tree job.setup)
  first_there visit m =
      let by : MappedBy (λ (hit : Hit). hit.0) (first_hits (answers_of tree job) job) visit = map-Member (λ (hit : Hit). hit.0) visit (first_hits (answers_of tree job) job) m in
      let ask : GivenBy (search tree job.setup) (first_asks job) by.by = filter_map-Member (search tree job.setup) by.by (first_asks job) by.member in
      subst (λ (v : Visit). Member v (all_visits tree job.setup)) by.gives
      (hit_there ask.by by.by (λ other from. never other (sym (no_from ask.by ask.member) ∙ from)) ask.gives)
    where
      never : (other : Visit) → None ≡ Some other → IsHome tree other.place
      never other e = absurd (cc)

      no_from : (ask : Ask) → Member ask (first_asks job) → ask.from ≡ None
      no_from ask (inl same) = ap (λ (x : Ask). x.from) (sym same)
      no_from ask (inr n) = let by : MappedBy forced_ask job.forced ask = map-Member forced_ask ask job.forced n in ap (λ (x : Ask). x.from) (sym by.gives)

  -- a node's directory
  home_of : (place : Path) → Member place (keys tree) → IsHome tree place
  home_of [] m = whole.root
  home_of (name ∷ path) m = whole.parent name path (there_key tree (name ∷ path) m)

  pub visit_home : (visit : Visit) → Member visit (all_visits tree job.setup) → IsHome tree visit.place
  visit_home visit m =
      let by = flat_map-Member (λ (place : Path). map (λ found. record { place = place; found = found }) (ways job.setup)) visit (keys tree) m in
      let made = map-Member (λ (found : Found). record { place = by.by; found = found }) visit (ways job.setup) by.gives in
      subst (λ (v : Visit). IsHome tree v.place) made.gives (home_of by.by by.member)

  pub from_visit : (visit other : Visit) → Some visit ≡ Some other → IsHome tree visit.place → IsHome tree other.place
  from_visit visit other e home = let same : visit ≡ other = cc in subst (λ (v : Visit). IsHome tree v.place) same home

  led_there : (set : List Visit) (visit target : Visit) → Member visit (all_visits tree job.setup) → LeadsTo (answers_of tree job) job set visit target → Member target (all_visits tree job.setup)
  led_there set visit target m (ByName hit n same) =
      let s : IsSearched tree job visit hit = included_searched tree job visit hit n in
      subst (λ (v : Visit). Member v (all_visits tree job.setup)) same
      (hit_there (asked_for visit s.next s.header) hit (λ other e. from_visit visit other e (visit_home visit m)) s.found)
  led_there set visit target m (ByTokens c hit f include same) =
      subst (λ (v : Visit). Member v (all_visits tree job.setup)) same
      (hit_there (computed_ask visit c f.header) hit (λ other e. from_visit visit other e (visit_home visit m)) f.found)

  pub all_closed : IsClosedFor (answers_of tree job) job (all_visits tree job.setup)
  all_closed = record {
    begins = first_there;
    next = λ v t m leads. led_there (all_visits tree job.setup) v t m leads;
  }

pub closures_exist : MoreKeepHeaders HeaderName → HoldsOfLocated → SearchesLocate → ClosuresExist
closures_exist keep holds locates tree job whole =
    closure_exists (first_visits (answers_of tree job) job) (LeadsTo (answers_of tree job) job) (leads_monotone keep (answers_of tree job) job)
    is_found_alike is_found_alike-Decides (led (answers_of tree job) job) (led_sound (answers_of tree job) job) (led_whole (answers_of tree job) job)
    (all_visits tree job.setup) (all_closed holds locates tree whole job)
