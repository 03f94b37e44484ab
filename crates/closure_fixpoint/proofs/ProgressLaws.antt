-- What an analysis finds lies in every closed list, and where nothing is left to ask it is the closure.
use Rattle.std.proofs.Common.{◌≡◌, ◌⊎◌, ◌≤◌, ◌<◌, ℕ, ◌∷◌, ◌++◌, [], List, length, Option, Some, None, Bool, true, false, inl, inr, refl, sym, ap, subst, ◌∙◌, map, cond, arith, not}
use Rattle.std.specs.List.{list_any, flat_map, filter_map}
use Rattle.base_types.specs.Members.{Member, Within, EachOnce}
use Rattle.base_types.specs.Limits.{visit_limit}
use Rattle.directive_scan.specs.declared.HeaderName.{HeaderName}
use Rattle.directive_scan.specs.HeaderNames.{header_named}
use Rattle.macro_defs.specs.MacroDefinition.{MacroDefinition}
use Rattle.macro_defs.specs.Sameness.{is_same_definition, is_same_definition-Decides}
use Rattle.macro_defs.specs.Defining.{Named}
use Rattle.macro_expand.specs.Choice.{HasNoRepeat, IsDistinct, AreAmong, MayName, HasManyRuns, HasLongRun, HasPresumedRun}
use Rattle.symbolic_expand.specs.Laws.{MoreKeepHeaders, MoreKeepLongRuns, MoreKeepPresumedRuns, MoreKeepManyRuns}
use Rattle.tree_model.specs.declared.walk.Located.{Located}
use Rattle.tree_model.proofs.MemberLemmas.{Member-append, Member-append_left, Member-append_right, Member-map, Member-flat_map, Member-filter_map, list_any-true}
use Rattle.search_path.specs.Search.{Hit}
use Rattle.search_path.specs.declared.asking.Visit.{Visit}
use Rattle.search_path.specs.declared.asking.Ask.{Ask}
use Rattle.job_words.specs.JobOf.{JobData}
use Rattle.search_path.specs.Asks.{source_ask}
use Rattle.sheet_build.specs.Sheet.{SheetData, ComputedAsk}
use Rattle.closure_fixpoint.specs.Closure.{AnalysisAnswers, first_definitions, of_name, definition_added, distinct, definition_sets, computed_ask, known_name, definitions, sets, IsAsked, LeadsTo, ByName, ByTokens, first_asks, first_hits, first_visits, IsClosedFor, IsKnownSearch, AtFirst as KnownAtFirst, Included, Probed, ByMacros, IsMet}
use Rattle.closure_fixpoint.specs.declared.job_analysis.Refusal.{Refusal}
use Rattle.closure_fixpoint.specs.declared.job_analysis.Refusal.TheVariants.{Budget, Long, Presumed, Visits, Large, Request, NoSource}
use Rattle.closure_fixpoint.specs.Progress.{Heard, HeardIsTrueOf, with_search, with_sheet, visits_told, definitions_told, sets_told, WasFound, WasSearched, IsTold, MayTold, IsDue, ByFirst, ByPlain, ByComputed, IsWanted, AtFirst, ForTarget, located_by_search, located_in_sheet, located_told, FoundKeeps, SearchIsMade, IsEnough, IsAccepted, DoneMeans, RefusedMeans, LargeMeans}
use Rattle.closure_fixpoint.proofs.MemberLaws.{GivenBy, filter_map-Member, MappedBy, map-Member, MadeBy, flat_map-Member, Member-from_Contains}
use Rattle.closure_fixpoint.proofs.ClosedLaws.{few}
use Rattle.closure_fixpoint.proofs.LeadsLaws.{sets_more}

-- SETS ARE DISTINCT

definition_added-once : (d : MacroDefinition) (ds : List MacroDefinition) → HasNoRepeat ds → HasNoRepeat (definition_added d ds)
definition_added-once d ds once = go (list_any (is_same_definition d) ds) refl
  where
    go : (b : Bool) → list_any (is_same_definition d) ds ≡ b → HasNoRepeat (cond b ds (d ∷ ds))
    go true is = once
    go false is = (
      λ there.
          let some : list_any (is_same_definition d) ds ≡ true =
          list_any-true (is_same_definition d) d ds (Member-from_Contains d ds there) ((is_same_definition-Decides d d).1 refl) in
          absurd (cc),
      once,
    )

distinct-once : (ds : List MacroDefinition) → HasNoRepeat (distinct ds)
unfolding distinct
distinct-once [] = tt
distinct-once (d ∷ ds) = definition_added-once d (distinct ds) (distinct-once ds)

pub sets-distinct : (defs : List Named) → IsDistinct (definition_sets defs)
sets-distinct defs name = distinct-once (filter_map (of_name name) defs)

module _ (answers : AnalysisAnswers) (is_large : Visit → Bool) (job : JobData) (heard : Heard) (true_of : HeardIsTrueOf answers is_large heard) where
  -- WHAT WAS TOLD IS OF THE VISITS

  told_visit : (visit : Visit) (sheet : SheetData) → Member (visit, sheet) heard.sheets → Member visit (visits_told heard)
  told_visit visit sheet m = Member-map (λ told. told.0) (visit, sheet) heard.sheets m

  told_defs : (set : List Visit) → Within (visits_told heard) set → Within (definitions_told job heard) (definitions answers job set)
  told_defs set within x m = go (Member-append x (first_definitions job) (flat_map (λ told. told.1.defs) heard.sheets) m)
    where
      go : Member x (first_definitions job) ⊎ Member x (flat_map (λ told. told.1.defs) heard.sheets) → Member x (definitions answers job set)
      go (inl n) = Member-append_left x (first_definitions job) (flat_map (λ v. (answers.sheet v).defs) set) n
      go (inr n) =
          let by : MadeBy (λ (told : Visit × SheetData). told.1.defs) heard.sheets x = flat_map-Member (λ (told : Visit × SheetData). told.1.defs) x heard.sheets n in
          Member-append_right x (first_definitions job) (flat_map (λ v. (answers.sheet v).defs) set)
          (Member-flat_map (λ v. (answers.sheet v).defs) by.by.0 x set (within by.by.0 (told_visit by.by.0 by.by.1 by.member))
          (subst (λ (s : SheetData). Member x s.defs) (sym (true_of.sheets by.by.0 by.by.1 by.member)) by.gives))

  -- a visit that was told has a sheet
  pub sheet_told : (visit : Visit) → Member visit (visits_told heard) → Member (visit, answers.sheet visit) heard.sheets
  sheet_told visit m =
      let by : MappedBy (λ (told : Visit × SheetData). told.0) heard.sheets visit = map-Member (λ (told : Visit × SheetData). told.0) visit heard.sheets m in
      let same : answers.sheet by.by.0 ≡ by.by.1 = true_of.sheets by.by.0 by.by.1 by.member in
      subst (λ (v : Visit). Member (v, answers.sheet v) heard.sheets) by.gives (subst (λ (s : SheetData). Member (by.by.0, s) heard.sheets) (sym same) by.member)

  defs_told : (set : List Visit) → Within set (visits_told heard) → Within (definitions answers job set) (definitions_told job heard)
  defs_told set within x m = go (Member-append x (first_definitions job) (flat_map (λ v. (answers.sheet v).defs) set) m)
    where
      go : Member x (first_definitions job) ⊎ Member x (flat_map (λ v. (answers.sheet v).defs) set) → Member x (definitions_told job heard)
      go (inl n) = Member-append_left x (first_definitions job) (flat_map (λ told. told.1.defs) heard.sheets) n
      go (inr n) =
          let by : MadeBy (λ (v : Visit). (answers.sheet v).defs) set x = flat_map-Member (λ (v : Visit). (answers.sheet v).defs) x set n in
          Member-append_right x (first_definitions job) (flat_map (λ told. told.1.defs) heard.sheets)
          (Member-flat_map (λ told. told.1.defs) (by.by, answers.sheet by.by) x heard.sheets (sheet_told by.by (within by.by by.member)) by.gives)

  told_part : (set : List Visit) → Within (visits_told heard) set → AreAmong (sets_told job heard) (sets answers job set)
  told_part set within = sets_more (definitions_told job heard) (definitions answers job set) (told_defs set within)

  part_told : (set : List Visit) → Within set (visits_told heard) → AreAmong (sets answers job set) (sets_told job heard)
  part_told set within = sets_more (definitions answers job set) (definitions_told job heard) (defs_told set within)

  -- WHAT IS DUE LIES IN EVERY CLOSED LIST

  was_found : (ask : Ask) (hit : Hit) → WasFound heard ask hit → answers.find ask ≡ Some hit
  was_found ask hit m = true_of.searches ask (Some hit) m

  pub due_sure : MoreKeepHeaders HeaderName → (other : List Visit) → IsClosedFor answers job other → Within (visits_told heard) other → (target : Visit) → IsDue job heard target → Member target other
  due_sure keep other closed within target (ByFirst ask hit m found same) =
      subst (λ (v : Visit). Member v other) same
      (closed.begins hit.0 (Member-map (λ x. x.0) hit (first_hits answers job) (Member-filter_map answers.find ask hit (first_asks job) m (was_found ask hit found))))
  due_sure keep other closed within target (ByPlain visit sheet hit m n same) =
      closed.next visit target (within visit (told_visit visit sheet m)) (ByName hit (subst (λ (s : SheetData). Member hit s.plain) (sym (true_of.sheets visit sheet m)) n) same)
  due_sure keep other closed within target (ByComputed visit sheet c header hit told include may found same) =
      let is : answers.sheet visit ≡ sheet = true_of.sheets visit sheet told.told in
      closed.next visit target (within visit (told_visit visit sheet told.told))
      (ByTokens c hit
      (record {
        stands = subst (λ (s : SheetData). Member c s.computed) (sym is) told.stands;
        header = header;
        may = subst (λ (s : SheetData). MayName header_named (sets answers job other) (known_name s visit) c.tokens header) (sym is)
            (keep header_named (sets_told job heard) (sets answers job other) (known_name sheet visit) c.tokens header (told_part other within) may);
        found = was_found (computed_ask visit c header) hit found;
      })
      include same)

  -- NOTHING LEFT TO ASK

  -- a search that was made has the answer that was told
  found_again : (ask : Ask) (hit : Hit) → answers.find ask ≡ Some hit → WasSearched heard ask → WasFound heard ask hit
  found_again ask hit is (got, m) = subst (λ (o : Option Hit). Member (ask, o) heard.searches) (sym (true_of.searches ask got m) ∙ is) m

  asked_told : (found : List Visit) → Within found (visits_told heard) → (visit : Visit) (c : ComputedAsk) → IsAsked answers job found visit c → IsTold heard visit (answers.sheet visit) c
  asked_told found within visit c asked = record { told = sheet_told visit (within visit asked.visited); stands = asked.stands }

  module _ (keep : MoreKeepHeaders HeaderName) (found : List Visit) (enough : IsEnough job heard found) where
    first_due : (visit : Visit) → Member visit (first_visits answers job) → Member visit found
    first_due visit m =
        let by : MappedBy (λ (hit : Hit). hit.0) (first_hits answers job) visit = map-Member (λ (hit : Hit). hit.0) visit (first_hits answers job) m in
        let ask : GivenBy answers.find (first_asks job) by.by = filter_map-Member answers.find by.by (first_asks job) by.member in
        let made : SearchIsMade heard.searches found ask.by true = enough.first ask.by ask.member in
        subst (λ (v : Visit). Member v found) by.gives (made.visit by.by (sym (true_of.searches ask.by made.got made.told) ∙ ask.gives) refl)

    led_due : (visit target : Visit) → Member visit found → LeadsTo answers job found visit target → Member target found
    led_due visit target m (ByName hit n same) =
        subst (λ (v : Visit). Member v found) same (enough.plain visit (answers.sheet visit) hit (sheet_told visit (enough.sheets visit m)) n)
    led_due visit target m (ByTokens c hit f include same) =
        let told : IsTold heard visit (answers.sheet visit) c = record { told = sheet_told visit (enough.sheets visit m); stands = f.stands } in
        let may : MayTold job heard visit (answers.sheet visit) c f.header =
        keep header_named (sets answers job found) (sets_told job heard) (known_name (answers.sheet visit) visit) c.tokens f.header (part_told found enough.sheets) f.may in
        let made : SearchIsMade heard.searches found (computed_ask visit c f.header) (not c.probe) = enough.computed visit (answers.sheet visit) c f.header told may in
        subst (λ (v : Visit). Member v found) same
        (made.visit hit (sym (true_of.searches (computed_ask visit c f.header) made.got made.told) ∙ f.found) (ap not include))

    pub is_closed : IsClosedFor answers job found
    is_closed = record { begins = first_due; next = led_due }

    -- THE SEARCHES THAT SUCCEEDED

    located_here : (ask : Ask) (hit : Hit) → WasFound heard ask hit → Member hit.1 (located_told heard)
    unfolding located_told
    located_here ask hit m =
        Member-append_left hit.1 (flat_map located_by_search heard.searches) (flat_map (λ told. located_in_sheet told.1) heard.sheets)
        (Member-flat_map located_by_search (ask, Some hit) hit.1 heard.searches m (inl refl))

    located_there : (visit : Visit) (l : Located) → Member visit found → Member l (located_in_sheet (answers.sheet visit)) → Member l (located_told heard)
    unfolding located_told
    located_there visit l m n =
        Member-append_right l (flat_map located_by_search heard.searches) (flat_map (λ told. located_in_sheet told.1) heard.sheets)
        (Member-flat_map (λ told. located_in_sheet told.1) (visit, answers.sheet visit) l heard.sheets (sheet_told visit (enough.sheets visit m)) n)

    -- each search that is known was told
    pub known_told : (l : Located) → IsKnownSearch answers job found l → Member l (located_told heard)
    known_told _ (KnownAtFirst hit m) =
        let ask : GivenBy answers.find (first_asks job) hit = filter_map-Member answers.find hit (first_asks job) m in
        let made : SearchIsMade heard.searches found ask.by true = enough.first ask.by ask.member in
        located_here ask.by hit (found_again ask.by hit ask.gives (made.got, made.told))
    known_told _ (Included visit hit inside m) =
        located_there visit hit.1 inside (Member-append_left hit.1 (map (λ x. x.1) (answers.sheet visit).plain) (answers.sheet visit).probes (Member-map (λ x. x.1) hit (answers.sheet visit).plain m))
    known_told _ (Probed visit l inside m) =
        located_there visit l inside (Member-append_right l (map (λ x. x.1) (answers.sheet visit).plain) (answers.sheet visit).probes m)
    known_told _ (ByMacros visit c hit inside f) =
        let told : IsTold heard visit (answers.sheet visit) c = record { told = sheet_told visit (enough.sheets visit inside); stands = f.stands } in
        let may : MayTold job heard visit (answers.sheet visit) c f.header =
        keep header_named (sets answers job found) (sets_told job heard) (known_name (answers.sheet visit) visit) c.tokens f.header (part_told found enough.sheets) f.may in
        let made : SearchIsMade heard.searches found (computed_ask visit c f.header) (not c.probe) = enough.computed visit (answers.sheet visit) c f.header told may in
        located_here (computed_ask visit c f.header) hit (found_again (computed_ask visit c f.header) hit f.found (made.got, made.told))

    -- and each that was told is known
    told_known : (keeps : FoundKeeps job heard found) (l : Located) → Member l (located_told heard) → IsKnownSearch answers job found l
    unfolding located_told
    told_known keeps l m = go (Member-append l (flat_map located_by_search heard.searches) (flat_map (λ told. located_in_sheet told.1) heard.sheets) m)
      where
        wanted_known : (ask : Ask) (hit : Hit) → IsWanted job heard ask → answers.find ask ≡ Some hit → IsKnownSearch answers job found hit.1
        wanted_known ask hit (AtFirst first) is = KnownAtFirst hit (Member-filter_map answers.find ask hit (first_asks job) first is)
        wanted_known ask hit (ForTarget visit sheet c header told may same) is =
            let sheet_is : answers.sheet visit ≡ sheet = true_of.sheets visit sheet told.told in
            ByMacros visit c hit (keeps.asked visit (told_visit visit sheet told.told))
            (record {
              stands = subst (λ (s : SheetData). Member c s.computed) (sym sheet_is) told.stands;
              header = header;
              may = subst (λ (s : SheetData). MayName header_named (sets answers job found) (known_name s visit) c.tokens header) (sym sheet_is)
                  (keep header_named (sets_told job heard) (sets answers job found) (known_name sheet visit) c.tokens header (told_part found keeps.asked) may);
              found = ap answers.find same ∙ is;
            })

        by_search : (ask : Ask) (got : Option Hit) → Member (ask, got) heard.searches → Member l (located_by_search (ask, got)) → IsKnownSearch answers job found l
        by_search ask None n k = absurd k
        by_search ask (Some hit) n (inl same) =
            subst (λ (x : Located). IsKnownSearch answers job found x) same (wanted_known ask hit (keeps.wanted ask (Some hit) n) (true_of.searches ask (Some hit) n))
        by_search ask (Some hit) n (inr never) = absurd never

        in_sheet : (visit : Visit) (sheet : SheetData) → Member (visit, sheet) heard.sheets → Member l (map (λ hit. hit.1) sheet.plain) ⊎ Member l sheet.probes → IsKnownSearch answers job found l
        in_sheet visit sheet n (inl k) =
            let by : MappedBy (λ (hit : Hit). hit.1) sheet.plain l = map-Member (λ (hit : Hit). hit.1) l sheet.plain k in
            subst (λ (x : Located). IsKnownSearch answers job found x) by.gives
            (Included visit by.by (keeps.asked visit (told_visit visit sheet n)) (subst (λ (s : SheetData). Member by.by s.plain) (sym (true_of.sheets visit sheet n)) by.member))
        in_sheet visit sheet n (inr k) =
            Probed visit l (keeps.asked visit (told_visit visit sheet n)) (subst (λ (s : SheetData). Member l s.probes) (sym (true_of.sheets visit sheet n)) k)

        go : Member l (flat_map located_by_search heard.searches) ⊎ Member l (flat_map (λ told. located_in_sheet told.1) heard.sheets) → IsKnownSearch answers job found l
        go (inl n) =
            let by : MadeBy located_by_search heard.searches l = flat_map-Member located_by_search l heard.searches n in
            by_search by.by.0 by.by.1 by.member by.gives
        go (inr n) =
            let by : MadeBy (λ (told : Visit × SheetData). located_in_sheet told.1) heard.sheets l = flat_map-Member (λ (told : Visit × SheetData). located_in_sheet told.1) l heard.sheets n in
            in_sheet by.by.0 by.by.1 by.member (Member-append l (map (λ hit. hit.1) by.by.1.plain) by.by.1.probes by.gives)

-- THE ANSWER DONE

module _ (keep : MoreKeepHeaders HeaderName) (long : MoreKeepLongRuns) (presumed : MoreKeepPresumedRuns) (many : MoreKeepManyRuns) (job : JobData) (budget : ℕ) (heard : Heard) (found : List Visit) where
  not_met : (answers : AnalysisAnswers) (is_large : Visit → Bool) → HeardIsTrueOf answers is_large heard → IsEnough job heard found → IsAccepted job budget heard found
      → (refusal : Refusal) → IsMet refusal answers job budget found → ⊥
  not_met answers is_large true_of enough accepted Budget met =
      let told = asked_told answers is_large job heard true_of found enough.sheets met.visit met.c met.asked in
      accepted.within_budget met.visit (answers.sheet met.visit) met.c told
      (many budget (sets answers job found) (sets_told job heard) (known_name (answers.sheet met.visit) met.visit) met.c.tokens (sets-distinct (definitions answers job found))
      (part_told answers is_large job heard true_of found enough.sheets) met.holds)
  not_met answers is_large true_of enough accepted Long met =
      let told = asked_told answers is_large job heard true_of found enough.sheets met.visit met.c met.asked in
      accepted.short met.visit (answers.sheet met.visit) met.c told
      (long (sets answers job found) (sets_told job heard) (known_name (answers.sheet met.visit) met.visit) met.c.tokens (part_told answers is_large job heard true_of found enough.sheets) met.holds)
  not_met answers is_large true_of enough accepted Presumed met =
      let told = asked_told answers is_large job heard true_of found enough.sheets met.visit met.c met.asked in
      accepted.told met.visit (answers.sheet met.visit) met.c told
      (presumed (sets answers job found) (sets_told job heard) (known_name (answers.sheet met.visit) met.visit) met.c.tokens (part_told answers is_large job heard true_of found enough.sheets) met.holds)
  not_met answers is_large true_of enough accepted Visits (some, once, within, more) =
      let fits : length some ≤ length found = few some found once within in let limit : length found ≤ visit_limit = accepted.few in absurd (omega (arith, fits, limit, more))
  not_met answers is_large true_of enough accepted Large met = met
  not_met answers is_large true_of enough accepted Request met = met
  not_met answers is_large true_of enough accepted NoSource met =
      let never : None ≡ Some accepted.source.0 = sym met ∙ was_found answers is_large job heard true_of (source_ask job.source) accepted.source.0 accepted.source.1 in absurd (cc)

  -- where nothing is left to ask, and no refusal is met, the visits found are the closure
  pub done_means : FoundKeeps job heard found → IsEnough job heard found → IsAccepted job budget heard found → DoneMeans job budget heard found
  done_means keeps enough accepted = record {
    once = keeps.once;
    asked = enough.sheets;
    small = accepted.small;
    closure = λ answers is_large true_of. record {
      closed = is_closed answers is_large job heard true_of keep found enough;
      least = keeps.sure answers is_large true_of;
    };
    accepted = λ answers is_large true_of refusal met. not_met answers is_large true_of enough accepted refusal met;
    located = λ answers is_large true_of l.
        (known_told answers is_large job heard true_of keep found enough l, told_known answers is_large job heard true_of keep found enough keeps l);
  }

  -- REFUSALS

  -- a computed target that was told is asked in every closed list
  told_asked : FoundKeeps job heard found → (answers : AnalysisAnswers) (is_large : Visit → Bool) → HeardIsTrueOf answers is_large heard → (other : List Visit) → IsClosedFor answers job other
      → (visit : Visit) (sheet : SheetData) (c : ComputedAsk) → IsTold heard visit sheet c → IsAsked answers job other visit c
  told_asked keeps answers is_large true_of other closed visit sheet c told = record {
    visited = keeps.sure answers is_large true_of other closed visit (keeps.asked visit (told_visit answers is_large job heard true_of visit sheet told.told));
    stands = subst (λ (s : SheetData). Member c s.computed) (sym (true_of.sheets visit sheet told.told)) told.stands;
  }

  told_within : FoundKeeps job heard found → (answers : AnalysisAnswers) (is_large : Visit → Bool) → HeardIsTrueOf answers is_large heard → (other : List Visit) → IsClosedFor answers job other
      → Within (visits_told heard) other
  told_within keeps answers is_large true_of other closed v m = keeps.sure answers is_large true_of other closed v (keeps.asked v m)

  pub budget_refused : FoundKeeps job heard found → (visit : Visit) (sheet : SheetData) (c : ComputedAsk) → IsTold heard visit sheet c
      → HasManyRuns budget (sets_told job heard) (known_name sheet visit) c.tokens → RefusedMeans job budget heard Budget
  budget_refused keeps visit sheet c told holds answers is_large true_of other closed = record {
    visit = visit;
    c = c;
    asked = told_asked keeps answers is_large true_of other closed visit sheet c told;
    holds = subst (λ (s : SheetData). HasManyRuns budget (sets answers job other) (known_name s visit) c.tokens) (sym (true_of.sheets visit sheet told.told))
        (many budget (sets_told job heard) (sets answers job other) (known_name sheet visit) c.tokens (sets-distinct (definitions_told job heard))
        (told_part answers is_large job heard true_of other (told_within keeps answers is_large true_of other closed)) holds);
  }

  pub long_refused : FoundKeeps job heard found → (visit : Visit) (sheet : SheetData) (c : ComputedAsk) → IsTold heard visit sheet c
      → HasLongRun (sets_told job heard) (known_name sheet visit) c.tokens → RefusedMeans job budget heard Long
  long_refused keeps visit sheet c told holds answers is_large true_of other closed = record {
    visit = visit;
    c = c;
    asked = told_asked keeps answers is_large true_of other closed visit sheet c told;
    holds = subst (λ (s : SheetData). HasLongRun (sets answers job other) (known_name s visit) c.tokens) (sym (true_of.sheets visit sheet told.told))
        (long (sets_told job heard) (sets answers job other) (known_name sheet visit) c.tokens
        (told_part answers is_large job heard true_of other (told_within keeps answers is_large true_of other closed)) holds);
  }

  pub presumed_refused : FoundKeeps job heard found → (visit : Visit) (sheet : SheetData) (c : ComputedAsk) → IsTold heard visit sheet c
      → HasPresumedRun (sets_told job heard) (known_name sheet visit) c.tokens → RefusedMeans job budget heard Presumed
  presumed_refused keeps visit sheet c told holds answers is_large true_of other closed = record {
    visit = visit;
    c = c;
    asked = told_asked keeps answers is_large true_of other closed visit sheet c told;
    holds = subst (λ (s : SheetData). HasPresumedRun (sets answers job other) (known_name s visit) c.tokens) (sym (true_of.sheets visit sheet told.told))
        (presumed (sets_told job heard) (sets answers job other) (known_name sheet visit) c.tokens
        (told_part answers is_large job heard true_of other (told_within keeps answers is_large true_of other closed)) holds);
  }

  pub visits_refused : FoundKeeps job heard found → visit_limit < length found → RefusedMeans job budget heard Visits
  visits_refused keeps more answers is_large true_of other closed = (found, keeps.once, keeps.sure answers is_large true_of other closed, more)

  pub source_refused : Member (source_ask job.source, None) heard.searches → RefusedMeans job budget heard NoSource
  source_refused m answers is_large true_of other closed = true_of.searches (source_ask job.source) None m

  pub large_means : FoundKeeps job heard found → (visit : Visit) → heard.large ≡ Some visit → Member visit found → LargeMeans job heard
  large_means keeps visit is there answers is_large true_of other closed =
      (visit, keeps.sure answers is_large true_of other closed visit there, true_of.large visit is)

-- STEPS

pub EachOnce-last : {X : Type 0} (xs : List X) (x : X) → EachOnce xs → (Member x xs → ⊥) → EachOnce (xs ++ x ∷ [])
EachOnce-last [] x once none = (λ m. m, tt)
EachOnce-last (y ∷ xs) x once none = (
  λ m. elim (Member-append y xs (x ∷ []) m) [ inl n ↦ once.0 n | inr n ↦ elim n [ inl same ↦ none (inl (sym same)) | inr never ↦ never ] ],
  EachOnce-last xs x once.1 (λ n. none (inr n)),
)

-- nothing was told or found so far
pub keeps_nothing : (job : JobData) → FoundKeeps job (record { searches = []; sheets = []; large = None }) []
keeps_nothing job = record { once = tt; asked = λ v m. m; wanted = λ ask got m. absurd m; sure = λ answers is_large true_of other closed v m. absurd m }

-- one more visit, which is due
pub keeps_found : MoreKeepHeaders HeaderName → (job : JobData) (heard : Heard) (found : List Visit) (target : Visit) → FoundKeeps job heard found → IsDue job heard target → (Member target found → ⊥)
    → FoundKeeps job heard (found ++ target ∷ [])
keeps_found keep job heard found target keeps due new = record {
  once = EachOnce-last found target keeps.once new;
  asked = λ v m. Member-append_left v found (target ∷ []) (keeps.asked v m);
  wanted = keeps.wanted;
  sure = λ answers is_large true_of other closed v m. elim (Member-append v found (target ∷ []) m) [
    | inl old ↦ keeps.sure answers is_large true_of other closed v old
    | inr n ↦ elim n [
      | inl same ↦
          subst (λ (w : Visit). Member w other) same
          (due_sure answers is_large job heard true_of keep other closed (λ w k. keeps.sure answers is_large true_of other closed w (keeps.asked w k)) target due)
      | inr never ↦ absurd never
    ]
  ];
}

before_search : (answers : AnalysisAnswers) (is_large : Visit → Bool) (heard : Heard) (ask : Ask) (got : Option Hit) → HeardIsTrueOf answers is_large (with_search heard ask got) → HeardIsTrueOf answers is_large heard
before_search answers is_large heard ask got t = record {
  searches = λ a g m. t.searches a g (Member-append_left (a, g) heard.searches ((ask, got) ∷ []) m);
  sheets = t.sheets;
  large = t.large;
}

still_wanted : (job : JobData) (heard : Heard) (ask : Ask) (got : Option Hit) (other : Ask) → IsWanted job heard other → IsWanted job (with_search heard ask got) other
still_wanted job heard ask got other (AtFirst m) = AtFirst m
still_wanted job heard ask got other (ForTarget visit sheet c header told may same) = ForTarget visit sheet c header (record { told = told.told; stands = told.stands }) may same

pub keeps_search : (job : JobData) (heard : Heard) (found : List Visit) (ask : Ask) (got : Option Hit) → FoundKeeps job heard found → IsWanted job heard ask → FoundKeeps job (with_search heard ask got) found
keeps_search job heard found ask got keeps want = record {
  once = keeps.once;
  asked = keeps.asked;
  wanted = λ other o m. elim (Member-append (other, o) heard.searches ((ask, got) ∷ []) m) [
    | inl old ↦ still_wanted job heard ask got other (keeps.wanted other o old)
    | inr n ↦ elim n [
      | inl same ↦ subst (λ (x : Ask). IsWanted job (with_search heard ask got) x) (ap (λ (p : Ask × Option Hit). p.0) same) (still_wanted job heard ask got ask want)
      | inr never ↦ absurd never
    ]
  ];
  sure = λ answers is_large t. keeps.sure answers is_large (before_search answers is_large heard ask got t);
}

before_sheet : (answers : AnalysisAnswers) (is_large : Visit → Bool) (heard : Heard) (visit : Visit) (sheet : SheetData) → HeardIsTrueOf answers is_large (with_sheet heard visit sheet) → HeardIsTrueOf answers is_large heard
before_sheet answers is_large heard visit sheet t = record {
  searches = t.searches;
  sheets = λ v s m. t.sheets v s (Member-append_left (v, s) heard.sheets ((visit, sheet) ∷ []) m);
  large = t.large;
}

map-append_one : (heard : Heard) (visit : Visit) (sheet : SheetData) → (v : Visit) → Member v (visits_told (with_sheet heard visit sheet)) → Member v (visits_told heard) ⊎ (v ≡ visit)
map-append_one heard visit sheet v m =
    let by : MappedBy (λ (told : Visit × SheetData). told.0) (heard.sheets ++ (visit, sheet) ∷ []) v = map-Member (λ (told : Visit × SheetData). told.0) v _ m in
    go by (Member-append by.by heard.sheets ((visit, sheet) ∷ []) by.member)
  where
    go : (by : MappedBy (λ (told : Visit × SheetData). told.0) (heard.sheets ++ (visit, sheet) ∷ []) v) → Member by.by heard.sheets ⊎ Member by.by ((visit, sheet) ∷ [])
        → Member v (visits_told heard) ⊎ (v ≡ visit)
    go by (inl n) = inl (subst (λ (w : Visit). Member w (visits_told heard)) by.gives (Member-map (λ told. told.0) by.by heard.sheets n))
    go by (inr (inl same)) = inr (sym by.gives ∙ ap (λ (told : Visit × SheetData). told.0) (sym same))
    go by (inr (inr never)) = absurd never

-- a search that was wanted is wanted under more sheets
sheet_wanted : MoreKeepHeaders HeaderName → (job : JobData) (heard : Heard) (visit : Visit) (sheet : SheetData) (ask : Ask) → IsWanted job heard ask → IsWanted job (with_sheet heard visit sheet) ask
sheet_wanted keep job heard visit sheet ask (AtFirst m) = AtFirst m
sheet_wanted keep job heard visit sheet ask (ForTarget v s c header told may same) =
    ForTarget v s c header (record { told = Member-append_left (v, s) heard.sheets ((visit, sheet) ∷ []) told.told; stands = told.stands })
    (keep header_named (sets_told job heard) (sets_told job (with_sheet heard visit sheet)) (known_name s v) c.tokens header
    (sets_more (definitions_told job heard) (definitions_told job (with_sheet heard visit sheet)) more) may) same
  where
    more : Within (definitions_told job heard) (definitions_told job (with_sheet heard visit sheet))
    more x m = go (Member-append x (first_definitions job) (flat_map (λ told. told.1.defs) heard.sheets) m)
      where
        go : Member x (first_definitions job) ⊎ Member x (flat_map (λ told. told.1.defs) heard.sheets) → Member x (definitions_told job (with_sheet heard visit sheet))
        go (inl n) = Member-append_left x (first_definitions job) (flat_map (λ told. told.1.defs) (heard.sheets ++ (visit, sheet) ∷ [])) n
        go (inr n) =
            let by : MadeBy (λ (told : Visit × SheetData). told.1.defs) heard.sheets x = flat_map-Member (λ (told : Visit × SheetData). told.1.defs) x heard.sheets n in
            Member-append_right x (first_definitions job) (flat_map (λ told. told.1.defs) (heard.sheets ++ (visit, sheet) ∷ []))
            (Member-flat_map (λ told. told.1.defs) by.by x (heard.sheets ++ (visit, sheet) ∷ []) (Member-append_left by.by heard.sheets ((visit, sheet) ∷ []) by.member) by.gives)

pub keeps_sheet : MoreKeepHeaders HeaderName → (job : JobData) (heard : Heard) (found : List Visit) (visit : Visit) (sheet : SheetData) → FoundKeeps job heard found → Member visit found → FoundKeeps job (with_sheet heard visit sheet) found
keeps_sheet keep job heard found visit sheet keeps there = record {
  once = keeps.once;
  wanted = λ ask got m. sheet_wanted keep job heard visit sheet ask (keeps.wanted ask got m);
  asked = λ v m. elim (map-append_one heard visit sheet v m) [ inl n ↦ keeps.asked v n | inr same ↦ subst (λ (w : Visit). Member w found) (sym same) there ];
  sure = λ answers is_large t. keeps.sure answers is_large (before_sheet answers is_large heard visit sheet t);
}
