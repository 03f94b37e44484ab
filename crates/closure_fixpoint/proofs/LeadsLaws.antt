-- More visits, and more that is known, lead to no fewer visits.
use Rattle.std.proofs.Common.{◌≡◌, ◌⊎◌, ◌∷◌, ◌++◌, [], List, Some, Bool, true, false, inl, inr, refl, subst, map, cond}
use Rattle.std.specs.List.{list_any, flat_map, filter_map}
use Rattle.base_types.specs.Members.{Member, Within}
use Rattle.directive_scan.specs.declared.HeaderName.{HeaderName}
use Rattle.directive_scan.specs.HeaderNames.{header_named}
use Rattle.macro_defs.specs.MacroDefinition.{MacroDefinition}
use Rattle.macro_defs.specs.Sameness.{is_same_definition}
use Rattle.macro_defs.specs.Defining.{Named}
use Rattle.macro_expand.specs.Expansion.{Expanded}
use Rattle.macro_expand.specs.Choice.{AreAmong, Run, computed_runs, header_of_ending, MayName, HasLongRun, HasPresumedRun}
use Rattle.symbolic_expand.specs.Laws.{MoreKeepHeaders, MoreKeepLongRuns, MoreKeepPresumedRuns}
use Rattle.search_path.specs.Search.{Hit}
use Rattle.search_path.specs.declared.asking.Visit.{Visit}
use Rattle.search_path.specs.declared.asking.Ask.{Ask}
use Rattle.job_words.specs.JobOf.{JobData}
use Rattle.sheet_build.specs.Sheet.{ComputedAsk, SheetData, empty_sheet}
use Rattle.tree_model.proofs.MemberLemmas.{Member-append, Member-append_left, Member-append_right, Member-map, Member-flat_map, Member-filter_map}
use Rattle.closure_fixpoint.specs.Closed.{IsMonotone}
use Rattle.closure_fixpoint.specs.Closure.{AnalysisAnswers, first_definitions, of_name, definition_added, distinct, definition_sets, computed_ask, known_name, definitions, sets, IsAsked, MayFind, LeadsTo, ByName, ByTokens, HasLong, HasPresumed}
use Rattle.closure_fixpoint.proofs.MemberLaws.{GivenBy, filter_map-Member, MappedBy, map-Member, MadeBy, flat_map-Member, Contains-from_Member, Member-from_Contains}
use Rattle.closure_fixpoint.proofs.DistinctLaws.{distinct_there}

-- DEFINITIONS

in_added : (d e : MacroDefinition) (ds : List MacroDefinition) → Member d (definition_added e ds) → Member d (e ∷ ds)
in_added d e ds m = go (list_any (is_same_definition e) ds) m
  where
    go : (b : Bool) → Member d (cond b ds (e ∷ ds)) → Member d (e ∷ ds)
    go true n = inr n
    go false n = n

pub in_distinct : (d : MacroDefinition) (ds : List MacroDefinition) → Member d (distinct ds) → Member d ds
unfolding distinct
in_distinct d [] m = m
in_distinct d (e ∷ ds) m = go (in_added d e (distinct ds) m) (in_distinct d ds)
  where
    go : Member d (e ∷ distinct ds) → (Member d (distinct ds) → Member d ds) → Member d (e ∷ ds)
    go (inl same) rest = inl same
    go (inr n) rest = inr (rest n)

-- more definitions have larger sets
pub sets_more : (less more : List Named) → Within less more → AreAmong (definition_sets less) (definition_sets more)
sets_more less more within name d there =
    let by : GivenBy (of_name name) less d = filter_map-Member (of_name name) d less (in_distinct d (filter_map (of_name name) less) (Member-from_Contains d (definition_sets less name) there)) in
    Contains-from_Member d (definition_sets more name)
    (distinct_there d (filter_map (of_name name) more) (Member-filter_map (of_name name) by.by d more (within by.by by.member) by.gives))

-- WHAT IS KNOWN

-- all that is known in one is known in the other: searches that found, and sheets
pub record IsLess (less more : AnalysisAnswers) : Type 0 where
  pub finds : (ask : Ask) (hit : Hit) → less.find ask ≡ Some hit → more.find ask ≡ Some hit
  pub sheets : (visit : Visit) → (less.sheet visit ≡ more.sheet visit) ⊎ (less.sheet visit ≡ empty_sheet)

pub less_itself : (answers : AnalysisAnswers) → IsLess answers answers
less_itself answers = record { finds = λ ask hit is. is; sheets = λ visit. inl refl }

-- a member of a sheet's list that is known
there_more : {X : Type 0} (less more : AnalysisAnswers) → IsLess less more → (f : SheetData → List X) → f empty_sheet ≡ [] → (visit : Visit) (x : X) → Member x (f (less.sheet visit))
    → Member x (f (more.sheet visit)) × (less.sheet visit ≡ more.sheet visit)
there_more {X = X} less more is_less f none visit x m = go (is_less.sheets visit)
  where
    go : (less.sheet visit ≡ more.sheet visit) ⊎ (less.sheet visit ≡ empty_sheet) → Member x (f (more.sheet visit)) × (less.sheet visit ≡ more.sheet visit)
    go (inl same) = (subst (λ (s : SheetData). Member x (f s)) same m, same)
    go (inr empty) = let never : Member x [] = subst (λ (xs : List X). Member x xs) none (subst (λ (s : SheetData). Member x (f s)) empty m) in absurd never

module _ (a b : AnalysisAnswers) (is_less : IsLess a b) (job : JobData) (less more : List Visit) (within : Within less more) where
  definitions_more : Within (definitions a job less) (definitions b job more)
  definitions_more x m = go (Member-append x (first_definitions job) (flat_map (λ v. (a.sheet v).defs) less) m)
    where
      go : Member x (first_definitions job) ⊎ Member x (flat_map (λ v. (a.sheet v).defs) less) → Member x (definitions b job more)
      go (inl m) = Member-append_left x (first_definitions job) (flat_map (λ v. (b.sheet v).defs) more) m
      go (inr m) =
          let by : MadeBy (λ (v : Visit). (a.sheet v).defs) less x = flat_map-Member (λ (v : Visit). (a.sheet v).defs) x less m in
          Member-append_right x (first_definitions job) (flat_map (λ v. (b.sheet v).defs) more)
          (Member-flat_map (λ v. (b.sheet v).defs) by.by x more (within by.by by.member) (there_more a b is_less (λ s. s.defs) refl by.by x by.gives).0)

  pub parts : AreAmong (sets a job less) (sets b job more)
  parts = sets_more (definitions a job less) (definitions b job more) definitions_more

  pub may_find_more : MoreKeepHeaders HeaderName → (visit : Visit) (c : ComputedAsk) (hit : Hit) → MayFind a job less visit c hit → MayFind b job more visit c hit
  may_find_more keep visit c hit f =
      let there = there_more a b is_less (λ s. s.computed) refl visit c f.stands in
      record {
        stands = there.0;
        header = f.header;
        may = subst (λ (s : SheetData). MayName header_named (sets b job more) (known_name s visit) c.tokens f.header) there.1
            (keep header_named (sets a job less) (sets b job more) (known_name (a.sheet visit) visit) c.tokens f.header parts f.may);
        found = is_less.finds (computed_ask visit c f.header) hit f.found;
      }

  -- what is led to under less is led to under more
  pub leads_more : MoreKeepHeaders HeaderName → (v t : Visit) → LeadsTo a job less v t → LeadsTo b job more v t
  leads_more keep v t (ByName hit m same) = ByName hit (there_more a b is_less (λ s. s.plain) refl v hit m).0 same
  leads_more keep v t (ByTokens c hit f include same) = ByTokens c hit (may_find_more keep v c hit f) include same

  -- and a refusal met under less is met under more
  asked_more : (visit : Visit) (c : ComputedAsk) → IsAsked a job less visit c → IsAsked b job more visit c
  asked_more visit c asked = record {
    visited = within visit asked.visited;
    stands = (there_more a b is_less (λ s. s.computed) refl visit c asked.stands).0;
  }

  pub long_more : MoreKeepLongRuns → HasLong a job less → HasLong b job more
  long_more keep s = record {
    visit = s.visit;
    c = s.c;
    asked = asked_more s.visit s.c s.asked;
    holds = subst (λ (x : SheetData). HasLongRun (sets b job more) (known_name x s.visit) s.c.tokens) (there_more a b is_less (λ x. x.computed) refl s.visit s.c s.asked.stands).1
        (keep (sets a job less) (sets b job more) (known_name (a.sheet s.visit) s.visit) s.c.tokens parts s.holds);
  }

  pub presumed_more : MoreKeepPresumedRuns → HasPresumed a job less → HasPresumed b job more
  presumed_more keep s = record {
    visit = s.visit;
    c = s.c;
    asked = asked_more s.visit s.c s.asked;
    holds = subst (λ (x : SheetData). HasPresumedRun (sets b job more) (known_name x s.visit) s.c.tokens) (there_more a b is_less (λ x. x.computed) refl s.visit s.c s.asked.stands).1
        (keep (sets a job less) (sets b job more) (known_name (a.sheet s.visit) s.visit) s.c.tokens parts s.holds);
  }

pub leads_monotone : MoreKeepHeaders HeaderName → (answers : AnalysisAnswers) (job : JobData) → IsMonotone (LeadsTo answers job)
leads_monotone keep answers job less more v t within leads = leads_more answers answers (less_itself answers) job less more within keep v t leads

-- ALL THAT A LIST OF VISITS LEADS TO

module _ (answers : AnalysisAnswers) (job : JobData) where
  headers_of : List Visit → Visit → ComputedAsk → List HeaderName
  headers_of set visit c =
      filter_map (λ (r : Run Expanded). header_of_ending header_named r.ending) (computed_runs (sets answers job set) (known_name (answers.sheet visit) visit) c.tokens)

  hits_of : List Visit → Visit → ComputedAsk → List Hit
  hits_of set visit c = filter_map (λ header. answers.find (computed_ask visit c header)) (headers_of set visit c)

  led_by : List Visit → Visit → ComputedAsk → Bool → List Visit
  led_by set visit c true = []
  led_by set visit c false = map (λ hit. hit.0) (hits_of set visit c)

  led_from : List Visit → Visit → List Visit
  led_from set visit = map (λ hit. hit.0) (answers.sheet visit).plain ++ flat_map (λ c. led_by set visit c c.probe) (answers.sheet visit).computed

  pub led : List Visit → List Visit
  led set = flat_map (λ visit. led_from set visit) set

  may_find_hit : (set : List Visit) (visit : Visit) (c : ComputedAsk) (hit : Hit) → Member c (answers.sheet visit).computed → Member hit (hits_of set visit c) → MayFind answers job set visit c hit
  unfolding hits_of headers_of
  may_find_hit set visit c hit stands m =
      let by : GivenBy (λ (header : HeaderName). answers.find (computed_ask visit c header)) (headers_of set visit c) hit =
      filter_map-Member (λ (header : HeaderName). answers.find (computed_ask visit c header)) hit (headers_of set visit c) m in
      let run : GivenBy (λ (r : Run Expanded). header_of_ending header_named r.ending) (computed_runs (sets answers job set) (known_name (answers.sheet visit) visit) c.tokens) by.by =
      filter_map-Member (λ (r : Run Expanded). header_of_ending header_named r.ending) by.by _ by.member in
      record {
        stands = stands;
        header = by.by;
        may = (run.by, Contains-from_Member run.by (computed_runs (sets answers job set) (known_name (answers.sheet visit) visit) c.tokens) run.member, run.gives);
        found = by.gives;
      }

  hit_may_find : (set : List Visit) (visit : Visit) (c : ComputedAsk) (hit : Hit) → MayFind answers job set visit c hit → Member hit (hits_of set visit c)
  unfolding hits_of headers_of
  hit_may_find set visit c hit f =
      Member-filter_map (λ (header : HeaderName). answers.find (computed_ask visit c header)) f.header hit (headers_of set visit c)
      (Member-filter_map (λ (r : Run Expanded). header_of_ending header_named r.ending) f.may.0 f.header (computed_runs (sets answers job set) (known_name (answers.sheet visit) visit) c.tokens)
      (Member-from_Contains f.may.0 (computed_runs (sets answers job set) (known_name (answers.sheet visit) visit) c.tokens) f.may.1) f.may.2)
      f.found

  led_include : (set : List Visit) (visit target : Visit) (c : ComputedAsk) (probes : Bool) → c.probe ≡ probes → Member c (answers.sheet visit).computed → Member target (led_by set visit c probes)
      → LeadsTo answers job set visit target
  unfolding led_by
  led_include set visit target c true is stands m = elim m [ ]
  led_include set visit target c false is stands m =
      let by : MappedBy (λ (hit : Hit). hit.0) (hits_of set visit c) target = map-Member (λ (hit : Hit). hit.0) target (hits_of set visit c) m in
      ByTokens c by.by (may_find_hit set visit c by.by stands by.member) is by.gives

  from_led : (set : List Visit) (visit target : Visit) → Member target (led_from set visit) → LeadsTo answers job set visit target
  unfolding led_from
  from_led set visit target m = go (Member-append target (map (λ hit. hit.0) (answers.sheet visit).plain) (flat_map (λ c. led_by set visit c c.probe) (answers.sheet visit).computed) m)
    where
      go : Member target (map (λ hit. hit.0) (answers.sheet visit).plain) ⊎ Member target (flat_map (λ c. led_by set visit c c.probe) (answers.sheet visit).computed) → LeadsTo answers job set visit target
      go (inl n) = let by : MappedBy (λ (hit : Hit). hit.0) (answers.sheet visit).plain target = map-Member (λ (hit : Hit). hit.0) target _ n in ByName by.by by.member by.gives
      go (inr n) =
          let by : MadeBy (λ (c : ComputedAsk). led_by set visit c c.probe) (answers.sheet visit).computed target = flat_map-Member (λ (c : ComputedAsk). led_by set visit c c.probe) target _ n in
          led_include set visit target by.by by.by.probe refl by.member by.gives

  pub led_sound : (set : List Visit) (t : Visit) → Member t (led set) → (v : Visit) × Member v set × LeadsTo answers job set v t
  unfolding led
  led_sound set t m =
      let by : MadeBy (λ (v : Visit). led_from set v) set t = flat_map-Member (λ (v : Visit). led_from set v) t set m in
      (by.by, by.member, from_led set by.by t by.gives)

  in_led_by : (set : List Visit) (visit : Visit) (c : ComputedAsk) (hit : Hit) (probes : Bool) → probes ≡ false → Member hit (hits_of set visit c) → Member hit.0 (led_by set visit c probes)
  unfolding led_by
  in_led_by set visit c hit true is m = absurd (cc)
  in_led_by set visit c hit false is m = Member-map (λ x. x.0) hit (hits_of set visit c) m

  in_led_from : (set : List Visit) (visit target : Visit) → LeadsTo answers job set visit target → Member target (led_from set visit)
  unfolding led_from
  in_led_from set visit target (ByName hit m same) =
      subst (λ (v : Visit). Member v (led_from set visit)) same
      (Member-append_left hit.0 (map (λ x. x.0) (answers.sheet visit).plain) (flat_map (λ c. led_by set visit c c.probe) (answers.sheet visit).computed)
      (Member-map (λ x. x.0) hit (answers.sheet visit).plain m))
  in_led_from set visit target (ByTokens c hit f include same) =
      subst (λ (v : Visit). Member v (led_from set visit)) same
      (Member-append_right hit.0 (map (λ x. x.0) (answers.sheet visit).plain) (flat_map (λ x. led_by set visit x x.probe) (answers.sheet visit).computed)
      (Member-flat_map (λ x. led_by set visit x x.probe) c hit.0 (answers.sheet visit).computed f.stands (in_led_by set visit c hit c.probe include (hit_may_find set visit c hit f))))

  pub led_whole : (set : List Visit) (v t : Visit) → Member v set → LeadsTo answers job set v t → Member t (led set)
  unfolding led
  led_whole set v t m leads = Member-flat_map (λ x. led_from set x) v t set m (in_led_from set v t leads)
