-- How a job's facts go on from phase to phase, up to its request or the end of its analysis.
use Rattle.std.proofs.Common.{arith, ◌≡◌, ◌⊎◌, ℕ, ◌+◌, ◌*◌, ◌<◌, ◌≤◌, List, [], ◌∷◌, ◌++◌, map, length, Bool, true, false, Option, None, Some, refl, sym, ap, ◌∙◌, subst, inl, inr, append-nil, slice_get, slice_index_or}
use Rattle.std.specs.Prelude.{IsTrue}
use Rattle.std.proofs.lemmas.Bool.{lt-ltb}
use Rattle.std.proofs.lemmas.List.{map-append}
use Rattle.base_types.specs.Causes.{Rose}
use Rattle.base_types.specs.Members.{Member}
use Rattle.tree_model.specs.Paths.{Path}
use Rattle.base_types.specs.Limits.{body_limit}
use Rattle.tree_model.specs.Trees.{FileTree, IsTree}
use Rattle.tree_model.proofs.MemberLemmas.{Member-append}
use Rattle.job_words.specs.declared.job.Job.{Job}
use Rattle.io_edges.specs.declared.wire.Host.{Host}
use Rattle.search_path.specs.Search.{Hit, search}
use Rattle.search_path.specs.declared.asking.Visit.{Visit}
use Rattle.search_path.specs.declared.asking.Ask.{Ask}
use Rattle.sheet_build.specs.Sheet.{SheetData, sheet_of, IsLargeAt, body_of_place}
use Rattle.sheet_build.specs.Keys.{key_of, IsRightFor}
use Rattle.sheet_build.specs.declared.keys.SheetKey.{SheetKey}
use Rattle.closure_fixpoint.specs.Analysis.{AnalysisHolds}
use Rattle.closure_fixpoint.specs.Closure.{IsClosureOf, answers_of}
use Rattle.closure_fixpoint.specs.Gathering.{files_among}
use Rattle.closure_fixpoint.specs.Laws.{ClosuresExist}
use Rattle.closure_fixpoint.specs.Progress.{Heard, DoneMeans, IsNewSheet, visits_told, with_search, with_sheet}
use Rattle.closure_fixpoint.specs.Told.{Progress, IsBegun, NextMeans, SaysLarge, AsksSearch, AsksSheet, IsDone, IsRefused, RefusalMeans, PutsSearch, PutsSheet, PutsLarge, StaysOf, OfSearch, OfSheet}
use Rattle.closure_fixpoint.specs.Driving.{IsTrueIn, IsDoneIn, is_large_in}
use Rattle.closure_fixpoint.specs.Requested.{ReadsEntries, RefusalsHold}
use Rattle.closure_fixpoint.specs.declared.job_analysis.Refusal.{Refusal}
use Rattle.closure_fixpoint.specs.declared.job_analysis.Refusal.TheVariants as refusal
use Rattle.closure_fixpoint.specs.declared.job_analysis.Analysed.TheVariants as analysed
use Rattle.closure_fixpoint.specs.declared.fixpoint.Closure.{Closure}
use Rattle.closure_fixpoint.specs.declared.fixpoint.Next.{Next}
use Rattle.closure_fixpoint.specs.declared.fixpoint.Next.TheVariants as next
use Rattle.job_ends.specs.Outside.{EndSeen}
use Rattle.job_ends.specs.Record.{Known, OfTree, Did, WayHolds, deeds_of}
use Rattle.job_ends.specs.declared.record.Way.TheVariants.{Local, Broken}
use Rattle.job_ends.specs.declared.record.Cause.{Cause}
use Rattle.job_ends.specs.declared.record.Cause.TheVariants as cause
use Rattle.job_ends.specs.declared.record.JobOutcome.TheVariants as end
use Rattle.job_ends.specs.declared.asking.Replied.TheVariants.{Failed}
use Rattle.job_ends.specs.Looks.{SheetCall, LooksSo, LooksFor, looked, missed}
use Rattle.job_ends.proofs.Deeds.{did-nothing}
use Rattle.client_steps.specs.declared.phase.Phase.TheVariants.{Goes, Concludes}
use Rattle.client_steps.specs.declared.phase.Advanced.{Advanced}
use Rattle.client_steps.specs.declared.phase.Advanced.TheVariants as adv
use Rattle.client_steps.specs.Phases.{IsSound, LookedFor, IsGoing, Awaits, IsLooking, HasFound, HasMissed, IsPublishing, RequestIsReady, WayIsSettled, Finished, StepHolds, HasAnswered, Advances, AdvancesBelow}
use Rattle.client_steps.proofs.Ends.{of-index, TreeUsed, unused, did-tree, rose-from, reads-same, reads-one, reads-files, reads-none, any-reads}

-- what a step leaves, by an equation of its result
by-result : (known : Known) (jobs : List Job) (hosts : List Host) (client : ℕ) (calls : List SheetCall) (from now : EndSeen) (r s : Advanced) → r ≡ s → StepHolds known jobs hosts client calls from now s → StepHolds known jobs hosts client calls from now r
by-result known jobs hosts client calls from now r s e h = subst (λ x. StepHolds known jobs hosts client calls from now x) (sym e) h

-- the same where the job is to be done locally
pub settled-so : (known : Known) (jobs : List Job) (hosts : List Host) (client n : ℕ) (why : Cause) (of : Job) (calls : List SheetCall) (from now : EndSeen) (r : Advanced) → r ≡ adv.Goes (Concludes n (Failed why)) → slice_get jobs n ≡ Some of → WayIsSettled known of hosts (Failed why) calls from now → StepHolds known jobs hosts client calls from now r
settled-so known jobs hosts client n why of calls from now r e listed judged = by-result known jobs hosts client calls from now r (adv.Goes (Concludes n (Failed why))) e (of, listed, judged)

-- or where its tree failed
pub broken-so : (known : Known) (jobs : List Job) (hosts : List Host) (n client : ℕ) (calls : List SheetCall) (from now : EndSeen) (r : Advanced) → r ≡ adv.Records (record { job = n; client = client; outcome = end.TreeFault; way = Broken })
    → Finished known jobs hosts client (record { job = n; client = client; outcome = end.TreeFault; way = Broken }) calls from now → StepHolds known jobs hosts client calls from now r
broken-so known jobs hosts n client calls from now r e finished = by-result known jobs hosts client calls from now r (adv.Records (record { job = n; client = client; outcome = end.TreeFault; way = Broken })) e finished

-- ---- what an analysis answers ----

-- one that answers something else than want of memory isn't without it
whole-by : (broken : Bool) (answer : Next) → (IsTrue broken → answer ≡ next.Memory) → (answer ≡ next.Memory → ⊥) → broken ≡ false
whole-by true answer breaks never = absurd (never (breaks refl))
whole-by false answer breaks never = refl

-- one that says nothing of a too large file was told of none
small-by : (large : Option Visit) (answer : Next) → ((visit : Visit) → large ≡ Some visit → SaysLarge answer) → (SaysLarge answer → ⊥) → large ≡ None
small-by None answer says never = refl
small-by (Some visit) answer says never = absurd (never (says visit refl))

search-not-large : (ask : Ask) → SaysLarge (next.Search ask) → ⊥
search-not-large ask (inl e) = absurd (cc)
search-not-large ask (inr e) = absurd (cc)

sheet-not-large : (visit : Visit) → SaysLarge (next.Sheet visit) → ⊥
sheet-not-large visit (inl e) = absurd (cc)
sheet-not-large visit (inr e) = absurd (cc)

refused-large : (r : Refusal) → SaysLarge (next.Refused r) → r ≡ refusal.Large
refused-large r (inl e) = cc
refused-large r (inr e) = absurd (cc)

pub not-search : (ask : Ask) → next.Search ask ≡ next.Memory → ⊥
not-search ask e = absurd (cc)

pub not-sheet : (visit : Visit) → next.Sheet visit ≡ next.Memory → ⊥
not-sheet visit e = absurd (cc)

pub not-done : (closure : Closure) → next.Done closure ≡ next.Memory → ⊥
not-done closure e = absurd (cc)

pub not-refused : (r : Refusal) → next.Refused r ≡ next.Memory → ⊥
not-refused r e = absurd (cc)

-- a job's analysis has answered, and not that memory is wanting
pub has-answered : (known : Known) (jobs : List Job) (n : ℕ) (a b : Progress) (got answer : Next) (calls : List SheetCall) (from before : EndSeen) → got ≡ answer → (answer ≡ next.Memory → ⊥)
    → NextMeans a answer b → ((visit : Visit) → a.heard.large ≡ Some visit → SaysLarge got) → (IsTrue a.broken → got ≡ next.Memory)
    → (job : Job) × (slice_get jobs n ≡ Some job) × IsGoing known job a calls from before → HasAnswered known jobs n a answer b calls from before
has-answered known jobs n a b got answer calls from before is never means large breaks h = record {
  job = h.0;
  listed = h.1;
  going = h.2;
  whole = whole-by a.broken answer (λ t. sym is ∙ breaks t) never;
  means = means;
  large = λ visit e. subst (λ (x : Next). SaysLarge x) is (large visit e);
}

-- its job is the one that was read at its number
pub phase_after-at : (known : Known) (jobs : List Job) (n : ℕ) (of : Job) (a b : Progress) (answer : Next) (calls : List SheetCall) (from before : EndSeen) → n < length jobs → of ≡ slice_index_or jobs n of
    → HasAnswered known jobs n a answer b calls from before → (slice_get jobs n ≡ Some of) × IsGoing known of a calls from before
phase_after-at known jobs n of a b answer calls from before lt is h =
    let same = of-index jobs n h.job of h.listed lt is in
    (h.listed ∙ ap Some same, subst (λ (j : Job). IsGoing known j a calls from before) same h.going)

-- a step from an answer is one from the analysis
pub goes-below : (jobs hosts n bound left : ℕ) (a : Progress) (r : Advanced) → bound ≤ 4 * left + 11 → AdvancesBelow jobs hosts n bound r → Advances jobs hosts (Goes n left a) r
goes-below jobs hosts n bound left a (adv.Goes new) le (works, (less, (same, none))) = (works, (omega (arith, le, less), (same, none)))
goes-below jobs hosts n bound left a (adv.Records done) le same = (omega arith, (ap Some (sym same), refl))
goes-below jobs hosts n bound left a (adv.Waits new wanted) le (waits, (less, (same, none))) = (waits, (inl (omega (arith, le, less)), (same, sym none)))

none-some : {X : Type 0} (o : Option X) (x : X) → o ≡ None → o ≡ Some x → ⊥
none-some o x none is = absurd (let e : None ≡ Some x = sym none ∙ is in cc)

-- a sheet that was built for a key is right for it
pub built-right : (tree : FileTree) (key : SheetKey) (sheet : SheetData) → sheet ≡ sheet_of tree key.setup key.visit → IsRightFor tree key sheet
built-right tree key sheet is = sym is

-- and so is its copy for a copy of the key
pub copied-right : (tree : FileTree) (key same_key : SheetKey) (sheet same_sheet : SheetData) → same_key ≡ key → same_sheet ≡ sheet → IsRightFor tree key sheet → IsRightFor tree same_key same_sheet
copied-right tree key same_key sheet same_sheet e f right =
    subst (λ (k : SheetKey). IsRightFor tree k same_sheet) (sym e) (subst (λ (s : SheetData). IsRightFor tree key s) (sym f) right)

module _ (known : Known) (of : Job) where
  no-calls : LooksSo known of [] []
  no-calls = record { once = tt; setups = tt; within = λ tree named. tt; matched = refl }

  -- ---- an analysis begins ----

  true-of-nothing : (tree : FileTree) → IsTrueIn tree of (record { searches = []; sheets = []; large = None })
  true-of-nothing tree = record { searches = λ ask got m. absurd m; sheets = λ visit sheet m. absurd m; large = λ visit e. absurd (cc) }

  begun : (a : Progress) (e : EndSeen) → IsBegun of known.budget a → IsGoing known of a [] e e
  begun a e fresh = record {
    open_keys = [];
    did = did-nothing e;
    sound = λ whole. record {
      job = ap (λ (p : Progress). p.job) fresh;
      budget = ap (λ (p : Progress). p.budget) fresh;
      true_of = λ tree named. subst (λ (h : Heard). IsTrueIn tree of h) (sym (ap (λ (p : Progress). p.heard) fresh)) (true-of-nothing tree);
    };
    looks = no-calls;
    looked_for = λ whole small. ap (λ (p : Progress). map (key_of of.setup) (visits_told p.heard) ++ []) (sym fresh);
    reads = reads-none e.reads;
    few = omega arith;
    opened = λ whole small. refl;
  }

  pub begun-at : (a : Progress) (calls : List SheetCall) (from now : EndSeen) → now ≡ from → calls ≡ [] → IsBegun of known.budget a → IsGoing known of a calls from now
  begun-at a calls from now same none fresh =
      subst (λ (e : EndSeen). IsGoing known of a calls from e) (sym same) (subst (λ (l : List SheetCall). IsGoing known of a l from from) (sym none) (begun a from fresh))

  -- ---- the job is judged with no exchange ----

  judge : (why : Cause) (calls : List SheetCall) (from now : EndSeen) → Did [] [] from now → WayHolds known of (deeds_of [] [] from now) (Local why) → LooksFor known of calls now.reads [] (Local why)
      → (hosts : List Host) (host : Host) → Member host hosts → WayIsSettled known of hosts (Failed why) calls from now
  judge why calls from now did way looks hosts host listed = record {
    host = host;
    listed = listed;
    settled = record { exchanges = []; did = did; way = way; gives = tt; host_is = tt };
    reads = now.reads;
    looks = looks;
    read = any-reads from.reads now.reads;
  }

  -- want of memory, with at most one key open
  pub starved : (calls : List SheetCall) (open_keys : List SheetKey) (from before now : EndSeen) → Did [] [] from before → LooksSo known of calls open_keys → length open_keys ≤ 1 → TreeUsed before now
      → (hosts : List Host) (host : Host) → Member host hosts → WayIsSettled known of hosts (Failed cause.Memory) calls from now
  starved calls open_keys from before now did looks few used hosts host listed =
      judge cause.Memory calls from now (did-tree from before now did used) (inl refl) (record { left = open_keys; looks = looks; few = few }, inl refl) hosts host listed

  pub going-starved : (a : Progress) (calls : List SheetCall) (from before now : EndSeen) → IsGoing known of a calls from before → TreeUsed before now → (hosts : List Host) (host : Host) → Member host hosts → WayIsSettled known of hosts (Failed cause.Memory) calls from now
  going-starved a calls from before now was used hosts host listed = starved calls was.open_keys from before now was.did was.looks was.few used hosts host listed

  starved-now : (e : EndSeen) (hosts : List Host) (host : Host) → Member host hosts → WayIsSettled known of hosts (Failed cause.Memory) [] e e
  starved-now e hosts host listed = starved [] [] e e e (did-nothing e) no-calls (omega arith) (unused e) hosts host listed

  pub starved-at-once : (calls : List SheetCall) (from now : EndSeen) → now ≡ from → calls ≡ [] → (hosts : List Host) (host : Host) → Member host hosts → WayIsSettled known of hosts (Failed cause.Memory) calls from now
  starved-at-once calls from now same none hosts host listed =
      subst (λ (e : EndSeen). WayIsSettled known of hosts (Failed cause.Memory) calls from e) (sym same) (subst (λ (l : List SheetCall). WayIsSettled known of hosts (Failed cause.Memory) l from from) (sym none) (starved-now from hosts host listed))

  -- a fault of the tree in the analysis
  pub tree-fault : (jobs : List Job) (hosts : List Host) (n client : ℕ) (calls : List SheetCall) (open_keys : List SheetKey) (from before now : EndSeen) → slice_get jobs n ≡ Some of
      → Did [] [] from before → LooksSo known of calls open_keys → length open_keys ≤ 1 → TreeUsed before now → Rose before.tree_faults now.tree_faults → (host : Host) → Member host hosts
      → Finished known jobs hosts client (record { job = n; client = client; outcome = end.TreeFault; way = Broken }) calls from now
  tree-fault jobs hosts n client calls open_keys from before now listed did looks few used rose host of_hosts =
      let all = did-tree from before now did used in
      let later : Rose from.tree_faults now.tree_faults = rose-from from.tree_faults before.tree_faults now.tree_faults did.tree rose in
      record {
        work = record { done = record { job = n; client = client; outcome = end.TreeFault; way = Broken }; deeds = deeds_of [] [] from now; calls = calls; reads = now.reads };
        done_is = refl;
        calls_are = refl;
        client_is = refl;
        works = record {
          job = of;
          listed = listed;
          host = host;
          of_hosts = of_hosts;
          did = record { exchanges = []; put = []; did = all; recorded = record { way = (refl, later); outcome = (refl, later); broken = λ _. refl }; host_is = tt };
          deeds_are = refl;
          looks = record { left = open_keys; looks = looks; few = few };
          read = any-reads from.reads now.reads;
        };
      }

  pub going-fault : (jobs : List Job) (hosts : List Host) (n client : ℕ) (a : Progress) (calls : List SheetCall) (from before now : EndSeen) → slice_get jobs n ≡ Some of
      → IsGoing known of a calls from before → TreeUsed before now → Rose before.tree_faults now.tree_faults → (host : Host) → Member host hosts
      → Finished known jobs hosts client (record { job = n; client = client; outcome = end.TreeFault; way = Broken }) calls from now
  going-fault jobs hosts n client a calls from before now listed was used rose host of_hosts =
      tree-fault jobs hosts n client calls was.open_keys from before now listed was.did was.looks was.few used rose host of_hosts

  -- ---- what an analysis was told ----

  search-true : (tree : FileTree) (h : Heard) (ask : Ask) (got : Option Hit) → IsTrueIn tree of h → search tree of.setup ask ≡ got → IsTrueIn tree of (with_search h ask got)
  search-true tree h ask got was right = record {
    searches = λ x y m. elim (Member-append (x, y) h.searches ((ask, got) ∷ []) m) [
      | inl old ↦ was.searches x y old
      | inr new ↦ elim new [
        | inl e ↦ subst (λ (p : Ask × Option Hit). search tree of.setup p.0 ≡ p.1) e right
        | inr none ↦ elim none [ ]
      ]
    ];
    sheets = was.sheets;
    large = was.large;
  }

  sheet-true : (tree : FileTree) (h : Heard) (visit : Visit) (sheet : SheetData) → IsTrueIn tree of h → sheet_of tree of.setup visit ≡ sheet → IsTrueIn tree of (with_sheet h visit sheet)
  sheet-true tree h visit sheet was right = record {
    searches = was.searches;
    sheets = λ v s m. elim (Member-append (v, s) h.sheets ((visit, sheet) ∷ []) m) [
      | inl old ↦ was.sheets v s old
      | inr new ↦ elim new [
        | inl e ↦ subst (λ (p : Visit × SheetData). sheet_of tree of.setup p.0 ≡ p.1) e right
        | inr none ↦ elim none [ ]
      ]
    ];
    large = was.large;
  }

  large-true : (tree : FileTree) (h : Heard) (visit : Visit) → IsTrueIn tree of h → IsLargeAt tree visit → IsTrueIn tree of (record h { large = Some visit })
  large-true tree h visit was large = record {
    searches = was.searches;
    sheets = was.sheets;
    large = λ v e. let same : visit ≡ v = cc in subst (λ (x : Visit). is_large_in tree x ≡ true) same (lt-ltb body_limit (length (body_of_place tree visit.place)) large);
  }

  -- an analysis of the same job, which was told the same, or something more that is true
  told-so : (a b : Progress) (h : Heard) → b.job ≡ a.job → b.budget ≡ a.budget → b.heard ≡ h → IsSound known of a → OfTree known (λ tree. IsTrueIn tree of h) → IsSound known of b
  told-so a b h job budget heard was true_of = record {
    job = job ∙ was.job;
    budget = budget ∙ was.budget;
    true_of = λ tree named. subst (λ (x : Heard). IsTrueIn tree of x) (sym heard) (true_of tree named);
  }

  told-more : (a b : Progress) (h : Heard) → IsSound known of a → b.heard ≡ h → StaysOf a b → OfTree known (λ tree. IsTrueIn tree of h) → IsSound known of b
  told-more a b h was heard stays true_of = told-so a b h stays.job stays.budget heard was true_of

  looked-by : (b : Progress) (h : Heard) (more : List SheetKey) (calls : List SheetCall) → b.heard ≡ h → looked calls ≡ map (key_of of.setup) (visits_told h) ++ more → LookedFor of b more calls
  looked-by b h more calls e same = same ∙ ap (λ (x : Heard). map (key_of of.setup) (visits_told x) ++ more) (sym e)

  -- ---- a sheet is told ----

  sheet-looked : (h : Heard) (visit : Visit) (sheet : SheetData) (key : SheetKey) → key ≡ key_of of.setup visit
      → map (key_of of.setup) (visits_told h) ++ key ∷ [] ≡ map (key_of of.setup) (visits_told (with_sheet h visit sheet)) ++ []
  sheet-looked h visit sheet key own =
      ap (λ k. map (key_of of.setup) (visits_told h) ++ k ∷ []) own
      ∙ sym (map-append (key_of of.setup) (visits_told h) (visit ∷ []))
      ∙ sym (ap (map (key_of of.setup)) (map-append (λ (told : Visit × SheetData). told.0) h.sheets ((visit, sheet) ∷ [])))
      ∙ sym (append-nil (map (key_of of.setup) (visits_told (with_sheet h visit sheet))))

  right-of : (tree : FileTree) (key : SheetKey) (sheet : SheetData) → key ≡ key_of of.setup key.visit → IsRightFor tree key sheet → sheet_of tree of.setup key.visit ≡ sheet
  right-of tree key sheet own right = ap (λ (k : SheetKey). sheet_of tree k.setup key.visit) (sym own) ∙ right

  sheet-told : (a b : Progress) (key : SheetKey) (sheet : SheetData) → Awaits known of a key → PutsSheet a key.visit sheet b → OfTree known (λ tree. IsRightFor tree key sheet) → IsSound known of b
  sheet-told a b key sheet awaits puts right =
      told-more a b (with_sheet a.heard key.visit sheet) awaits.sound puts.0 puts.2
      (λ tree named. sheet-true tree a.heard key.visit sheet (awaits.sound.true_of tree named) (right-of tree key sheet awaits.own (right tree named)))

  sheet-looked-for : (a b : Progress) (key : SheetKey) (sheet : SheetData) (calls : List SheetCall) → Awaits known of a key → PutsSheet a key.visit sheet b → LookedFor of a (key ∷ []) calls → LookedFor of b [] calls
  sheet-looked-for a b key sheet calls awaits puts so_far =
      looked-by b (with_sheet a.heard key.visit sheet) [] calls puts.0 (so_far ∙ sheet-looked a.heard key.visit sheet key awaits.own)

  -- one that the memo had
  pub found : (a b : Progress) (key : SheetKey) (sheet : SheetData) (calls : List SheetCall) (from now : EndSeen) → HasFound known of a key sheet calls from now
      → ((visit : Visit) → a.pending ≡ OfSheet visit → b.broken ≡ false → PutsSheet a visit sheet b) → IsGoing known of b calls from now
  found a b key sheet calls from now was told = record {
    open_keys = [];
    did = was.did;
    sound = λ whole. sheet-told a b key sheet was.awaits (told key.visit was.awaits.asked whole) was.right;
    looks = was.looks;
    looked_for = λ whole small. sheet-looked-for a b key sheet calls was.awaits (told key.visit was.awaits.asked whole) was.looked_for;
    reads = was.reads;
    few = omega arith;
    opened = λ whole small. refl;
  }

  -- one that was built, and is to be published
  pub published-next : (a b : Progress) (key : SheetKey) (sheet : SheetData) (calls : List SheetCall) (from before now : EndSeen) → HasMissed known of a key calls from before
      → ((visit : Visit) → a.pending ≡ OfSheet visit → b.broken ≡ false → PutsSheet a visit sheet b) → OfTree known (λ tree. IsRightFor tree key sheet) → TreeUsed before now → now.reads ≤ before.reads + 1
      → IsPublishing known of b key calls from now
  published-next a b key sheet calls from before now was told right used reads = record {
    did = did-tree from before now was.did used;
    sound = λ whole. sheet-told a b key sheet was.awaits (told key.visit was.awaits.asked whole) right;
    looks = was.looks;
    looked_for = λ whole small. sheet-looked-for a b key sheet calls was.awaits (told key.visit was.awaits.asked whole) was.looked_for;
    reads = reads-one from.reads before.reads now.reads (length (missed calls)) was.reads reads;
  }

  -- or its file is too large
  pub was-large : (a b : Progress) (key : SheetKey) (calls : List SheetCall) (from before now : EndSeen) → HasMissed known of a key calls from before
      → ((visit : Visit) → a.pending ≡ OfSheet visit → b.broken ≡ false → PutsLarge a visit b) → OfTree known (λ tree. IsLargeAt tree key.visit) → TreeUsed before now → now.reads ≤ before.reads + 1
      → IsGoing known of b calls from now
  was-large a b key calls from before now was told large used reads = record {
    open_keys = key ∷ [];
    did = did-tree from before now was.did used;
    sound = λ whole. let puts = told key.visit was.awaits.asked whole in
        told-more a b (record a.heard { large = Some key.visit }) was.awaits.sound puts.0 puts.2
        (λ tree named. large-true tree a.heard key.visit (was.awaits.sound.true_of tree named) (large tree named));
    looks = was.looks;
    looked_for = λ whole small. absurd (none-some b.heard.large key.visit small (ap (λ (h : Heard). h.large) (told key.visit was.awaits.asked whole).0));
    reads = reads-one from.reads before.reads now.reads (length (missed calls)) was.reads reads;
    few = omega arith;
    opened = λ whole small. absurd (none-some b.heard.large key.visit small (ap (λ (h : Heard). h.large) (told key.visit was.awaits.asked whole).0));
  }

  pub missed-starved : (a : Progress) (key : SheetKey) (calls : List SheetCall) (from before now : EndSeen) → HasMissed known of a key calls from before → TreeUsed before now → (hosts : List Host) (host : Host) → Member host hosts
      → WayIsSettled known of hosts (Failed cause.Memory) calls from now
  missed-starved a key calls from before now was used hosts host listed = starved calls (key ∷ []) from before now was.did was.looks (omega arith) used hosts host listed

  pub missed-fault : (jobs : List Job) (hosts : List Host) (n client : ℕ) (a : Progress) (key : SheetKey) (calls : List SheetCall) (from before now : EndSeen) → slice_get jobs n ≡ Some of
      → HasMissed known of a key calls from before → TreeUsed before now → Rose before.tree_faults now.tree_faults → (host : Host) → Member host hosts
      → Finished known jobs hosts client (record { job = n; client = client; outcome = end.TreeFault; way = Broken }) calls from now
  missed-fault jobs hosts n client a key calls from before now listed was used rose host of_hosts =
      tree-fault jobs hosts n client calls (key ∷ []) from before now listed was.did was.looks (omega arith) used rose host of_hosts

  -- ---- a search is answered ----

  closed-looks : (a : Progress) (calls : List SheetCall) (from now : EndSeen) (was : IsGoing known of a calls from now) → a.broken ≡ false → a.heard.large ≡ None → LooksSo known of calls []
  closed-looks a calls from now was whole small = subst (λ k. LooksSo known of calls k) (was.opened whole small) was.looks

  pub searched : (a b c : Progress) (ask : Ask) (got : Option Hit) (calls : List SheetCall) (from before now : EndSeen) → IsGoing known of a calls from before → a.broken ≡ false
      → ((visit : Visit) → a.heard.large ≡ Some visit → SaysLarge (next.Search ask)) → AsksSearch a ask b
      → ((x : Ask) (include : Bool) → b.pending ≡ OfSearch x include → c.broken ≡ false → PutsSearch b x got c) → OfTree known (λ tree. search tree of.setup ask ≡ got) → TreeUsed before now → now.reads ≡ before.reads
      → IsGoing known of c calls from now
  searched a b c ask got calls from before now was first_whole large asks told right used same =
      let sound = was.sound first_whole in
      let small = small-by a.heard.large (next.Search ask) large (search-not-large ask) in
      let e = asks.1.1 in
      let pending = ap (λ (p : Progress). p.pending) e in
      let heard : with_search b.heard ask got ≡ with_search a.heard ask got = ap (λ (p : Progress). with_search p.heard ask got) e in
      record {
        open_keys = [];
        did = did-tree from before now was.did used;
        sound = λ whole. let puts = told ask asks.1.0 pending whole in
            told-so a c (with_search a.heard ask got) (puts.2.job ∙ ap (λ (p : Progress). p.job) e) (puts.2.budget ∙ ap (λ (p : Progress). p.budget) e) (puts.0 ∙ heard) sound
            (λ tree named. search-true tree a.heard ask got (sound.true_of tree named) (right tree named));
        looks = closed-looks a calls from before was first_whole small;
        looked_for = λ whole _. let puts = told ask asks.1.0 pending whole in
            looked-by c (with_search a.heard ask got) [] calls (puts.0 ∙ heard) (was.looked_for first_whole small);
        reads = reads-same from.reads before.reads now.reads (length (missed calls)) was.reads same;
        few = omega arith;
        opened = λ whole _. refl;
      }

  -- ---- a sheet is asked for ----

  key-back : (visit : Visit) (visits : List Visit) → Member (key_of of.setup visit) (map (key_of of.setup) visits ++ []) → Member visit visits
  key-back visit [] m = elim m [ ]
  key-back visit (v ∷ visits) (inl e) = inl (ap (λ (k : SheetKey). k.visit) e)
  key-back visit (v ∷ visits) (inr m) = inr (key-back visit visits m)

  looking : (a b : Progress) (visit : Visit) (calls : List SheetCall) (from now : EndSeen) → ClosuresExist → OfTree known IsTree → IsGoing known of a calls from now → a.broken ≡ false → a.heard.large ≡ None → AsksSheet a visit b
      → IsLooking known of b (key_of of.setup visit) calls from now
  looking a b visit calls from now exist trees was whole small asks =
      let sound = was.sound whole in
      let e = asks.1.2 in
      let heard_is = ap (λ (p : Progress). p.heard) e in
      let same = was.looked_for whole small in
      let asked : IsNewSheet of a.heard visit = subst (λ (j : Job). IsNewSheet j a.heard visit) sound.job asks.0 in
      record {
        did = was.did;
        awaits = record {
          whole = ap (λ (p : Progress). p.broken) e ∙ whole;
          sound = told-so a b a.heard (ap (λ (p : Progress). p.job) e) (ap (λ (p : Progress). p.budget) e) heard_is sound sound.true_of;
          asked = ap (λ (p : Progress). p.pending) e;
          small = ap (λ (p : Progress). p.heard.large) e ∙ small;
          own = refl;
        };
        looks = closed-looks a calls from now was whole small;
        looked_for = looked-by b a.heard [] calls heard_is same;
        reads = was.reads;
        fresh = λ m. asked.fresh (key-back visit (visits_told a.heard) (subst (λ (l : List SheetKey). Member (key_of of.setup visit) l) same m));
        within = λ tree named. let closure = exist tree of (trees tree named) in
            (closure.0, closure.1, asked.wanted (answers_of tree of) (is_large_in tree) (sound.true_of tree named) closure.0 closure.1.closed);
      }

  pub asked-sheet : (a b : Progress) (visit : Visit) (key : SheetKey) (calls : List SheetCall) (from now : EndSeen) → ClosuresExist → OfTree known IsTree → IsGoing known of a calls from now → a.broken ≡ false
      → ((v : Visit) → a.heard.large ≡ Some v → SaysLarge (next.Sheet visit)) → AsksSheet a visit b → key ≡ key_of of.setup visit → IsLooking known of b key calls from now
  asked-sheet a b visit key calls from now exist trees was whole large asks made =
      let small = small-by a.heard.large (next.Sheet visit) large (sheet-not-large visit) in
      subst (λ (k : SheetKey). IsLooking known of b k calls from now) (sym made) (looking a b visit calls from now exist trees was whole small asks)

  -- ---- the closure is done ----

  visits-back : (visits : List Visit) → map (λ (key : SheetKey). key.visit) (map (key_of of.setup) visits ++ []) ≡ visits
  visits-back [] = refl
  visits-back (v ∷ visits) = ap (λ r. v ∷ r) (visits-back visits)

  closure-looked : (a : Progress) (visits : List Visit) (calls : List SheetCall) → visits ≡ visits_told a.heard → LookedFor of a [] calls → map (λ (key : SheetKey). key.visit) (looked calls) ≡ visits
  closure-looked a visits calls are so_far = ap (map (λ (key : SheetKey). key.visit)) so_far ∙ visits-back (visits_told a.heard) ∙ sym are

  done-in : (a b : Progress) (visits : List Visit) (nodes : List Path) → IsSound known of a → IsDone a visits nodes b → OfTree known (λ tree. IsDoneIn tree of known.budget visits nodes)
  done-in a b visits nodes sound done tree named = record {
    heard = a.heard;
    is_true = sound.true_of tree named;
    done = subst (λ (j : Job). DoneMeans j known.budget a.heard visits) sound.job (subst (λ (n : ℕ). DoneMeans a.job n a.heard visits) sound.budget done.means);
    nodes_are = done.nodes_are;
    rising = done.rising;
  }

  pub ready : (a b : Progress) (visits : List Visit) (nodes : List Path) (bytes : List ℕ) (calls : List SheetCall) (from before now : EndSeen) → IsGoing known of a calls from before → a.broken ≡ false → IsDone a visits nodes b
      → OfTree known (λ tree. (budget : ℕ) → IsDoneIn tree of budget visits nodes → AnalysisHolds tree of budget (analysed.Request bytes)) → TreeUsed before now
      → OfTree known (λ tree. (budget : ℕ) → IsDoneIn tree of budget visits nodes → ReadsEntries tree of before.reads now.reads (analysed.Request bytes)) → RequestIsReady known of bytes calls from now
  ready a b visits nodes bytes calls from before now was whole done means used reads =
      let sound = was.sound whole in
      let small = done.means.small in
      let done_in = done-in a b visits nodes sound done in
      record {
        did = did-tree from before now was.did used;
        request = λ tree named. (means tree named known.budget (done_in tree named)).0;
        none = λ tree named. (means tree named known.budget (done_in tree named)).1;
        looks = record {
          looks = closed-looks a calls from before was whole small;
          all = λ tree named. subst (λ (l : List Visit). IsClosureOf tree of l) (sym (closure-looked a visits calls done.told (was.looked_for whole small)))
              ((done_in tree named).done.closure (answers_of tree of) (is_large_in tree) (done_in tree named).is_true);
        };
        reads = λ tree named. let files = reads tree named known.budget (done_in tree named) in
            (files.0, files.1, reads-files from.reads before.reads now.reads (length (missed calls)) (files_among files.0) was.reads files.2);
      }

  -- the closure's files are refused
  pub gathered-refused : (a b : Progress) (visits : List Visit) (nodes : List Path) (r : Refusal) (calls : List SheetCall) (from before now : EndSeen) → IsGoing known of a calls from before → a.broken ≡ false → IsDone a visits nodes b
      → OfTree known (λ tree. (budget : ℕ) → IsDoneIn tree of budget visits nodes → AnalysisHolds tree of budget (analysed.Refused r)) → TreeUsed before now → (hosts : List Host) (host : Host) → Member host hosts
      → WayIsSettled known of hosts (Failed (cause.Analysis r)) calls from now
  gathered-refused a b visits nodes r calls from before now was whole done means used hosts host listed =
      judge (cause.Analysis r) calls from now (did-tree from before now was.did used) (refl, λ tree named. means tree named known.budget (done-in a b visits nodes (was.sound whole) done tree named))
      (record { left = was.open_keys; looks = was.looks; few = was.few }, inl (closed-looks a calls from before was whole done.means.small)) hosts host listed

  -- ---- the analysis refuses ----

  refused-looks : (a : Progress) (r : Refusal) (calls : List SheetCall) (from now : EndSeen) (large : Option Visit) → IsGoing known of a calls from now → a.broken ≡ false → a.heard.large ≡ large
      → ((visit : Visit) → a.heard.large ≡ Some visit → SaysLarge (next.Refused r)) → LooksSo known of calls [] ⊎ (r ≡ refusal.Large)
  refused-looks a r calls from now None was whole e says = inl (closed-looks a calls from now was whole e)
  refused-looks a r calls from now (Some visit) was whole e says = inr (refused-large r (says visit e))

  pub refused : (a b : Progress) (r : Refusal) (calls : List SheetCall) (from now : EndSeen) → RefusalsHold → OfTree known IsTree → IsGoing known of a calls from now → a.broken ≡ false
      → ((visit : Visit) → a.heard.large ≡ Some visit → SaysLarge (next.Refused r)) → IsRefused a r b → (hosts : List Host) (host : Host) → Member host hosts
      → WayIsSettled known of hosts (Failed (cause.Analysis r)) calls from now
  refused a b r calls from now hold trees was whole large means hosts host listed =
      let sound = was.sound whole in
      let why : RefusalMeans of known.budget a.heard r =
      subst (λ (j : Job). RefusalMeans j known.budget a.heard r) sound.job (subst (λ (n : ℕ). RefusalMeans a.job n a.heard r) sound.budget means.0) in
      judge (cause.Analysis r) calls from now was.did (refl, λ tree named. hold tree of known.budget a.heard r (trees tree named) (sound.true_of tree named) why)
      (record { left = was.open_keys; looks = was.looks; few = was.few }, refused-looks a r calls from now a.heard.large was whole refl large) hosts host listed
