-- What is planned next is right.
use Rattle.std.proofs.Common.{◌≡◌, ◌≤◌, ℕ, ◌∷◌, [], List, length, Option, Some, None, Bool, true, false, inl, refl, sym, subst, ◌∙◌, Result, Ok, Err}
use Rattle.std.proofs.lemmas.List.{take_all}
use Rattle.base_types.specs.Members.{Member}
use Rattle.base_types.specs.Limits.{visit_limit}
use Rattle.directive_scan.specs.declared.HeaderName.{HeaderName}
use Rattle.symbolic_expand.specs.Laws.{MoreKeepHeaders, MoreKeepLongRuns, MoreKeepPresumedRuns, MoreKeepManyRuns}
use Rattle.search_path.specs.Asks.{source_ask}
use Rattle.search_path.specs.Search.{Hit}
use Rattle.search_path.specs.declared.asking.Visit.{Visit}
use Rattle.search_path.specs.declared.asking.Ask.{Ask}
use Rattle.job_words.specs.JobOf.{JobData}
use Rattle.sheet_build.specs.Sheet.{SheetData, ComputedAsk}
use Rattle.tree_model.proofs.MemberLemmas.{Member-append_right}
use Rattle.closure_fixpoint.specs.declared.job_analysis.Refusal.{Refusal}
use Rattle.closure_fixpoint.specs.declared.job_analysis.Refusal.TheVariants.{Budget, Long, Presumed, Visits, Large, Request, NoSource}
use Rattle.closure_fixpoint.specs.declared.wanting.Want.{Want}
use Rattle.closure_fixpoint.specs.declared.wanting.Want.TheVariants as want
use Rattle.closure_fixpoint.specs.Closure.{first_asks, known_name}
use Rattle.closure_fixpoint.specs.Asked.{HasNoAnswer}
use Rattle.closure_fixpoint.specs.Progress.{Heard, FoundKeeps, IsTold, sets_told, AtFirst, ByFirst, SearchIsMade, WasSearched, IsEnough, IsAccepted}
use Rattle.closure_fixpoint.specs.parts.Wanting.{WantsOfAsk, WantsOfEach}
use Rattle.closure_fixpoint.specs.Targets.{RefusesNames, WantsOr, IsNextWant, IsRefusedTarget, DoneWithSheets}
use Rattle.closure_fixpoint.specs.Told.{RefusalMeans}
use Rattle.closure_fixpoint.specs.parts.Plan.{IsReady, IsMissing}
use Rattle.closure_fixpoint.proofs.ProgressLaws.{budget_refused, long_refused, presumed_refused}

-- WHAT IS WANTED OF THE FIRST SEARCHES

first_want : (job : JobData) (heard : Heard) (found : List Visit) (ask : Ask) (w : Want) → Member ask (first_asks job) → WantsOfAsk heard.searches found ask true (Some w) → IsNextWant job heard found w
first_want job heard found ask (want.Search a include) m (same, more, new) = (
  subst (λ (x : Ask). HasNoAnswer heard.searches x) (sym same) new,
  AtFirst (subst (λ (x : Ask). Member x (first_asks job)) (sym same) m),
  λ hit is_include.
      ByFirst a hit (subst (λ (x : Ask). Member x (first_asks job)) (sym same) m)
      (Member-append_right {X = Ask × Option Hit} (a, Some hit) heard.searches ((a, Some hit) ∷ []) (inl refl)) refl,
)
first_want job heard found ask (want.Visit visit) m (got, told, new) = (
  ByFirst ask new.hit m (subst (λ (o : Option Hit). Member {X = Ask × Option Hit} (ask, o) heard.searches) new.is_got told) new.is_visit,
  new.new,
)

pub wants_first : (job : JobData) (heard : Heard) (found : List Visit) (o : Option Want) (w : Want) → WantsOfEach heard.searches found (first_asks job) o → o ≡ Some w → IsNextWant job heard found w
wants_first job heard found None w wants is = absurd (cc)
wants_first job heard found (Some v) w (ask, m, wants) is =
    let same : v ≡ w = cc in subst (λ (x : Want). IsNextWant job heard found x) same (first_want job heard found ask v m wants)

pub source_made : (job : JobData) (heard : Heard) (found : List Visit) (o : Option Want) → WantsOfEach heard.searches found (first_asks job) o → o ≡ None → WasSearched heard (source_ask job.source)
source_made job heard found None all is = let made : SearchIsMade heard.searches found (source_ask job.source) true = all (source_ask job.source) (inl refl) in (made.got, made.told)
source_made job heard found (Some w) wants is = absurd (cc)

first_made : (job : JobData) (heard : Heard) (found : List Visit) (o : Option Want) → WantsOfEach heard.searches found (first_asks job) o → o ≡ None → WantsOfEach heard.searches found (first_asks job) None
first_made job heard found o wants is = subst (λ (x : Option Want). WantsOfEach heard.searches found (first_asks job) x) is wants

-- THE SOURCE

pub is_missing : (searches : List (Ask × Option Hit)) (ask : Ask) (b : Bool) → IsMissing searches ask b → b ≡ true → Member (ask, None) searches
is_missing searches ask true m is = m
is_missing searches ask false m is = absurd (cc)

pub is_there : (searches : List (Ask × Option Hit)) (ask : Ask) (b : Bool) → IsMissing searches ask b → b ≡ false → IsMissing searches ask false
is_there searches ask b m is = subst (λ (x : Bool). IsMissing searches ask x) is m

-- THE TARGETS

pub wants_done : (job : JobData) (budget : ℕ) (heard : Heard) (found : List Visit) (Done : Type 0) (r : Result (Option Want) Refusal) (o : Option Want) → WantsOr job budget heard found Done r → r ≡ Ok o → o ≡ None → Done
wants_done job budget heard found Done r o wants is none =
    subst (λ (x : Option Want). WantsOr job budget heard found Done (Ok x)) none (subst (λ (x : Result (Option Want) Refusal). WantsOr job budget heard found Done x) is wants)

pub wants_refused : (job : JobData) (budget : ℕ) (heard : Heard) (found : List Visit) (Done : Type 0) (r : Result (Option Want) Refusal) (refusal : Refusal) → WantsOr job budget heard found Done r → r ≡ Err refusal
    → IsRefusedTarget job budget heard refusal
wants_refused job budget heard found Done r refusal wants is = subst (λ (x : Result (Option Want) Refusal). WantsOr job budget heard found Done x) is wants

-- nothing is left to ask, and no refusal is met
pub all_done : (job : JobData) (budget : ℕ) (heard : Heard) (found : List Visit) (o : Option Want) → IsReady job heard found → heard.large ≡ None → length found ≤ visit_limit → length found ≤ length heard.sheets
    → WantsOfEach heard.searches found (first_asks job) o → o ≡ None → IsMissing heard.searches (source_ask job.source) false → DoneWithSheets job budget heard found heard.sheets
    → IsEnough job heard found × IsAccepted job budget heard found
all_done job budget heard found o ready small few all wants none there done = (
  record {
    sheets = λ visit m. subst (λ (l : List Visit). Member visit l) (sym (ready.in_order ∙ take_all (length heard.sheets) found all)) m;
    plain = ready.plain;
    first = first_made job heard found o wants none;
    computed = λ visit sheet c header told may. (done visit sheet c told.told told.stands).made header may;
  },
  record {
    few = few;
    small = small;
    source = there;
    within_budget = λ visit sheet c told holds. (done visit sheet c told.told told.stands).accepted Budget holds;
    short = λ visit sheet c told holds. (done visit sheet c told.told told.stands).accepted Long holds;
    told = λ visit sheet c told holds. (done visit sheet c told.told told.stands).accepted Presumed holds;
  },
)

module _ (keep : MoreKeepHeaders HeaderName) (long : MoreKeepLongRuns) (presumed : MoreKeepPresumedRuns) (many : MoreKeepManyRuns) (job : JobData) (budget : ℕ) (heard : Heard) (found : List Visit) where
  refused_by : FoundKeeps job heard found → (refusal : Refusal) (visit : Visit) (sheet : SheetData) (c : ComputedAsk) → IsTold heard visit sheet c
      → RefusesNames budget (sets_told job heard) (known_name sheet visit) c.tokens refusal → RefusalMeans job budget heard refusal
  refused_by keeps Budget visit sheet c told holds = budget_refused keep long presumed many job budget heard found keeps visit sheet c told holds
  refused_by keeps Long visit sheet c told holds = long_refused keep long presumed many job budget heard found keeps visit sheet c told holds
  refused_by keeps Presumed visit sheet c told holds = presumed_refused keep long presumed many job budget heard found keeps visit sheet c told holds
  refused_by keeps Visits visit sheet c told holds = absurd holds
  refused_by keeps Large visit sheet c told holds = absurd holds
  refused_by keeps Request visit sheet c told holds = absurd holds
  refused_by keeps NoSource visit sheet c told holds = absurd holds

  pub target_refused : FoundKeeps job heard found → (refusal : Refusal) → IsRefusedTarget job budget heard refusal → RefusalMeans job budget heard refusal
  target_refused keeps refusal t = refused_by keeps refusal t.visit t.sheet t.c t.is_told t.holds
