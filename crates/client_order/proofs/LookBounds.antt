-- How often the jobs of a run look into the memo.
use Rattle.std.proofs.Common.{arith, ◌≡◌, ◌⊎◌, ℕ, suc, ◌≤◌, Bool, true, cond, List, [], ◌∷◌, map, length, Some, sym, ◌∙◌, subst, inl, inr}
use Rattle.std.proofs.lemmas.List.{length-map}
use Rattle.std.proofs.lemmas.List.Sums.{length-filter}
use Rattle.std.specs.List.{filter, AllByRecursion}
use Rattle.base_types.specs.Members.{Member, Within, EachOnce}
use Rattle.tree_model.specs.Trees.{FileTree}
use Rattle.search_path.specs.declared.asking.Visit.{Visit}
use Rattle.job_words.specs.declared.job.Job.{Job}
use Rattle.io_edges.specs.declared.wire.Exchange.{Exchange}
use Rattle.closure_memo.specs.declared.step.What.{What}
use Rattle.closure_memo.specs.History.{is_look}
use Rattle.sheet_build.specs.declared.keys.SheetKey.{SheetKey}
use Rattle.closure_fixpoint.specs.Closure.{IsClosureOf, InClosure}
use Rattle.closure_fixpoint.specs.Laws.{ClosuresAreOne}
use Rattle.closure_fixpoint.specs.declared.job_analysis.Refusal.{Refusal}
use Rattle.closure_fixpoint.specs.declared.job_analysis.Refusal.TheVariants as refusal
use Rattle.closure_fixpoint.proofs.ClosedLaws.{few as few_of}
use Rattle.job_ends.specs.Record.{Known, Deeds, WayHolds, IsRecord}
use Rattle.job_ends.specs.declared.record.Way.{Way}
use Rattle.job_ends.specs.declared.record.Way.TheVariants.{Remote, Local, Broken}
use Rattle.job_ends.specs.declared.record.Cause.TheVariants as cause
use Rattle.job_ends.specs.Looks.{SheetCall, keys_where, looked, LooksSo, LooksAll, LooksFor}
use Rattle.job_ends.specs.Works.{Work, EachRecord, EachLooks}
use Rattle.client_order.specs.Ran.{count_calls, may_leave, is_analysed, AnalysisEnded, LooksSize, EachLooksSize}

-- ---- the visits looked for ----

abbrev visits_of : List SheetKey → List Visit
visits_of keys = map (λ (key : SheetKey). key.visit) keys

abbrev AreOf : Job → List SheetKey → Type 0
AreOf job keys = AllByRecursion (λ (key : SheetKey). key.setup ≡ job.setup) keys

same-key : (a b : SheetKey) → a.setup ≡ b.setup → a.visit ≡ b.visit → a ≡ b
same-key a b setup visit = λ i. record { setup = setup i; visit = visit i }

key-there : (job : Job) (key : SheetKey) (keys : List SheetKey) → key.setup ≡ job.setup → AreOf job keys → Member key.visit (visits_of keys) → Member key keys
key-there job key [] same all m = elim m [ ]
key-there job key (k ∷ keys) same all (inl is) = inl (same-key k key (all.0 ∙ sym same) is)
key-there job key (k ∷ keys) same all (inr m) = inr (key-there job key keys same all.1 m)

visits-once : (job : Job) (keys : List SheetKey) → AreOf job keys → EachOnce keys → EachOnce (visits_of keys)
visits-once job [] all once = tt
visits-once job (k ∷ keys) all once = (λ m. once.0 (key-there job k keys all.0 all.1 m), visits-once job keys all.1 once.1)

visits-within : ClosuresAreOne → (tree : FileTree) (job : Job) (visits : List Visit) (keys : List SheetKey) → IsClosureOf tree job visits
    → AllByRecursion (λ (key : SheetKey). InClosure tree job key.visit) keys → Within (visits_of keys) visits
visits-within one tree job visits [] closure all visit m = elim m [ ]
visits-within one tree job visits (k ∷ keys) closure all visit (inl is) = subst (λ (v : Visit). Member v visits) is (one tree job all.0.0 visits all.0.1 closure k.visit all.0.2)
visits-within one tree job visits (k ∷ keys) closure all visit (inr m) = visits-within one tree job visits keys closure all.1 visit m

-- so many calls of a kind as they have keys
pub kind-count : (kind : What → Bool) (calls : List SheetCall) → count_calls kind calls ≡ length (keys_where kind calls)
kind-count kind calls = sym (length-map (filter (λ (c : SheetCall). kind c.what) calls) (λ (c : SheetCall). c.key) ∙ length-filter (λ (c : SheetCall). kind c.what) calls)

looks-visits : (calls : List SheetCall) → count_calls is_look calls ≡ length (visits_of (looked calls))
looks-visits calls = kind-count is_look calls ∙ sym (length-map (looked calls) (λ (key : SheetKey). key.visit))

-- ---- what a way says of a job's calls ----

-- the calls, with the keys that were left
pub record Leaves (known : Known) (job : Job) (calls : List SheetCall) (way : Way) : Type 0 where
  pub left : List SheetKey
  pub looks : LooksSo known job calls left
  pub few : length left ≤ cond (may_leave way) 1 0

at-least-none : (n : ℕ) → 0 ≤ n
at-least-none n = omega arith

none-left : (known : Known) (job : Job) (calls : List SheetCall) (way : Way) → LooksSo known job calls [] → Leaves known job calls way
none-left known job calls way so = record { left = []; looks = so; few = at-least-none (cond (may_leave way) 1 0) }

pub leaves : (known : Known) (job : Job) (calls : List SheetCall) (reads : ℕ) (exchanges : List Exchange) (way : Way) → LooksFor known job calls reads exchanges way → Leaves known job calls way
leaves known job calls reads exchanges Remote h = none-left known job calls Remote h.0.looks
leaves known job calls reads exchanges (Local cause.Link) h = none-left known job calls (Local cause.Link) h.looks
leaves known job calls reads exchanges (Local cause.Peer) h = none-left known job calls (Local cause.Peer) h.looks
leaves known job calls reads exchanges (Local cause.DaemonMemory) h = none-left known job calls (Local cause.DaemonMemory) h.looks
leaves known job calls reads exchanges (Local cause.Memory) h = record { left = h.0.left; looks = h.0.looks; few = h.0.few }
leaves known job calls reads exchanges (Local (cause.Analysis r)) h = by h.1
  where
    large : Leaves known job calls (Local (cause.Analysis refusal.Large))
    large = record { left = h.0.left; looks = h.0.looks; few = h.0.few }

    by : LooksSo known job calls [] ⊎ (r ≡ refusal.Large) → Leaves known job calls (Local (cause.Analysis r))
    by (inl so) = none-left known job calls (Local (cause.Analysis r)) so
    by (inr is) = subst (λ (q : Refusal). Leaves known job calls (Local (cause.Analysis q))) (sym is) large
leaves known job calls reads exchanges Broken h = record { left = h.left; looks = h.looks; few = h.few }

-- a job whose analysis came to its end looked for all
looks-all : (known : Known) (job : Job) (calls : List SheetCall) (reads : ℕ) (exchanges : List Exchange) (way : Way) → LooksFor known job calls reads exchanges way → is_analysed way ≡ true → LooksAll known job calls
looks-all known job calls reads exchanges Remote h is = h.0
looks-all known job calls reads exchanges (Local cause.Link) h is = h
looks-all known job calls reads exchanges (Local cause.Peer) h is = h
looks-all known job calls reads exchanges (Local cause.DaemonMemory) h is = h
looks-all known job calls reads exchanges (Local cause.Memory) h is = absurd (cc)
looks-all known job calls reads exchanges (Local (cause.Analysis r)) h is = absurd (cc)
looks-all known job calls reads exchanges Broken h is = absurd (cc)

-- and so did a job that asked its host
asked-all : (known : Known) (job : Job) (calls : List SheetCall) (reads : ℕ) (deeds : Deeds) (way : Way) → LooksFor known job calls reads deeds.exchanges way → WayHolds known job deeds way
    → (deeds.exchanges ≡ [] → ⊥) → LooksAll known job calls
asked-all known job calls reads deeds Remote h holds asked = h.0
asked-all known job calls reads deeds (Local cause.Link) h holds asked = h
asked-all known job calls reads deeds (Local cause.Peer) h holds asked = h
asked-all known job calls reads deeds (Local cause.DaemonMemory) h holds asked = h
asked-all known job calls reads deeds (Local cause.Memory) h holds asked = elim h.1 [ inl none ↦ absurd (asked none) | inr all ↦ all ]
asked-all known job calls reads deeds (Local (cause.Analysis r)) h holds asked = absurd (asked holds.0)
asked-all known job calls reads deeds Broken h holds asked = absurd (asked holds.0)

all-looked : (known : Known) (job : Job) (w : Work) → LooksFor known job w.calls w.reads w.deeds.exchanges w.done.way → IsRecord known job w.done w.deeds → AnalysisEnded w → LooksAll known job w.calls
all-looked known job w h recorded (inl is) = looks-all known job w.calls w.reads w.deeds.exchanges w.done.way h is
all-looked known job w h recorded (inr asked) = asked-all known job w.calls w.reads w.deeds w.done.way h recorded.way asked

-- ---- the looks ----

module _ (one : ClosuresAreOne) (known : Known) (tree : FileTree) (named : known.named ≡ Some tree) where
  looks-few : (job : Job) (calls : List SheetCall) (left : List SheetKey) → LooksSo known job calls left → (visits : List Visit) → IsClosureOf tree job visits → count_calls is_look calls ≤ length visits
  looks-few job calls left so visits closure =
      let few : length (visits_of (looked calls)) ≤ length visits =
      few_of (visits_of (looked calls)) visits (visits-once job (looked calls) so.setups so.once) (visits-within one tree job visits (looked calls) closure (so.within tree named)) in
      let counted : count_calls is_look calls ≡ length (visits_of (looked calls)) = looks-visits calls in
      omega (arith, few, counted)

  looks-size : (job : Job) (w : Work) → LooksFor known job w.calls w.reads w.deeds.exchanges w.done.way → IsRecord known job w.done w.deeds → LooksSize tree job w
  looks-size job w h recorded = record {
    few = λ visits closure once. let l = leaves known job w.calls w.reads w.deeds.exchanges w.done.way h in looks-few job w.calls l.left l.looks visits closure;
    whole = λ is.
        let all = all-looked known job w h recorded is in
        (visits_of (looked w.calls), all.all tree named, visits-once job (looked w.calls) all.looks.setups all.looks.once, looks-visits w.calls);
  }

  pub each-size : (k : ℕ) (jobs : List Job) (works : List Work) → EachRecord known k jobs works → EachLooks known jobs works → EachLooksSize tree jobs works
  each-size k (job ∷ jobs) (w ∷ works) each h = (looks-size job w h.0 each.1.0, each-size (suc k) jobs works each.1.1 h.1)
  each-size k [] works each h = tt
  each-size k (job ∷ jobs) [] each h = tt
