-- What the clients of a run did, whatever the order of their steps. No definition here names an order.
use Rattle.std.specs.Prelude.{◌≡◌, ◌⊎◌, ◌≤◌, ◌<◌, ℕ, ◌+◌, ◌-◌, ◌==◌, Bool, true, false, List, [], ◌∷◌, map, length, Option, Some, None, slice_get}
use Rattle.std.specs.List.{filter, flat_map, filter_map, sum_by, count_by, AllByRecursion}
use Rattle.std.specs.Option.{ForSome}
use Rattle.base_types.specs.Members.{EachOnce}
use Rattle.base_types.specs.Limits.{memo_limit}
use Rattle.tree_model.specs.Trees.{FileTree}
use Rattle.tree_model.specs.Entries.{Entries}
use Rattle.search_path.specs.declared.asking.Visit.{Visit}
use Rattle.job_words.specs.declared.job.Job.{Job}
use Rattle.io_edges.specs.declared.wire.Host.{Host}
use Rattle.closure_fixpoint.specs.Analysis.{AreEntriesOf}
use Rattle.closure_fixpoint.specs.declared.job_analysis.Refusal.TheVariants as refusal
use Rattle.job_ends.specs.Outside.{EndSeen}
use Rattle.job_ends.specs.Record.{Known, OfTree}
use Rattle.job_ends.specs.declared.record.Done.{Done}
use Rattle.job_ends.specs.declared.record.Way.{Way}
use Rattle.job_ends.specs.declared.record.Way.TheVariants.{Remote, Local, Broken}
use Rattle.job_ends.specs.declared.record.Cause.TheVariants as cause
use Rattle.closure_memo.specs.declared.step.MemoCall.{MemoCall}
use Rattle.closure_memo.specs.declared.step.What.{What}
use Rattle.closure_memo.specs.History.{IsLegal, AreNumbered, is_look, is_hit, is_new, is_already, is_full, is_publication}
use Rattle.sheet_build.specs.declared.keys.SheetKey.{SheetKey}
use Rattle.closure_fixpoint.specs.Closure.{IsClosureOf}
use Rattle.closure_fixpoint.specs.Gathering.{files_among}
use Rattle.job_ends.specs.Looks.{SheetCall, sheet_call}
use Rattle.job_ends.specs.Works.{Work, works_of, EachEnd, EachRecord, EachLooks, EachServed, EachAgrees, ToHosts}
use Rattle.client_order.specs.declared.totals.Totals.{Totals}

-- ---- the memo at the end of a run ----

-- a memo: the limit of its weights, its keys in order of first sight, and its history
pub record MemoSeen : Type 0 where
  pub limit : ℕ
  pub keys : List SheetKey
  pub steps : List MemoCall

-- it is legal: its keys are numbered by first sight, and each step may come after those before it
pub record IsLegalMemo (memo : MemoSeen) : Type 0 where
  pub numbered : AreNumbered memo.keys memo.steps
  pub legal : IsLegal memo.limit memo.steps

abbrev pub keyed : What → Option SheetKey → Option SheetCall
keyed what None = None
keyed what (Some key) = Some (sheet_call key what)

abbrev pub call_at : List SheetKey → MemoCall → Option SheetCall
call_at keys s = keyed s.what (slice_get keys s.key)

-- the calls of one client, in their order, each with its key
abbrev pub calls_of : ℕ → MemoSeen → List SheetCall
calls_of client memo = filter_map (call_at memo.keys) (filter (λ (s : MemoCall). s.client == client) memo.steps)

-- how many calls of a kind a history has
abbrev pub count_steps : (What → Bool) → List MemoSeen → ℕ
count_steps kind memos = sum_by (λ (m : MemoSeen). count_by (λ (s : MemoCall). kind s.what) m.steps) memos

abbrev pub count_calls : (What → Bool) → List SheetCall → ℕ
count_calls kind calls = count_by (λ (c : SheetCall). kind c.what) calls

abbrev pub count_works : (What → Bool) → List Work → ℕ
count_works kind works = sum_by (λ (w : Work). count_calls kind w.calls) works

-- ---- totals ----

abbrev pub counted : List MemoSeen → Totals
counted memos = record {
  looks = count_steps is_look memos;
  hits = count_steps is_hit memos;
  kept = count_steps is_new memos;
  already = count_steps is_already memos;
  full = count_steps is_full memos;
}

-- The totals are those of one legal history, whose calls are those of the works: client by client where one thread made them,
-- and together where several did.
pub record Tallies (threads : Bool) (works : List Work) (totals : Totals) : Type 0 where
  pub memos : List MemoSeen
  pub limits : map (λ (m : MemoSeen). m.limit) memos ≡ memo_limit ∷ []
  pub legal : AllByRecursion IsLegalMemo memos
  pub totals_are : totals ≡ counted memos
  pub looks : count_works is_look works ≡ count_steps is_look memos
  pub hits : count_works is_hit works ≡ count_steps is_hit memos
  pub publications : count_works is_publication works ≡ count_steps is_publication memos
  pub own : threads ≡ false → (client : ℕ) → flat_map (λ (w : Work). w.calls) (works_of client works) ≡ flat_map (calls_of client) memos

-- ---- the run ----

-- One record for each job in order, each with its work; the ends, by the works of their clients; calls, reads and totals; and where
-- each exchange was answered as the daemon answers, each outcome is that of preprocessing over the whole tree.
pub record ClientsRan (known : Known) (jobs : List Job) (hosts : List Host) (clients : ℕ) (threads : Bool) (before after : List EndSeen) (records : List Done) (totals : Totals) : Type 0 where
  pub works : List Work
  pub records_are : map (λ (w : Work). w.done) works ≡ records
  pub each : EachRecord known 0 jobs works
  pub ends : EachEnd 0 works before after
  pub by_clients : AllByRecursion (λ (w : Work). w.done.client < clients) works
  pub to_hosts : ToHosts hosts works
  pub looked : EachLooks known jobs works
  pub tallies : Tallies threads works totals
  pub agrees : EachServed after → ForSome known.named (λ tree. EachAgrees tree jobs works)

-- ---- three bounds on the totals and on the reads ----

-- the way of a job that was stopped in its analysis, by a fault, want of memory or a file that is too large
abbrev pub may_leave : Way → Bool
may_leave Remote = false
may_leave (Local cause.Link) = false
may_leave (Local cause.Peer) = false
may_leave (Local cause.DaemonMemory) = false
may_leave (Local cause.Memory) = true
may_leave (Local (cause.Analysis refusal.Large)) = true
may_leave (Local (cause.Analysis refused)) = false
may_leave Broken = true

-- the way of a job whose analysis came to its end
abbrev pub is_analysed : Way → Bool
is_analysed Remote = true
is_analysed (Local cause.Link) = true
is_analysed (Local cause.Peer) = true
is_analysed (Local cause.DaemonMemory) = true
is_analysed (Local cause.Memory) = false
is_analysed (Local (cause.Analysis refused)) = false
is_analysed Broken = false

-- the analysis of the job came to its end: its way says so, or its host was asked
abbrev pub AnalysisEnded : Work → Type 0
AnalysisEnded w = (is_analysed w.done.way ≡ true) ⊎ (w.deeds.exchanges ≡ [] → ⊥)

-- a job looks at most as often as its least closed set has visits, and just as often where its analysis came to its end
pub record LooksSize (tree : FileTree) (job : Job) (w : Work) : Type 0 where
  pub few : (visits : List Visit) → IsClosureOf tree job visits → EachOnce visits → count_calls is_look w.calls ≤ length visits
  pub whole : AnalysisEnded w → (visits : List Visit) × IsClosureOf tree job visits × EachOnce visits × (count_calls is_look w.calls ≡ length visits)

abbrev pub EachLooksSize : FileTree → List Job → List Work → Type 0
EachLooksSize tree (job ∷ jobs) (w ∷ works) = LooksSize tree job w × EachLooksSize tree jobs works
EachLooksSize tree [] works = Unit {0}
EachLooksSize tree (job ∷ jobs) [] = Unit {0}

-- so many files stand among the entries of the jobs
abbrev pub FilesOf : FileTree → List Job → ℕ → Type 0
FilesOf tree [] n = n ≡ 0
FilesOf tree (job ∷ jobs) n = (entries : Entries) × AreEntriesOf tree job entries × ((rest : ℕ) × FilesOf tree jobs rest × (n ≡ files_among entries + rest))

abbrev pub all_reads : List EndSeen → ℕ
all_reads ends = sum_by (λ (e : EndSeen). e.reads) ends

pub record BoundsHold (known : Known) (jobs : List Job) (before after : List EndSeen) (works : List Work) (totals : Totals) : Type 0 where
  pub looks : OfTree known (λ tree. EachLooksSize tree jobs works)
  pub unpublished : totals.looks ≤ totals.hits + (totals.kept + (totals.already + (totals.full + count_by (λ (w : Work). may_leave w.done.way) works)))
  pub reads : OfTree known (λ tree. AllByRecursion (λ (w : Work). w.done.way ≡ Remote) works
      → (files : ℕ) × FilesOf tree jobs files × (all_reads after ≤ all_reads before + ((totals.looks - totals.hits) + files)))

-- the law: what every run of clients keeps
abbrev pub RunsAreBounded : Type 0
RunsAreBounded =
    (known : Known) (jobs : List Job) (hosts : List Host) (clients : ℕ) (threads : Bool) (before after : List EndSeen) (records : List Done) (totals : Totals)
    → (ran : ClientsRan known jobs hosts clients threads before after records totals) → BoundsHold known jobs before after ran.works totals
