-- The clause on pump: its run, from the words and the list to the ends, the report and the status.
--
--     what is claimed of a run                               the field of `IsRun`               its definition
--     each outcome is that of preprocessing the whole tree   cause: ClientsRan.agrees           JobAgrees.outcome (job_ends, Works)
--         its premise, where the hosts are daemons           answered, with served_by_daemon    EachServed (job_ends, Works)
--     a job that was sent was sent exactly its files         cause: ClientsRan.each             WayHolds (job_ends, Record)
--     a job is done locally for a reason that holds          cause: ClientsRan.each             WayHolds (job_ends, Record)
--         and never for what a daemon answered               cause: ClientsRan.agrees           JobAgrees.no_peer, JobAgrees.calm
--     whatever the order of the clients' steps               cause: JobsRan.ran                 ClientsRan (client_order, Ran)
--     each sheet is looked for once, and built where none
--         was found; the totals are those of one history     cause: ClientsRan.looked, .tallies LooksFor (job_ends, Looks), Tallies
--     the jobs are those of the list, read to its end        cause: JobsRan.listed, .read       jobs_of (compile_list, Listed)
--     outputs, talks and counts are those of the jobs        ends                               EndHolds (job_ends, Works)
--     the report and the status say what happened            report, status_is                  report_text (Report), StatusIs
--     nothing stands in the way but want of memory,          complete                           IsComplete
--         where nothing failed
use Rattle.std.specs.Prelude.{◌≡◌, Ok, Err, ℕ, ◌⊎◌, List, [], length, map, take, Bool, false, cond, Option, None, Some, IsSome, if◌then◌else◌}
use Rattle.std.specs.List.{list_any, AllByRecursion}
use Rattle.std.specs.Option.{ForSome}
use Rattle.tree_model.specs.Trees.{FileTree}
use Rattle.job_words.specs.declared.job.Job.{Job}
use Rattle.io_edges.specs.declared.wire.Host.{Host}
use Rattle.base_types.specs.Causes.{Rose}
use Rattle.base_types.specs.Told.{added}
use Rattle.io_edges.specs.Talk.{EachAnswered}
use Rattle.job_frames.specs.Daemon.{Daemon}
use Rattle.daemon_answers.specs.Answers.{Answers}
use Rattle.job_ends.specs.declared.record.JobOutcome.{JobOutcome}
use Rattle.job_ends.specs.Agree.{IsCalm}
use Rattle.job_ends.specs.Outside.{EndSeen}
use Rattle.job_ends.specs.Record.{known}
use Rattle.job_ends.specs.Works.{Work, EachEnd, EachServed, EachCalm, is_memory, is_out_fault, is_tree_fault, is_diag}
use Rattle.client_order.specs.Ran.{ClientsRan}
use Rattle.client_order.specs.declared.totals.Totals.{Totals}
use Rattle.compile_list.specs.Listed.{jobs_of}
use Rattle.run_words.specs.Asked.{Settings, settings_of}
use Rattle.pump_run.specs.Report.{PumpEnding, Usage, ListRefused, ListFault, SpawnFault, NoMemory, Ran, report_text}

-- ---- the outside before the call and after it ----

pub record RunCounts : Type 0 where
  pub list : ℕ
  pub spawner : ℕ
  pub report : ℕ

pub record Outside : Type 0 where
  pub ends : List EndSeen
  pub left : Option (List ℕ)
  pub report : Option (List ℕ)
  pub begun : List (ℕ × Host)
  pub running : List Host
  pub asked : Bool
  pub counts : RunCounts

-- what the call is given beside the outside
pub record PumpGiven : Type 1 where
  pub named : Option FileTree
  pub peer : List ℕ → List ℕ → Type 0
  pub words : List (List ℕ)

-- what the words ask of the ends that there are
abbrev pub settings_asked_for : PumpGiven → Outside → Option Settings
settings_asked_for given before = settings_of (length before.ends) given.words

-- the jobs that were run: none after a refusal
abbrev pub ran : PumpEnding → List Work
ran Usage = []
ran (ListRefused error) = []
ran ListFault = []
ran SpawnFault = []
ran NoMemory = []
ran (Ran works totals) = works

-- ---- the headline's premises ----

-- each answer that the other side may give is the daemon's
abbrev pub IsDaemon : (List ℕ → List ℕ → Type 0) → Type 0
IsDaemon peer = (sent received : List ℕ) → peer sent received → Daemon Answers sent received

-- each wire tells its talk
abbrev pub EachTells : List EndSeen → Type 0
EachTells ends = AllByRecursion (λ (seen : EndSeen). IsSome seen.talk) ends

-- each exchange was answered as the other side of the wires may answer
abbrev pub EachAnsweredBy : (List ℕ → List ℕ → Type 0) → List EndSeen → Type 0
EachAnsweredBy peer ends = AllByRecursion (λ (seen : EndSeen). EachAnswered peer seen.talk) ends

-- where the other side is the daemon, and the wires tell their talk, each exchange was answered as the daemon answers
abbrev pub ServedByDaemon : (List ℕ → List ℕ → Type 0) → Type 0
ServedByDaemon peer = IsDaemon peer → (ends : List EndSeen) → EachTells ends → EachAnsweredBy peer ends → EachServed ends

-- ---- how the run ended ----

-- the jobs were run: they are those of the list, which was read to its end, and the first ends had a client each, which did them
pub record JobsRan (given : PumpGiven) (before after : Outside) (works : List Work) (totals : Totals) : Type 0 where
  pub settings : Settings
  pub asked : settings_asked_for given before ≡ Some settings
  pub jobs : List Job
  pub listed : ForSome before.left (λ bytes. jobs_of bytes ≡ Ok jobs)
  pub read : ForSome after.left (λ rest. rest ≡ [])
  pub ran : ClientsRan (known given.named settings.budget) jobs settings.hosts settings.clients false (take settings.clients before.ends) (take settings.clients after.ends) (map (λ (w : Work). w.done) works) totals
  pub works_are : ran.works ≡ works

-- the words are in the grammar, and ask for no more clients than there are ends
abbrev pub AsksSomething : PumpGiven → Outside → Type 0
AsksSomething given before = (settings : Settings) × (settings_asked_for given before ≡ Some settings)

-- the list, where it is told, is in the grammar
abbrev pub Readable : Outside → Type 0
Readable before = ForSome before.left (λ bytes. (jobs : List Job) × (jobs_of bytes ≡ Ok jobs))

-- the cause of each ending
abbrev pub HasEnding : PumpGiven → Outside → Outside → PumpEnding → Type 0
HasEnding given before after Usage = settings_asked_for given before ≡ None
HasEnding given before after (ListRefused error) = AsksSomething given before × ForSome before.left (λ bytes. jobs_of bytes ≡ Err error)
HasEnding given before after ListFault = AsksSomething given before × Rose before.counts.list after.counts.list
HasEnding given before after SpawnFault = AsksSomething given before × (Readable before × Rose before.counts.spawner after.counts.spawner)
HasEnding given before after NoMemory = Unit {0}
HasEnding given before after (Ran works totals) = JobsRan given before after works totals

-- ---- the report and the status ----

-- the told report has the text, or a beginning of it where its count rose or the status is 5
pub record IsPut (text : List ℕ) (status : ℕ) (before now : Option (List ℕ)) (from to : ℕ) : Type 0 where
  pub front : (n : ℕ) × (now ≡ added (take n text) before)
  pub whole : (status ≡ 5 → ⊥) → (Rose from to → ⊥) → now ≡ added text before
  pub whole_by_status : (status ≡ 0) ⊎ ((status ≡ 1) ⊎ (status ≡ 6)) → now ≡ added text before

abbrev pub ReportIsPut : List ℕ → ℕ → Outside → Outside → Type 0
ReportIsPut text status before after = IsPut text status before.report after.report before.counts.report after.counts.report

abbrev pub some_outcome : (JobOutcome → Bool) → List Work → Bool
some_outcome test works = list_any (λ (w : Work). test w.done.outcome) works

-- 6, 1 or 0, by the outcomes
abbrev pub by_outcomes : List Work → ℕ
by_outcomes works = if some_outcome is_tree_fault works then 6 else if some_outcome is_diag works then 1 else 0

-- a count of the list, the spawner or the report rose
abbrev pub OutsideRose : Outside → Outside → Type 0
OutsideRose before after =
    Rose before.counts.list after.counts.list ⊎ (Rose before.counts.spawner after.counts.spawner ⊎ Rose before.counts.report after.counts.report)

-- the status of a run that isn't 5 for want of memory outside its jobs
abbrev pub StatusIs : Outside → Outside → PumpEnding → ℕ → Type 0
StatusIs before after Usage status = status ≡ 2
StatusIs before after (ListRefused error) status = status ≡ 3
StatusIs before after ListFault status = status ≡ 4
StatusIs before after SpawnFault status = status ≡ 4
StatusIs before after NoMemory status = ⊥
StatusIs before after (Ran works totals) status =
    (some_outcome is_memory works ≡ false)
    × (cond (some_outcome is_out_fault works) (status ≡ 4) (((status ≡ 4) × OutsideRose before after) ⊎ (status ≡ by_outcomes works)))

-- ---- daemons ----

-- no daemon is started: hosts are given by name
pub record DaemonsHold (given : PumpGiven) (ending : PumpEnding) (status : ℕ) (before after : Outside) : Type 0 where
  pub begun : after.begun ≡ before.begun
  pub running : after.running ≡ before.running
  pub asked : after.asked ≡ before.asked

-- ---- completeness ----

-- no count of faults rose in the run
pub record NoFaults (before after : Outside) : Type 0 where
  pub list : Rose before.counts.list after.counts.list → ⊥
  pub spawner : Rose before.counts.spawner after.counts.spawner → ⊥
  pub report : Rose before.counts.report after.counts.report → ⊥
  pub ends : EachCalm before.ends after.ends

-- where the words and the list are in their grammars and nothing failed, the jobs were run, and only want of memory stood in the way
abbrev pub IsComplete : PumpGiven → Outside → Outside → PumpEnding → ℕ → Type 0
IsComplete given before after (Ran works totals) status = AllByRecursion (λ (w : Work). IsCalm w.done.way w.done.outcome) works
IsComplete given before after Usage status = ⊥
IsComplete given before after (ListRefused error) status = ⊥
IsComplete given before after ListFault status = ⊥
IsComplete given before after SpawnFault status = ⊥
IsComplete given before after NoMemory status = status ≡ 5

-- ---- the run ----

pub record IsRun (given : PumpGiven) (before after : Outside) (status : ℕ) : Type 0 where
  pub ending : PumpEnding
  pub cause : HasEnding given before after ending
  pub ends : EachEnd 0 (ran ending) before.ends after.ends
  pub report : ReportIsPut (report_text ending) status before after
  pub status_is : (status ≡ 5) ⊎ StatusIs before after ending status
  pub daemons : DaemonsHold given ending status before after
  pub answered : EachAnsweredBy given.peer after.ends
  pub complete : EachServed after.ends → ForSome given.named (λ tree. (settings : Settings) → settings_asked_for given before ≡ Some settings → (bytes : List ℕ) → before.left ≡ Some bytes → (jobs : List Job) → jobs_of bytes ≡ Ok jobs → NoFaults before after → IsComplete given before after ending status)

-- what contracts see of the outside, from the members of the bounds
abbrev pub outside : List EndSeen → Option (List ℕ) → ℕ → List (ℕ × Host) → List Host → Bool → ℕ → Option (List ℕ) → ℕ → Outside
outside ends left list_faults begun running asked spawner_faults report report_faults = record {
  ends = ends;
  left = left;
  report = report;
  begun = begun;
  running = running;
  asked = asked;
  counts = record { list = list_faults; spawner = spawner_faults; report = report_faults };
}

abbrev pub pump_given : Option FileTree → (List ℕ → List ℕ → Type 0) → List (List ℕ) → PumpGiven
pump_given named peer words = record { named = named; peer = peer; words = words }
