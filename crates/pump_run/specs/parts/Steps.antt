-- What the parts of a run come to: the jobs of the clients, and the report.
use Rattle.std.specs.Prelude.{◌≡◌, ℕ, ◌⊎◌, List, take, drop, Bool, false, Option, if◌then◌else◌}
use Rattle.std.specs.List.{list_any, AllByRecursion}
use Rattle.base_types.specs.Causes.{Rose}
use Rattle.tree_model.specs.Trees.{FileTree}
use Rattle.io_edges.specs.declared.wire.Host.{Host}
use Rattle.io_edges.specs.Talk.{EachAnswered}
use Rattle.job_words.specs.declared.job.Job.{Job}
use Rattle.job_ends.specs.declared.record.Done.{Done}
use Rattle.job_ends.specs.declared.record.JobOutcome.{JobOutcome}
use Rattle.job_ends.specs.Outside.{EndSeen}
use Rattle.job_ends.specs.Record.{known}
use Rattle.job_ends.specs.Works.{is_memory, is_out_fault, is_tree_fault, is_diag}
use Rattle.client_order.specs.Ran.{ClientsRan}
use Rattle.client_order.specs.declared.totals.Totals.{Totals}
use Rattle.compile_list.specs.declared.refused.ListError.{ListError}
use Rattle.pump_run.specs.Report.{ListRefused, report_text, run_text}
use Rattle.pump_run.specs.Run.{IsPut}

-- the line that says why a list is refused
unfoldable pub refusal_text_of : ListError → List ℕ
refusal_text_of error = report_text (ListRefused error)

-- ---- the clients ----

-- The first ends had a client each, and these did the jobs; the other ends stayed. Each wire was answered as its other side answers.
pub record ClientsDid (named : Option FileTree) (peer : List ℕ → List ℕ → Type 0) (budget clients : ℕ) (jobs : List Job) (hosts : List Host) (records : List Done) (totals : Totals) (before after : List EndSeen) : Type 0 where
  pub ran : ClientsRan (known named budget) jobs hosts clients false (take clients before) (take clients after) records totals
  pub rest : drop clients after ≡ drop clients before
  pub answered : AllByRecursion (λ (seen : EndSeen). EachAnswered peer seen.talk) after

-- ---- the report ----

abbrev pub some_record : (JobOutcome → Bool) → List Done → Bool
some_record test records = list_any (λ (done : Done). test done.outcome) records

-- the status by the outcomes of the jobs, where their report is put
unfoldable pub status_for : List Done → ℕ
status_for records =
    if some_record is_memory records then 5
    else if some_record is_out_fault records then 4
    else if some_record is_tree_fault records then 6
    else if some_record is_diag records then 1
    else 0

-- a line was put, and the status is this one, or that of no memory
pub record LineIsPut (line : List ℕ) (wanted : ℕ) (before now : Option (List ℕ)) (from to status : ℕ) : Type 0 where
  pub line_is : IsPut line status before now from to
  pub status_is : (status ≡ 5) ⊎ (status ≡ wanted)

-- A text was put, and the status is this one; or it is 4, where the count of the report rose, or that of no memory. Where
-- that of no memory is wanted, it is the status.
pub record TextIsPut (text : List ℕ) (wanted : ℕ) (before now : Option (List ℕ)) (from to status : ℕ) : Type 0 where
  pub text_is : IsPut text status before now from to
  pub status_is : (status ≡ 5) ⊎ ((status ≡ wanted) ⊎ ((status ≡ 4) × Rose from to))
  pub no_memory : wanted ≡ 5 → status ≡ 5

-- the report of the jobs was put, and the status is that of their outcomes, or that of a report that wasn't put whole
abbrev pub JobsAreTold : List Done → Totals → Option (List ℕ) → Option (List ℕ) → ℕ → ℕ → ℕ → Type 0
JobsAreTold records totals before now from to status = TextIsPut (run_text records totals) (status_for records) before now from to status
