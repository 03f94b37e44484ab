-- The text of a report, and how a run of pump may end.
use Rattle.std.specs.Prelude.{ℕ, List, [], ◌∷◌, ◌++◌, length, map, codes, Bool, true, false}
use Rattle.std.specs.List.{flat_map, count_by}
use Rattle.std.specs.Fmt.{decimal}
use Rattle.base_types.specs.Ascii as ascii
use Rattle.job_ends.specs.declared.record.Done.{Done}
use Rattle.closure_fixpoint.specs.declared.job_analysis.Refusal.{Refusal}
use Rattle.closure_fixpoint.specs.declared.job_analysis.Refusal.TheVariants as refusal
use Rattle.job_ends.specs.declared.record.Way.{Way}
use Rattle.job_ends.specs.declared.record.Way.TheVariants.{Remote, Local, Broken}
use Rattle.job_ends.specs.declared.record.Cause.TheVariants as cause
use Rattle.job_ends.specs.declared.record.JobOutcome.{JobOutcome}
use Rattle.job_ends.specs.declared.record.JobOutcome.TheVariants as end
use Rattle.job_ends.specs.Works.{Work}
use Rattle.client_order.specs.declared.totals.Totals.{Totals}
use Rattle.job_words.specs.declared.reading.WordError.{WordError}
use Rattle.job_words.specs.declared.reading.WordError.TheVariants as word
use Rattle.compile_list.specs.declared.refused.ListError.{ListError}
use Rattle.compile_list.specs.declared.refused.ListWhy.{ListWhy}
use Rattle.compile_list.specs.declared.refused.ListWhy.TheVariants as list

-- how a run may end: refused before its jobs, or with its jobs run
pub data PumpEnding : Type 0 where
  Usage : PumpEnding
  ListRefused : ListError → PumpEnding
  ListFault : PumpEnding
  SpawnFault : PumpEnding
  NoMemory : PumpEnding
  Ran : List Work → Totals → PumpEnding

abbrev pub refusal_text : Refusal → List ℕ
refusal_text refusal.Budget = codes "A1"
refusal_text refusal.Long = codes "A2"
refusal_text refusal.Presumed = codes "A3"
refusal_text refusal.Visits = codes "A4"
refusal_text refusal.Large = codes "A5"
refusal_text refusal.Request = codes "A6"
refusal_text refusal.NoSource = codes "A7"

abbrev pub way_text : Way → List ℕ
way_text Remote = codes "remote"
way_text (Local (cause.Analysis refused)) = codes "local " ++ refusal_text refused
way_text (Local cause.Link) = codes "local link"
way_text (Local cause.Peer) = codes "local peer"
way_text (Local cause.DaemonMemory) = codes "local daemon-memory"
way_text (Local cause.Memory) = codes "local memory"
way_text Broken = codes "broken"

abbrev pub outcome_text : JobOutcome → List ℕ
outcome_text (end.Text n) = codes "text " ++ decimal n
outcome_text (end.Diag words) = codes "diag"
outcome_text end.TreeFault = codes "tree-fault"
outcome_text end.OutFault = codes "out-fault"
outcome_text end.Memory = codes "memory"

-- after the line of a diagnostic its bytes
abbrev pub after_text : JobOutcome → List ℕ
after_text (end.Diag words) = words ++ 10 ∷ []
after_text (end.Text n) = []
after_text end.TreeFault = []
after_text end.OutFault = []
after_text end.Memory = []

-- the lines of a job
unfoldable pub job_text : Done → List ℕ
job_text done = codes "job " ++ (decimal done.job ++ (codes " " ++ (outcome_text done.outcome ++ (codes " " ++ (way_text done.way ++ (ascii.newline ∷ after_text done.outcome))))))

abbrev pub is_remote : Way → Bool
is_remote Remote = true
is_remote (Local cause) = false
is_remote Broken = false

abbrev pub is_broken : Way → Bool
is_broken Remote = false
is_broken (Local cause) = false
is_broken Broken = true

abbrev pub is_local : Way → Bool
is_local Remote = false
is_local (Local cause) = true
is_local Broken = false

abbrev pub count_text : (Way → Bool) → List Done → List ℕ
count_text test records = decimal (count_by (λ (done : Done). test done.way) records)

-- the report of the jobs: their lines, and the line of how many were done where
unfoldable pub totals_text : List Done → List ℕ
totals_text records =
    codes "jobs " ++ (decimal (length records) ++ (codes " remote " ++ (count_text is_remote records ++ (codes " local " ++ (count_text is_local records
    ++ (codes " broken " ++ (count_text is_broken records ++ 10 ∷ [])))))))

unfoldable pub jobs_text : List Done → List ℕ
jobs_text records = flat_map job_text records ++ totals_text records

-- the line of what the memo of sheets did
unfoldable pub looks_text : Totals → List ℕ
looks_text totals =
    codes "looks " ++ (decimal totals.looks ++ (codes " hits " ++ (decimal totals.hits ++ (codes " kept " ++ (decimal totals.kept
    ++ (codes " already " ++ (decimal totals.already ++ (codes " full " ++ (decimal totals.full ++ 10 ∷ [])))))))))

-- the report of a run whose jobs were run
abbrev pub run_text : List Done → Totals → List ℕ
run_text records totals = jobs_text records ++ looks_text totals

-- the number of the reason why words give no job
abbrev pub word_number : WordError → List ℕ
word_number word.NoSource = codes "1"
word_number word.TwoSources = codes "2"
word_number word.Unknown = codes "3"
word_number word.NoOperand = codes "4"
word_number word.BadMacro = codes "5"
word_number word.Limit = codes "6"
word_number word.Cwd = codes "7"
word_number word.Memory = codes "8"

-- why a line of the list is refused
abbrev pub why_text : ListWhy → List ℕ
why_text list.Escape = codes "escape"
why_text list.Limit = codes "limit"
why_text (list.Words why) = codes "words " ++ word_number why
why_text list.Output = codes "output"
why_text list.Memory = codes "memory"

-- the whole text of the report
abbrev pub report_text : PumpEnding → List ℕ
report_text Usage = codes "pump: usage" ++ 10 ∷ []
report_text (ListRefused error) = codes "pump: list " ++ decimal error.line ++ codes ": " ++ why_text error.why ++ 10 ∷ []
report_text ListFault = codes "pump: list read fault" ++ 10 ∷ []
report_text SpawnFault = codes "pump: spawn fault" ++ 10 ∷ []
report_text NoMemory = codes "pump: memory" ++ 10 ∷ []
report_text (Ran works totals) = run_text (map (λ (w : Work). w.done) works) totals
