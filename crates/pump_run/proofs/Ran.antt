-- A run whose jobs were done.
use Rattle.std.proofs.Common.{◌≡◌, ℕ, ◌≤◌, ◌⊎◌, inl, inr, List, [], ◌∷◌, length, map, Bool, true, false, cond, Option, Some, Ok, refl, sym, ap, ◌∙◌, subst, arith}
use Rattle.std.specs.Prelude.{◌||◌, if◌then◌else◌}
use Rattle.base_types.specs.Causes.{Rose}
use Rattle.job_words.specs.declared.job.Job.{Job}
use Rattle.job_ends.specs.declared.record.Done.{Done}
use Rattle.job_ends.specs.declared.record.JobOutcome.{JobOutcome}
use Rattle.job_ends.specs.Outside.{EndSeen}
use Rattle.job_ends.specs.Record.{known}
use Rattle.job_ends.specs.Works.{Work, EachEnd, is_memory, is_out_fault, is_tree_fault, is_diag}
use Rattle.client_order.specs.declared.totals.Totals.{Totals}
use Rattle.run_words.specs.Asked.{Settings}
use Rattle.compile_list.specs.parts.Steps.{ListGives}
use Rattle.pump_run.specs.Report.{Ran, run_text}
use Rattle.pump_run.specs.Run.{IsRun, Outside, PumpGiven, IsPut, OutsideRose, StatusIs, some_outcome, settings_asked_for}
use Rattle.pump_run.specs.parts.Steps.{ClientsDid, JobsAreTold, some_record, status_for}
use Rattle.pump_run.proofs.Beyond.{all-ends}
use Rattle.pump_run.proofs.Calm.{all-calm, first-served}

-- ---- the status ----

abbrev pub done_of : Work → Done
done_of w = w.done

-- an outcome among the works is one among their records
same-outcomes : (test : JobOutcome → Bool) (works : List Work) → some_record test (map done_of works) ≡ some_outcome test works
same-outcomes test [] = refl
same-outcomes test (w ∷ works) = ap (λ (others : Bool). test w.done.outcome || others) (same-outcomes test works)

-- the status by four tests
abbrev status_by : Bool → Bool → Bool → Bool → ℕ
status_by memory unput lost told = if memory then 5 else if unput then 4 else if lost then 6 else if told then 1 else 0

status-tests : (works : List Work) → status_for (map done_of works) ≡ status_by (some_outcome is_memory works) (some_outcome is_out_fault works) (some_outcome is_tree_fault works) (some_outcome is_diag works)
unfolding status_for
status-tests works = rw (same-outcomes is_memory works, same-outcomes is_out_fault works, same-outcomes is_tree_fault works, same-outcomes is_diag works) refl

status-cases : (R S : Type 0) (status : ℕ) (memory unput lost told : Bool) → (R → S)
    → (status ≡ 5) ⊎ ((status ≡ status_by memory unput lost told) ⊎ ((status ≡ 4) × R)) → (status_by memory unput lost told ≡ 5 → status ≡ 5)
    → (status ≡ 5) ⊎ ((memory ≡ false) × cond unput (status ≡ 4) (((status ≡ 4) × S) ⊎ (status ≡ (if lost then 6 else if told then 1 else 0))))
status-cases R S status memory unput lost told rose (inl five) starved = inl five
status-cases R S status true unput lost told rose (inr other) starved = inl (starved refl)
status-cases R S status false true lost told rose (inr (inl wanted)) starved = inr (refl, wanted)
status-cases R S status false true lost told rose (inr (inr (four, r))) starved = inr (refl, four)
status-cases R S status false false lost told rose (inr (inl wanted)) starved = inr (refl, inr wanted)
status-cases R S status false false lost told rose (inr (inr (four, r))) starved = inr (refl, inl (four, rose r))

-- ---- the run ----

module _ (given : PumpGiven) (before : Outside) (left report : Option (List ℕ)) (ends : List EndSeen) (list count status : ℕ)
    (settings : Settings) (jobs : List Job) (records : List Done) (totals : Totals)
    (did : ClientsDid given.named given.peer settings.budget settings.clients jobs settings.hosts records totals before.ends ends) where
  -- the outside after the jobs were done and the report was put
  abbrev pub after : Outside
  after = record before { ends = ends; left = left; report = report; counts = record { list = list; spawner = before.counts.spawner; report = count } }

  abbrev works : List Work
  works = did.ran.works

  ran-ends : EachEnd 0 works before.ends ends
  ran-ends = all-ends settings.clients 0 settings.clients works before.ends ends (omega arith) did.ran.by_clients did.ran.ends did.rest

  status-of : JobsAreTold records totals before.report report before.counts.report count status → (status ≡ 5) ⊎ StatusIs before after (Ran works totals) status
  status-of told =
      let same : status_for records ≡ status_by (some_outcome is_memory works) (some_outcome is_out_fault works) (some_outcome is_tree_fault works) (some_outcome is_diag works) =
      ap status_for (sym did.ran.records_are) ∙ status-tests works in
      status-cases (Rose before.counts.report count) (OutsideRose before after) status (some_outcome is_memory works) (some_outcome is_out_fault works) (some_outcome is_tree_fault works) (some_outcome is_diag works)
      (λ rose. inr (inr rose)) (rw same at told.status_is) (rw same at told.no_memory)

  pub ran-run : settings_asked_for given before ≡ Some settings → settings.clients ≤ length before.ends → ListGives before.left left before.counts.list list (Ok jobs)
      → JobsAreTold records totals before.report report before.counts.report count status → IsRun given before after status
  ran-run asked few gives told = record {
    ending = Ran works totals;
    cause = record {
      settings = settings;
      asked = asked;
      jobs = jobs;
      listed = gives.1.1.0;
      read = gives.1.1.1;
      ran = record {
        works = works;
        records_are = refl;
        each = did.ran.each;
        ends = did.ran.ends;
        by_clients = did.ran.by_clients;
        to_hosts = did.ran.to_hosts;
        looked = did.ran.looked;
        tallies = did.ran.tallies;
        agrees = did.ran.agrees;
      };
      works_are = refl;
    };
    ends = ran-ends;
    report = subst (λ (l : List Done). IsPut (run_text l totals) status before.report report before.counts.report count) (sym did.ran.records_are) told.text_is;
    status_is = status-of told;
    daemons = record { begun = refl; running = refl; asked = refl };
    answered = did.answered;
    complete = λ served tree named other asks bytes left_is listed lists still.
        all-calm (known given.named settings.budget) tree jobs works settings.clients before.ends ends few did.ran.by_clients did.ran.each
        (did.ran.agrees (first-served settings.clients ends served) tree named) ran-ends still.ends;
  }

-- the same over ends that are seen, where what was asked for, shown and told is written in other words
pub whole-run : {E : Type 0} (seen : E → EndSeen) (olds shown news now : List E) (given : PumpGiven) (before : Outside) (left report : Option (List ℕ)) (list count status : ℕ)
    (settings : Settings) (listed jobs : List Job) (told_records records : List Done) (totals : Totals)
    → before.ends ≡ map seen olds → shown ≡ olds → now ≡ news → listed ≡ jobs → told_records ≡ records
    → ClientsDid given.named given.peer settings.budget settings.clients listed settings.hosts records totals (map seen shown) (map seen news)
    → settings_asked_for given before ≡ Some settings → settings.clients ≤ length before.ends → ListGives before.left left before.counts.list list (Ok jobs)
    → JobsAreTold told_records totals before.report report before.counts.report count status
    → IsRun given before (record before { ends = map seen now; left = left; report = report; counts = record { list = list; spawner = before.counts.spawner; report = count } }) status
whole-run seen olds shown news now given before left report list count status settings listed jobs told_records records totals were same is jobs_are records_are did asked few gives told =
    let from_before : ClientsDid given.named given.peer settings.budget settings.clients listed settings.hosts records totals before.ends (map seen news) =
    subst (λ (ends : List EndSeen). ClientsDid given.named given.peer settings.budget settings.clients listed settings.hosts records totals ends (map seen news)) (ap (λ (es : List _). map seen es) same ∙ sym were) did in
    let to_now : ClientsDid given.named given.peer settings.budget settings.clients listed settings.hosts records totals before.ends (map seen now) =
    subst (λ (ends : List EndSeen). ClientsDid given.named given.peer settings.budget settings.clients listed settings.hosts records totals before.ends ends) (ap (λ (es : List _). map seen es) (sym is)) from_before in
    let of_jobs : ClientsDid given.named given.peer settings.budget settings.clients jobs settings.hosts records totals before.ends (map seen now) =
    subst (λ (js : List Job). ClientsDid given.named given.peer settings.budget settings.clients js settings.hosts records totals before.ends (map seen now)) jobs_are to_now in
    let told_so : JobsAreTold records totals before.report report before.counts.report count status =
    subst (λ (rs : List Done). JobsAreTold rs totals before.report report before.counts.report count status) records_are told in
    ran-run given before left report (map seen now) list count status settings jobs records totals of_jobs asked few gives told_so
