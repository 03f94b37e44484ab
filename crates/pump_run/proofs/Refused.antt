-- A run that is refused before its jobs, and puts one line on the report.
use Rattle.std.proofs.Common.{◌≡◌, ℕ, List, Option, None, Some, Ok, Err, refl, sym, ◌∙◌, subst, inl, ◌⊎◌, arith}
use Rattle.std.specs.List.{AllByRecursion}
use Rattle.std.specs.Option.{ForSome}
use Rattle.base_types.specs.Causes.{Rose}
use Rattle.job_words.specs.declared.job.Job.{Job}
use Rattle.compile_list.specs.Listed.{jobs_of}
use Rattle.run_words.specs.Asked.{Settings}
use Rattle.compile_list.specs.declared.refused.ListError.{ListError}
use Rattle.pump_run.specs.Report.{PumpEnding, Usage, ListRefused, ListFault, NoMemory, report_text}
use Rattle.job_ends.specs.Outside.{EndSeen}
use Rattle.job_ends.specs.Works.{IsFresh}
use Rattle.pump_run.specs.Run.{IsRun, Outside, PumpGiven, IsPut, ReportIsPut, HasEnding, ran, StatusIs, NoFaults, IsComplete, AsksSomething, settings_asked_for}
use Rattle.job_ends.specs.Works.{EachEnd}
use Rattle.pump_run.specs.parts.Steps.{LineIsPut, refusal_text_of}
use Rattle.pump_run.proofs.Still.{still-ends, fresh-answered}

no_settings : (asked : Option Settings) (settings : Settings) → asked ≡ None → asked ≡ Some settings → ⊥
no_settings asked settings none some = let both : None ≡ Some settings = sym none ∙ some in cc

no_jobs : (bytes : List ℕ) (jobs : List Job) (error : ListError) → jobs_of bytes ≡ Err error → jobs_of bytes ≡ Ok jobs → ⊥
no_jobs bytes jobs error none some = let both = sym none ∙ some in cc

module _ (given : PumpGiven) (before : Outside) (fresh : AllByRecursion IsFresh before.ends) (left report : Option (List ℕ)) (list count status : ℕ) (text : List ℕ) where
  -- the outside after the list was read in part and the line was put
  abbrev pub after : Outside
  after = record before { left = left; report = report; counts = record { list = list; spawner = before.counts.spawner; report = count } }

  abbrev Completes : PumpEnding → Type 0
  Completes ending = (settings : Settings) → settings_asked_for given before ≡ Some settings → (bytes : List ℕ) → before.left ≡ Some bytes → (jobs : List Job) → jobs_of bytes ≡ Ok jobs → NoFaults before after → IsComplete given before after ending status

  abbrev Put : List ℕ → Type 0
  Put line = IsPut line status before.report report before.counts.report count

  refused : (ending : PumpEnding) → HasEnding given before after ending → EachEnd 0 (ran ending) before.ends before.ends → ReportIsPut (report_text ending) status before after
      → (status ≡ 5) ⊎ StatusIs before after ending status → Completes ending → IsRun given before after status
  refused ending cause ends reports status_is complete = record {
    ending = ending;
    cause = cause;
    ends = ends;
    report = reports;
    status_is = status_is;
    daemons = record { begun = refl; running = refl; asked = refl };
    answered = fresh-answered given.peer before.ends fresh;
    complete = λ _ tree named. complete;
  }

  pub usage-run : settings_asked_for given before ≡ None → text ≡ report_text Usage → LineIsPut text 2 before.report report before.counts.report count status → IsRun given before after status
  usage-run nothing is line = refused Usage nothing (still-ends 0 before.ends) (subst Put is line.line_is) line.status_is
      (λ settings asks bytes left_is jobs lists calm. no_settings (settings_asked_for given before) settings nothing asks)

  pub fault-run : AsksSomething given before → Rose before.counts.list list → text ≡ report_text ListFault → LineIsPut text 4 before.report report before.counts.report count status → IsRun given before after status
  fault-run asked rose is line = refused ListFault (asked, rose) (still-ends 0 before.ends) (subst Put is line.line_is) line.status_is
      (λ settings asks bytes left_is jobs lists calm. calm.list rose)

  pub list-refused-run : (error : ListError) → AsksSomething given before → ForSome before.left (λ bytes. jobs_of bytes ≡ Err error)
      → text ≡ refusal_text_of error → LineIsPut text 3 before.report report before.counts.report count status → IsRun given before after status
  unfolding refusal_text_of
  list-refused-run error asked none is line = refused (ListRefused error) (asked, none) (still-ends 0 before.ends) (subst Put is line.line_is) line.status_is
      (λ settings asks bytes left_is jobs lists calm. no_jobs bytes jobs error (none bytes left_is) lists)

  pub starved-run : text ≡ report_text NoMemory → LineIsPut text 5 before.report report before.counts.report count status → IsRun given before after status
  starved-run is line = let five : status ≡ 5 = omega (arith, line.status_is) in
      refused NoMemory tt (still-ends 0 before.ends) (subst Put is line.line_is) (inl five) (λ settings asks bytes left_is jobs lists calm. five)

-- the same where the ends are as they were
pub stayed-run : (given : PumpGiven) (before : Outside) (ends : List EndSeen) → ends ≡ before.ends → AllByRecursion IsFresh before.ends → (left report : Option (List ℕ)) (list count status : ℕ) (text : List ℕ)
    → text ≡ report_text NoMemory → LineIsPut text 5 before.report report before.counts.report count status
    → IsRun given before (record before { ends = ends; left = left; report = report; counts = record { list = list; spawner = before.counts.spawner; report = count } }) status
stayed-run given before ends same fresh left report list count status text is line =
    subst (λ (es : List EndSeen). IsRun given before (record before { ends = es; left = left; report = report; counts = record { list = list; spawner = before.counts.spawner; report = count } }) status) (sym same)
    (starved-run given before fresh left report list count status text is line)
