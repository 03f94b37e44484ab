-- What a run of one job at one end over a named tree says, where its status is 0 or 1.
use Rattle.std.specs.Prelude.{◌≡◌, ◌⊎◌, ℕ, ◌<◌, ◌≤◌, List, [], ◌∷◌, ◌++◌, length, map, false, cond, if◌then◌else◌, Option, Some, IsSome, Ok, Err, Result}
use Rattle.std.specs.List.{list_any, AllByRecursion}
use Rattle.std.proofs.Common.{refl, sym, ap, subst, ◌∙◌, inl, inr, arith, append-nil}
use Rattle.std.proofs.lemmas.List.{length-map}
use Rattle.tree_model.specs.Trees.{FileTree}
use Rattle.job_words.specs.declared.job.Job.{Job}
use Rattle.daemon_cpp.specs.declared.outcome.Outcome.TheVariants as outcome
use Rattle.daemon_cpp.specs.Prep.{outcome_over}
use Rattle.base_types.specs.Told.{added}
use Rattle.job_ends.specs.declared.record.Done.{Done}
use Rattle.job_ends.specs.declared.record.JobOutcome.{JobOutcome}
use Rattle.job_ends.specs.declared.record.JobOutcome.TheVariants as end
use Rattle.job_ends.specs.Agree.{AgreesWith}
use Rattle.job_ends.specs.Outside.{EndSeen}
use Rattle.job_ends.specs.Record.{Known, known}
use Rattle.job_ends.specs.Works.{Work, EachEnd, EndHolds, EachRecord, EachServed, EachAgrees, JobAgrees, works_of, is_memory, is_out_fault, is_tree_fault, is_diag}
use Rattle.compile_list.specs.Listed.{jobs_of}
use Rattle.pump_run.specs.Report.{PumpEnding, Usage, ListRefused, ListFault, SpawnFault, NoMemory, Ran, report_text, run_text}
use Rattle.pump_run.specs.Run.{Outside, IsRun, JobsRan, StatusIs, HasEnding, ReportIsPut, OutsideRose, ServedByDaemon, IsDaemon, EachTells, ran, pump_given}
use Rattle.pump_run.proofs.Calm.{first-served}
use Rattle.client_order.specs.declared.totals.Totals.{Totals}
use Rattle.worked_examples.proofs.FewClients.{few_clients}

-- the one job that was run, and what is known of it
pub record OneRan (tree : FileTree) (job : Job) (status : ℕ) (before after : Outside) (now : EndSeen) : Type 0 where
  pub work : Work
  pub totals : Totals
  pub agrees : JobAgrees tree job work
  pub status_is : StatusIs before after (Ran (work ∷ []) totals) status
  pub told : ReportIsPut (report_text (Ran (work ∷ []) totals)) status before after
  pub put : now.kept ≡ Some work.deeds.put

-- ---- records ----

-- a list has the jobs of one reading
pub jobs_are_those : (jobs others : List Job) (bytes : List ℕ) → jobs_of bytes ≡ Ok jobs → jobs_of bytes ≡ Ok others → jobs ≡ others
jobs_are_those jobs others bytes one other = go jobs others (sym one ∙ other)
  where
    go : {E : Type 0} (xs ys : List Job) → ◌≡◌ {A = Result (List Job) E} (Ok xs) (Ok ys) → xs ≡ ys
    go xs ys e = ap (λ o. elim o [ Ok zs ↦ zs | Err why ↦ xs ]) e

one_work : (given : Known) (job : Job) (works : List Work) → EachRecord given 0 (job ∷ []) works → (w : Work) × (works ≡ w ∷ [])
one_work given job [] each = absurd each
one_work given job (w ∷ []) each = (w, refl)
one_work given job (w ∷ v ∷ more) (number, (is, rest)) = absurd rest

-- ---- the end ----

works_first : (w : Work) → w.done.client ≡ 0 → works_of 0 (w ∷ []) ≡ w ∷ []
works_first w e = rw e refl

at_one_end : (works : List Work) (e now : EndSeen) → EachEnd 0 works (e ∷ []) (now ∷ []) → EndHolds (works_of 0 works) e now
at_one_end works e now (holds, rest) = holds

one_after : (works : List Work) (e : EndSeen) (after : List EndSeen) → EachEnd 0 works (e ∷ []) after → length after ≡ 1
one_after works e [] each = absurd each
one_after works e (now ∷ []) each = refl
one_after works e (now ∷ other ∷ more) (holds, rest) = absurd rest

-- ---- the one job ----

module _ (tree : FileTree) (peer : List ℕ → List ℕ → Type 0) (words : List (List ℕ)) (before after : Outside) (status : ℕ) (e now : EndSeen) (bytes : List ℕ) (job : Job)
    (small : status ≤ 1) (served : EachServed after.ends) (fresh : e.kept ≡ Some []) (told : before.left ≡ Some bytes) (listed : jobs_of bytes ≡ Ok (job ∷ [])) (one_before : length before.ends ≡ 1) where
  of_one : (w : Work) (totals : Totals) → EachAgrees tree (job ∷ []) (w ∷ []) → w.done.client < 1
      → EachEnd 0 (w ∷ []) (e ∷ []) (now ∷ []) → StatusIs before after (Ran (w ∷ []) totals) status → ReportIsPut (report_text (Ran (w ∷ []) totals)) status before after
      → OneRan tree job status before after now
  of_one w totals agrees below each status_is report =
      let first : w.done.client ≡ 0 = omega (below, arith) in
      let holds : EndHolds (w ∷ []) e now = subst (λ (ws : List Work). EndHolds ws e now) (works_first w first) (at_one_end (w ∷ []) e now each) in
      record {
        work = w;
        totals = totals;
        agrees = agrees.0;
        status_is = status_is;
        told = report;
        put = holds.outs ∙ ap (λ k. added (w.deeds.put ++ []) k) fresh ∙ ap (λ (p : List (List ℕ × List ℕ)). Some p) (append-nil w.deeds.put);
      }

  of_ran : (works : List Work) (totals : Totals) → JobsRan (pump_given (Some tree) peer words) before after works totals → EachEnd 0 works (e ∷ []) (now ∷ [])
      → StatusIs before after (Ran works totals) status → ReportIsPut (report_text (Ran works totals)) status before after → OneRan tree job status before after now
  of_ran works totals j each status_is report =
      let the_known : Known = known (Some tree) j.settings.budget in
      let jobs_are : j.jobs ≡ job ∷ [] = jobs_are_those j.jobs (job ∷ []) bytes (j.listed bytes told) listed in
      let recorded : EachRecord the_known 0 j.jobs works = subst (λ (ws : List Work). EachRecord the_known 0 j.jobs ws) j.works_are j.ran.each in
      let clients : AllByRecursion (λ (w : Work). w.done.client < j.settings.clients) works = subst (λ (ws : List Work). AllByRecursion (λ (w : Work). w.done.client < j.settings.clients) ws) j.works_are j.ran.by_clients in
      let agreed : EachAgrees tree j.jobs works = subst (λ (ws : List Work). EachAgrees tree j.jobs ws) j.works_are (j.ran.agrees (first-served j.settings.clients after.ends served) tree refl) in
      let one = one_work the_known job works (subst (λ (js : List Job). EachRecord the_known 0 js works) jobs_are recorded) in
      let agrees : EachAgrees tree (job ∷ []) works = subst (λ (js : List Job). EachAgrees tree js works) jobs_are agreed in
      let own = subst (λ (ws : List Work). AllByRecursion (λ (w : Work). w.done.client < j.settings.clients) ws) one.1 clients in
      let few : j.settings.clients ≤ 1 = subst (λ n. j.settings.clients ≤ n) one_before (few_clients (length before.ends) words j.settings j.asked) in
      of_one one.0 totals
      (subst (λ (ws : List Work). EachAgrees tree (job ∷ []) ws) one.1 agrees)
      (omega (own.0, few, arith))
      (subst (λ (ws : List Work). EachEnd 0 ws (e ∷ []) (now ∷ [])) one.1 each)
      (subst (λ (ws : List Work). StatusIs before after (Ran ws totals) status) one.1 status_is)
      (subst (λ (ws : List Work). ReportIsPut (report_text (Ran ws totals)) status before after) one.1 report)

  of_status : (ending : PumpEnding) → HasEnding (pump_given (Some tree) peer words) before after ending → EachEnd 0 (ran ending) (e ∷ []) (now ∷ [])
      → StatusIs before after ending status → ReportIsPut (report_text ending) status before after → OneRan tree job status before after now
  of_status Usage cause each is report = absurd (omega (arith, is, small))
  of_status (ListRefused error) cause each is report = absurd (omega (arith, is, small))
  of_status ListFault cause each is report = absurd (omega (arith, is, small))
  of_status SpawnFault cause each is report = absurd (omega (arith, is, small))
  of_status NoMemory cause each is report = absurd is
  of_status (Ran works totals) cause each is report = of_ran works totals cause each is report

  of_ending : (ending : PumpEnding) → HasEnding (pump_given (Some tree) peer words) before after ending → EachEnd 0 (ran ending) (e ∷ []) (now ∷ [])
      → (status ≡ 5) ⊎ StatusIs before after ending status → ReportIsPut (report_text ending) status before after → OneRan tree job status before after now
  of_ending ending cause each (inl five) report = absurd (omega (arith, five, small))
  of_ending ending cause each (inr is) report = of_status ending cause each is report

  pub one_ran : (named : Option FileTree) → named ≡ Some tree → IsRun (pump_given named peer words) before after status → before.ends ≡ e ∷ [] → after.ends ≡ now ∷ [] → OneRan tree job status before after now
  one_ran named is run were are =
      let run' : IsRun (pump_given (Some tree) peer words) before after status = subst (λ (n : Option FileTree). IsRun (pump_given n peer words) before after status) is run in
      let each : EachEnd 0 (ran run'.ending) (e ∷ []) (now ∷ []) =
      subst (λ (ends : List EndSeen). EachEnd 0 (ran run'.ending) (e ∷ []) ends) are (subst (λ (ends : List EndSeen). EachEnd 0 (ran run'.ending) ends after.ends) were run'.ends) in
      of_ending run'.ending run'.cause each run'.status_is run'.report

-- ---- its outcome ----

module _ (status : ℕ) (before after : Outside) where
  abbrev StatusFor : JobOutcome → Type 0
  StatusFor o = (list_any is_memory (o ∷ []) ≡ false)
      × (cond (list_any is_out_fault (o ∷ [])) (status ≡ 4) (((status ≡ 4) × OutsideRose before after) ⊎ (status ≡ (if list_any is_tree_fault (o ∷ []) then 6 else if list_any is_diag (o ∷ []) then 1 else 0))))

  a_text : (o : JobOutcome) → status ≡ 0 → StatusFor o → (n : ℕ) × (o ≡ end.Text n)
  a_text (end.Text n) zero_is is = (n, refl)
  a_text (end.Diag words) zero_is (m, inl (four, rose)) = absurd (omega (arith, four, zero_is))
  a_text (end.Diag words) zero_is (m, inr one) = absurd (omega (arith, one, zero_is))
  a_text end.TreeFault zero_is (m, inl (four, rose)) = absurd (omega (arith, four, zero_is))
  a_text end.TreeFault zero_is (m, inr six) = absurd (omega (arith, six, zero_is))
  a_text end.OutFault zero_is (m, four) = absurd (omega (arith, four, zero_is))
  a_text end.Memory zero_is (m, is) = absurd (cc)

  a_diag : (o : JobOutcome) → status ≡ 1 → StatusFor o → (words : List ℕ) × (o ≡ end.Diag words)
  a_diag (end.Diag words) one_is is = (words, refl)
  a_diag (end.Text n) one_is (m, inl (four, rose)) = absurd (omega (arith, four, one_is))
  a_diag (end.Text n) one_is (m, inr none) = absurd (omega (arith, none, one_is))
  a_diag end.TreeFault one_is (m, inl (four, rose)) = absurd (omega (arith, four, one_is))
  a_diag end.TreeFault one_is (m, inr six) = absurd (omega (arith, six, one_is))
  a_diag end.OutFault one_is (m, four) = absurd (omega (arith, four, one_is))
  a_diag end.Memory one_is (m, is) = absurd (cc)

-- status 0: just the text was put that preprocessing over the whole tree gives
pub text_put : (tree : FileTree) (job : Job) (status : ℕ) (before after : Outside) (now : EndSeen) → status ≡ 0 → OneRan tree job status before after now
    → (body : List ℕ) × (outcome_over tree job ≡ outcome.Text body) × (now.kept ≡ Some ((job.output, body) ∷ []))
text_put tree job status before after now zero_is r =
    let text = a_text status before after r.work.done.outcome zero_is r.status_is in
    let a : AgreesWith (outcome_over tree job) (end.Text text.0) r.work.deeds.put job =
    subst (λ (o : JobOutcome). AgreesWith (outcome_over tree job) o r.work.deeds.put job) text.1 r.agrees.outcome in
    (a.0, a.2, r.put ∙ ap (λ (p : List (List ℕ × List ℕ)). Some p) a.3)

-- status 1: nothing was put, and the report has the diagnostic that preprocessing over the whole tree gives
pub diagnostic_told : (tree : FileTree) (job : Job) (status : ℕ) (before after : Outside) (now : EndSeen) → status ≡ 1 → before.report ≡ Some [] → OneRan tree job status before after now
    → (words : List ℕ) × (outcome_over tree job ≡ outcome.Diag words) × (now.kept ≡ Some []) × (done : Done) × (done.outcome ≡ end.Diag words) × (totals : Totals) × (after.report ≡ Some (run_text (done ∷ []) totals))
diagnostic_told tree job status before after now one_is empty r =
    let diag = a_diag status before after r.work.done.outcome one_is r.status_is in
    let a : AgreesWith (outcome_over tree job) (end.Diag diag.0) r.work.deeds.put job =
    subst (λ (o : JobOutcome). AgreesWith (outcome_over tree job) o r.work.deeds.put job) diag.1 r.agrees.outcome in
    (diag.0, a.0, r.put ∙ ap (λ (p : List (List ℕ × List ℕ)). Some p) a.1, r.work.done, diag.1, r.totals, r.told.whole_by_status (inr (inl one_is)) ∙ ap (λ (t : Option (List ℕ)). added (run_text (r.work.done ∷ []) r.totals) t) empty)

-- ---- at one end ----

-- ends that are seen: one before, which kept nothing, and one after
module _ {E : Type 0} (seen : E → EndSeen) (olds news : List E) (old new : E) (named : Option FileTree) (peer : List ℕ → List ℕ → Type 0) (words : List (List ℕ)) (before after : Outside) (status : ℕ)
    (run : IsRun (pump_given named peer words) before after status) (were : before.ends ≡ map seen olds) (are : after.ends ≡ map seen news) (was : olds ≡ old ∷ []) where
  first : before.ends ≡ seen old ∷ []
  first = were ∙ ap (λ (ends : List E). map seen ends) was

  -- one end is left
  pub one_left : length news ≡ 1
  one_left =
      let each : EachEnd 0 (ran run.ending) (seen old ∷ []) after.ends = subst (λ (ends : List EndSeen). EachEnd 0 (ran run.ending) ends after.ends) first run.ends in
      sym (length-map news seen) ∙ ap (λ (ends : List EndSeen). length ends) (sym are) ∙ one_after (ran run.ending) (seen old) after.ends each

  -- where the other side of the wires is the daemon, and the list has one job
  pub ran_at : (tree : FileTree) (job : Job) (bytes : List ℕ) → news ≡ new ∷ [] → named ≡ Some tree → ServedByDaemon peer → IsDaemon peer → IsSome (seen new).talk → (seen old).kept ≡ Some []
      → before.left ≡ Some bytes → status ≤ 1 → jobs_of bytes ≡ Ok (job ∷ []) → OneRan tree job status before after (seen new)
  ran_at tree job bytes is named_is served daemon tells fresh told small listed =
      let last : after.ends ≡ seen new ∷ [] = are ∙ ap (λ (ends : List E). map seen ends) is in
      let each : EachTells (seen new ∷ []) = (tells, tt) in
      let all_served : EachServed after.ends = served daemon after.ends (subst (λ (ends : List EndSeen). EachTells ends) (sym last) each) run.answered in
      one_ran tree peer words before after status (seen old) (seen new) bytes job small all_served fresh told listed (ap (λ (ends : List EndSeen). length ends) first) named named_is run first last
