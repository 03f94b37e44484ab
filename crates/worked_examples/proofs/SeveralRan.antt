-- What a run of several jobs at several ends over a named tree says where its status is 0.
use Rattle.std.specs.Prelude.{◌≡◌, ◌⊎◌, ℕ, suc, ◌+◌, ◌<◌, ◌≤◌, ◌==◌, List, [], ◌∷◌, length, map, Bool, true, false, cond, if◌then◌else◌, Option, Some, IsSome, Ok}
use Rattle.std.specs.List.{flat_map, AllByRecursion}
use Rattle.std.proofs.Common.{refl, sym, ap, subst, ◌∙◌, inl, inr, arith}
use Rattle.std.proofs.lemmas.Bool.{or_parts, eq-eqb}
use Rattle.base_types.specs.Members.{Member}
use Rattle.base_types.specs.Told.{added}
use Rattle.tree_model.specs.Trees.{FileTree}
use Rattle.tree_model.proofs.MemberLemmas.{Member-append_left, Member-append_right}
use Rattle.job_words.specs.declared.job.Job.{Job}
use Rattle.daemon_cpp.specs.Prep.{outcome_over}
use Rattle.job_ends.specs.declared.record.JobOutcome.{JobOutcome}
use Rattle.job_ends.specs.declared.record.JobOutcome.TheVariants as end
use Rattle.job_ends.specs.Agree.{AgreesWith}
use Rattle.job_ends.specs.Outside.{EndSeen}
use Rattle.job_ends.specs.Record.{Known, known}
use Rattle.job_ends.specs.Works.{Work, EachEnd, EachRecord, EachServed, EachAgrees, JobAgrees, works_of, is_memory, is_out_fault, is_tree_fault, is_diag}
use Rattle.compile_list.specs.Listed.{jobs_of}
use Rattle.client_order.specs.declared.totals.Totals.{Totals}
use Rattle.pump_run.specs.Report.{PumpEnding, Usage, ListRefused, ListFault, SpawnFault, NoMemory, Ran}
use Rattle.pump_run.specs.Run.{Outside, IsRun, JobsRan, StatusIs, HasEnding, OutsideRose, ServedByDaemon, IsDaemon, EachTells, ran, pump_given, some_outcome}
use Rattle.pump_run.proofs.Calm.{first-served, this-or-above}
use Rattle.worked_examples.specs.Several.{IsPutOnOne, EachIsPut}
use Rattle.worked_examples.proofs.FewClients.{few_clients}
use Rattle.worked_examples.proofs.OneRan.{jobs_are_those}

abbrev pub Put : Type 0
Put = List ℕ × List ℕ

abbrev pub kept_of : EndSeen → Option (List Put)
kept_of e = e.kept

abbrev pub puts_of : Work → List Put
puts_of w = w.deeds.put

-- ---- outcomes ----

abbrev pub IsText : Work → Type 0
IsText w = (n : ℕ) × (w.done.outcome ≡ end.Text n)

a_text : (o : JobOutcome) → is_memory o ≡ false → is_out_fault o ≡ false → is_tree_fault o ≡ false → is_diag o ≡ false → (n : ℕ) × (o ≡ end.Text n)
a_text (end.Text n) memory out tree diag = (n, refl)
a_text (end.Diag words) memory out tree diag = absurd (cc)
a_text end.TreeFault memory out tree diag = absurd (cc)
a_text end.OutFault memory out tree diag = absurd (cc)
a_text end.Memory memory out tree diag = absurd (cc)

all_texts : (works : List Work) → some_outcome is_memory works ≡ false → some_outcome is_out_fault works ≡ false → some_outcome is_tree_fault works ≡ false → some_outcome is_diag works ≡ false → AllByRecursion IsText works
all_texts [] memory out tree diag = tt
all_texts (w ∷ works) memory out tree diag =
    let m = or_parts (is_memory w.done.outcome) (some_outcome is_memory works) memory in
    let o = or_parts (is_out_fault w.done.outcome) (some_outcome is_out_fault works) out in
    let t = or_parts (is_tree_fault w.done.outcome) (some_outcome is_tree_fault works) tree in
    let d = or_parts (is_diag w.done.outcome) (some_outcome is_diag works) diag in
    (a_text w.done.outcome m.0 o.0 t.0 d.0, all_texts works m.1 o.1 t.1 d.1)

nothing_failed : (R : Type 0) (status : ℕ) (out lost diag : Bool) → status ≡ 0 → cond out (status ≡ 4) (((status ≡ 4) × R) ⊎ (status ≡ (if lost then 6 else if diag then 1 else 0)))
    → (out ≡ false) × ((lost ≡ false) × (diag ≡ false))
nothing_failed R status true lost diag zero_is four = absurd (omega (arith, zero_is, four))
nothing_failed R status false lost diag zero_is (inl (four, rose)) = absurd (omega (arith, zero_is, four))
nothing_failed R status false true diag zero_is (inr six) = absurd (omega (arith, zero_is, six))
nothing_failed R status false false true zero_is (inr one) = absurd (omega (arith, zero_is, one))
nothing_failed R status false false false zero_is (inr none) = (refl, (refl, refl))

-- ---- what the ends kept ----

put_among : (x : Put) (w : Work) (works : List Work) → Member w works → Member x (puts_of w) → Member x (flat_map puts_of works)
put_among x w [] m put = absurd m
put_among x w (v ∷ works) (inl is) put = Member-append_left x (puts_of v) (flat_map puts_of works) (subst (λ (u : Work). Member x (puts_of u)) (sym is) put)
put_among x w (v ∷ works) (inr m) put = Member-append_right x (puts_of v) (flat_map puts_of works) (put_among x w works m put)

passed_over : (w : Work) (v : Work) (works : List Work) (test : Bool) → Member w works → Member w (cond test (v ∷ works) works)
passed_over w v works true m = inr m
passed_over w v works false m = m

-- a work is one of those of its client
own_work : (w : Work) (works : List Work) → Member w works → Member w (works_of w.done.client works)
own_work w [] m = absurd m
own_work w (v ∷ works) (inl is) =
    let first : Member v (works_of v.done.client (v ∷ works)) = rw (eq-eqb v.done.client v.done.client refl) (inl refl) in
    subst (λ (u : Work). Member u (works_of u.done.client (v ∷ works))) is first
own_work w (v ∷ works) (inr m) = passed_over w v (works_of w.done.client works) (v.done.client == w.done.client) (own_work w works m)

abbrev pub KeptNothing : EndSeen → Type 0
KeptNothing e = e.kept ≡ Some []

-- the end of a client kept what its works put
kept_at : (k : ℕ) (works : List Work) (before after : List EndSeen) → EachEnd k works before after → AllByRecursion KeptNothing before
    → (client : ℕ) → k ≤ client → client < k + length before → Member (Some (flat_map puts_of (works_of client works))) (map kept_of after)
kept_at k works [] after each nothing client least below = absurd (omega (arith, least, below))
kept_at k works (old ∷ before) [] each nothing client least below = absurd each
kept_at k works (old ∷ before) (now ∷ after) each nothing client least below = elim (this-or-above k client least) [
  | inl is ↦ subst (λ (n : ℕ). Member (Some (flat_map puts_of (works_of n works))) (map kept_of (now ∷ after))) is
      (inl (each.0.outs ∙ ap (λ (told : Option (List Put)). added (flat_map puts_of (works_of k works)) told) nothing.0))
  | inr above ↦ inr (kept_at (suc k) works before after each.1 nothing.1 client above (omega (arith, below)))
]

-- ---- the jobs ----

module _ (tree : FileTree) (works : List Work) (n : ℕ) (before after : List EndSeen) (few : n ≤ length before) (each : EachEnd 0 works before after) (nothing : AllByRecursion KeptNothing before) where
  one_put : (job : Job) (w : Work) → Member w works → w.done.client < n → IsText w → JobAgrees tree job w → IsPutOnOne tree (map kept_of after) job
  one_put job w m below text agrees =
      let a : AgreesWith (outcome_over tree job) (end.Text text.0) w.deeds.put job = subst (λ (o : JobOutcome). AgreesWith (outcome_over tree job) o w.deeds.put job) text.1 agrees.outcome in
      record {
        body = a.0;
        gives = a.2;
        kept = flat_map puts_of (works_of w.done.client works);
        one = kept_at 0 works before after each nothing w.done.client (omega arith) (omega (arith, below, few));
        put = put_among (job.output, a.0) w (works_of w.done.client works) (own_work w works m)
            (subst (λ (puts : List Put). Member (job.output, a.0) puts) (sym a.3) (inl refl));
      }

  all_put : (known : Known) (k : ℕ) (jobs : List Job) (some : List Work) → ((w : Work) → Member w some → Member w works) → AllByRecursion (λ (w : Work). w.done.client < n) some → AllByRecursion IsText some
      → EachRecord known k jobs some → EachAgrees tree jobs some → EachIsPut tree (map kept_of after) jobs
  all_put known k [] some among clients texts recorded agrees = tt
  all_put known k (job ∷ jobs) [] among clients texts recorded agrees = absurd recorded
  all_put known k (job ∷ jobs) (w ∷ some) among clients texts recorded agrees = (
    one_put job w (among w (inl refl)) clients.0 texts.0 agrees.0,
    all_put known (suc k) jobs some (λ v m. among v (inr m)) clients.1 texts.1 recorded.1.1 agrees.1,
  )

-- ---- the run ----

module _ (tree : FileTree) (peer : List ℕ → List ℕ → Type 0) (words : List (List ℕ)) (before after : Outside) (status : ℕ) (bytes : List ℕ) (jobs : List Job)
    (zero_is : status ≡ 0) (served : EachServed after.ends) (nothing : AllByRecursion KeptNothing before.ends) (told : before.left ≡ Some bytes) (listed : jobs_of bytes ≡ Ok jobs) where
  of_works : (works : List Work) (totals : Totals) → JobsRan (pump_given (Some tree) peer words) before after works totals → EachEnd 0 works before.ends after.ends
      → StatusIs before after (Ran works totals) status → EachIsPut tree (map kept_of after.ends) jobs
  of_works works totals j each status_is =
      let the_known : Known = known (Some tree) j.settings.budget in
      let same : j.jobs ≡ jobs = jobs_are_those j.jobs jobs bytes (j.listed bytes told) listed in
      let recorded : EachRecord the_known 0 j.jobs works = subst (λ (ws : List Work). EachRecord the_known 0 j.jobs ws) j.works_are j.ran.each in
      let clients : AllByRecursion (λ (w : Work). w.done.client < j.settings.clients) works = subst (λ (ws : List Work). AllByRecursion (λ (w : Work). w.done.client < j.settings.clients) ws) j.works_are j.ran.by_clients in
      let agreed : EachAgrees tree j.jobs works = subst (λ (ws : List Work). EachAgrees tree j.jobs ws) j.works_are (j.ran.agrees (first-served j.settings.clients after.ends served) tree refl) in
      let none = nothing_failed (OutsideRose before after) status (some_outcome is_out_fault works) (some_outcome is_tree_fault works) (some_outcome is_diag works) zero_is status_is.1 in
      subst (λ (js : List Job). EachIsPut tree (map kept_of after.ends) js) same
      (all_put tree works j.settings.clients before.ends after.ends (few_clients (length before.ends) words j.settings j.asked) each nothing the_known 0 j.jobs works (λ w m. m) clients
      (all_texts works status_is.0 none.0 none.1.0 none.1.1) recorded agreed)

  of_ending : (ending : PumpEnding) → HasEnding (pump_given (Some tree) peer words) before after ending → EachEnd 0 (ran ending) before.ends after.ends
      → (status ≡ 5) ⊎ StatusIs before after ending status → EachIsPut tree (map kept_of after.ends) jobs
  of_ending ending cause each (inl five) = absurd (omega (arith, five, zero_is))
  of_ending Usage cause each (inr is) = absurd (omega (arith, is, zero_is))
  of_ending (ListRefused error) cause each (inr is) = absurd (omega (arith, is, zero_is))
  of_ending ListFault cause each (inr is) = absurd (omega (arith, is, zero_is))
  of_ending SpawnFault cause each (inr is) = absurd (omega (arith, is, zero_is))
  of_ending NoMemory cause each (inr is) = absurd is
  of_ending (Ran works totals) cause each (inr is) = of_works works totals cause each is

  all_ran : (named : Option FileTree) → named ≡ Some tree → IsRun (pump_given named peer words) before after status → EachIsPut tree (map kept_of after.ends) jobs
  all_ran named is run =
      let over : IsRun (pump_given (Some tree) peer words) before after status = subst (λ (n : Option FileTree). IsRun (pump_given n peer words) before after status) is run in
      of_ending over.ending over.cause over.ends over.status_is

-- ---- at ends ----

each_tells : {E : Type 0} (seen : E → EndSeen) (ends : List E) → ((e : E) → IsSome (seen e).talk) → EachTells (map seen ends)
each_tells seen [] tells = tt
each_tells seen (e ∷ ends) tells = (tells e, each_tells seen ends tells)

each_kept : {E : Type 0} (seen : E → EndSeen) (ends : List E) → AllByRecursion (λ (e : E). KeptNothing (seen e)) ends → AllByRecursion KeptNothing (map seen ends)
each_kept seen [] all = tt
each_kept seen (e ∷ ends) all = (all.0, each_kept seen ends all.1)

same_kepts : {E O : Type 0} (seen : E → EndSeen) (outs : E → O) (kept : O → Option (List Put)) (ends : List E) → ((e : E) → (seen e).kept ≡ kept (outs e))
    → map kept_of (map seen ends) ≡ map kept (map outs ends)
same_kepts seen outs kept [] same = refl
same_kepts seen outs kept (e ∷ ends) same = ap (λ (k : Option (List Put)). k ∷ map kept_of (map seen ends)) (same e) ∙ ap (λ (ks : List (Option (List Put))). kept (outs e) ∷ ks) (same_kepts seen outs kept ends same)

-- where the other side of the wires is the daemon
pub texts_put : {E O : Type 0} (seen : E → EndSeen) (outs : E → O) (kept : O → Option (List Put)) (olds news : List E) (named : Option FileTree) (peer : List ℕ → List ℕ → Type 0) (words : List (List ℕ))
    (before after : Outside) (status : ℕ) → IsRun (pump_given named peer words) before after status → before.ends ≡ map seen olds → after.ends ≡ map seen news
    → (tree : FileTree) (bytes : List ℕ) (jobs : List Job) (left : List O) → named ≡ Some tree → ServedByDaemon peer → IsDaemon peer → ((e : E) → IsSome (seen e).talk) → ((e : E) → (seen e).kept ≡ kept (outs e))
    → AllByRecursion (λ (e : E). KeptNothing (seen e)) olds → before.left ≡ Some bytes → status ≡ 0 → jobs_of bytes ≡ Ok jobs → left ≡ map outs news → EachIsPut tree (map kept left) jobs
texts_put seen outs kept olds news named peer words before after status run were are tree bytes jobs left named_is served daemon tells same nothing told zero_is listed left_is =
    let all_served : EachServed after.ends = served daemon after.ends (subst (λ (ends : List EndSeen). EachTells ends) (sym are) (each_tells seen news tells)) run.answered in
    let was : AllByRecursion KeptNothing before.ends = subst (λ (ends : List EndSeen). AllByRecursion KeptNothing ends) (sym were) (each_kept seen olds nothing) in
    let put : EachIsPut tree (map kept_of after.ends) jobs = all_ran tree peer words before after status bytes jobs zero_is all_served was told listed named named_is run in
    let kepts : map kept_of after.ends ≡ map kept left = ap (λ (ends : List EndSeen). map kept_of ends) are ∙ same_kepts seen outs kept news same ∙ ap (λ (os : List _). map kept os) (sym left_is) in
    subst (λ (ks : List (Option (List Put))). EachIsPut tree ks jobs) kepts put
