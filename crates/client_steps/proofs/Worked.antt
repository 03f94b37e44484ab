-- What private steps do to a client: its ledger, and the numbers that it drew.
use Rattle.std.proofs.Common.{arith, ◌≡◌, ◌⊎◌, ℕ, suc, ◌+◌, ◌<◌, ◌≤◌, cond, nat_eq, List, [], ◌∷◌, ◌++◌, Option, None, Some, refl, sym, ap, ◌∙◌, subst, inl, inr, append-nil, append_assoc}
use Rattle.std.specs.List.{flat_map, count_by, AllByRecursion}
use Rattle.std.proofs.lemmas.List.{map_push}
use Rattle.std.proofs.Math.Nat.{lt_trans}
use Rattle.job_words.specs.declared.job.Job.{Job}
use Rattle.io_edges.specs.declared.wire.Host.{Host}
use Rattle.job_ends.specs.Outside.{EndSeen}
use Rattle.tree_model.specs.Trees.{FileTree}
use Rattle.job_ends.specs.Record.{Known, known as known_of}
use Rattle.job_ends.specs.declared.record.Done.{Done}
use Rattle.job_ends.specs.Looks.{SheetCall}
use Rattle.job_ends.specs.Works.{Work}
use Rattle.base_types.proofs.Lists.{all_push}
use Rattle.client_steps.specs.declared.client.Client.{Client}
use Rattle.client_steps.specs.declared.phase.Phase.{Phase}
use Rattle.client_steps.specs.declared.phase.Phase.TheVariants.{Rests, Wants}
use Rattle.client_steps.specs.declared.phase.Advanced.{Advanced}
use Rattle.client_steps.specs.declared.phase.Advanced.TheVariants as adv
use Rattle.client_steps.specs.Phases.{Current, Finished, WantsThenTakes, StepKeeps, job_in_work, phase_rank}
use Rattle.client_steps.specs.Ledger.{GoUp, below_works, Ledger, all_calls, ClientHolds, NextKeeps, WorkHolds, one_if_some, one_if_job, DrewTheSame}
use Rattle.client_steps.proofs.Ledgers.{flat-snoc, count-snoc, one-more, work-holds}

-- the facts of a phase, by an equation of the phase
pub current-by : (known : Known) (jobs : List Job) (hosts : List Host) (p q : Phase) (calls : List SheetCall) (from now : EndSeen) → p ≡ q → Current known jobs hosts p calls from now → Current known jobs hosts q calls from now
current-by known jobs hosts p q calls from now e h = subst (λ (x : Phase). Current known jobs hosts x calls from now) e h

some-none : (o : Option ℕ) (n : ℕ) → o ≡ None → o ≡ Some n → ⊥
some-none o n none is = let e : None ≡ Some n = sym none ∙ is in absurd (cc)

-- a step's facts, by an equation of the budget
pub steps-by : (named : Option FileTree) (jobs : List Job) (hosts : List Host) (client b k : ℕ) (p : Phase) (before now : EndSeen) (r : Advanced) → b ≡ k → StepKeeps (known_of named b) jobs hosts client p before now r → StepKeeps (known_of named k) jobs hosts client p before now r
steps-by named jobs hosts client b k p before now r e h = subst (λ (n : ℕ). StepKeeps (known_of named n) jobs hosts client p before now r) e h

-- what of a client stays in its private work
pub record Stays (old new : Client) : Type 0 where
  pub number : new.number ≡ old.number
  pub least : new.least ≡ old.least
  pub records : new.records.items ≡ old.records.items

-- ---- another phase of the job ----

stays-held : (known : Known) (jobs : List Job) (hosts : List Host) (c d : Client) (ledger : Ledger) (first before now : EndSeen) → Stays c d → job_in_work d.phase ≡ job_in_work c.phase
    → ((calls : List SheetCall) (from : EndSeen) → Current known jobs hosts c.phase calls from before → Current known jobs hosts d.phase calls from now)
    → ClientHolds known jobs hosts c ledger first before → ClientHolds known jobs hosts d ledger first now
stays-held known jobs hosts c d ledger first before now stays same keeps was = record {
  records_are = was.records_are ∙ sym stays.records;
  by_client = subst (λ (n : ℕ). AllByRecursion (λ (w : Work). w.done.client ≡ n) ledger.works) (sym stays.number) was.by_client;
  each = was.each;
  rising = subst (λ (o : Option ℕ). GoUp 0 ledger.works (below_works o d.least)) (sym same) (subst (λ (n : ℕ). GoUp 0 ledger.works (below_works (job_in_work c.phase) n)) (sym stays.least) was.rising);
  in_work = λ n e. stays.least ∙ was.in_work n (sym same ∙ e);
  ends = was.ends;
  current = keeps ledger.calls ledger.from was.current;
}

pub next-on : (known : Known) (jobs : List Job) (hosts : List Host) (old c d : Client) (start before now : EndSeen) → Stays c d → job_in_work d.phase ≡ job_in_work c.phase
    → ((calls : List SheetCall) (from : EndSeen) → Current known jobs hosts c.phase calls from before → Current known jobs hosts d.phase calls from now)
    → NextKeeps known jobs hosts old c start before → NextKeeps known jobs hosts old d start now
next-on known jobs hosts old c d start before now stays same keeps so_far = λ first was h.
    let got = so_far first was h in record {
      ledger = got.ledger;
      holds = stays-held known jobs hosts c d got.ledger first before now stays same keeps got.holds;
      more_works = got.more_works;
      works_are = got.works_are;
      same_calls = got.same_calls;
    }

-- the work begins
pub next-begins : (known : Known) (jobs : List Job) (hosts : List Host) (old d : Client) (start : EndSeen) → Stays old d → d.phase ≡ old.phase → NextKeeps known jobs hosts old d start start
next-begins known jobs hosts old d start stays same = λ first was h. record {
  ledger = was;
  holds = stays-held known jobs hosts old d was first start start stays (ap job_in_work same) (λ calls from now. current-by known jobs hosts old.phase d.phase calls from start (sym same) now) h;
  more_works = [];
  works_are = sym (append-nil was.works);
  same_calls = refl;
}

-- ---- a record ----

go-up-snoc : (least : ℕ) (works : List Work) (w : Work) (bound more : ℕ) → GoUp least works bound → bound ≡ w.done.job → suc w.done.job ≤ more → GoUp least (works ++ w ∷ []) more
go-up-snoc least [] w bound more up at lt = (omega (arith, up, at), lt)
go-up-snoc least (v ∷ works) w bound more up at lt = (up.0, go-up-snoc (suc v.done.job) works w bound more up.1 at lt)

-- a job was done, and the client's record of it was added
pub record Adds (old new : Client) (done : Done) : Type 0 where
  pub number : new.number ≡ old.number
  pub least : new.least ≡ old.least
  pub records : new.records.items ≡ old.records.items ++ done ∷ []
  pub in_work : job_in_work old.phase ≡ Some done.job
  pub rests : new.phase ≡ Rests

no-job : (d : Client) → d.phase ≡ Rests → job_in_work d.phase ≡ None
no-job d rests = ap job_in_work rests

at-least : (job number least bound : ℕ) → job ≡ number → bound ≡ suc number → least ≡ bound → suc job ≤ least
at-least job number least bound is in_work same = omega (arith, is, in_work, same)

module _ (known : Known) (jobs : List Job) (hosts : List Host) where
  -- the ledger, with the work of the job that ended
  added-held : (c d : Client) (done : Done) (ledger : Ledger) (first before now : EndSeen) → Adds c d done → (ended : Finished known jobs hosts c.number done ledger.calls ledger.from now) → ClientHolds known jobs hosts c ledger first before
      → ClientHolds known jobs hosts d (record { works = ledger.works ++ ended.work ∷ []; calls = []; from = now }) first now
  added-held c d done ledger first before now adds ended was =
      let w = ended.work in
      let job_is : w.done.job ≡ done.job = ap (λ (x : Done). x.job) ended.done_is in
      record {
        records_are = map_push (λ (v : Work). v.done) ledger.works w ∙ ap (λ (l : List Done). l ++ w.done ∷ []) was.records_are ∙ ap (λ (x : Done). c.records.items ++ x ∷ []) ended.done_is ∙ sym adds.records;
        by_client = all_push (λ (v : Work). v.done.client ≡ d.number) ledger.works w (subst (λ (n : ℕ). AllByRecursion (λ (v : Work). v.done.client ≡ n) ledger.works) (sym adds.number) was.by_client)
            (ap (λ (x : Done). x.client) ended.done_is ∙ ended.client_is ∙ sym adds.number);
        each = all_push (WorkHolds known jobs hosts) ledger.works w was.each (work-holds known jobs hosts w ledger.from now ended.works);
        rising = subst (λ (o : Option ℕ). GoUp 0 (ledger.works ++ w ∷ []) (below_works o d.least)) (sym (no-job d adds.rests))
            (go-up-snoc 0 ledger.works w done.job d.least (subst (λ (o : Option ℕ). GoUp 0 ledger.works (below_works o c.least)) adds.in_work was.rising) (sym job_is)
            (at-least w.done.job done.job d.least c.least job_is (was.in_work done.job adds.in_work) adds.least));
        in_work = λ n e. absurd (some-none (job_in_work d.phase) n (no-job d adds.rests) e);
        ends = one-more known jobs hosts ledger.works w first ledger.from now was.ends ended.works;
        current = current-by known jobs hosts Rests d.phase [] now now (sym adds.rests) (refl, refl);
      }

  added-calls : (ledger was : Ledger) (w : Work) (now : EndSeen) → w.calls ≡ ledger.calls → all_calls ledger ≡ all_calls was → all_calls (record { works = ledger.works ++ w ∷ []; calls = []; from = now }) ≡ all_calls was
  added-calls ledger was w now calls_are same =
      append-nil (flat_map (λ (v : Work). v.calls) (ledger.works ++ w ∷ [])) ∙ flat-snoc (λ (v : Work). v.calls) ledger.works w ∙ ap (λ (l : List SheetCall). flat_map (λ (v : Work). v.calls) ledger.works ++ l) calls_are ∙ same

  pub next-adds : (old c d : Client) (done : Done) (start before now : EndSeen) → Adds c d done
      → ((calls : List SheetCall) (from : EndSeen) → Current known jobs hosts c.phase calls from before → Finished known jobs hosts c.number done calls from now)
      → NextKeeps known jobs hosts old c start before → NextKeeps known jobs hosts old d start now
  next-adds old c d done start before now adds keeps so_far = λ first was h.
      let got = so_far first was h in
      let ended = keeps got.ledger.calls got.ledger.from got.holds.current in
      record {
        ledger = record { works = got.ledger.works ++ ended.work ∷ []; calls = []; from = now };
        holds = added-held c d done got.ledger first before now adds ended got.holds;
        more_works = got.more_works ++ ended.work ∷ [];
        works_are = ap (λ (l : List Work). l ++ ended.work ∷ []) got.works_are ∙ append_assoc was.works got.more_works (ended.work ∷ []);
        same_calls = added-calls got.ledger was ended.work now ended.calls_are got.same_calls;
      }

-- ---- the numbers drawn ----

pub drew-on : (old c d : Client) → d.records.items ≡ c.records.items → job_in_work d.phase ≡ job_in_work c.phase → DrewTheSame old c → DrewTheSame old d
drew-on old c d records same so_far = λ n.
    ap (λ (l : List Done). count_by (λ (x : Done). nat_eq x.job n) l + one_if_job n (job_in_work d.phase)) records ∙ ap (λ (o : Option ℕ). count_by (λ (x : Done). nat_eq x.job n) c.records.items + one_if_job n o) same ∙ so_far n

add-none : (a b : ℕ) → a + b + 0 ≡ a + b
add-none a b = omega arith

pub drew-adds : (old c d : Client) (done : Done) → Adds c d done → DrewTheSame old c → DrewTheSame old d
drew-adds old c d done adds so_far = λ n.
    let p = λ (x : Done). nat_eq x.job n in
    ap (λ (o : Option ℕ). count_by p d.records.items + one_if_job n o) (no-job d adds.rests)
    ∙ ap (λ (l : List Done). count_by p l + 0) adds.records
    ∙ ap (λ (k : ℕ). k + 0) (count-snoc p c.records.items done)
    ∙ add-none (count_by p c.records.items) (cond (nat_eq done.job n) 1 0)
    ∙ ap (λ (o : Option ℕ). count_by p c.records.items + one_if_job n o) (sym adds.in_work)
    ∙ so_far n

-- ---- how far it is ----

-- no step was made, or the client is nearer to its end and didn't want a slot
abbrev pub IsNearer : Phase → Phase → Type 0
IsNearer new old = (new ≡ old) ⊎ ((phase_rank new < phase_rank old) × ((n : ℕ) (bytes : List ℕ) → old ≡ Wants n bytes → ⊥))

abbrev WantsNone : Phase → Type 0
WantsNone p = (n : ℕ) (bytes : List ℕ) → p ≡ Wants n bytes → ⊥

nearer-by : (old p q : Phase) → phase_rank q < phase_rank p → WantsNone p → IsNearer p old → IsNearer q old
nearer-by old p q lt none (inl same) = inr (subst (λ (x : Phase). phase_rank q < phase_rank x) same lt, subst WantsNone same none)
nearer-by old p q lt none (inr h) = inr (lt_trans {n = phase_rank q} {m = phase_rank p} {k = phase_rank old} lt h.0, h.1)

pub nearer-goes : (hosts : ℕ) (old p q : Phase) → phase_rank q < phase_rank p → WantsThenTakes hosts p (adv.Goes q) → IsNearer p old → IsNearer q old
nearer-goes hosts old p q lt wants so_far = nearer-by old p q lt (λ n bytes e. let no = wants n bytes e in absurd (cc)) so_far

pub nearer-records : (hosts : ℕ) (old p : Phase) (done : Done) → 2 < phase_rank p → WantsThenTakes hosts p (adv.Records done) → IsNearer p old → IsNearer Rests old
nearer-records hosts old p done lt wants so_far = nearer-by old p Rests lt (λ n bytes e. let no = wants n bytes e in absurd (cc)) so_far

-- ---- room for its records ----

pub room-goes : (p q : Phase) (n least : ℕ) → job_in_work q ≡ job_in_work p → one_if_some (job_in_work p) + n ≤ least → one_if_some (job_in_work q) + n ≤ least
room-goes p q n least same was = subst (λ (o : Option ℕ). one_if_some o + n ≤ least) (sym same) was

pub room-records : (p : Phase) (job n more least : ℕ) → job_in_work p ≡ Some job → more ≡ n + 1 → one_if_some (job_in_work p) + n ≤ least → 0 + more ≤ least
room-records p job n more least is longer was = one-longer n more least longer (subst (λ (o : Option ℕ). one_if_some o + n ≤ least) is was)
  where
    one-longer : (n more least : ℕ) → more ≡ n + 1 → 1 + n ≤ least → 0 + more ≤ least
    one-longer n more least longer was = omega (arith, longer, was)
