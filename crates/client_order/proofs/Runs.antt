-- From what the clients did to what is said of a run.
use Rattle.std.proofs.Common.{arith, ◌≡◌, ℕ, suc, ◌+◌, ◌<◌, ◌≤◌, ◌==◌, true, false, cond, nat_lt, List, [], ◌∷◌, ◌++◌, map, length, Option, None, Some, refl, sym, ap, ◌∙◌, subst, slice_get, eqb-true, lt-ltb, zero-add, append-nil}
use Rattle.std.specs.List.{flat_map, AllByRecursion}
use Rattle.std.specs.Option.{ForSome}
use Rattle.std.proofs.lemmas.List.{length-map}
use Rattle.base_types.specs.Members.{Member}
use Rattle.base_types.specs.Told.{added}
use Rattle.base_types.proofs.Lists.{all_append}
use Rattle.tree_model.specs.Trees.{FileTree, IsTree}
use Rattle.job_words.specs.declared.job.Job.{Job}
use Rattle.job_words.specs.Words.{IsJob}
use Rattle.io_edges.specs.declared.wire.Host.{Host}
use Rattle.io_edges.specs.declared.wire.Exchange.{Exchange}
use Rattle.io_edges.specs.Talk.{IsAnswered}
use Rattle.job_frames.specs.Daemon.{Daemon}
use Rattle.daemon_answers.specs.Answers.{Answers}
use Rattle.host_slots.specs.Slots.{Leased}
use Rattle.closure_memo.specs.History.{is_look, is_hit, is_publication}
use Rattle.job_ends.specs.declared.record.Done.{Done}
use Rattle.job_ends.specs.Outside.{EndSeen}
use Rattle.job_ends.specs.Record.{Known, known as known_of, IsRecord}
use Rattle.job_ends.specs.Looks.{LooksFor}
use Rattle.job_ends.specs.Agree.{AreServed, Served, RecordsAgree, NoPeers, RecordsAreCalm}
use Rattle.job_ends.specs.Works.{Work, works_of, EndHolds, EachEnd, EachRecord, EachLooks, TalkIsServed, EachServed, EachAgrees}
use Rattle.client_steps.specs.declared.client.Client.{Client}
use Rattle.client_order.specs.declared.totals.Totals.{Totals}
use Rattle.client_steps.specs.Ledger.{WorkHolds}
use Rattle.client_order.specs.Ran.{MemoSeen, IsLegalMemo, calls_of, counted, Tallies, ClientsRan}
use Rattle.client_order.specs.parts.World.{EachDid, AllEnded, WorldHolds}
use Rattle.client_order.specs.parts.Merged.{with_number, in_order, records_of, job_number}
use Rattle.client_order.proofs.InOrder.{all-filter, all-passes, all-in-order, all-weaker, all-first, all-second, in-order-map, map-filter}
use Rattle.client_order.proofs.Counts.{IsListed, each-listed, steps-of-run, counts-agree}
use Rattle.client_order.proofs.Parts.{Part, EachPart, PartsOf, Splits, all_works, work_number, parts-of, number-counts, splits, each-end, each-work, each-client, own-calls}

-- ---- a work for each job ----

-- a work is of this job
pub record IsOf (known : Known) (hosts : List Host) (job : Job) (w : Work) : Type 0 where
  pub recorded : IsRecord known job w.done w.deeds
  pub looks : LooksFor known job w.calls w.reads w.deeds.exchanges w.done.way

module _ (known : Known) (hosts : List Host) where
  -- the works are those of the jobs, in order from number k on
  abbrev pub EachIsOf : ℕ → List Job → List Work → Type 0
  EachIsOf k [] [] = Unit {0}
  EachIsOf k [] (w ∷ works) = ⊥
  EachIsOf k (job ∷ jobs) [] = ⊥
  EachIsOf k (job ∷ jobs) (w ∷ works) = (w.done.job ≡ k) × (IsOf known hosts job w × EachIsOf (suc k) jobs works)

  pub each-record : (k : ℕ) (jobs : List Job) (works : List Work) → EachIsOf k jobs works → EachRecord known k jobs works
  each-record k [] [] each = tt
  each-record k [] (w ∷ works) each = each
  each-record k (job ∷ jobs) [] each = each
  each-record k (job ∷ jobs) (w ∷ works) each = (each.0, (each.1.0.recorded, each-record (suc k) jobs works each.1.1))

  pub each-looks : (k : ℕ) (jobs : List Job) (works : List Work) → EachIsOf k jobs works → EachLooks known jobs works
  each-looks k [] works each = tt
  each-looks k (job ∷ jobs) [] each = tt
  each-looks k (job ∷ jobs) (w ∷ works) each = (each.1.0.looks, each-looks (suc k) jobs works each.1.1)

  -- ---- the merged works ----

  same-job : (all : List Job) (n : ℕ) (job other : Job) → slice_get all n ≡ Some job → slice_get all n ≡ Some other → other ≡ job
  same-job all n job other a b = let both : Some other ≡ Some job = sym b ∙ a in cc

  is-of : (all : List Job) (k : ℕ) (job : Job) (w : Work) → slice_get all k ≡ Some job → w.done.job ≡ k → WorkHolds known all hosts w → IsOf known hosts job w
  is-of all k job w listed number holds =
      let same = same-job all k job holds.job listed (ap (slice_get all) (sym number) ∙ holds.listed) in
      record {
        recorded = subst (λ (j : Job). IsRecord known j w.done w.deeds) same holds.recorded;
        looks = subst (λ (j : Job). LooksFor known j w.calls w.reads w.deeds.exchanges w.done.way) same holds.looks;
      }

  one-of-each : (all : List Job) (k : ℕ) (job : Job) (jobs : List Job) (mine works : List Work) → length mine ≡ 1 → AllByRecursion (λ (w : Work). (w.done.job == k) ≡ true) mine → AllByRecursion (WorkHolds known all hosts) mine
      → slice_get all k ≡ Some job → EachIsOf (suc k) jobs works → EachIsOf k (job ∷ jobs) (mine ++ works)
  one-of-each all k job jobs [] works one numbers holds listed rest = absurd (omega (arith, one))
  one-of-each all k job jobs (w ∷ []) works one numbers holds listed rest = let number = eqb-true w.done.job k numbers.0 in (number, (is-of all k job w listed number holds.0, rest))
  one-of-each all k job jobs (w ∷ v ∷ mine) works one numbers holds listed rest = absurd (omega (arith, one))

  pub merged-is-of : (all : List Job) (pool : List Work) → AllByRecursion (WorkHolds known all hosts) pool → ((n : ℕ) → n < length all → length (with_number work_number n pool) ≡ 1)
      → (k : ℕ) (jobs : List Job) → k + length jobs ≡ length all → ((i : ℕ) → slice_get all (k + i) ≡ slice_get jobs i) → EachIsOf k jobs (in_order work_number k (length jobs) pool)
  merged-is-of all pool holds one k [] count suffix = tt
  merged-is-of all pool holds one k (job ∷ jobs) count suffix =
      one-of-each all k job jobs (with_number work_number k pool) (in_order work_number (suc k) (length jobs) pool) (one k (omega (arith, count)))
      (all-passes (λ (w : Work). w.done.job == k) pool) (all-filter (WorkHolds known all hosts) (λ (w : Work). w.done.job == k) pool holds)
      (ap (slice_get all) (plus-none k) ∙ suffix 0)
      (merged-is-of all pool holds one (suc k) jobs (omega (arith, count)) (λ i. ap (slice_get all) (next k i) ∙ suffix (suc i)))
    where
      plus-none : (k : ℕ) → k ≡ k + 0
      plus-none k = omega arith

      next : (k i : ℕ) → suc k + i ≡ k + suc i
      next k i = omega arith

-- ---- where hosts answer as daemons do ----

still-served : (first : Option (List Exchange)) (more_talk talk : List Exchange) → Some talk ≡ added more_talk first → AreServed talk → AreServed more_talk
still-served None more_talk talk e served = absurd (cc)
still-served (Some old) more_talk talk e served = let same : talk ≡ old ++ more_talk = cc in all-second (IsAnswered (Daemon Answers)) old more_talk (subst AreServed same served)

each-served : (works : List Work) → AreServed (flat_map (λ (w : Work). w.deeds.exchanges) works) → AllByRecursion (λ (w : Work). AreServed w.deeds.exchanges) works
each-served [] served = tt
each-served (w ∷ works) served = (
  all-first (IsAnswered (Daemon Answers)) w.deeds.exchanges (flat_map (λ (v : Work). v.deeds.exchanges) works) served,
  each-served works (all-second (IsAnswered (Daemon Answers)) w.deeds.exchanges (flat_map (λ (v : Work). v.deeds.exchanges) works) served),
)

end-served : (works : List Work) (before now : EndSeen) → EndHolds works before now → TalkIsServed now → AllByRecursion (λ (w : Work). AreServed w.deeds.exchanges) works
end-served works before now ends served = each-served works (still-served before.talk (flat_map (λ (w : Work). w.deeds.exchanges) works) served.talk (sym served.told ∙ ends.talk) served.served)

module _ (known : Known) (jobs : List Job) (hosts : List Host) (memo : MemoSeen) (bound : ℕ) where
  all-served : (k : ℕ) (parts : List Part) → EachPart known jobs hosts memo bound k parts → EachServed (map (λ (p : Part). p.now) parts) → AllByRecursion (λ (w : Work). AreServed w.deeds.exchanges) (all_works parts)
  all-served k [] hold served = tt
  all-served k (p ∷ parts) hold served = all_append (λ (w : Work). AreServed w.deeds.exchanges) p.works (all_works parts) (end-served p.works p.first p.now hold.0.ends served.0) (all-served (suc k) parts hold.1 served.1)

-- each work agrees with preprocessing over the named tree
each-agrees : (agree : RecordsAgree) (no_peers : NoPeers) (calm : RecordsAreCalm) (named : Option FileTree) (budget : ℕ) (hosts : List Host) (tree : FileTree) → named ≡ Some tree → IsTree tree
    → (k : ℕ) (jobs : List Job) (works : List Work) → AllByRecursion IsJob jobs → AllByRecursion (λ (w : Work). AreServed w.deeds.exchanges) works → EachIsOf (known_of named budget) hosts k jobs works → EachAgrees tree jobs works
each-agrees agree no_peers calm named budget hosts tree is whole k [] works jobs_are served each = tt
each-agrees agree no_peers calm named budget hosts tree is whole k (job ∷ jobs) [] jobs_are served each = tt
each-agrees agree no_peers calm named budget hosts tree is whole k (job ∷ jobs) (w ∷ works) jobs_are served each =
    let over : Served tree budget job w.done w.deeds = record {
      whole = whole;
      job_is = jobs_are.0;
      recorded = subst (λ (n : Option FileTree). IsRecord (known_of n budget) job w.done w.deeds) is each.1.0.recorded;
      served = served.0;
    } in (
      record { outcome = agree tree budget job w.done w.deeds over; no_peer = no_peers tree budget job w.done w.deeds over; calm = calm tree budget job w.done w.deeds over },
      each-agrees agree no_peers calm named budget hosts tree is whole (suc k) jobs works jobs_are.1 served.1 each.1.1,
    )

-- ---- the run ----

all-drawn : (jobs hosts drawn : ℕ) (s : Leased) (clients : List Client) → 1 ≤ length clients → WorldHolds jobs hosts drawn s clients → AllEnded clients → drawn ≡ jobs
all-drawn jobs hosts drawn s [] some world ended = absurd (omega (arith, some))
all-drawn jobs hosts drawn s (c ∷ clients) some world ended =
    let few = world.drawn_few in let all = (world.each 0 c (omega arith)).all (ended 0 c (omega arith)) in omega (arith, few, all)

one-below : (n jobs : ℕ) → n < jobs → ◌≡◌ {A = ℕ} (cond (nat_lt n jobs) 1 0) 1
one-below n jobs lt = let test : nat_lt n jobs ≡ true = lt-ltb n jobs lt in rw test refl

module _ (named : Option FileTree) (budget : ℕ) (jobs : List Job) (hosts : List Host) (clients : List Client) (memo : MemoSeen) (slots : Leased) (drawn : ℕ) (before after : List EndSeen)
    (did : EachDid (known_of named budget) jobs hosts memo 0 clients before after) (world : WorldHolds (length jobs) (length hosts) drawn slots clients) (ended : AllEnded clients) (some : 1 ≤ length clients) where
  abbrev known : Known
  known = known_of named budget

  abbrev parts : PartsOf known jobs hosts memo drawn 0 clients before after
  parts = parts-of known jobs hosts memo drawn (length hosts) 0 clients before after world.each ended did

  abbrev pool : List Work
  pool = all_works parts.parts

  abbrev merged : List Work
  merged = in_order work_number 0 (length jobs) pool

  numbers-once : (n : ℕ) → n < length jobs → length (with_number work_number n pool) ≡ 1
  numbers-once n lt =
      sym (length-map (with_number work_number n pool) (λ (w : Work). w.done))
      ∙ (ap length (map-filter (λ (w : Work). w.done) (λ (d : Done). d.job == n) pool ∙ ap (with_number job_number n) parts.records_are)
      ∙ (number-counts drawn clients ended world.once n ∙ one-below n drawn (subst (λ m. n < m) (sym (all-drawn (length jobs) (length hosts) drawn slots clients some world ended)) lt)))

  each-is-of : EachIsOf known hosts 0 jobs merged
  each-is-of = merged-is-of known hosts jobs pool (each-work known jobs hosts memo drawn 0 parts.parts parts.hold) numbers-once 0 jobs (zero-add (length jobs)) (λ i. ap (slice_get jobs) (zero-add i))

  each-splits : Splits known jobs hosts memo drawn 0 parts.parts merged
  each-splits = splits known jobs hosts memo drawn (length jobs) parts.parts world.drawn_few parts.hold

  pool-clients : AllByRecursion (λ (w : Work). w.done.client < length parts.parts) pool
  pool-clients = each-client known jobs hosts memo drawn 0 (length parts.parts) parts.parts (omega arith) parts.hold

  merged-clients : AllByRecursion (λ (w : Work). w.done.client < length parts.parts) merged
  merged-clients = all-in-order work_number (λ (w : Work). w.done.client < length parts.parts) 0 (length jobs) pool pool-clients

  merged-ends : EachEnd 0 merged before after
  merged-ends = subst (λ (l : List EndSeen). EachEnd 0 merged l after) parts.firsts
      (subst (λ (l : List EndSeen). EachEnd 0 merged (map (λ (p : Part). p.first) parts.parts) l) parts.nows (each-end known jobs hosts memo drawn 0 parts.parts merged parts.hold each-splits))

  merged-served : EachServed after → AllByRecursion (λ (w : Work). AreServed w.deeds.exchanges) merged
  merged-served served = all-in-order work_number (λ (w : Work). AreServed w.deeds.exchanges) 0 (length jobs) pool
      (all-served known jobs hosts memo drawn 0 parts.parts parts.hold (subst EachServed (sym parts.nows) served))

  module _ (legal : IsLegalMemo memo) (limit : memo.limit ≡ 4000000) (strangers : (other : ℕ) → length clients ≤ other → calls_of other memo ≡ []) where
    no-strangers : (other : ℕ) → length parts.parts ≤ other → calls_of other memo ≡ []
    no-strangers other above = strangers other (subst (λ n. n ≤ other) parts.count above)

    merged-own : (client : ℕ) → flat_map (λ (w : Work). w.calls) (works_of client merged) ≡ calls_of client memo
    merged-own = own-calls known jobs hosts memo drawn parts.parts merged parts.hold each-splits merged-clients no-strangers

    listed : AllByRecursion (IsListed memo.keys) memo.steps
    listed = each-listed memo.keys memo.steps legal.numbered

    of-run : AllByRecursion (λ s. s.client < length parts.parts) memo.steps
    of-run = steps-of-run (length parts.parts) memo.keys memo.steps listed no-strangers

    tallies : (totals : Totals) → totals ≡ counted (memo ∷ []) → Tallies false merged totals
    tallies totals are = record {
      memos = memo ∷ [];
      limits = ap (λ (n : ℕ). n ∷ []) limit;
      legal = (legal, tt);
      totals_are = are;
      looks = counts-agree is_look (length parts.parts) merged memo merged-clients listed of-run merged-own;
      hits = counts-agree is_hit (length parts.parts) merged memo merged-clients listed of-run merged-own;
      publications = counts-agree is_publication (length parts.parts) merged memo merged-clients listed of-run merged-own;
      own = λ one client. merged-own client ∙ sym (append-nil (calls_of client memo));
    }

    pub clients-ran : (agree : RecordsAgree) (no_peers : NoPeers) (calm : RecordsAreCalm) (jobs_are : AllByRecursion IsJob jobs) (whole : ForSome named IsTree)
        (records : List Done) (totals : Totals) → records ≡ in_order job_number 0 (length jobs) (records_of clients) → totals ≡ counted (memo ∷ [])
        → ClientsRan known jobs hosts (length clients) false before after records totals
    clients-ran agree no_peers calm jobs_are whole records totals records_are totals_are = record {
      works = merged;
      records_are = in-order-map (λ (w : Work). w.done) job_number 0 (length jobs) pool ∙ (ap (in_order job_number 0 (length jobs)) parts.records_are ∙ sym records_are);
      each = each-record known hosts 0 jobs merged each-is-of;
      ends = merged-ends;
      by_clients = subst (λ n. AllByRecursion (λ (w : Work). w.done.client < n) merged) parts.count merged-clients;
      to_hosts = all-in-order work_number (λ (w : Work). AllByRecursion (λ (e : Exchange). Member e.host hosts) w.deeds.exchanges) 0 (length jobs) pool
          (all-weaker (WorkHolds known jobs hosts) (λ (w : Work). AllByRecursion (λ (e : Exchange). Member e.host hosts) w.deeds.exchanges) (λ w holds. holds.to_hosts) pool (each-work known jobs hosts memo drawn 0 parts.parts parts.hold));
      looked = each-looks known hosts 0 jobs merged each-is-of;
      tallies = tallies totals totals_are;
      agrees = λ served tree is. each-agrees agree no_peers calm named budget hosts tree is (whole tree is) 0 jobs merged jobs_are (merged-served served) each-is-of;
    }
