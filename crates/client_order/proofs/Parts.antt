-- What each client of a run did by its end, as plain data: its works, and its end before and after.
use Rattle.std.proofs.Common.{arith, ◌≡◌, ℕ, zero, suc, ◌+◌, ◌<◌, ◌≤◌, ◌==◌, Bool, true, false, cond, nat_lt, nat_eq, List, [], ◌∷◌, ◌++◌, map, length, refl, sym, ap, ◌∙◌, subst, inl, inr, append-nil, append_assoc, ne_eqb, eq-eqb, add-zero}
use Rattle.std.specs.List.{flat_map, count_by, sum_by, All, AllByRecursion}
use Rattle.std.proofs.lemmas.Bool.Decides.{eqb_tells, leb_tells}
use Rattle.std.proofs.lemmas.List.{map-append}
use Rattle.std.proofs.lemmas.List.Elements.{filter-append, All-head, All-tail, All-from_recursion}
use Rattle.std.proofs.lemmas.List.Sums.{sum_by-cons, sum_by-append, length-filter}
use Rattle.job_words.specs.declared.job.Job.{Job}
use Rattle.io_edges.specs.declared.wire.Host.{Host}
use Rattle.job_ends.specs.declared.record.Done.{Done}
use Rattle.job_ends.specs.Outside.{EndSeen}
use Rattle.job_ends.specs.Record.{Known}
use Rattle.job_ends.specs.Looks.{SheetCall}
use Rattle.job_ends.specs.Works.{Work, works_of, EndHolds, EachEnd}
use Rattle.client_steps.specs.declared.client.Client.{Client}
use Rattle.client_steps.specs.declared.phase.Phase.{Phase}
use Rattle.client_steps.specs.declared.phase.Phase.TheVariants.{Ended}
use Rattle.client_steps.specs.Phases.{Current, job_in_work}
use Rattle.client_steps.specs.Ledger.{WorkHolds, GoUp, below_works, times_drawn, one_if_job}
use Rattle.client_steps.proofs.Puts.{go-further}
use Rattle.base_types.proofs.Lists.{all_append}
use Rattle.client_order.specs.Ran.{MemoSeen, calls_of}
use Rattle.client_order.specs.parts.World.{ClientDid, EachDid, AllEnded, EachDrawnOnce, ClientFits}
use Rattle.client_order.specs.parts.Merged.{with_number, in_order, records_of, job_number, AtMostOnce, EachBelow}
use Rattle.client_order.proofs.InOrder.{all-weaker, filter-none, filter-all, in-order-filter, in-order-nil, in-order-below}

pub record Part : Type 0 where
  pub works : List Work
  pub first : EndSeen
  pub now : EndSeen

-- the works of all parts, client by client
abbrev pub all_works : List Part → List Work
all_works parts = flat_map (λ (p : Part). p.works) parts

abbrev pub work_number : Work → ℕ
work_number w = w.done.job

-- what one client did: its works, each number below a bound, and what they left at its end and in the memo
pub record PartHolds (known : Known) (jobs : List Job) (hosts : List Host) (memo : MemoSeen) (bound k : ℕ) (p : Part) : Type 0 where
  pub by_client : AllByRecursion (λ (w : Work). w.done.client ≡ k) p.works
  pub each : AllByRecursion (WorkHolds known jobs hosts) p.works
  pub rising : GoUp 0 p.works bound
  pub ends : EndHolds p.works p.first p.now
  pub own : calls_of k memo ≡ flat_map (λ (w : Work). w.calls) p.works

module _ (known : Known) (jobs : List Job) (hosts : List Host) (memo : MemoSeen) (bound : ℕ) where
  abbrev pub EachPart : ℕ → List Part → Type 0
  EachPart k [] = Unit {0}
  EachPart k (p ∷ parts) = PartHolds known jobs hosts memo bound k p × EachPart (suc k) parts

-- the parts of clients, from number k on
pub record PartsOf (known : Known) (jobs : List Job) (hosts : List Host) (memo : MemoSeen) (bound k : ℕ) (clients : List Client) (before after : List EndSeen) : Type 0 where
  pub parts : List Part
  pub hold : EachPart known jobs hosts memo bound k parts
  pub firsts : map (λ (p : Part). p.first) parts ≡ before
  pub nows : map (λ (p : Part). p.now) parts ≡ after
  pub records_are : map (λ (w : Work). w.done) (all_works parts) ≡ records_of clients
  pub count : length parts ≡ length clients

-- ---- from clients that have ended ----

below-ended : (phase : Phase) (least : ℕ) → phase ≡ Ended → below_works (job_in_work phase) least ≡ least
below-ended phase least e = ap (λ (p : Phase). below_works (job_in_work p) least) e

current-ended : (known : Known) (jobs : List Job) (hosts : List Host) (phase : Phase) (calls : List SheetCall) (from now : EndSeen) → phase ≡ Ended → Current known jobs hosts phase calls from now → (now ≡ from) × (calls ≡ [])
current-ended known jobs hosts phase calls from now e current = subst (λ (p : Phase). Current known jobs hosts p calls from now) e current

module _ (known : Known) (jobs : List Job) (hosts : List Host) (memo : MemoSeen) (drawn : ℕ) where
  part-holds : (k hosts_count : ℕ) (c : Client) (first now : EndSeen) → c.number ≡ k → ClientFits (length jobs) hosts_count drawn c → c.phase ≡ Ended → (did : ClientDid known jobs hosts memo c first now)
      → PartHolds known jobs hosts memo drawn k (record { works = did.ledger.works; first = first; now = now })
  part-holds k hosts_count c first now number fits ended did =
      let still = current-ended known jobs hosts c.phase did.ledger.calls did.ledger.from now ended did.holds.current in
      record {
        by_client = subst (λ n. AllByRecursion (λ (w : Work). w.done.client ≡ n) did.ledger.works) number did.holds.by_client;
        each = did.holds.each;
        rising = go-further 0 did.ledger.works c.least drawn fits.least (subst (GoUp 0 did.ledger.works) (below-ended c.phase c.least ended) did.holds.rising);
        ends = subst (EndHolds did.ledger.works first) (sym still.0) did.holds.ends;
        own = ap (λ n. calls_of n memo) (sym number) ∙ (did.own ∙ (ap (λ (l : List SheetCall). flat_map (λ (w : Work). w.calls) did.ledger.works ++ l) still.1 ∙ append-nil (flat_map (λ (w : Work). w.calls) did.ledger.works)));
      }

  pub parts-of : (hosts_count k : ℕ) (clients : List Client) (before after : List EndSeen) → All (ClientFits (length jobs) hosts_count drawn) clients → AllEnded clients → EachDid known jobs hosts memo k clients before after
      → PartsOf known jobs hosts memo drawn k clients before after
  parts-of hosts_count k [] [] [] fits ended did = record { parts = []; hold = tt; firsts = refl; nows = refl; records_are = refl; count = refl }
  parts-of hosts_count k (c ∷ clients) (first ∷ before) (now ∷ after) fits ended did =
      let rest = parts-of hosts_count (suc k) clients before after (All-tail (ClientFits (length jobs) hosts_count drawn) c clients fits) (All-tail (λ (d : Client). d.phase ≡ Ended) c clients ended) did.1.1.1 in
      let own = did.1.1.0 in
      record {
        parts = record { works = own.ledger.works; first = first; now = now } ∷ rest.parts;
        hold = (part-holds k hosts_count c first now did.0 (All-head (ClientFits (length jobs) hosts_count drawn) c clients fits) (All-head (λ (d : Client). d.phase ≡ Ended) c clients ended) own, rest.hold);
        firsts = ap (λ (l : List EndSeen). first ∷ l) rest.firsts;
        nows = ap (λ (l : List EndSeen). now ∷ l) rest.nows;
        records_are = map-append (λ (w : Work). w.done) own.ledger.works (all_works rest.parts) ∙ (ap (λ (l : List Done). l ++ map (λ (w : Work). w.done) (all_works rest.parts)) own.holds.records_are ∙ ap (λ (l : List Done). c.records.items ++ l) rest.records_are);
        count = ap suc rest.count;
      }
  parts-of hosts_count k [] [] (now ∷ after) fits ended did = elim did [ ]
  parts-of hosts_count k [] (first ∷ before) after fits ended did = elim did [ ]
  parts-of hosts_count k (c ∷ clients) [] after fits ended did = elim did [ ]
  parts-of hosts_count k (c ∷ clients) (first ∷ before) [] fits ended did = elim did [ ]

-- ---- each number once ----

drawn-ended : (n : ℕ) (c : Client) → c.phase ≡ Ended → times_drawn n c ≡ count_by (λ (d : Done). nat_eq d.job n) c.records.items
drawn-ended n c e = ap (λ (p : Phase). count_by (λ (d : Done). nat_eq d.job n) c.records.items + one_if_job n (job_in_work p)) e ∙ add-zero (count_by (λ (d : Done). nat_eq d.job n) c.records.items)

times-of-records : (n : ℕ) (clients : List Client) → AllEnded clients → sum_by (times_drawn n) clients ≡ count_by (λ (d : Done). nat_eq d.job n) (records_of clients)
times-of-records n [] ended = refl
times-of-records n (c ∷ clients) ended =
    sum_by-cons (times_drawn n) c clients
    ∙ (ap (λ m. m + sum_by (times_drawn n) clients) (drawn-ended n c (All-head (λ (d : Client). d.phase ≡ Ended) c clients ended))
    ∙ (ap (λ m. count_by (λ (d : Done). nat_eq d.job n) c.records.items + m) (times-of-records n clients (All-tail (λ (d : Client). d.phase ≡ Ended) c clients ended))
    ∙ sym (sum_by-append (λ (d : Done). cond (nat_eq d.job n) 1 0) c.records.items (records_of clients))))

-- how often each number stands among the records
pub number-counts : (drawn : ℕ) (clients : List Client) → AllEnded clients → EachDrawnOnce drawn clients → (n : ℕ) → length (with_number job_number n (records_of clients)) ≡ cond (nat_lt n drawn) 1 0
number-counts drawn clients ended once n = length-filter (λ (d : Done). nat_eq d.job n) (records_of clients) ∙ (sym (times-of-records n clients ended) ∙ once n)

at-most-one : (b : Bool) → cond b 1 0 ≤ 1
at-most-one true = omega arith
at-most-one false = omega arith

pub at-most-once : (drawn : ℕ) (clients : List Client) → AllEnded clients → EachDrawnOnce drawn clients → AtMostOnce (records_of clients)
at-most-once drawn clients ended once n = subst (λ m. m ≤ 1) (sym (number-counts drawn clients ended once n)) (at-most-one (nat_lt n drawn))

-- ---- a client's works among all ----

not-other : (k c : ℕ) (works : List Work) → (k ≡ c → ⊥) → AllByRecursion (λ (w : Work). w.done.client ≡ k) works → works_of c works ≡ []
not-other k c works ne by_client = filter-none (λ (w : Work). w.done.client == c) works (all-weaker (λ (w : Work). w.done.client ≡ k) (λ (w : Work). (w.done.client == c) ≡ false) (λ w e. ne_eqb w.done.client c (λ same. ne (sym e ∙ same))) works by_client)

its-own : (k : ℕ) (works : List Work) → AllByRecursion (λ (w : Work). w.done.client ≡ k) works → works_of k works ≡ works
its-own k works by_client = filter-all (λ (w : Work). w.done.client == k) works (all-weaker (λ (w : Work). w.done.client ≡ k) (λ (w : Work). (w.done.client == k) ≡ true) (λ w e. eq-eqb w.done.client k e) works by_client)

go-up-le : (least : ℕ) (works : List Work) (bound : ℕ) → GoUp least works bound → least ≤ bound
go-up-le least [] bound up = up
go-up-le least (w ∷ works) bound up = let rest = go-up-le (suc w.done.job) works bound up.1 in let here = up.0 in omega (arith, rest, here)

go-up-sooner : (sooner least : ℕ) (works : List Work) (bound : ℕ) → sooner ≤ least → GoUp least works bound → GoUp sooner works bound
go-up-sooner sooner least [] bound le up = omega (arith, le, up)
go-up-sooner sooner least (w ∷ works) bound le up = (let here = up.0 in omega (arith, le, here), up.1)

none-above : (k : ℕ) (works : List Work) (bound : ℕ) → GoUp (suc k) works bound → with_number work_number k works ≡ []
none-above k [] bound up = refl
none-above k (w ∷ works) bound up =
    let here = up.0 in
    let other : (w.done.job == k) ≡ false = ne_eqb w.done.job k (λ e. absurd (omega (arith, here, e))) in
    rw other (none-above k works bound (go-up-sooner (suc k) (suc w.done.job) works bound (omega (arith, here)) up.1))

-- works whose numbers go up are in order
pub in-order-rising : (from count : ℕ) (works : List Work) (bound : ℕ) → bound ≤ from + count → GoUp from works bound → in_order work_number from count works ≡ works
in-order-rising from count [] bound le up = in-order-nil work_number from count
in-order-rising from zero (w ∷ works) bound le up = let rest = go-up-le (suc w.done.job) works bound up.1 in let here = up.0 in absurd (omega (arith, le, rest, here))
in-order-rising from (suc count) (w ∷ works) bound le up = elim (eqb_tells w.done.job from) [
  | inl same ↦ first-is same.0 same.1 (in-order-rising (suc from) count works bound (omega (arith, le)) (subst (λ n. GoUp (suc n) works bound) same.1 up.1))
  | inr other ↦ (let here = up.0 in let ne = other.1 in let above : suc from ≤ w.done.job = strictly here ne in
      rw other.0 (ap (λ l. l ++ in_order work_number (suc from) count (w ∷ works)) (none-above from works bound (go-up-sooner (suc from) (suc w.done.job) works bound (omega (arith, above)) up.1))
      ∙ in-order-rising (suc from) count (w ∷ works) bound (omega (arith, le)) (above, up.1)))
]
  where
    strictly : from ≤ w.done.job → (w.done.job ≡ from → ⊥) → suc from ≤ w.done.job
    strictly here ne = elim (leb_tells w.done.job from) [ inl at ↦ (let h = at.1 in absurd (ne (omega (arith, here, h)))) | inr above ↦ above.1 ]

    first-is : (w.done.job == from) ≡ true → w.done.job ≡ from → in_order work_number (suc from) count works ≡ works
        → cond (w.done.job == from) (w ∷ with_number work_number from works) (with_number work_number from works) ++ in_order work_number (suc from) count (w ∷ works) ≡ w ∷ works
    first-is test e rest = rw test (ap (λ l. w ∷ l)
        (ap (λ l. l ++ in_order work_number (suc from) count (w ∷ works)) (none-above from works bound (subst (λ n. GoUp (suc n) works bound) e up.1))
        ∙ (in-order-below work_number (suc from) count w works (omega (arith, e)) ∙ rest)))

module _ (known : Known) (jobs : List Job) (hosts : List Host) (memo : MemoSeen) (bound : ℕ) where
  -- a number below those of the parts has no works there
  no-works : (k c : ℕ) (parts : List Part) → c < k → EachPart known jobs hosts memo bound k parts → works_of c (all_works parts) ≡ []
  no-works k c [] lt hold = refl
  no-works k c (p ∷ parts) lt hold =
      filter-append (λ (w : Work). w.done.client == c) p.works (all_works parts)
      ∙ (ap (λ l. l ++ works_of c (all_works parts)) (not-other k c p.works (λ e. absurd (omega (arith, lt, e))) hold.0.by_client)
      ∙ no-works (suc k) c parts (omega (arith, lt)) hold.1)

  abbrev pub Splits : ℕ → List Part → List Work → Type 0
  Splits k [] works = Unit {0}
  Splits k (p ∷ parts) works = (works_of k works ≡ p.works) × Splits (suc k) parts works

  -- in a list of works that begins with those of other clients, each client's are those of its part
  splits-from : (k : ℕ) (parts : List Part) (front : List Work) → AllByRecursion (λ (w : Work). w.done.client < k) front → EachPart known jobs hosts memo bound k parts → Splits k parts (front ++ all_works parts)
  splits-from k [] front below hold = tt
  splits-from k (p ∷ parts) front below hold = (
    filter-append (λ (w : Work). w.done.client == k) front (p.works ++ all_works parts)
        ∙ (ap (λ l. l ++ works_of k (p.works ++ all_works parts)) (filter-none (λ (w : Work). w.done.client == k) front (all-weaker (λ (w : Work). w.done.client < k) (λ (w : Work). (w.done.client == k) ≡ false) (λ w lt. ne_eqb w.done.client k (λ e. absurd (omega (arith, lt, e)))) front below))
        ∙ (filter-append (λ (w : Work). w.done.client == k) p.works (all_works parts)
        ∙ (ap (λ l. l ++ works_of k (all_works parts)) (its-own k p.works hold.0.by_client)
        ∙ (ap (λ l. p.works ++ l) (no-works (suc k) k parts (omega arith) hold.1)
        ∙ append-nil p.works)))),
    subst (Splits (suc k) parts) (append_assoc front p.works (all_works parts))
        (splits-from (suc k) parts (front ++ p.works)
        (all_append (λ (w : Work). w.done.client < suc k) front p.works
        (all-weaker (λ (w : Work). w.done.client < k) (λ (w : Work). w.done.client < suc k) (λ w lt. omega (arith, lt)) front below)
        (all-weaker (λ (w : Work). w.done.client ≡ k) (λ (w : Work). w.done.client < suc k) (λ w e. omega (arith, e)) p.works hold.0.by_client))
        hold.1),
  )

  -- in order of number each client's are still those of its part
  splits-in-order : (k count : ℕ) (parts : List Part) (works : List Work) → bound ≤ count → EachPart known jobs hosts memo bound k parts → Splits k parts works → Splits k parts (in_order work_number 0 count works)
  splits-in-order k count [] works le hold splits = tt
  splits-in-order k count (p ∷ parts) works le hold splits = (
    in-order-filter work_number (λ (w : Work). w.done.client == k) 0 count works
        ∙ (ap (in_order work_number 0 count) splits.0
        ∙ in-order-rising 0 count p.works bound (omega (arith, le)) hold.0.rising),
    splits-in-order (suc k) count parts works le hold.1 splits.1,
  )

  pub splits : (count : ℕ) (parts : List Part) → bound ≤ count → EachPart known jobs hosts memo bound 0 parts → Splits 0 parts (in_order work_number 0 count (all_works parts))
  splits count parts le hold = splits-in-order 0 count parts (all_works parts) le hold (splits-from 0 parts [] tt hold)

  -- ---- what follows of the parts ----

  pub each-end : (k : ℕ) (parts : List Part) (works : List Work) → EachPart known jobs hosts memo bound k parts → Splits k parts works → EachEnd k works (map (λ (p : Part). p.first) parts) (map (λ (p : Part). p.now) parts)
  each-end k [] works hold splits = tt
  each-end k (p ∷ parts) works hold splits = (subst (λ (l : List Work). EndHolds l p.first p.now) (sym splits.0) hold.0.ends, each-end (suc k) parts works hold.1 splits.1)

  pub each-work : (k : ℕ) (parts : List Part) → EachPart known jobs hosts memo bound k parts → AllByRecursion (WorkHolds known jobs hosts) (all_works parts)
  each-work k [] hold = tt
  each-work k (p ∷ parts) hold = all_append (WorkHolds known jobs hosts) p.works (all_works parts) hold.0.each (each-work (suc k) parts hold.1)

  pub each-client : (k clients : ℕ) (parts : List Part) → k + length parts ≤ clients → EachPart known jobs hosts memo bound k parts → AllByRecursion (λ (w : Work). w.done.client < clients) (all_works parts)
  each-client k clients [] le hold = tt
  each-client k clients (p ∷ parts) le hold = all_append (λ (w : Work). w.done.client < clients) p.works (all_works parts)
      (all-weaker (λ (w : Work). w.done.client ≡ k) (λ (w : Work). w.done.client < clients) (λ w e. omega (arith, e, le)) p.works hold.0.by_client)
      (each-client (suc k) clients parts (omega (arith, le)) hold.1)

  -- the calls of each client's works are its calls on the memo
  own-at : (k : ℕ) (parts : List Part) (works : List Work) → EachPart known jobs hosts memo bound k parts → Splits k parts works → (client : ℕ) → k ≤ client → client < k + length parts
      → flat_map (λ (w : Work). w.calls) (works_of client works) ≡ calls_of client memo
  own-at k [] works hold splits client le lt = absurd (omega (arith, le, lt))
  own-at k (p ∷ parts) works hold splits client le lt = elim (eqb_tells client k) [
    | inl same ↦ subst (λ n. flat_map (λ (w : Work). w.calls) (works_of n works) ≡ calls_of n memo) (sym same.1) (ap (flat_map (λ (w : Work). w.calls)) splits.0 ∙ sym hold.0.own)
    | inr other ↦ (let ne = other.1 in own-at (suc k) parts works hold.1 splits.1 client (strictly k client le ne) (omega (arith, lt)))
  ]
    where
      strictly : (k client : ℕ) → k ≤ client → (client ≡ k → ⊥) → suc k ≤ client
      strictly k client le ne = elim (leb_tells client k) [ inl at ↦ (let h = at.1 in absurd (ne (omega (arith, le, h)))) | inr above ↦ above.1 ]

  pub own-calls : (parts : List Part) (works : List Work) → EachPart known jobs hosts memo bound 0 parts → Splits 0 parts works → AllByRecursion (λ (w : Work). w.done.client < length parts) works
      → ((other : ℕ) → length parts ≤ other → calls_of other memo ≡ []) → (client : ℕ) → flat_map (λ (w : Work). w.calls) (works_of client works) ≡ calls_of client memo
  own-calls parts works hold splits below none client = elim (leb_tells (length parts) client) [
    | inl stranger ↦ (let above = stranger.1 in ap (flat_map (λ (w : Work). w.calls)) (filter-none (λ (w : Work). w.done.client == client) works (all-weaker (λ (w : Work). w.done.client < length parts) (λ (w : Work). (w.done.client == client) ≡ false) (λ w lt. ne_eqb w.done.client client (λ e. absurd (omega (arith, lt, e, above)))) works below))
        ∙ sym (none client above))
    | inr of_run ↦ (let lt = of_run.1 in own-at 0 parts works hold splits client (omega arith) (omega (arith, lt)))
  ]

-- ---- each number below the next one ----

one-means : (n drawn m : ℕ) → 1 + m ≤ cond (nat_lt n drawn) 1 0 → n < drawn
one-means n drawn m le = elim (leb_tells (suc n) drawn) [
  | inl below ↦ below.1
  | inr above ↦ (let test : nat_lt n drawn ≡ false = above.0 in let none : 1 + m ≤ 0 = rw test at le in absurd (omega (arith, none)))
]

fewer : (b : Bool) (d : Done) (records : List Done) (n : ℕ) → length (cond b (d ∷ records) records) ≤ n → length records ≤ n
fewer true d records n le = omega (arith, le)
fewer false d records n le = le

numbers-below : (drawn : ℕ) (records : List Done) → ((n : ℕ) → length (with_number job_number n records) ≤ cond (nat_lt n drawn) 1 0) → AllByRecursion (λ (d : Done). d.job < drawn) records
numbers-below drawn [] few = tt
numbers-below drawn (d ∷ records) few = (
  (let same : (d.job == d.job) ≡ true = eq-eqb d.job d.job refl in
      one-means d.job drawn (length (with_number job_number d.job records)) (subst (λ m. m ≤ cond (nat_lt d.job drawn) 1 0) (ap length (first-kept (d.job == d.job) d (with_number job_number d.job records) same) ∙ add-suc-one (length (with_number job_number d.job records))) (few d.job))),
  numbers-below drawn records (λ n. fewer (d.job == n) d (with_number job_number n records) (cond (nat_lt n drawn) 1 0) (few n)),
)
  where
    first-kept : (b : Bool) (d : Done) (records : List Done) → b ≡ true → cond b (d ∷ records) records ≡ d ∷ records
    first-kept b d records e = rw e refl

    add-suc-one : (n : ℕ) → suc n ≡ 1 + n
    add-suc-one n = omega arith

pub each-below : (drawn jobs : ℕ) (clients : List Client) → AllEnded clients → EachDrawnOnce drawn clients → drawn ≤ jobs → EachBelow jobs (records_of clients)
each-below drawn jobs clients ended once few = All-from_recursion (λ (d : Done). d.job < jobs) (records_of clients)
    (all-weaker (λ (d : Done). d.job < drawn) (λ (d : Done). d.job < jobs) (λ d lt. omega (arith, lt, few)) (records_of clients)
    (numbers-below drawn (records_of clients) (λ n. same-le (number-counts drawn clients ended once n))))
  where
    same-le : {m n : ℕ} → m ≡ n → m ≤ n
    same-le e = omega (arith, e)
