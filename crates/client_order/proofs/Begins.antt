-- The beginning of a run: clients that did nothing, free slots, and an empty memo.
use Rattle.std.proofs.Common.{arith, ◌≡◌, ℕ, zero, suc, ◌+◌, ◌<◌, ◌≤◌, cond, nat_lt, nat_eq, ◌==◌, List, [], ◌∷◌, ◌++◌, map, length, replicate, Option, None, Some, refl, sym, ap, ◌∙◌, subst, slice_index, add-zero}
use Rattle.std.specs.List.{filter_map, filter, count_by, sum_by, All, AllByRecursion}
use Rattle.std.proofs.lemmas.List.{length-map}
use Rattle.std.proofs.lemmas.List.Elements.{All-nil, All-cons, All-head, All-tail}
use Rattle.std.proofs.lemmas.List.Sums.{sum_by-cons}
use Rattle.std.proofs.lemmas.Bool.Decides.{nat_tests}
use Rattle.job_words.specs.declared.job.Job.{Job}
use Rattle.io_edges.specs.declared.wire.Host.{Host}
use Rattle.io_edges.specs.declared.wire.Exchange.{Exchange}
use Rattle.io_edges.specs.declared.wire.LinkState.{LinkState}
use Rattle.io_edges.specs.declared.wire.LinkState.TheVariants.{Closed}
use Rattle.io_edges.specs.Talk.{EachAnswered}
use Rattle.std.specs.Option.{ForSome}
use Rattle.base_types.specs.Limits.{job_limit}
use Rattle.tree_model.specs.Trees.{FileTree, IsTree}
use Rattle.host_slots.specs.Slots.{Leased, HasSlots}
use Rattle.closure_memo.specs.declared.step.MemoCall.{MemoCall}
use Rattle.job_ends.specs.declared.record.Done.{Done}
use Rattle.job_ends.specs.Outside.{EndSeen}
use Rattle.job_ends.specs.Record.{Known, known as known_of}
use Rattle.job_ends.specs.Works.{IsFresh}
use Rattle.job_ends.proofs.Unused.{still-end, quiet}
use Rattle.client_steps.specs.declared.client.Client.{Client}
use Rattle.client_steps.specs.declared.phase.Phase.{Phase}
use Rattle.client_steps.specs.declared.phase.Phase.TheVariants.{Rests, Ended}
use Rattle.client_steps.specs.Phases.{Current, CanWork, job_in_work, leased_by}
use Rattle.client_steps.specs.Ledger.{Ledger, ClientHolds, IsNew, HasRoom, times_drawn, one_if_job}
use Rattle.client_order.specs.Ran.{MemoSeen, calls_of, call_at}
use Rattle.client_order.specs.parts.World.{ClientFits, EachDid, AreNumberedFrom, WorldHolds, slots_held, one_if_same}
use Rattle.client_order.specs.parts.Merged.{AreNew}

-- ---- clients ----

pub new-snoc : (k jobs budget : ℕ) (clients : List Client) (c : Client) → AreNew k jobs budget clients → IsNew (k + length clients) jobs budget c → HasRoom c → AreNew k jobs budget (clients ++ c ∷ [])
new-snoc k jobs budget [] c are new room = (subst (λ n. IsNew n jobs budget c) (add-zero k) new, (room, tt))
new-snoc k jobs budget (d ∷ clients) c are new room = (are.0, (are.1.0, new-snoc (suc k) jobs budget clients c are.1.1 (subst (λ n. IsNew n jobs budget c) (next k (length clients)) new) room))
  where
    next : (k n : ℕ) → k + suc n ≡ suc k + n
    next k n = omega arith

pub new-rest : (k jobs budget : ℕ) (clients : List Client) → AreNew k jobs budget clients → All (λ (c : Client). c.phase ≡ Rests) clients
new-rest k jobs budget [] are = All-nil (λ (c : Client). c.phase ≡ Rests)
new-rest k jobs budget (c ∷ clients) are = All-cons (λ (d : Client). d.phase ≡ Rests) c clients are.0.phase (new-rest (suc k) jobs budget clients are.1.1)

pub new-numbered : (k jobs budget : ℕ) (clients : List Client) → AreNew k jobs budget clients → AreNumberedFrom k clients
new-numbered k jobs budget [] are = tt
new-numbered k jobs budget (c ∷ clients) are = (are.0.number, new-numbered (suc k) jobs budget clients are.1.1)

rests-not-ended : (phase : Phase) (P : Type 0) → phase ≡ Rests → phase ≡ Ended → P
rests-not-ended phase P a b = absurd (let both : Rests ≡ Ended = sym a ∙ b in cc)

new-fits : (k jobs hosts budget : ℕ) (c : Client) → IsNew k jobs budget c → HasRoom c → ClientFits jobs hosts 0 c
new-fits k jobs hosts budget c new room = record {
  works = subst (CanWork jobs hosts) (sym new.phase) tt;
  count = new.jobs;
  least = let least = new.least in omega (arith, least);
  room = room;
  all = rests-not-ended c.phase (jobs ≤ 0) new.phase;
}

new-each : (k jobs hosts budget : ℕ) (clients : List Client) → AreNew k jobs budget clients → All (ClientFits jobs hosts 0) clients
new-each k jobs hosts budget [] are = All-nil (ClientFits jobs hosts 0)
new-each k jobs hosts budget (c ∷ clients) are = All-cons (ClientFits jobs hosts 0) c clients (new-fits k jobs hosts budget c are.0 are.1.0) (new-each (suc k) jobs hosts budget clients are.1.1)

-- a sum of nothing for each client
sum-none : (f : Client → ℕ) (k jobs budget : ℕ) (clients : List Client) → ((i : ℕ) (c : Client) → IsNew i jobs budget c → f c ≡ 0) → AreNew k jobs budget clients → sum_by f clients ≡ 0
sum-none f k jobs budget [] none are = refl
sum-none f k jobs budget (c ∷ clients) none are =
    let here = none k c are.0 in let rest = sum-none f (suc k) jobs budget clients none are.1.1 in sum_by-cons f c clients ∙ omega (arith, here, rest)

drew-none : (n k jobs budget : ℕ) (c : Client) → IsNew k jobs budget c → times_drawn n c ≡ 0
drew-none n k jobs budget c new =
    ap (λ (l : List Done). count_by (λ (d : Done). nat_eq d.job n) l + one_if_job n (job_in_work c.phase)) new.none
    ∙ ap (λ (p : Phase). 0 + one_if_job n (job_in_work p)) new.phase

holds-none : (host k jobs budget : ℕ) (c : Client) → IsNew k jobs budget c → one_if_same host (leased_by c.phase) ≡ 0
holds-none host k jobs budget c new = ap (λ (p : Phase). one_if_same host (leased_by p)) new.phase

-- ---- the world ----

none-below : (n : ℕ) → ◌≡◌ {A = ℕ} (cond (nat_lt n 0) 1 0) 0
none-below n = grind (arith, nat_tests)

index-replicate : (n host : ℕ) → slice_index (replicate n 0) host ≡ 0
index-replicate zero host = refl
index-replicate (suc n) zero = refl
index-replicate (suc n) (suc host) = index-replicate n host

some-limit : (hosts : List Host) (host : ℕ) → All HasSlots hosts → host < length hosts → 1 ≤ slice_index (map (λ (h : Host). h.limit) hosts) host
some-limit [] host slots lt = absurd (omega (arith, lt))
some-limit (h ∷ hosts) zero slots lt = (All-head HasSlots h hosts slots).0
some-limit (h ∷ hosts) (suc host) slots lt = some-limit hosts host (All-tail HasSlots h hosts slots) (omega (arith, lt))

pub world-begins : (jobs budget : ℕ) (hosts : List Host) (s : Leased) (clients : List Client) → jobs ≤ job_limit → 1 ≤ length hosts → All HasSlots hosts
    → s.limits ≡ map (λ (h : Host). h.limit) hosts → s.leased ≡ replicate (length hosts) 0 → AreNew 0 jobs budget clients → WorldHolds jobs (length hosts) 0 s clients
world-begins jobs budget hosts s clients few some slots limits free are = record {
  few = few;
  drawn_few = omega arith;
  each = new-each 0 jobs (length hosts) budget clients are;
  once = λ n. sum-none (times_drawn n) 0 jobs budget clients (λ i c. drew-none n i jobs budget c) are ∙ sym (none-below n);
  one_each = ap length limits ∙ length-map hosts (λ (h : Host). h.limit);
  some = some;
  limits = λ host lt. subst (λ (l : List ℕ). 1 ≤ slice_index l host) (sym limits) (some-limit hosts host slots lt);
  held = λ host. sum-none (λ (c : Client). one_if_same host (leased_by c.phase)) 0 jobs budget clients (λ i c. holds-none host i jobs budget c) are
      ∙ sym (ap (λ (l : List ℕ). slice_index l host) free ∙ index-replicate (length hosts) host);
}

-- ---- what was done: nothing ----

pub no-calls : (client : ℕ) (memo : MemoSeen) → memo.steps ≡ [] → calls_of client memo ≡ []
no-calls client memo none = ap (λ (steps : List MemoCall). filter_map (call_at memo.keys) (filter (λ (s : MemoCall). s.client == client) steps)) none

abbrev nothing : EndSeen → Ledger
nothing e = record { works = []; calls = []; from = e }

new-holds : (known : Known) (jobs : List Job) (hosts : List Host) (k count budget : ℕ) (c : Client) (e : EndSeen) → IsNew k count budget c → ClientHolds known jobs hosts c (nothing e) e e
new-holds known jobs hosts k count budget c e new = record {
  records_are = sym new.none;
  by_client = tt;
  each = tt;
  rising = omega arith;
  in_work = λ n is. absurd (let both : None ≡ Some n = ap job_in_work (sym new.phase) ∙ is in cc);
  ends = still-end e;
  current = subst (λ (p : Phase). Current known jobs hosts p [] e e) (sym new.phase) (refl, refl);
}

pub nothing-done : (named : Option FileTree) (budget : ℕ) (jobs : List Job) (hosts : List Host) (memo : MemoSeen) (count k : ℕ) (clients : List Client) (ends : List EndSeen) → memo.steps ≡ [] → length ends ≡ length clients
    → AreNew k count budget clients → EachDid (known_of named budget) jobs hosts memo k clients ends ends
nothing-done named budget jobs hosts memo count k [] [] empty same are = tt
nothing-done named budget jobs hosts memo count k [] (e ∷ ends) empty same are = absurd (omega (arith, same))
nothing-done named budget jobs hosts memo count k (c ∷ clients) [] empty same are = absurd (omega (arith, same))
nothing-done named budget jobs hosts memo count k (c ∷ clients) (e ∷ ends) empty same are = (
  are.0.number,
  (
    are.0.budget,
    (
      record { ledger = nothing e; holds = new-holds (known_of named budget) jobs hosts k count budget c e are.0; own = no-calls c.number memo empty },
      nothing-done named budget jobs hosts memo count (suc k) clients ends empty (omega (arith, same)) are.1.1,
    ),
  ),
)

-- ---- the ends ----

-- ends that weren't used are closed, and all that was answered on them was answered so
pub fresh-links : {E W : Type 0} (seen : E → EndSeen) (wire : E → W) (state : W → LinkState) (talk : W → Option (List Exchange)) (peer : List ℕ → List ℕ → Type 0)
    → ((e : E) → (seen e).state ≡ state (wire e)) → ((e : E) → (seen e).talk ≡ talk (wire e)) → (ends : List E) → AllByRecursion IsFresh (map seen ends)
    → All (λ e. (state (wire e) ≡ Closed) × EachAnswered peer (talk (wire e))) ends
fresh-links seen wire state talk peer states talks [] fresh = All-nil (λ e. (state (wire e) ≡ Closed) × EachAnswered peer (talk (wire e)))
fresh-links seen wire state talk peer states talks (e ∷ ends) fresh =
    All-cons (λ d. (state (wire d) ≡ Closed) × EachAnswered peer (talk (wire d))) e ends
    (sym (states e) ∙ fresh.0.closed, subst (EachAnswered peer) (talks e) (quiet peer (seen e).talk fresh.0.no_talk))
    (fresh-links seen wire state talk peer states talks ends fresh.1)

-- what an object of the first end tells is a tree, so what is named is one
pub named-whole : {E T : Type 0} (tree_of : E → T) (told : T → Option FileTree) (named : Option FileTree) → ((object : T) (tree : FileTree) → named ≡ Some tree → told object ≡ Some tree)
    → ((object : T) (tree : FileTree) → told object ≡ Some tree → IsTree tree) → (ends : List E) → 1 ≤ length ends → ForSome named IsTree
named-whole tree_of told named tells whole [] some = absurd (omega (arith, some))
named-whole tree_of told named tells whole (e ∷ ends) some = λ tree is. whole (tree_of e) tree (tells (tree_of e) tree is)
