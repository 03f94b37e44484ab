-- A run in which no count of an end rose: no count of a job rose.
use Rattle.std.proofs.Common.{◌≡◌, ℕ, zero, suc, ◌+◌, ◌<◌, ◌≤◌, ◌⊎◌, inl, inr, List, [], ◌∷◌, length, take, Bool, true, false, cond, subst, arith, refl}
use Rattle.std.specs.Prelude.{◌==◌}
use Rattle.std.proofs.lemmas.Bool.Decides.{leb_tells}
use Rattle.std.specs.List.{AllByRecursion}
use Rattle.std.proofs.lemmas.Bool.{eq-eqb}
use Rattle.tree_model.specs.Trees.{FileTree}
use Rattle.job_words.specs.declared.job.Job.{Job}
use Rattle.job_ends.specs.Agree.{AreStill, IsCalm}
use Rattle.job_ends.specs.Outside.{EndSeen}
use Rattle.job_ends.specs.Record.{Counts, Known, counts_of}
use Rattle.job_ends.specs.Works.{Work, EachEnd, EachRecord, EachAgrees, EachCalm, Chain, NotBelow, EachServed, works_of}
use Rattle.job_ends.proofs.Deeds.{rose-on}
use Rattle.pump_run.proofs.Beyond.{OfClients}

-- no count of the job's end rose in it
abbrev pub IsStill : Work → Type 0
IsStill w = AreStill w.deeds.before w.deeds.after

-- ---- counts that go up or stay ----

chain-late : (from now : Counts) (works : List Work) → Chain from works now → NotBelow from now
chain-late from now [] chain = chain
chain-late from now (w ∷ works) chain =
    let late = chain-late w.deeds.after now works chain.1.1 in
    record {
      tree = omega (arith, chain.0.tree, chain.1.0.tree, late.tree);
      wire = omega (arith, chain.0.wire, chain.1.0.wire, late.wire);
      outs = omega (arith, chain.0.outs, chain.1.0.outs, late.outs);
    }

-- where no count of the chain rose, none rose in a job of it
still-in-chain : (from now : Counts) (works : List Work) → Chain from works now → AreStill from now → AllByRecursion IsStill works
still-in-chain from now [] chain still = tt
still-in-chain from now (w ∷ works) chain still =
    let first = chain.0 in
    let own = chain.1.0 in
    let late = chain-late w.deeds.after now works chain.1.1 in (
      record {
        tree = λ rose. still.tree (rose-on from.tree w.deeds.before.tree w.deeds.after.tree now.tree first.tree late.tree rose);
        wire = λ rose. still.wire (rose-on from.wire w.deeds.before.wire w.deeds.after.wire now.wire first.wire late.wire rose);
        outs = λ rose. still.outs (rose-on from.outs w.deeds.before.outs w.deeds.after.outs now.outs first.outs late.outs rose);
      },
      still-in-chain w.deeds.after now works chain.1.1 (record {
        tree = λ rose. still.tree (rose-on from.tree w.deeds.after.tree now.tree now.tree (omega (arith, first.tree, own.tree)) (omega arith) rose);
        wire = λ rose. still.wire (rose-on from.wire w.deeds.after.wire now.wire now.wire (omega (arith, first.wire, own.wire)) (omega arith) rose);
        outs = λ rose. still.outs (rose-on from.outs w.deeds.after.outs now.outs now.outs (omega (arith, first.outs, own.outs)) (omega arith) rose);
      }),
    )

-- ---- the works of each client ----

pub this-or-above : (k client : ℕ) → k ≤ client → (k ≡ client) ⊎ (suc k ≤ client)
this-or-above k client least = elim (leb_tells (suc k) client) [
  | inl above ↦ inr above.1
  | inr below ↦ inl (omega (arith, least, below.1))
]

-- where no count of an end rose, none rose in a job of a client with an end
still-client : (k : ℕ) (works : List Work) (before after : List EndSeen) → EachEnd k works before after → EachCalm before after
    → (client : ℕ) → k ≤ client → client < k + length before → AllByRecursion IsStill (works_of client works)
still-client k works [] after each calm client least below = absurd (omega (arith, least, below))
still-client k works (old ∷ before) [] each calm client least below = absurd each
still-client k works (old ∷ before) (now ∷ after) each calm client least below = elim (this-or-above k client least) [
  | inl is ↦ subst (λ (n : ℕ). AllByRecursion IsStill (works_of n works)) is
      (still-in-chain (counts_of old) (counts_of now) (works_of k works) each.0.chain (record { tree = calm.0; wire = calm.1.0; outs = calm.1.1.0 }))
  | inr above ↦ still-client (suc k) works before after each.1 calm.1.1.1 client above (omega (arith, below))
]

first-of : (P : Work → Type 0) (w : Work) (works : List Work) → AllByRecursion P (works_of w.done.client (w ∷ works)) → P w
first-of P w works own = (rw (eq-eqb w.done.client w.done.client refl) at own).0

rest-by : (P : Work → Type 0) (w : Work) (works : List Work) (own : Bool) → AllByRecursion P (cond own (w ∷ works) works) → AllByRecursion P works
rest-by P w works true all = all.1
rest-by P w works false all = all

rest-of : (P : Work → Type 0) (w : Work) (works : List Work) (client : ℕ) → AllByRecursion P (works_of client (w ∷ works)) → AllByRecursion P (works_of client works)
rest-of P w works client all = rest-by P w (works_of client works) (w.done.client == client) all

-- what holds of the works of each client below n holds of all works, where these are of clients below n
each-client : (P : Work → Type 0) (n : ℕ) (works : List Work) → OfClients n works → ((client : ℕ) → client < n → AllByRecursion P (works_of client works)) → AllByRecursion P works
each-client P n [] all own = tt
each-client P n (w ∷ works) all own = (
  first-of P w works (own w.done.client all.0),
  each-client P n works all.1 (λ client below. rest-of P w works client (own client below)),
)

-- ---- the jobs ----

calm-jobs : (known : Known) (k : ℕ) (tree : FileTree) (jobs : List Job) (works : List Work) → EachRecord known k jobs works → EachAgrees tree jobs works
    → AllByRecursion IsStill works → AllByRecursion (λ (w : Work). IsCalm w.done.way w.done.outcome) works
calm-jobs known k tree [] [] each agrees still = tt
calm-jobs known k tree [] (w ∷ works) each agrees still = absurd each
calm-jobs known k tree (job ∷ jobs) [] each agrees still = tt
calm-jobs known k tree (job ∷ jobs) (w ∷ works) each agrees still = (agrees.0.calm still.0, calm-jobs known (suc k) tree jobs works each.1.1 agrees.1 still.1)

-- where no count of an end rose, each job that was served is calm
pub all-calm : (known : Known) (tree : FileTree) (jobs : List Job) (works : List Work) (n : ℕ) (before after : List EndSeen)
    → n ≤ length before → OfClients n works → EachRecord known 0 jobs works → EachAgrees tree jobs works → EachEnd 0 works before after → EachCalm before after
    → AllByRecursion (λ (w : Work). IsCalm w.done.way w.done.outcome) works
all-calm known tree jobs works n before after few clients each agrees ends calm =
    calm-jobs known 0 tree jobs works each agrees
    (each-client IsStill n works clients (λ client below. still-client 0 works before after ends calm client (omega arith) (omega (arith, below, few))))

-- the first of served ends are served
pub first-served : (n : ℕ) (ends : List EndSeen) → EachServed ends → EachServed (take n ends)
first-served zero ends served = tt
first-served (suc n) [] served = tt
first-served (suc n) (e ∷ ends) served = (served.0, first-served n ends served.1)
