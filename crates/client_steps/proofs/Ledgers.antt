-- One job more in a client's ledger.
use Rattle.std.proofs.Common.{arith, ◌≡◌, ◌⊎◌, ℕ, ◌+◌, ◌-◌, ◌^◌, min, ◌<◌, ◌≤◌, Bool, true, false, cond, nat_le, List, [], ◌∷◌, ◌++◌, Option, refl, sym, ap, ◌∙◌, subst, inl, inr, append-nil, append_assoc}
use Rattle.std.proofs.lemmas.Bool.Decides.{leb_tells}
use Rattle.std.proofs.lemmas.List.Sums.{sum_by_push}
use Rattle.std.proofs.lemmas.Grind.{common_steps}
use Rattle.std.specs.List.{flat_map, count_by, sum_by, AllByRecursion}
use Rattle.base_types.specs.Causes.{Rose}
use Rattle.base_types.specs.Told.{added}
use Rattle.base_types.specs.Members.{Member}
use Rattle.job_words.specs.declared.job.Job.{Job}
use Rattle.io_edges.specs.declared.wire.Exchange.{Exchange}
use Rattle.io_edges.specs.declared.wire.Host.{Host}
use Rattle.job_ends.specs.Outside.{EndSeen}
use Rattle.job_ends.specs.Record.{Known, Counts, Deeds, Did, WayHolds, OutcomeHolds, IsRecord, deeds_of, counts_of}
use Rattle.job_ends.specs.declared.record.Way.{Way}
use Rattle.job_ends.specs.declared.record.Way.TheVariants.{Remote, Local, Broken}
use Rattle.job_ends.specs.declared.record.Cause.TheVariants as cause
use Rattle.job_ends.specs.declared.record.JobOutcome.{JobOutcome}
use Rattle.job_ends.specs.declared.record.JobOutcome.TheVariants as end
use Rattle.job_ends.specs.Looks.{LooksFor}
use Rattle.job_ends.specs.Works.{Work, NotBelow, Chain, AtMost, EndHolds, is_link_fault, is_tree_fault, is_out_fault}
use Rattle.job_ends.proofs.Deeds.{added-more}
use Rattle.client_steps.specs.Phases.{IsWork}
use Rattle.client_steps.specs.Ledger.{WorkHolds}

pub flat-snoc : {X Y : Type 0} (f : X → List Y) (xs : List X) (x : X) → flat_map f (xs ++ x ∷ []) ≡ flat_map f xs ++ f x
flat-snoc f [] x = append-nil (f x)
flat-snoc f (y ∷ xs) x = ap (λ l. f y ++ l) (flat-snoc f xs x) ∙ sym (append_assoc (f y) (flat_map f xs) (f x))

added-snoc : {X A : Type 0} (f : X → List A) (xs : List X) (x : X) (first from now : Option (List A)) → from ≡ added (flat_map f xs) first → now ≡ added (f x) from → now ≡ added (flat_map f (xs ++ x ∷ [])) first
added-snoc f xs x first from now was is = is ∙ ap (added (f x)) was ∙ added-more (flat_map f xs) (f x) first ∙ ap (λ l. added l first) (sym (flat-snoc f xs x))

plus-assoc : (a b c : ℕ) → a + (b + c) ≡ a + b + c
plus-assoc a b c = omega arith

pub count-snoc : {X : Type 0} (p : X → Bool) (xs : List X) (x : X) → count_by p (xs ++ x ∷ []) ≡ count_by p xs + cond (p x) 1 0
count-snoc p xs x = grind (arith, common_steps)

chain-snoc : (from : Counts) (works : List Work) (w : Work) (now : Counts) → Chain from works w.deeds.before → NotBelow w.deeds.before w.deeds.after → w.deeds.after ≡ now → Chain from (works ++ w ∷ []) now
chain-snoc from [] w now first inside e = (first, (inside, subst (λ (c : Counts). NotBelow w.deeds.after c) e (record { tree = omega arith; wire = omega arith; outs = omega arith })))
chain-snoc from (v ∷ works) w now first inside e = (first.0, (first.1.0, chain-snoc v.deeds.after works w now first.1.1 inside e))

at-most-top : (top n first from now : ℕ) (b : Bool) → (first + n ≤ from) ⊎ (top ≤ from) → from ≤ now → (b ≡ true → min (from + 1) top ≤ now) → (first + (n + cond b 1 0) ≤ now) ⊎ (top ≤ now)
at-most-top top n first from now b (inr full) le rose = inr (omega (arith, full, le))
at-most-top top n first from now false (inl few) le rose = inl (omega (arith, few, le))
at-most-top top n first from now true (inl few) le rose = risen top n first from now few (rose refl) (leb_tells top (from + 1))
  where
    risen : (top n first from now : ℕ) → first + n ≤ from → min (from + 1) top ≤ now → ((nat_le top (from + 1) ≡ true) × (top ≤ from + 1)) ⊎ ((nat_le top (from + 1) ≡ false) × (from + 1 < top)) → (first + (n + 1) ≤ now) ⊎ (top ≤ now)
    risen top n first from now few r (inl low) = let h = low.1 in inr (omega (arith, r, h))
    risen top n first from now few r (inr high) = let h = high.1 in inl (omega (arith, r, h, few))

at-most-more : (n first from now : ℕ) (b : Bool) → AtMost n first from → from ≤ now → (b ≡ true → Rose from now) → AtMost (n + cond b 1 0) first now
at-most-more n first from now b few le rose = at-most-top (2 ^ 64 - 1) n first from now b few le rose

link-rose : (known : Known) (job : Job) (deeds : Deeds) (way : Way) → WayHolds known job deeds way → is_link_fault way ≡ true → Rose deeds.before.wire deeds.after.wire
link-rose known job deeds (Local cause.Link) h e = h.1.1
link-rose known job deeds (Local (cause.Analysis r)) h e = absurd (cc)
link-rose known job deeds (Local cause.Peer) h e = absurd (cc)
link-rose known job deeds (Local cause.DaemonMemory) h e = absurd (cc)
link-rose known job deeds (Local cause.Memory) h e = absurd (cc)
link-rose known job deeds Remote h e = absurd (cc)
link-rose known job deeds Broken h e = absurd (cc)

tree-rose : (known : Known) (job : Job) (deeds : Deeds) (way : Way) (o : JobOutcome) → OutcomeHolds known job deeds way o → is_tree_fault o ≡ true → Rose deeds.before.tree deeds.after.tree
tree-rose known job deeds way end.TreeFault h e = h.1
tree-rose known job deeds way (end.Text n) h e = absurd (cc)
tree-rose known job deeds way (end.Diag words) h e = absurd (cc)
tree-rose known job deeds way end.OutFault h e = absurd (cc)
tree-rose known job deeds way end.Memory h e = absurd (cc)

outs-rose : (known : Known) (job : Job) (deeds : Deeds) (way : Way) (o : JobOutcome) → OutcomeHolds known job deeds way o → is_out_fault o ≡ true → Rose deeds.before.outs deeds.after.outs
outs-rose known job deeds way end.OutFault h e = h.1
outs-rose known job deeds way (end.Text n) h e = absurd (cc)
outs-rose known job deeds way (end.Diag words) h e = absurd (cc)
outs-rose known job deeds way end.TreeFault h e = absurd (cc)
outs-rose known job deeds way end.Memory h e = absurd (cc)

reads-more : (sum more first from now : ℕ) → from ≤ first + sum → now ≤ from + more → now ≤ first + (sum + more)
reads-more sum more first from now a b = omega (arith, a, b)

-- a job that went from one moment to another, after the jobs before it
one-more-by : (known : Known) (job : Job) (works : List Work) (w : Work) (exchanges : List Exchange) (put : List (List ℕ × List ℕ)) (first from now : EndSeen) → w.deeds ≡ deeds_of exchanges put from now
    → EndHolds works first from → Did exchanges put from now → IsRecord known job w.done (deeds_of exchanges put from now) → now.reads ≤ from.reads + w.reads → EndHolds (works ++ w ∷ []) first now
one-more-by known job works w exchanges put first from now are was did recorded read = record {
  outs = added-snoc (λ (v : Work). v.deeds.put) works w first.kept from.kept now.kept was.outs (did.kept ∙ ap (λ (d : Deeds). added d.put from.kept) (sym are));
  talk = added-snoc (λ (v : Work). v.deeds.exchanges) works w first.talk from.talk now.talk was.talk (did.talk ∙ ap (λ (d : Deeds). added d.exchanges from.talk) (sym are));
  tree = did.told ∙ was.tree;
  link_bound = subst (λ n. AtMost n first.wire_faults now.wire_faults) (sym (count-snoc (λ (v : Work). is_link_fault v.done.way) works w))
      (at-most-more (count_by (λ (v : Work). is_link_fault v.done.way) works) first.wire_faults from.wire_faults now.wire_faults (is_link_fault w.done.way) was.link_bound did.wire (link-rose known job (deeds_of exchanges put from now) w.done.way recorded.way));
  tree_bound = subst (λ n. AtMost n first.tree_faults now.tree_faults) (sym (count-snoc (λ (v : Work). is_tree_fault v.done.outcome) works w))
      (at-most-more (count_by (λ (v : Work). is_tree_fault v.done.outcome) works) first.tree_faults from.tree_faults now.tree_faults (is_tree_fault w.done.outcome) was.tree_bound did.tree (tree-rose known job (deeds_of exchanges put from now) w.done.way w.done.outcome recorded.outcome));
  outs_bound = subst (λ n. AtMost n first.outs_faults now.outs_faults) (sym (count-snoc (λ (v : Work). is_out_fault v.done.outcome) works w))
      (at-most-more (count_by (λ (v : Work). is_out_fault v.done.outcome) works) first.outs_faults from.outs_faults now.outs_faults (is_out_fault w.done.outcome) was.outs_bound did.outs (outs-rose known job (deeds_of exchanges put from now) w.done.way w.done.outcome recorded.outcome));
  chain = chain-snoc (counts_of first) works w (counts_of now) (subst (λ (c : Counts). Chain (counts_of first) works c) (sym (ap (λ (d : Deeds). d.before) are)) was.chain)
      (subst (λ (d : Deeds). NotBelow d.before d.after) (sym are) (record { tree = did.tree; wire = did.wire; outs = did.outs })) (ap (λ (d : Deeds). d.after) are);
  reads = subst (λ n. now.reads ≤ first.reads + n) (sym (sum_by_push (λ (v : Work). v.reads) works w)) (reads-more (sum_by (λ (v : Work). v.reads) works) w.reads first.reads from.reads now.reads was.reads read);
}

pub one-more : (known : Known) (jobs : List Job) (hosts : List Host) (works : List Work) (w : Work) (first from now : EndSeen) → EndHolds works first from → IsWork known jobs hosts w from now → EndHolds (works ++ w ∷ []) first now
one-more known jobs hosts works w first from now was is = one-more-by known is.job works w is.did.exchanges is.did.put first from now is.deeds_are was is.did.did is.did.recorded is.read

each-host : (host : Host) (hosts : List Host) (exchanges : List Exchange) → Member host hosts → AllByRecursion (λ (e : Exchange). e.host ≡ host) exchanges → AllByRecursion (λ (e : Exchange). Member e.host hosts) exchanges
each-host host hosts [] m all = tt
each-host host hosts (e ∷ es) m all = (subst (λ (h : Host). Member h hosts) (sym all.0) m, each-host host hosts es m all.1)

-- a work with its moments is one without them
pub work-holds : (known : Known) (jobs : List Job) (hosts : List Host) (w : Work) (from now : EndSeen) → IsWork known jobs hosts w from now → WorkHolds known jobs hosts w
work-holds known jobs hosts w from now is =
    let exchanges = ap (λ (d : Deeds). d.exchanges) is.deeds_are in
    record {
      job = is.job;
      listed = is.listed;
      recorded = subst (λ (d : Deeds). IsRecord known is.job w.done d) (sym is.deeds_are) is.did.recorded;
      looks = subst (λ (l : List Exchange). LooksFor known is.job w.calls w.reads l w.done.way) (sym exchanges) is.looks;
      to_hosts = subst (λ (l : List Exchange). AllByRecursion (λ (e : Exchange). Member e.host hosts) l) (sym exchanges) (each-host is.host hosts is.did.exchanges is.of_hosts is.did.host_is);
    }
