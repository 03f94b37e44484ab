-- What the clients of a run did, after a turn of one of them.
use Rattle.std.proofs.Common.{arith, ◌≡◌, ℕ, zero, suc, ◌+◌, ◌<◌, List, [], ◌∷◌, length, map, Option, refl, sym, ap, ◌∙◌, subst, slice_set, slice_index_or}
use Rattle.std.proofs.lemmas.List.{map-set}
use Rattle.tree_model.specs.Trees.{FileTree}
use Rattle.job_words.specs.declared.job.Job.{Job}
use Rattle.io_edges.specs.declared.wire.Host.{Host}
use Rattle.job_ends.specs.Outside.{EndSeen}
use Rattle.job_ends.specs.Record.{Known, known}
use Rattle.client_steps.specs.declared.client.Client.{Client}
use Rattle.client_order.specs.Ran.{MemoSeen, calls_of}
use Rattle.client_order.specs.parts.World.{AreNumberedFrom, ClientDid, EachDid, OthersStay, StrangersStay, TurnKeeps, RunKeeps}

-- ---- numbers ----

-- a client's number is its place
pub number-at : (k : ℕ) (xs : List Client) (i : ℕ) (d : Client) → AreNumberedFrom k xs → i < length xs → (slice_index_or xs i d).number ≡ k + i
number-at k [] i d numbered less = absurd (omega arith)
number-at k (c ∷ xs) zero d numbered less = omega (arith, numbered.0)
number-at k (c ∷ xs) (suc i) d numbered less = omega (arith, number-at (suc k) xs i d numbered.1 (omega arith))

pub numbered-set : (k : ℕ) (xs : List Client) (i : ℕ) (y d : Client) → AreNumberedFrom k xs → i < length xs → y.number ≡ (slice_index_or xs i d).number → AreNumberedFrom k (slice_set xs i y)
numbered-set k [] i y d numbered less same = absurd (omega arith)
numbered-set k (c ∷ xs) zero y d numbered less same = (same ∙ numbered.0, numbered.1)
numbered-set k (c ∷ xs) (suc i) y d numbered less same = (numbered.0, numbered-set (suc k) xs i y d numbered.1 (omega arith) same)

-- ---- one turn ----

module _ (named : Option FileTree) (budget : ℕ) (jobs : List Job) (hosts : List Host) (memo after : MemoSeen) where
  abbrev Of : Known
  Of = known named budget

  -- a client whose calls on the memo stay did what it did
  did-stays : (c : Client) (first now : EndSeen) → calls_of c.number after ≡ calls_of c.number memo → ClientDid Of jobs hosts memo c first now → ClientDid Of jobs hosts after c first now
  did-stays c first now same did = record { ledger = did.ledger; holds = did.holds; own = same ∙ did.own }

  apart : (number k place : ℕ) → number < k → place ≡ k → place ≡ number → ⊥
  apart number k place less is e = absurd (omega arith)

  -- the clients behind the one that made its turn
  did-behind : (number k : ℕ) (xs : List Client) (before now : List EndSeen) → number < k → OthersStay number memo after → EachDid Of jobs hosts memo k xs before now → EachDid Of jobs hosts after k xs before now
  did-behind number k [] [] [] less others did = tt
  did-behind number k (c ∷ xs) (first ∷ before) (e ∷ now) less others did =
      (did.0, (did.1.0, (did-stays c first e (others c.number (apart number k c.number less did.0)) did.1.1.0, did-behind number (suc k) xs before now (omega arith) others did.1.1.1)))
  did-behind number k _ _ _ less others did = elim did [ ]

  -- the client at a place made its turn
  pub did-turned : (k : ℕ) (xs : List Client) (before now : List EndSeen) (i : ℕ) (x y : Client) (e f : EndSeen) → i < length xs → x ≡ slice_index_or xs i x → e ≡ slice_index_or now i e
      → x.number ≡ k + i → y.number ≡ x.number → y.budget ≡ x.budget → OthersStay x.number memo after → TurnKeeps Of jobs hosts memo x e after y f
      → EachDid Of jobs hosts memo k xs before now → EachDid Of jobs hosts after k (slice_set xs i y) before (slice_set now i f)
  did-turned k [] [] [] i x y e f less x_is e_is at number same others keeps did = absurd (omega arith)
  did-turned k (c ∷ xs) (first ∷ before) (g ∷ now) zero x y e f less x_is e_is at number same others keeps did =
      let was : ClientDid Of jobs hosts memo x first e = subst (λ (z : Client). ClientDid Of jobs hosts memo z first e) (sym x_is) (subst (λ (z : EndSeen). ClientDid Of jobs hosts memo c first z) (sym e_is) did.1.1.0) in
      (number ∙ ap (λ (z : Client). z.number) x_is ∙ did.0, (same ∙ ap (λ (z : Client). z.budget) x_is ∙ did.1.0, (keeps first was, did-behind x.number (suc k) xs before now (omega arith) others did.1.1.1)))
  did-turned k (c ∷ xs) (first ∷ before) (g ∷ now) (suc i) x y e f less x_is e_is at number same others keeps did =
      let behind : x.number ≡ suc k + i = omega arith in
      (did.0, (did.1.0, (did-stays c first g (others c.number (λ is. absurd (omega (arith, is, did.0, at)))) did.1.1.0, did-turned (suc k) xs before now i x y e f (omega arith) x_is e_is behind number same others keeps did.1.1.1)))
  did-turned k _ _ _ i x y e f less x_is e_is at number same others keeps did = elim did [ ]

-- the budget of a client that did something in a run is the run's
pub budget-at : (of : Known) (jobs : List Job) (hosts : List Host) (memo : MemoSeen) (k : ℕ) (xs : List Client) (before now : List EndSeen) (i : ℕ) (d : Client) → i < length xs
    → EachDid of jobs hosts memo k xs before now → (slice_index_or xs i d).budget ≡ of.budget
budget-at of jobs hosts memo k [] [] [] i d less did = absurd (omega arith)
budget-at of jobs hosts memo k (c ∷ xs) (first ∷ before) (e ∷ now) zero d less did = did.1.0
budget-at of jobs hosts memo k (c ∷ xs) (first ∷ before) (e ∷ now) (suc i) d less did = budget-at of jobs hosts memo (suc k) xs before now i d (omega arith) did.1.1.1
budget-at of jobs hosts memo k _ _ _ i d less did = elim did [ ]

pub run-turned : (named : Option FileTree) (jobs : List Job) (hosts : List Host) (memo after : MemoSeen) (xs : List Client) (now : List EndSeen) (i : ℕ) (x y : Client) (e f : EndSeen) → i < length xs
    → x ≡ slice_index_or xs i x → e ≡ slice_index_or now i e → AreNumberedFrom 0 xs → y.number ≡ x.number → y.budget ≡ x.budget → OthersStay x.number memo after
    → TurnKeeps (known named x.budget) jobs hosts memo x e after y f → RunKeeps named jobs hosts memo xs now after (slice_set xs i y) (slice_set now i f)
run-turned named jobs hosts memo after xs now i x y e f less x_is e_is numbered number same others keeps budget first did =
    let at : x.number ≡ 0 + i = ap (λ (z : Client). z.number) x_is ∙ number-at 0 xs i x numbered less in
    let of : x.budget ≡ budget = ap (λ (z : Client). z.budget) x_is ∙ budget-at (known named budget) jobs hosts memo 0 xs first now i x less did in
    did-turned named budget jobs hosts memo after 0 xs first now i x y e f less x_is e_is at number same others
    (subst (λ (b : ℕ). TurnKeeps (known named b) jobs hosts memo x e after y f) of keeps) did

pub strangers-turned : (clients number : ℕ) (memo after : MemoSeen) → number < clients → OthersStay number memo after → StrangersStay clients memo after
strangers-turned clients number memo after less others other past = others other (λ same. absurd (omega arith))

pub strangers-then : (clients : ℕ) (memo after last : MemoSeen) → StrangersStay clients memo after → StrangersStay clients after last → StrangersStay clients memo last
strangers-then clients memo after last one two other past = two other past ∙ one other past

-- ---- with the ends as they are ----

seen-at : {A : Type 0} (seen : A → EndSeen) (ends : List A) (i : ℕ) (d : A) → slice_index_or (map seen ends) i (seen d) ≡ seen (slice_index_or ends i d)
seen-at seen [] i d = refl
seen-at seen (e ∷ ends) zero d = refl
seen-at seen (e ∷ ends) (suc i) d = seen-at seen ends i d

pub run-turned-at : {A : Type 0} (seen : A → EndSeen) (named : Option FileTree) (jobs : List Job) (hosts : List Host) (memo after : MemoSeen) (xs : List Client) (ends : List A) (i : ℕ) (x y : Client) (e f : A)
    → i < length xs → x ≡ slice_index_or xs i x → e ≡ slice_index_or ends i e → AreNumberedFrom 0 xs → y.number ≡ x.number → y.budget ≡ x.budget → OthersStay x.number memo after
    → TurnKeeps (known named x.budget) jobs hosts memo x (seen e) after y (seen f) → RunKeeps named jobs hosts memo xs (map seen ends) after (slice_set xs i y) (map seen (slice_set ends i f))
run-turned-at seen named jobs hosts memo after xs ends i x y e f less x_is e_is numbered number same others keeps =
    subst (λ (l : List EndSeen). RunKeeps named jobs hosts memo xs (map seen ends) after (slice_set xs i y) l) (sym (map-set seen ends i f))
    (run-turned named jobs hosts memo after xs (map seen ends) i x y (seen e) (seen f) less x_is (ap seen e_is ∙ sym (seen-at seen ends i e)) numbered number same others keeps)

pub run-then : (named : Option FileTree) (jobs : List Job) (hosts : List Host) (memo after last : MemoSeen) (xs ys zs : List Client) (before mid now : List EndSeen)
    → RunKeeps named jobs hosts memo xs before after ys mid → RunKeeps named jobs hosts after ys mid last zs now → RunKeeps named jobs hosts memo xs before last zs now
run-then named jobs hosts memo after last xs ys zs before mid now one two budget first did = two budget first (one budget first did)
