-- Ends that weren't used.
use Rattle.std.proofs.Common.{◌≡◌, ℕ, List, [], ◌∷◌, map, Option, None, Some, IfSome, refl, inl, arith}
use Rattle.std.specs.List.{All, AllByRecursion}
use Rattle.std.proofs.lemmas.List.Elements.{recursion_from_All}
use Rattle.io_edges.specs.declared.wire.Exchange.{Exchange}
use Rattle.io_edges.specs.Talk.{EachAnswered}
use Rattle.job_ends.specs.Outside.{EndSeen}
use Rattle.job_ends.specs.Works.{EndHolds, IsFresh}
use Rattle.job_ends.proofs.Deeds.{added-nil}

-- an end that stayed as it was
pub still-end : (e : EndSeen) → EndHolds [] e e
still-end e = record {
  outs = added-nil e.kept;
  talk = added-nil e.talk;
  tree = refl;
  link_bound = inl (omega arith);
  tree_bound = inl (omega arith);
  outs_bound = inl (omega arith);
  chain = record { tree = omega arith; wire = omega arith; outs = omega arith };
  reads = omega arith;
}

-- a talk of nothing was answered
pub quiet : (peer : List ℕ → List ℕ → Type 0) (talk : Option (List Exchange)) → IfSome talk (λ talk. talk ≡ []) → EachAnswered peer talk
quiet peer None is = tt
quiet peer (Some []) is = tt
quiet peer (Some (e ∷ talk)) is = absurd (cc)

mapped : {E : Type 0} (seen : E → EndSeen) (ends : List E) → AllByRecursion (λ (e : E). IsFresh (seen e)) ends → AllByRecursion IsFresh (map seen ends)
mapped seen [] all = tt
mapped seen (e ∷ ends) all = (all.0, mapped seen ends all.1)

-- each end is seen as one that wasn't used
pub all-seen : {E : Type 0} (seen : E → EndSeen) (ends : List E) → All (λ (e : E). IsFresh (seen e)) ends → AllByRecursion IsFresh (map seen ends)
all-seen seen ends all = mapped seen ends (recursion_from_All (λ e. IsFresh (seen e)) ends all)
