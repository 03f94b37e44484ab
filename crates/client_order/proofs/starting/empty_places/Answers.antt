use Rattle.std.proofs.Common.{arith, ◌≡◌, ◌+◌, ℕ, ◌∷◌, ◌++◌, [], List, Option, None, replicate, ap, ◌∙◌}
use Rattle.std.proofs.lemmas.List.{replicate-append-replicate}
use Rattle.job_ends.specs.declared.record.Done.{Done}
use Rattle.client_order.proofs.starting.empty_places.Goals as goal

one-more : (n : ℕ) (was now : List (Option Done)) → was ≡ replicate n None → now ≡ was ++ None ∷ [] → now ≡ replicate (n + 1) None
one-more n was now empty is = is ∙ (ap (λ l. l ++ None ∷ []) empty ∙ replicate-append-replicate n 1 None)

pub loop-job-preserved : goal.loop-job-preserved
loop-job-preserved c = record {
  empty = one-more c.loop-job._job c.loop-job.places.items c.push_reserved.new.self.items c.loop-job.invariant.empty c.push_reserved.ensures.items;
  count = let len = c.push_reserved.ensures.len in let was = c.loop-job.invariant.count in omega (arith, len, was);
  room = c.push_reserved.ensures.capacity ∙ c.loop-job.invariant.room;
}
