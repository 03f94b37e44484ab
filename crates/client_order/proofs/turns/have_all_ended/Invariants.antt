use Rattle.std.proofs.Common.{◌≡◌, ◌<◌, ℕ, slice_index_or}
use Rattle.client_steps.specs.declared.client.Client.{Client}
use Rattle.client_steps.specs.declared.phase.Phase.TheVariants.{Ended}
use Rattle.client_order.proofs.turns.have_all_ended.Given as goal

abbrev pub invariant-loop-client : goal.invariant-loop-client
invariant-loop-client l = (k : ℕ) (d : Client) → k < l.client-index → (slice_index_or l.clients k d).phase ≡ Ended
