-- What the answer to a need does to the client that waits for it, and to what clients share.
use Rattle.std.specs.Prelude.{◌≡◌, ◌⊎◌, ℕ, ◌+◌, ◌-◌, ◌*◌, ◌<◌, ◌≤◌, List, length, Option, Some, slice_index}
use Rattle.base_types.specs.Limits.{job_limit}
use Rattle.tree_model.specs.Trees.{FileTree}
use Rattle.job_words.specs.declared.job.Job.{Job}
use Rattle.io_edges.specs.declared.wire.Host.{Host}
use Rattle.job_ends.specs.Outside.{EndSeen}
use Rattle.job_ends.specs.Record.{known}
use Rattle.host_slots.specs.Slots.{Leased, AllLeased}
use Rattle.client_steps.specs.declared.client.Client.{Client}
use Rattle.client_steps.specs.declared.need.Need.{Need}
use Rattle.client_steps.specs.declared.phase.Phase.{Phase}
use Rattle.client_steps.specs.declared.phase.Phase.TheVariants.{Wants, Takes, Ended}
use Rattle.client_steps.specs.Phases.{CanWork, NeedOf, phase_rank, most_rank, leased_by, lease_given_back}
use Rattle.client_steps.specs.Ledger.{HasRoom}
use Rattle.client_order.specs.Ran.{MemoSeen}
use Rattle.client_order.specs.parts.World.{ClientDid, HasAllDrawn, DrawsMore, one_if_same}

-- a client waits for the answer to its need: what clients share fits it, and a lease that it gives back is of a slot that is leased
pub record CanAnswer (wanted : Need) (drawn : ℕ) (s : Leased) (c : Client) : Type 0 where
  pub few : c.jobs ≤ job_limit
  pub waits : NeedOf c.jobs (length s.limits) c.phase wanted
  pub least : c.least ≤ drawn
  pub drawn_few : drawn ≤ c.jobs
  pub room : HasRoom c
  pub all : HasAllDrawn c.jobs drawn c.phase
  pub lease : (host : ℕ) → lease_given_back wanted ≡ Some host → (host < length s.limits) × (0 < slice_index s.leased host)

-- no slot is free for the client
abbrev pub NoSlotIsFree : Phase → Leased → Phase → Type 0
NoSlotIsFree old s new = (n : ℕ) × ((bytes : List ℕ) × ((count : ℕ) × ((old ≡ Takes n bytes count) × ((new ≡ Wants n bytes) × AllLeased s.limits s.leased))))

-- an answer brings the client nearer to its end, or a job is drawn; else nothing is changed: it has ended, or no slot is free
abbrev pub AnswerMoves : ℕ → Phase → Leased → ℕ → Phase → Leased → Type 0
AnswerMoves undrawn old s undrawn_after new after =
    (undrawn_after * most_rank + phase_rank new < undrawn * most_rank + phase_rank old)
    ⊎ ((undrawn_after ≡ undrawn) × ((after ≡ s) × (((old ≡ Ended) × (new ≡ Ended)) ⊎ NoSlotIsFree old s new)))

-- the client and what clients share after the answer
pub record AfterAnswer (wanted : Need) (drawn : ℕ) (s : Leased) (old : Client) (drawn_after : ℕ) (after : Leased) (new : Client) : Type 0 where
  pub works : CanWork old.jobs (length s.limits) new.phase
  pub count : new.jobs ≡ old.jobs
  pub number : new.number ≡ old.number
  pub budget : new.budget ≡ old.budget
  pub least : new.least ≤ drawn_after
  pub later : drawn ≤ drawn_after
  pub drawn_few : drawn_after ≤ old.jobs
  pub room : HasRoom new
  pub all : HasAllDrawn old.jobs drawn_after new.phase
  pub limits : after.limits ≡ s.limits
  pub leased : (host : ℕ) → slice_index after.leased host + one_if_same host (lease_given_back wanted) ≡ slice_index s.leased host + one_if_same host (leased_by new.phase)
  pub moves : AnswerMoves (old.jobs - drawn) old.phase s (old.jobs - drawn_after) new.phase after
  pub draws : DrawsMore drawn old drawn_after new

-- what the client did before the answer and what it has done after it, whatever its budget is and its end was at first
abbrev pub AnswerKeeps : Option FileTree → MemoSeen → Client → MemoSeen → Client → Type 0
AnswerKeeps named memo old memo_after new =
    (budget : ℕ) (jobs : List Job) (hosts : List Host) (first now : EndSeen) → 0 < length hosts → old.jobs ≤ length jobs
    → ClientDid (known named budget) jobs hosts memo old first now → ClientDid (known named budget) jobs hosts memo_after new first now
