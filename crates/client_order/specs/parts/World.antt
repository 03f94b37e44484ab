-- Clients and what they share, between two turns: the next job number, the memo, and the slots. And how a turn moves them.
use Rattle.std.specs.Prelude.{◌≡◌, ◌⊎◌, ℕ, suc, ◌+◌, ◌-◌, ◌*◌, ◌<◌, ◌≤◌, List, [], ◌∷◌, length, map, Option, None, Some, cond, nat_eq, nat_lt, slice_index, slice_get}
use Rattle.std.specs.List.{sum_by, All}
use Rattle.base_types.specs.Limits.{job_limit}
use Rattle.job_words.specs.declared.job.Job.{Job}
use Rattle.io_edges.specs.declared.wire.Host.{Host}
use Rattle.job_ends.specs.Outside.{EndSeen}
use Rattle.tree_model.specs.Trees.{FileTree}
use Rattle.job_ends.specs.Record.{Known, known}
use Rattle.closure_memo.specs.Memo.{Memo}
use Rattle.host_slots.specs.Slots.{Leased, AllLeased}
use Rattle.sheet_build.specs.Sheet.{SheetData}
use Rattle.sheet_build.specs.declared.keys.SheetKey.{SheetKey}
use Rattle.client_steps.specs.declared.client.Client.{Client}
use Rattle.client_steps.specs.declared.phase.Phase.{Phase}
use Rattle.client_steps.specs.declared.phase.Phase.TheVariants.{Wants, Ended}
use Rattle.client_steps.specs.Phases.{CanWork, phase_rank, most_rank, leased_by}
use Rattle.client_steps.specs.Ledger.{HasRoom, ClientHolds, Ledger, all_calls, times_drawn}
use Rattle.client_order.specs.Ran.{MemoSeen, calls_of}

abbrev pub SheetsMemo : Type 0
SheetsMemo = Memo SheetKey SheetData

abbrev pub seen_memo : SheetsMemo → MemoSeen
seen_memo memo = record { limit = memo.limit; keys = memo.keys; steps = memo.steps }

abbrev pub one_if_same : ℕ → Option ℕ → ℕ
one_if_same host None = 0
one_if_same host (Some k) = cond (nat_eq k host) 1 0

-- ---- slots ----

-- the slots of a host that the clients hold
abbrev pub slots_held : ℕ → List Client → ℕ
slots_held host clients = sum_by (λ (c : Client). one_if_same host (leased_by c.phase)) clients

-- no slot is leased
abbrev pub AreFree : Leased → Type 0
AreFree s = (host : ℕ) → host < length s.limits → slice_index s.leased host ≡ 0

-- the lease that a client holds is of a slot that is leased
abbrev pub LeaseIsIn : Phase → Leased → Type 0
LeaseIsIn phase s = (host : ℕ) → leased_by phase ≡ Some host → (host < length s.limits) × (0 < slice_index s.leased host)

-- the slots that a client holds more are those that are leased more
abbrev pub SlotsMove : Phase → Leased → Phase → Leased → Type 0
SlotsMove old s new after =
    (after.limits ≡ s.limits) × ((host : ℕ) → slice_index after.leased host + one_if_same host (leased_by old) ≡ slice_index s.leased host + one_if_same host (leased_by new))

-- ---- how far the run is from its end ----

abbrev pub distance : ℕ → List Client → ℕ
distance undrawn clients = undrawn * most_rank + sum_by (λ (c : Client). phase_rank c.phase) clients

-- a client that a turn doesn't move: it has ended, or it wants a slot and none is free
abbrev pub IsStuck : Phase → Leased → Type 0
IsStuck phase s = (phase ≡ Ended) ⊎ ((n : ℕ) × ((bytes : List ℕ) × (phase ≡ Wants n bytes)) × AllLeased s.limits s.leased)

-- what a turn does: the client comes nearer to the end or draws a job, or it is stuck and nothing is changed
abbrev pub Progresses : ℕ → Phase → Leased → ℕ → Phase → Leased → Type 0
Progresses undrawn old s undrawn_after new after =
    (undrawn_after * most_rank + phase_rank new < undrawn * most_rank + phase_rank old) ⊎ ((undrawn_after ≡ undrawn) × ((new ≡ old) × ((after ≡ s) × IsStuck old s)))

-- ---- the world ----

-- a client that has ended found no number left
abbrev pub HasAllDrawn : ℕ → ℕ → Phase → Type 0
HasAllDrawn jobs drawn phase = phase ≡ Ended → jobs ≤ drawn

-- what is the same for each client between turns
pub record ClientFits (jobs hosts drawn : ℕ) (c : Client) : Type 0 where
  pub works : CanWork jobs hosts c.phase
  pub count : c.jobs ≡ jobs
  pub least : c.least ≤ drawn
  pub room : HasRoom c
  pub all : HasAllDrawn jobs drawn c.phase

-- what one client has done, and that its calls are those of the memo's history
pub record ClientDid (known : Known) (jobs : List Job) (hosts : List Host) (memo : MemoSeen) (c : Client) (first now : EndSeen) : Type 0 where
  pub ledger : Ledger
  pub holds : ClientHolds known jobs hosts c ledger first now
  pub own : calls_of c.number memo ≡ all_calls ledger

-- each client by its number, with its end
abbrev pub EachDid : Known → List Job → List Host → MemoSeen → ℕ → List Client → List EndSeen → List EndSeen → Type 0
EachDid known jobs hosts memo k [] [] [] = Unit {0}
EachDid known jobs hosts memo k (c ∷ clients) (first ∷ before) (e ∷ now) =
    (c.number ≡ k) × ((c.budget ≡ known.budget) × (ClientDid known jobs hosts memo c first e × EachDid known jobs hosts memo (suc k) clients before now))
EachDid known jobs hosts memo k _ _ _ = ⊥

-- the clients are numbered by their places
abbrev pub AreNumberedFrom : ℕ → List Client → Type 0
AreNumberedFrom k [] = Unit {0}
AreNumberedFrom k (c ∷ clients) = (c.number ≡ k) × AreNumberedFrom (suc k) clients

-- each number below the next one was drawn once, and no other
abbrev pub EachDrawnOnce : ℕ → List Client → Type 0
EachDrawnOnce drawn clients = (n : ℕ) → sum_by (times_drawn n) clients ≡ cond (nat_lt n drawn) 1 0

-- the world between two turns: each client fits, and the slots leased are those that the clients hold
pub record WorldHolds (jobs hosts drawn : ℕ) (s : Leased) (clients : List Client) : Type 0 where
  pub few : jobs ≤ job_limit
  pub drawn_few : drawn ≤ jobs
  pub each : All (ClientFits jobs hosts drawn) clients
  pub once : EachDrawnOnce drawn clients
  pub one_each : length s.limits ≡ hosts
  pub some : 1 ≤ hosts
  pub limits : (host : ℕ) → host < hosts → 1 ≤ slice_index s.limits host
  pub held : (host : ℕ) → slots_held host clients ≡ slice_index s.leased host

-- a turn brings the run nearer to its end, or its client is stuck and nothing of phases and slots is changed
abbrev pub RunMoves : ℕ → ℕ → Leased → List Client → ℕ → ℕ → Leased → List Client → Type 0
RunMoves jobs drawn s clients at drawn_after after clients_after =
    (distance (jobs - drawn_after) clients_after < distance (jobs - drawn) clients)
    ⊎ ((drawn_after ≡ drawn) × ((after ≡ s) × ((map (λ (c : Client). c.phase) clients_after ≡ map (λ (c : Client). c.phase) clients)
    × ((p : Phase) × ((slice_get (map (λ (c : Client). c.phase) clients) at ≡ Some p) × IsStuck p s)))))

abbrev pub AllEnded : List Client → Type 0
AllEnded clients = All (λ (c : Client). c.phase ≡ Ended) clients

-- ---- a turn ----

-- the number that a turn draws: those below the next one are drawn once more by this client
abbrev pub DrawsMore : ℕ → Client → ℕ → Client → Type 0
DrawsMore drawn old drawn_after new = (n : ℕ) → times_drawn n new + cond (nat_lt n drawn) 1 0 ≡ times_drawn n old + cond (nat_lt n drawn_after) 1 0

-- a client's turn makes no call on the memo for another
abbrev pub OthersStay : ℕ → MemoSeen → MemoSeen → Type 0
OthersStay number old new = (other : ℕ) → (other ≡ number → ⊥) → calls_of other new ≡ calls_of other old

-- no call on the memo is made for a number that is no client's
abbrev pub StrangersStay : ℕ → MemoSeen → MemoSeen → Type 0
StrangersStay clients old new = (other : ℕ) → clients ≤ other → calls_of other new ≡ calls_of other old

-- what the client did before its turn and what it has done after it, whatever its end was at first
abbrev pub TurnKeeps : Known → List Job → List Host → MemoSeen → Client → EndSeen → MemoSeen → Client → EndSeen → Type 0
TurnKeeps known jobs hosts memo old before memo_after new now =
    (first : EndSeen) → ClientDid known jobs hosts memo old first before → ClientDid known jobs hosts memo_after new first now

-- what the clients of a run did, whatever their budget is and their ends were at first
abbrev pub RunKeeps : Option FileTree → List Job → List Host → MemoSeen → List Client → List EndSeen → MemoSeen → List Client → List EndSeen → Type 0
RunKeeps named jobs hosts memo old before memo_after new now =
    (budget : ℕ) (first : List EndSeen) → EachDid (known named budget) jobs hosts memo 0 old first before → EachDid (known named budget) jobs hosts memo_after 0 new first now

-- the number that is drawn, where one is left
abbrev pub IsDrawn : ℕ → ℕ → Option ℕ → ℕ → Type 0
IsDrawn drawn jobs None after = (jobs ≤ drawn) × (after ≡ drawn)
IsDrawn drawn jobs (Some job) after = (drawn < jobs) × ((job ≡ drawn) × (after ≡ suc drawn))
