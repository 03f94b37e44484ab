-- What a wire in memory keeps.
use Rattle.std.specs.Prelude.{◌≡◌, ℕ, ◌+◌, ◌-◌, ◌^◌, ◌≤◌, min, List, [], ◌∷◌, take, length, true, false}
use Rattle.std.specs.List.{AllByRecursion}
use Rattle.io_edges.specs.declared.wire.Exchange.{Exchange}
use Rattle.io_edges.specs.declared.wire.LinkState.{LinkState}
use Rattle.io_edges.specs.declared.wire.LinkState.TheVariants.{Closed, Sending, Taking}
use Rattle.io_edges.specs.Talk.{IsAnswered}

-- how many dials there were, the number of the last one from 0, and how many calls its exchange had; and the
-- pairs of an exchange and a call, from 1, that fail
pub record Calls : Type 0 where
  pub dials : ℕ
  pub exchange : ℕ
  pub made : ℕ
  pub failing : List (ℕ × ℕ)

abbrev pub wire_calls : ℕ → ℕ → ℕ → List (ℕ × ℕ) → Calls
wire_calls dials exchange made failing = record { dials = dials; exchange = exchange; made = made; failing = failing }

-- a count that goes up by one, and stands still at its last value
abbrev pub saturating_next : ℕ → ℕ
saturating_next count = min (count + 1) (2 ^ 32 - 1)

-- a dial is the first call of a new exchange, and each other call one more
abbrev pub dial_made : Calls → Calls
dial_made calls = record calls { dials = saturating_next calls.dials; exchange = calls.dials; made = 1 }

abbrev pub call_made : Calls → Calls
call_made calls = record calls { made = saturating_next calls.made }

-- the call that was made last, by the numbers of its exchange and of the call in it
abbrev pub last_call : Calls → ℕ × ℕ
last_call calls = (calls.exchange, calls.made)

-- what contracts see of a wire in memory
pub record Line : Type 0 where
  pub talk : List Exchange
  pub state : LinkState
  pub faults : ℕ
  pub calls : Calls

-- the last member is so, and there is one
abbrev pub AtLast : (Exchange → Type 0) → List Exchange → Type 0
AtLast P [] = ⊥
AtLast P (e ∷ []) = P e
AtLast P (e ∷ next ∷ rest) = AtLast P (next ∷ rest)

-- an exchange that is being sent has received nothing
abbrev pub HasReceivedNothing : Exchange → Type 0
HasReceivedNothing e = (e.received ≡ []) × (e.ended ≡ false)

-- an exchange that is being taken has received the front of the answer, and all of it at the end
pub record IsBeingTaken (peer : List ℕ → List ℕ → Type 0) (answer : List ℕ) (given : ℕ) (e : Exchange) : Type 0 where
  pub from : peer e.sent answer
  pub front : e.received ≡ take given answer
  pub within : given ≤ length answer
  pub whole : e.ended ≡ true → given ≡ length answer

-- the last exchange, by the wire's state
abbrev pub LastHolds : (List ℕ → List ℕ → Type 0) → List Exchange → List ℕ → ℕ → LinkState → Type 0
LastHolds peer talk answer given Closed = Unit {0}
LastHolds peer talk answer given Sending = AtLast HasReceivedNothing talk
LastHolds peer talk answer given Taking = AtLast (IsBeingTaken peer answer given) talk

-- what a wire in memory keeps: each exchange was answered, and the last one stands as the wire's state says
pub record WireHolds (peer : List ℕ → List ℕ → Type 0) (talk : List Exchange) (answer : List ℕ) (given : ℕ) (state : LinkState) : Type 0 where
  pub each : AllByRecursion (IsAnswered peer) talk
  pub last : LastHolds peer talk answer given state
