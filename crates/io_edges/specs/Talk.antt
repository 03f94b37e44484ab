-- The exchanges of a wire.
use Rattle.std.specs.Prelude.{◌≡◌, ℕ, ◌⊎◌, List, [], ◌++◌, true, false, Option, IfSome}
use Rattle.std.specs.List.{AllByRecursion}
use Rattle.std.specs.Option.{option_map}
use Rattle.base_types.specs.Told.{on_last}
use Rattle.io_edges.specs.declared.wire.Exchange.{Exchange}
use Rattle.io_edges.specs.declared.wire.Host.{Host}

-- an exchange with nothing sent yet
abbrev pub dialled : Host → Exchange
dialled host = record { host = host; sent = []; received = []; finished = false; ended = false }

-- the changes of the last exchange: a piece was sent, the last was sent, a piece was taken, the end was taken
abbrev pub sending : List ℕ → Exchange → Exchange
sending piece e = record e { sent = e.sent ++ piece }

abbrev pub finishing : Exchange → Exchange
finishing e = record e { finished = true }

abbrev pub taking : List ℕ → Exchange → Exchange
taking piece e = record e { received = e.received ++ piece }

abbrev pub ending : Exchange → Exchange
ending e = record e { ended = true }

-- the told talk with its last exchange changed
abbrev pub on_current : (Exchange → Exchange) → Option (List Exchange) → Option (List Exchange)
on_current f talk = option_map (on_last f) talk

-- what was received is nothing, or begins an answer that the peer may give; at the end it is such an answer
pub record IsAnswered (peer : List ℕ → List ℕ → Type 0) (e : Exchange) : Type 0 where
  pub so_far : (e.received ≡ []) ⊎ ((rest : List ℕ) × peer e.sent (e.received ++ rest))
  pub whole : e.ended ≡ true → peer e.sent e.received

-- each exchange of a told talk was answered so
abbrev pub EachAnswered : (List ℕ → List ℕ → Type 0) → Option (List Exchange) → Type 0
EachAnswered peer talk = IfSome talk (AllByRecursion (IsAnswered peer))
