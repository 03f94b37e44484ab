-- One exchange of a client: what it leaves in the talk.
use Rattle.std.specs.Prelude.{◌≡◌, ℕ, ◌⊎◌, List, [], ◌∷◌, ◌++◌, Bool, true, cond}
use Rattle.io_edges.specs.declared.wire.Exchange.{Exchange}
use Rattle.io_edges.specs.declared.wire.Host.{Host}
use Rattle.io_edges.specs.Talk.{ending}

-- an exchange that sent the whole request, and received this, to its end or not
abbrev pub replied : Host → List ℕ → List ℕ → Bool → Exchange
replied host request received ended = record { host = host; sent = request; received = received; finished = true; ended = ended }

-- nothing, or one exchange with this host that sent a beginning of the request
abbrev pub Began : Host → List ℕ → List Exchange → Type 0
Began host request tried = (tried ≡ []) ⊎ ((e : Exchange) × (tried ≡ e ∷ []) × (e.host ≡ host) × ((rest : List ℕ) × (e.sent ++ rest ≡ request)))

-- the exchange ends where it is ended
abbrev pub ended_if : Bool → Exchange → Exchange
ended_if ended e = cond ended (ending e) e

-- the exchange has sent and received more, and was finished or not
abbrev pub partly : List ℕ → List ℕ → Bool → Exchange → Exchange
partly sent received finished e = record e { sent = e.sent ++ sent; received = e.received ++ received; finished = cond finished true e.finished }
