-- The daemons that an object in memory starts: none runs, and each is the same host.
use Rattle.std.specs.Prelude.{ℕ, List, codes, map}
use Rattle.io_edges.specs.declared.wire.Host.{Host}

-- the word localhost
abbrev pub localhost_name : List ℕ
localhost_name = codes "localhost"

-- localhost at the port 3632, which takes one request at a time
abbrev pub localhost : Host
localhost = record { name = localhost_name; port = 3632; limit = 1 }

-- the starts of daemons with these numbers, and their hosts
abbrev pub starts_of : List ℕ → List (ℕ × Host)
starts_of numbers = map (λ k. (k, localhost)) numbers

abbrev pub local_hosts : List ℕ → List Host
local_hosts numbers = map (λ k. localhost) numbers
