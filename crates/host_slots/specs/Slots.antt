-- Slots of hosts: how many each host has, how many are leased, and what a lease changes.
use Rattle.std.specs.Prelude.{◌≡◌, ℕ, ◌+◌, ◌-◌, ◌<◌, ◌≤◌, List, length, slice_index, slice_set}
use Rattle.base_types.specs.Limits.{slot_limit, host_limit}
use Rattle.io_edges.specs.declared.wire.Host.{Host}

-- the limit of each host, and how many of its slots are leased, in the order of the list of hosts
pub record Leased : Type 0 where
  pub limits : List ℕ
  pub leased : List ℕ

-- a host with 1 to 64 slots
abbrev pub HasSlots : Host → Type 0
HasSlots host = (1 ≤ host.limit) × (host.limit ≤ slot_limit)

-- the host is below its limit, and each that stands before it is at its own
pub record IsFirstFree (limits leased : List ℕ) (host : ℕ) : Type 0 where
  pub listed : host < length limits
  pub free : slice_index leased host < slice_index limits host
  pub first : (earlier : ℕ) → earlier < host → slice_index limits earlier ≤ slice_index leased earlier

-- each host is at its limit
abbrev pub AllLeased : List ℕ → List ℕ → Type 0
AllLeased limits leased = (host : ℕ) → host < length limits → slice_index limits host ≤ slice_index leased host

-- what is leased after one slot more of a host, and after one less
abbrev pub slot_taken : ℕ → List ℕ → List ℕ
slot_taken host leased = slice_set leased host (slice_index leased host + 1)

abbrev pub slot_given_back : ℕ → List ℕ → List ℕ
slot_given_back host leased = slice_set leased host (slice_index leased host - 1)

-- 1 to 64 hosts, none of which has more slots leased than its limit
pub record AreWithinLimits (limits leased : List ℕ) : Type 0 where
  pub some : 1 ≤ length limits
  pub few : length limits ≤ host_limit
  pub each : length leased ≡ length limits
  pub within : (host : ℕ) → host < length limits → slice_index leased host ≤ slice_index limits host
