-- The hosts of words, one word after another.
use Rattle.std.proofs.Common.{◌≡◌, ℕ, zero, suc, ◌+◌, ◌<◌, ◌≤◌, ◌⊎◌, inl, inr, List, [], ◌∷◌, ◌++◌, length, map, drop, get_or, Result, Ok, Err, refl, sym, ap, ◌∙◌, append_assoc, append-nil, arith}
use Rattle.std.specs.List.{All}
use Rattle.std.proofs.lemmas.List.{drop_all, drop_more}
use Rattle.io_edges.specs.declared.wire.Host.{Host}
use Rattle.host_slots.specs.declared.hosts.HostError.{HostError}
use Rattle.host_slots.specs.declared.hosts.HostError.TheVariants as refused
use Rattle.host_slots.specs.Hosts.{Text, host_of, hosts_with, each_host}
use Rattle.host_slots.specs.Slots.{HasSlots}

-- hosts in front of those that the rest gives
abbrev pub hosts_behind : List Host → Result (List Host) HostError → Result (List Host) HostError
hosts_behind before (Ok hosts) = Ok (before ++ hosts)
hosts_behind before (Err why) = Err why

next_host : (before : List Host) (host : Host) (rest : Result (List Host) HostError) → hosts_behind before (hosts_with (Ok host) rest) ≡ hosts_behind (before ++ host ∷ []) rest
next_host before host (Ok hosts) = ap Ok (sym (append_assoc before (host ∷ []) hosts))
next_host before host (Err why) = refl

pub slots-one : (host : Host) → HasSlots host → All HasSlots (host ∷ [])
slots-one host has zero d within = has
slots-one host has (suc k) d within = absurd (omega arith)

module _ {W : Type 0} (now : W → Text) where
  -- the hosts from a place on, where the word there is one
  pub host-at : (words : List W) (i : ℕ) (d : W) (before : List Host) (host : Host) → i < length words → host_of (now (get_or words i d)) ≡ Ok host
      → hosts_behind before (each_host (map now (drop i words))) ≡ hosts_behind (before ++ host ∷ []) (each_host (map now (drop (i + 1) words)))
  unfolding each_host
  host-at words i d before host within is =
      ap (λ rest. hosts_behind before (each_host (map now rest))) (drop_more words i d within)
      ∙ ap (λ first. hosts_behind before (hosts_with first (each_host (map now (drop (i + 1) words))))) is
      ∙ next_host before host (each_host (map now (drop (i + 1) words)))

  -- a word that is none
  pub error-at : (words : List W) (i : ℕ) (d : W) (before : List Host) (why : HostError) → i < length words → host_of (now (get_or words i d)) ≡ Err why
      → hosts_behind before (each_host (map now (drop i words))) ≡ Err why
  unfolding each_host
  error-at words i d before why within is =
      ap (λ rest. hosts_behind before (each_host (map now rest))) (drop_more words i d within)
      ∙ ap (λ first. hosts_behind before (hosts_with first (each_host (map now (drop (i + 1) words))))) is

  -- an error at a word is that of all
  pub error-of-all : (words : List W) (i : ℕ) (d : W) (before : List Host) (why : HostError) (whole : Result (List Host) HostError)
      → whole ≡ hosts_behind before (each_host (map now (drop i words))) → i < length words → (why ≡ refused.Memory) ⊎ (host_of (now (get_or words i d)) ≡ Err why)
      → (why ≡ refused.Memory) ⊎ (whole ≡ Err why)
  error-of-all words i d before why whole is within (inl memory) = inl memory
  error-of-all words i d before why whole is within (inr wrong) = inr (is ∙ error-at words i d before why within wrong)

  -- the end of all words
  pub at-end : (words : List W) (i : ℕ) (before : List Host) → length words ≤ i → hosts_behind before (each_host (map now (drop i words))) ≡ Ok before
  unfolding each_host
  at-end words i before past =
      ap (λ rest. hosts_behind before (each_host (map now rest))) (drop_all i words past)
      ∙ ap Ok (append-nil before)
