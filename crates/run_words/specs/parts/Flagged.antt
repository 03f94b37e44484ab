-- What the flags so far give, and what is asked for.
use Rattle.std.specs.Prelude.{◌≤◌, length, IfSome}
use Rattle.std.specs.List.{All}
use Rattle.std.specs.Option.{option_map}
use Rattle.base_types.specs.Limits.{host_limit, budget_limit}
use Rattle.host_slots.specs.Slots.{HasSlots}
use Rattle.run_words.specs.Asked.{FlagsGiven, Settings}
use Rattle.run_words.specs.declared.flags.Flags.{Flags}
use Rattle.run_words.specs.declared.asked.Asked.{Asked}

abbrev pub given_by : Flags → FlagsGiven
given_by flags = record {
  hosts = option_map (λ hosts. hosts.items) flags.hosts;
  clients = flags.clients;
  budget = flags.budget;
}

abbrev pub settings_by_asked : Asked → Settings
settings_by_asked asked = record { order = asked.order.items; hosts = asked.hosts.items; clients = asked.clients; budget = asked.budget }

-- what was given is within the limits of its flag
pub record FlagsFit (flags : Flags) : Type 0 where
  pub hosts : IfSome flags.hosts (λ hosts. (1 ≤ length hosts.items) × (length hosts.items ≤ host_limit))
  pub slots : IfSome flags.hosts (λ hosts. All HasSlots hosts.items)
  pub clients : IfSome flags.clients (λ clients. 1 ≤ clients)
  pub budget : IfSome flags.budget (λ budget. (1 ≤ budget) × (budget ≤ budget_limit))
