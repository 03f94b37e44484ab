-- What the words of the top call ask for.
use Rattle.std.specs.Prelude.{ℕ, ◌-◌, List, [], ◌∷◌, length, Bool, ◌&&◌, ◌||◌, ◌==◌, if◌then◌else◌, nat_le, nat_lt, bytes_eq, codes, slice_index, Option, None, Some, Result, Ok, Err}
use Rattle.std.specs.List.{list_all, slice_split}
use Rattle.std.specs.Option.{option_and_then, unwrap_or}
use Rattle.std.specs.Char.{is_ascii_digit}
use Rattle.std.specs.Str.Parse.{digits_value}
use Rattle.base_types.specs.Limits.{client_limit, order_limit, default_budget, budget_limit}
use Rattle.base_types.specs.Ascii as ascii
use Rattle.tree_model.specs.Paths.{Text}
use Rattle.io_edges.specs.declared.wire.Host.{Host}
use Rattle.host_slots.specs.declared.hosts.HostError.{HostError}
use Rattle.host_slots.specs.Hosts.{hosts_of}

-- what the words ask for: the order of the clients' first steps, the hosts, the number of clients, and the budget of an analysis
pub record Settings : Type 0 where
  pub order : List ℕ
  pub hosts : List Host
  pub clients : ℕ
  pub budget : ℕ

-- ---- numbers ----

-- decimal digits without a sign, and without a zero in front of others
abbrev pub is_decimal : Text → Bool
is_decimal word = nat_lt 0 (length word) && (list_all is_ascii_digit word && ((length word == 1) || (nat_lt ascii.zero_digit (slice_index word 0))))

-- a number within these limits
unfoldable pub number_between : ℕ → ℕ → Text → Option ℕ
number_between least most word = if is_decimal word && (nat_le least (digits_value 10 word) && nat_le (digits_value 10 word) most) then Some (digits_value 10 word) else None

-- ---- the order ----

-- a number in front of others
abbrev pub number_in_front : Option ℕ → Option (List ℕ) → Option (List ℕ)
number_in_front None numbers = None
number_in_front (Some n) None = None
number_in_front (Some n) (Some numbers) = Some (n ∷ numbers)

-- the numbers of clients that words name
unfoldable pub numbers_in : List Text → Option (List ℕ)
numbers_in [] = Some []
numbers_in (word ∷ words) = number_in_front (number_between 0 (client_limit - 1) word) (numbers_in words)

-- at most 1,000,000 of them
abbrev pub few_in : List Text → Option (List ℕ)
few_in words = if nat_le (length words) order_limit then numbers_in words else None

-- `-` for no order, or numbers of clients with a `,` between them
unfoldable pub order_in : Text → Option (List ℕ)
order_in word = if bytes_eq word (codes "-") then Some [] else few_in (slice_split (λ b. b == ascii.comma) word)

-- ---- the word behind each flag ----

abbrev pub hosts_read : Result (List Host) HostError → Option (List Host)
hosts_read (Ok hosts) = Some hosts
hosts_read (Err why) = None

-- the hosts that a text names
abbrev pub hosts_in : Text → Option (List Host)
hosts_in word = hosts_read (hosts_of word)

-- 1 to 64 clients
abbrev pub clients_in : Text → Option ℕ
clients_in word = number_between 1 client_limit word

-- a budget from 1 to 65,536
abbrev pub budget_in : Text → Option ℕ
budget_in word = number_between 1 budget_limit word

-- ---- the flags ----

-- what flags gave: None of a flag that didn't stand there
pub record FlagsGiven : Type 0 where
  pub hosts : Option (List Host)
  pub clients : Option ℕ
  pub budget : Option ℕ

abbrev pub nothing_given : FlagsGiven
nothing_given = record { hosts = None; clients = None; budget = None }

-- what is given by a flag that didn't stand there before, where its word says something
abbrev pub once : {A : Type 0} → Option A → Option A → (A → FlagsGiven) → Option FlagsGiven
once None (Some said) given = Some (given said)
once None None given = None
once (Some before) word given = None

abbrev pub with_hosts : FlagsGiven → Text → Option FlagsGiven
with_hosts given word = once given.hosts (hosts_in word) (λ hosts. record given { hosts = Some hosts })

abbrev pub with_clients : FlagsGiven → Text → Option FlagsGiven
with_clients given word = once given.clients (clients_in word) (λ clients. record given { clients = Some clients })

abbrev pub with_budget : FlagsGiven → Text → Option FlagsGiven
with_budget given word = once given.budget (budget_in word) (λ budget. record given { budget = Some budget })

-- what is given with one flag more; None where it stood there before, is unknown, or its word says nothing
unfoldable pub with_flag : FlagsGiven → Text → Text → Option FlagsGiven
with_flag given flag word =
    if bytes_eq flag (codes "--hosts") then with_hosts given word
    else if bytes_eq flag (codes "-j") then with_clients given word
    else if bytes_eq flag (codes "--budget") then with_budget given word
    else None

-- what is given by pairs of a flag and its word, behind what was given before
unfoldable pub with_flags : List Text → Option FlagsGiven → Option FlagsGiven
with_flags words None = None
with_flags [] (Some given) = Some given
with_flags (flag ∷ []) (Some given) = None
with_flags (flag ∷ word ∷ words) (Some given) = with_flags words (with_flag given flag word)

-- ---- all words ----

-- the settings of an order and of what flags gave, for so many ends: hosts must be given, the other flags may be left out; there are
-- no more clients than ends, and the order names none beyond them
abbrev pub settings_with : ℕ → List ℕ → List Host → ℕ → ℕ → Option Settings
settings_with ends order hosts clients budget =
    if nat_le clients ends && list_all (λ client. nat_lt client clients) order
    then Some (record { order = order; hosts = hosts; clients = clients; budget = budget })
    else None

abbrev pub settings_given : ℕ → List ℕ → FlagsGiven → Option Settings
settings_given ends order given =
    option_and_then (λ hosts. settings_with ends order hosts (unwrap_or given.clients ends) (unwrap_or given.budget default_budget)) given.hosts

abbrev pub settings_by : ℕ → Option (List ℕ) → Option FlagsGiven → Option Settings
settings_by ends None given = None
settings_by ends (Some order) None = None
settings_by ends (Some order) (Some given) = settings_given ends order given

-- What words in the grammar `order ORDER` and flags ask of so many ends; nothing where they aren't in it, ask for more clients than
-- there are ends, or name a client that there isn't.
unfoldable pub settings_of : ℕ → List Text → Option Settings
settings_of ends [] = None
settings_of ends (command ∷ []) = None
settings_of ends (command ∷ order ∷ words) =
    if bytes_eq command (codes "order") then settings_by ends (order_in order) (with_flags words (Some nothing_given)) else None
