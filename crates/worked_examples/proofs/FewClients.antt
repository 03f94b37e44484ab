-- The words of a run ask for no more clients than there are ends.
use Rattle.std.specs.Prelude.{◌≡◌, ◌≤◌, ℕ, List, [], ◌∷◌, Bool, true, false, ◌&&◌, nat_le, nat_lt, bytes_eq, codes, if◌then◌else◌, Option, None, Some}
use Rattle.std.specs.List.{list_all}
use Rattle.std.specs.Option.{option_and_then, unwrap_or}
use Rattle.std.proofs.Common.{refl, ap, subst}
use Rattle.std.proofs.lemmas.Bool.{leb-true}
use Rattle.tree_model.specs.Paths.{Text}
use Rattle.io_edges.specs.declared.wire.Host.{Host}
use Rattle.run_words.specs.Asked.{Settings, settings_of, settings_by, settings_with, FlagsGiven, nothing_given, with_flags, order_in}

-- the number of clients of settings, or another
clients_or : ℕ → Option Settings → ℕ
clients_or other None = other
clients_or other (Some s) = s.clients

same_clients : (r s : Settings) → Some r ≡ Some s → r.clients ≡ s.clients
unfolding clients_or
same_clients r s is = ap (clients_or 0) is

few_with : (ends : ℕ) (order : List ℕ) (hosts : List Host) (clients budget : ℕ) (s : Settings) → settings_with ends order hosts clients budget ≡ Some s → s.clients ≤ ends
few_with ends order hosts clients budget s is = go (nat_le clients ends) (list_all (λ client. nat_lt client clients) order) refl is
  where
    go : (few all : Bool) → nat_le clients ends ≡ few → (if few && all then Some (record { order = order; hosts = hosts; clients = clients; budget = budget }) else None) ≡ Some s → s.clients ≤ ends
    go true true e is = subst (λ n. n ≤ ends) (same_clients (record { order = order; hosts = hosts; clients = clients; budget = budget }) s is) (leb-true clients ends e)
    go true false e is = absurd (cc)
    go false all e is = absurd (cc)

few_given : (ends : ℕ) (order : List ℕ) (hosts : Option (List Host)) (clients budget : ℕ) (s : Settings)
    → option_and_then (λ hosts. settings_with ends order hosts clients budget) hosts ≡ Some s → s.clients ≤ ends
few_given ends order None clients budget s is = absurd (cc)
few_given ends order (Some hosts) clients budget s is = few_with ends order hosts clients budget s is

few_by : (ends : ℕ) (order : Option (List ℕ)) (given : Option FlagsGiven) (s : Settings) → settings_by ends order given ≡ Some s → s.clients ≤ ends
few_by ends None given s is = absurd (cc)
few_by ends (Some order) None s is = absurd (cc)
few_by ends (Some order) (Some given) s is = few_given ends order given.hosts (unwrap_or given.clients ends) (unwrap_or given.budget 4096) s is

pub few_clients : (ends : ℕ) (words : List Text) (s : Settings) → settings_of ends words ≡ Some s → s.clients ≤ ends
unfolding settings_of
few_clients ends [] s is = absurd (cc)
few_clients ends (command ∷ []) s is = absurd (cc)
few_clients ends (command ∷ order ∷ words) s is = go (bytes_eq command (codes "order")) is
  where
    go : (test : Bool) → (if test then settings_by ends (order_in order) (with_flags words (Some nothing_given)) else None) ≡ Some s → s.clients ≤ ends
    go true is = few_by ends (order_in order) (with_flags words (Some nothing_given)) s is
    go false is = absurd (cc)
