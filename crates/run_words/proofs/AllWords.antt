-- An order and flags behind the command.
use Rattle.std.proofs.Common.{◌≡◌, ℕ, ◌-◌, ◌<◌, ◌≤◌, List, [], ◌∷◌, length, map, take, drop, get_or, Bool, true, false, ◌&&◌, if◌then◌else◌, bytes_eq, nat_le, nat_lt, Option, None, Some, refl, sym, ◌∙◌, ap, arith}
use Rattle.std.specs.Prelude.{codes}
use Rattle.std.specs.List.{list_all}
use Rattle.std.specs.Option.{option_and_then, unwrap_or}
use Rattle.std.proofs.lemmas.List.{take_rest}
use Rattle.base_types.specs.Limits.{default_budget}
use Rattle.tree_model.specs.Paths.{Text}
use Rattle.io_edges.specs.declared.wire.Host.{Host}
use Rattle.run_words.specs.Asked.{FlagsGiven, nothing_given, order_in, settings_by, settings_given, settings_of, settings_with, with_flags}

-- ---- what an order and flags ask for ----

module _ (ends : ℕ) (order : List ℕ) (given : FlagsGiven) (hosts : List Host) (clients budget : ℕ)
    (named : given.hosts ≡ Some hosts) (many : clients ≡ unwrap_or given.clients ends) (work : budget ≡ unwrap_or given.budget default_budget) where
  asks : settings_with ends order hosts clients budget ≡ settings_given ends order given
  asks =
      ap (λ n. settings_with ends order hosts n budget) many
      ∙ ap (λ n. settings_with ends order hosts (unwrap_or given.clients ends) n) work
      ∙ sym (ap (option_and_then (λ hosts. settings_with ends order hosts (unwrap_or given.clients ends) (unwrap_or given.budget default_budget))) named)

  module _ (read : List ℕ) (same : read ≡ order) (fits : Bool) (is : fits ≡ (nat_le clients ends && list_all (λ client. nat_lt client clients) read)) where
    chosen : (b : Bool) → fits ≡ b → (if b then Some (record { order = order; hosts = hosts; clients = clients; budget = budget }) else None) ≡ settings_given ends order given
    chosen b e =
        ap (λ t. if t then Some (record { order = order; hosts = hosts; clients = clients; budget = budget }) else None)
        (sym e ∙ is ∙ ap (λ l. nat_le clients ends && list_all (λ client. nat_lt client clients) l) same)
        ∙ asks

    pub missing : fits ≡ false → None ≡ settings_given ends order given
    missing e = chosen false e

    pub asked : fits ≡ true → Some (record { order = order; hosts = hosts; clients = clients; budget = budget }) ≡ settings_given ends order given
    asked e = chosen true e

-- ---- all words ----

module _ (ends : ℕ) {W : Type 0} (now : W → Text) where
  pub few-words : (words : List W) → length words < 2 → None ≡ settings_of ends (map now words)
  unfolding settings_of
  few-words [] few = refl
  few-words (v ∷ []) few = refl
  few-words (v ∷ w ∷ words) few = absurd (omega (arith, few))

  front : (o a : W) (words : List W) → 2 ≤ length words → settings_of ends (map now words)
      ≡ (if bytes_eq (now (get_or words 0 o)) (codes "order")
      then settings_by ends (order_in (now (get_or words 1 a))) (with_flags (map now (take (length words - 2) (drop 2 words))) (Some nothing_given))
      else None)
  unfolding settings_of
  front o a [] long = absurd (omega (arith, long))
  front o a (v ∷ []) long = absurd (omega (arith, long))
  front o a (v ∷ w ∷ words) long =
      ap (λ l. if bytes_eq (now v) (codes "order") then settings_by ends (order_in (now w)) (with_flags (map now l) (Some nothing_given)) else None)
      (sym (take_rest (v ∷ w ∷ words) 2))

  pub other-command : (o : W) (words : List W) → 2 ≤ length words → bytes_eq (now (get_or words 0 o)) (codes "order") ≡ false → None ≡ settings_of ends (map now words)
  other-command o words long other = sym (
      front o o words long
      ∙ ap (λ b. if b then settings_by ends (order_in (now (get_or words 1 o))) (with_flags (map now (take (length words - 2) (drop 2 words))) (Some nothing_given)) else None) other)

  module _ (o a : W) (words : List W) (long : 2 ≤ length words) where
    pub behind-command : (order : Option (List ℕ)) (given : Option FlagsGiven) → bytes_eq (now (get_or words 0 o)) (codes "order") ≡ true
        → order ≡ order_in (now (get_or words 1 a)) → given ≡ with_flags (map now (take (length words - 2) (drop 2 words))) (Some nothing_given)
        → settings_by ends order given ≡ settings_of ends (map now words)
    behind-command order given is order_is given_is = sym (
        front o a words long
        ∙ ap (λ b. if b then settings_by ends (order_in (now (get_or words 1 a))) (with_flags (map now (take (length words - 2) (drop 2 words))) (Some nothing_given)) else None) is
        ∙ ap (λ o. settings_by ends o (with_flags (map now (take (length words - 2) (drop 2 words))) (Some nothing_given))) (sym order_is)
        ∙ ap (λ g. settings_by ends order g) (sym given_is))
