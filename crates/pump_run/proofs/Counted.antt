-- What the words ask of ends that are seen.
use Rattle.std.proofs.Common.{◌≡◌, ◌≤◌, ℕ, List, length, map, Option, None, Some, subst, sym, ap, ◌∙◌}
use Rattle.std.specs.Option.{option_map}
use Rattle.std.proofs.lemmas.List.{length-map}
use Rattle.tree_model.specs.Paths.{Text}
use Rattle.run_words.specs.declared.asked.Asked.{Asked}
use Rattle.run_words.specs.Asked.{Settings, settings_of}
use Rattle.run_words.specs.parts.Flagged.{settings_by_asked}

module _ {E S : Type 0} (seen : E → S) (ends : List E) (words : List Text) (number : ℕ) (is : number ≡ length ends) where
  as-seen : (asked : Option Settings) → asked ≡ settings_of number words → settings_of (length (map seen ends)) words ≡ asked
  as-seen asked same = ap (λ n. settings_of n words) (length-map ends seen ∙ sym is) ∙ sym same

  pub nothing-asked : (found : Option Asked) → found ≡ None → option_map settings_by_asked found ≡ settings_of number words → settings_of (length (map seen ends)) words ≡ None
  nothing-asked found none same = as-seen None (ap (λ (f : Option Asked). option_map settings_by_asked f) (sym none) ∙ same)

  pub asked-seen : (found : Option Asked) (asked : Asked) → found ≡ Some asked → option_map settings_by_asked found ≡ settings_of number words
      → settings_of (length (map seen ends)) words ≡ Some (settings_by_asked asked)
  asked-seen found asked some same = as-seen (Some (settings_by_asked asked)) (ap (λ (f : Option Asked). option_map settings_by_asked f) (sym some) ∙ same)

  pub few-seen : (clients : ℕ) → clients ≤ number → clients ≤ length (map seen ends)
  few-seen clients few = subst (λ n. clients ≤ n) (is ∙ sym (length-map ends seen)) few
