-- The choice fact, from the outcome of alike trees and the run of a list.
use Rattle.std.proofs.Common.{◌≡◌, ℕ, List, [], ap, ◌∙◌, sym, Err, Option, inl, inr, ◌⊎◌}
use Rattle.std.specs.List.{Contains}
use Rattle.std.proofs.lemmas.List.{append-nil}
use Rattle.macro_expand.specs.declared.outcome.Mode.{Mode}
use Rattle.macro_expand.specs.Asking.{Work}
use Rattle.macro_expand.specs.Replacement.{Marked}
use Rattle.macro_expand.specs.Expansion.{expansion, expanded_by, Table, Place}
use Rattle.macro_expand.specs.Choice.{Sets, complete_runs, taken_run, choices_taken, run_by, IsWithin}
use Rattle.macro_expand.specs.Laws.{SameTokens, SameEnd, IsCutOff, Knows, GoesAlike, ChoiceFact}
use Rattle.macro_expand.proofs.UnitsLaws.{expansion-alike}
use Rattle.macro_expand.proofs.ChoiceLaws.{Outcome, taken_run-complete, taken_run-outcome}
use Rattle.macro_expand.proofs.RunLaws.{complete_runs-are, complete_run-used}

module _ (sets : Sets) (file : Option (List ℕ)) (table : Table) (here : Place) (mode : Mode) (units work : ℕ) (ts : List Marked) where
  goes_alike : Contains (complete_runs sets file (expansion mode 0 work ts)) (taken_run sets file table (expansion mode 0 work ts)) →
      SameEnd (SameTokens work units) (expanded_by table here mode 0 units ts) (taken_run sets file table (expansion mode 0 work ts)).ending →
      choices_taken sets table here (expansion mode 0 units ts) ≡ (taken_run sets file table (expansion mode 0 work ts)).choices →
      GoesAlike sets file table here mode units work ts
  goes_alike complete same list = record {
    ends = same;
    answers = list;
    uses =
        ap (λ cs. run_by sets file cs (expansion mode 0 work ts)) (list ∙ sym (append-nil (taken_run sets file table (expansion mode 0 work ts)).choices))
        ∙ complete_run-used sets file (expansion mode 0 work ts) (taken_run sets file table (expansion mode 0 work ts)) []
        (complete_runs-are sets file (expansion mode 0 work ts) (taken_run sets file table (expansion mode 0 work ts)) complete);
  }

  told : Contains (complete_runs sets file (expansion mode 0 work ts)) (taken_run sets file table (expansion mode 0 work ts)) →
      Outcome (SameTokens work units) (expanded_by table here mode 0 units ts) (taken_run sets file table (expansion mode 0 work ts)).ending
      (choices_taken sets table here (expansion mode 0 units ts)) (taken_run sets file table (expansion mode 0 work ts)).choices →
      (expanded_by table here mode 0 units ts ≡ Err Work)
      ⊎ (IsCutOff (taken_run sets file table (expansion mode 0 work ts)).ending ⊎ GoesAlike sets file table here mode units work ts)
  told complete (inl e) = inl e
  told complete (inr (inl e)) = inr (inl e)
  told complete (inr (inr (same, list))) = inr (inr (goes_alike complete same list))

  pub choice_fact : IsWithin table sets → Knows file here → ChoiceFact sets file table here mode units work ts
  unfolding expanded_by
  choice_fact within knows =
      let complete = taken_run-complete sets file table within (expansion mode 0 work ts) in
      record {
        complete = complete;
        outcome = told complete (taken_run-outcome (SameTokens work units) sets file table here knows _ _ (expansion-alike mode 0 units work ts));
      }
