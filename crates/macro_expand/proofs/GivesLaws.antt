-- An expansion under a table is one where the table answers.
use Rattle.std.proofs.Common.{◌≡◌, ℕ, List, refl, ap, sym, ◌∙◌, subst, Result, Ok, Err}
use Rattle.pp_tokens.specs.declared.Token.{Token}
use Rattle.macro_expand.specs.declared.outcome.Mode.{Mode}
use Rattle.macro_expand.specs.declared.outcome.RunError.{RunError}
use Rattle.macro_expand.specs.declared.outcome.RunError.TheVariants.{Count as CountError, Unclosed as UnclosedError, Paste as PasteError, Deep as DeepError, Work as WorkError, Presumed as PresumedError, Memory}
use Rattle.macro_expand.specs.Asking.{Failure, Work}
use Rattle.macro_expand.specs.Replacement.{Marked}
use Rattle.macro_expand.specs.Expansion.{Expanded, expansion, Table, Place, expanded_by}
use Rattle.macro_expand.specs.Answered.{Stop, ByFailure, ByPresumed, Answered, expanded_for, table_answerer}
use Rattle.macro_expand.specs.Seen.{GivesTokens, HasTokens, Stops, ReportsResult, public_of}
use Rattle.macro_expand.proofs.AnsweredLaws.{lifted, answered-table}

pub lowered : {A : Type 0} → Result A Stop → Result A Failure
lowered (Ok x) = Ok x
lowered (Err e) = Err (elim e [ ByFailure f ↦ f | ByPresumed ↦ Work ])

pub lowered-lifted : {A : Type 0} (r : Result A Failure) → lowered (lifted r) ≡ r
unfolding lowered
lowered-lifted (Ok x) = refl
lowered-lifted (Err e) = refl

module _ {S : Type 0} (table : Table) (here : S → Place) (s : S) (mode : Mode) (units : ℕ) (ts : List Marked) where
  By : Result Expanded Failure
  By = expanded_by table (here s) mode 0 units ts

  pub by_is : expanded_for (table_answerer (λ _. table) here) s mode 0 units ts ≡ record { result = lifted (expanded_by table (here s) mode 0 units ts); state = s }
  unfolding expanded_for expanded_by
  by_is = answered-table (λ _. table) here s (expansion mode 0 units ts)

  pub result_is : (r : Result Expanded Stop) (u : S) → expanded_for (table_answerer (λ _. table) here) s mode 0 units ts ≡ record { result = r; state = u } →
      expanded_by table (here s) mode 0 units ts ≡ lowered r
  result_is r u e =
      sym (lowered-lifted (expanded_by table (here s) mode 0 units ts))
      ∙ ap (λ (a : Answered Expanded S). lowered a.result) (sym by_is ∙ e)

  pub Gives_from : (out : List Token) (left : ℕ) (u : S) → HasTokens (expanded_for (table_answerer (λ _. table) here) s mode 0 units ts) out left u →
      GivesTokens (expanded_by table (here s) mode 0 units ts) out left
  unfolding lowered
  Gives_from out left u (list, (is, tokens)) = subst (λ w. GivesTokens w out left) (sym (result_is _ u is)) (tokens, refl)

  pub Reports_from : (e : RunError) (u : S) → Stops e u (expanded_for (table_answerer (λ _. table) here) s mode 0 units ts) →
      ReportsResult (public_of e) (expanded_by table (here s) mode 0 units ts)
  unfolding lowered
  Reports_from (CountError name line) u h = result_is _ u h
  Reports_from (UnclosedError name line) u h = result_is _ u h
  Reports_from (PasteError left right line) u h = result_is _ u h
  Reports_from (DeepError line) u h = result_is _ u h
  Reports_from WorkError u h = result_is _ u h
  Reports_from PresumedError u h = tt
  Reports_from Memory u h = tt
