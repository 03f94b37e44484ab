-- A header that expanded tokens name is one that some choice of definitions gives.
use Rattle.std.proofs.Common.{◌≡◌, ◌⊎◌, ℕ, List, Option, Some, inl, inr, refl, sym, ap, subst, ◌∙◌, map, Result, Ok, Err}
use Rattle.std.specs.List.{Contains}
use Rattle.base_types.specs.Limits.{choice_work_limit}
use Rattle.pp_tokens.specs.declared.Token.{Token}
use Rattle.directive_scan.specs.declared.HeaderName.{HeaderName}
use Rattle.directive_scan.specs.HeaderNames.{header_named}
use Rattle.macro_defs.specs.Defining.{Named}
use Rattle.macro_expand.specs.declared.Mode.TheVariants.{Text as InText}
use Rattle.macro_expand.specs.Asking.{Failure, Work}
use Rattle.macro_expand.specs.Replacement.{Marked, unmarked}
use Rattle.macro_expand.specs.Expansion.{Expanded, Table, Place, expansion, expanded_by}
use Rattle.macro_expand.specs.Choice.{Sets, Ending, Gave, Failed, Presumed, Run, taken_run, computed_runs, header_of_ending, MayName, HasLongRun, HasPresumedRun}
use Rattle.macro_expand.specs.Laws.{SameTokens, SameEnd, IsCutOff, Knows, ChoiceFactHolds}
use Rattle.tree_model.specs.Paths.{Text}
use Rattle.closure_fixpoint.specs.Closure.{definition_sets}
use Rattle.mirror_soundness.proofs.TableLaws.{IsAmong, among_within}

-- a run that is cut off is a reason not to analyse
cut_off : (sets : Sets) (file : Option Text) (tokens : List Token) (r : Run Expanded) → Contains (computed_runs sets file tokens) r → IsCutOff r.ending
    → HasLongRun sets file tokens ⊎ HasPresumedRun sets file tokens
cut_off sets file tokens r there cut = go r.ending refl cut
  where
    go : (ending : Ending Expanded) → r.ending ≡ ending → IsCutOff ending → HasLongRun sets file tokens ⊎ HasPresumedRun sets file tokens
    go (Gave x) is cut = absurd cut
    go (Failed e) is cut = inl (r, there, is ∙ ap Failed cut)
    go Presumed is cut = inr (r, there, is)

-- the header of a run that ended as an expansion did
same_header : (left : ℕ) (e : Expanded) (header : HeaderName) (ending : Ending Expanded) → SameEnd (SameTokens choice_work_limit left) (Ok e) ending
    → header_named (map (λ m. m.token) e.tokens) ≡ Some header → header_of_ending header_named ending ≡ Some header
same_header left e header (Gave x) same h = ap (λ (ts : List Marked). header_named (map (λ m. m.token) ts)) (sym same.tokens) ∙ h
same_header left e header (Failed f) same h = absurd same
same_header left e header Presumed same h = absurd same

-- what a table among definitions makes of computed tokens, some choice of the definitions does, where no choice is too long
-- or uses a presumed line or name that isn't known
pub may_be_named : ChoiceFactHolds → (definitions : List Named) (table : Table) (here : Place) (file : Option Text) (left : ℕ) (tokens : List Token) (e : Expanded) (header : HeaderName)
    → IsAmong table definitions → Knows file here
    → (HasLongRun (definition_sets definitions) file tokens → ⊥) → (HasPresumedRun (definition_sets definitions) file tokens → ⊥)
    → expanded_by table here InText 0 left (map unmarked tokens) ≡ Ok e → header_named (map (λ m. m.token) e.tokens) ≡ Some header
    → MayName header_named (definition_sets definitions) file tokens header
may_be_named fact definitions table here file left tokens e header among knows short known is names =
    let f = fact (definition_sets definitions) file table here InText left choice_work_limit (map unmarked tokens) (among_within table definitions among) knows in
    let r : Run Expanded = taken_run (definition_sets definitions) file table (expansion InText 0 choice_work_limit (map unmarked tokens)) in
    elim f.outcome [
      | inl out ↦ let never : Ok e ≡ Err Work = sym is ∙ out in absurd (cc)
      | inr other ↦ elim other [
        | inl cut ↦ elim (cut_off (definition_sets definitions) file tokens r f.complete cut) [ inl long ↦ absurd (short long) | inr presumed ↦ absurd (known presumed) ]
        | inr alike ↦
            (r, f.complete, same_header left e header r.ending (subst (λ (x : Result Expanded Failure). SameEnd (SameTokens choice_work_limit left) x r.ending) is alike.ends) names)
      ]
    ]
