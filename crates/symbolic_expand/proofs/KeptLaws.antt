-- What runs of the same ends keep: headers, runs without work, runs with a presumed line or name that isn't known.
use Rattle.std.proofs.Common.{◌≡◌, ℕ, List, map, ap, ◌∙◌, Option, arith}
use Rattle.std.specs.List.{Contains}
use Rattle.base_types.specs.Limits.{choice_work_limit}
use Rattle.pp_tokens.specs.declared.Token.{Token}
use Rattle.macro_expand.specs.declared.outcome.Mode.TheVariants.{Text}
use Rattle.macro_expand.specs.Replacement.{unmarked}
use Rattle.macro_expand.specs.Expansion.{Expanded, expansion}
use Rattle.macro_expand.specs.Choice.{Sets, Run, computed_runs, header_of_ending, MayName, HasLongRun, HasPresumedRun}
use Rattle.symbolic_expand.specs.Laws.{MoreKeepRuns, MoreKeepHeaders, MoreKeepLongRuns, MoreKeepPresumedRuns, MoreKeepManyRuns, MoreMakeNoFewer, MoreKeepSupport}
use Rattle.symbolic_expand.proofs.MoreLaws.{more_runs}
use Rattle.symbolic_expand.proofs.CountLaws.{complete_runs-more}
use Rattle.symbolic_expand.proofs.SupportLaws.{met_names-more}

-- each run of one list has a run of the other that ends alike
abbrev pub Keeps : List (Run Expanded) → List (Run Expanded) → Type 0
Keeps rs ss = (r : Run Expanded) → Contains rs r → (s : Run Expanded) × (Contains ss s) × (s.ending ≡ r.ending)

module _ (sets other : Sets) (file : Option (List ℕ)) (ts : List Token) (keeps : Keeps (computed_runs sets file ts) (computed_runs other file ts)) where
  pub header_kept : {H : Type 0} (reading : List Token → Option H) (h : H) → MayName reading sets file ts h → MayName reading other file ts h
  header_kept reading h (r, inside, read) =
      let s = keeps r inside in (s.0, s.1, ap (header_of_ending reading) s.2 ∙ read)

  pub long_kept : HasLongRun sets file ts → HasLongRun other file ts
  long_kept (r, inside, ending) = let s = keeps r inside in (s.0, s.1, s.2 ∙ ending)

  pub presumed_kept : HasPresumedRun sets file ts → HasPresumedRun other file ts
  presumed_kept (r, inside, ending) = let s = keeps r inside in (s.0, s.1, s.2 ∙ ending)

-- More definitions.

pub more_keep_runs : MoreKeepRuns
more_keep_runs sets other file ts r part inside = more_runs sets other file (expansion Text 0 choice_work_limit (map unmarked ts)) r part inside

pub more_keep_headers : {H : Type 0} → MoreKeepHeaders H
more_keep_headers reading sets other file ts h part =
    header_kept sets other file ts (λ r inside. more_keep_runs sets other file ts r part inside) reading h

pub more_keep_long_runs : MoreKeepLongRuns
more_keep_long_runs sets other file ts part = long_kept sets other file ts (λ r inside. more_keep_runs sets other file ts r part inside)

pub more_keep_presumed_runs : MoreKeepPresumedRuns
more_keep_presumed_runs sets other file ts part = presumed_kept sets other file ts (λ r inside. more_keep_runs sets other file ts r part inside)

pub more_make_no_fewer : MoreMakeNoFewer
more_make_no_fewer sets other file ts once part = complete_runs-more sets other once part file (expansion Text 0 choice_work_limit (map unmarked ts))

pub more_keep_many_runs : MoreKeepManyRuns
more_keep_many_runs budget sets other file ts once part many =
    let no_fewer = more_make_no_fewer sets other file ts once part in omega (arith, no_fewer, many)

pub more_keep_support : MoreKeepSupport
more_keep_support sets other file ts name part = met_names-more sets other file (expansion Text 0 choice_work_limit (map unmarked ts)) name part
