-- What is kept of the definitions that were told stays right where more sheets are told.
use Rattle.std.proofs.Common.{◌≡◌, ◌+◌, ◌++◌, List, length, Option, Some, sym, subst, arith, length-append}
use Rattle.std.specs.List.{slice_get}
use Rattle.std.proofs.lemmas.List.{take-append-le}
use Rattle.std.proofs.lemmas.Grind.{flat_map-append}
use Rattle.pp_tokens.specs.declared.Token.{Token}
use Rattle.tree_model.specs.Paths.{Text}
use Rattle.search_path.specs.declared.asking.Visit.{Visit}
use Rattle.job_words.specs.JobOf.{JobData}
use Rattle.sheet_build.specs.Sheet.{SheetData}
use Rattle.closure_fixpoint.specs.Closure.{first_definitions}
use Rattle.closure_fixpoint.specs.Naming.{HasJust, definitions_in, targets_in, asked_targets, IsRest, Follows}
use Rattle.closure_fixpoint.specs.declared.naming.Naming.{Naming}
use Rattle.closure_fixpoint.proofs.NamesLaws.{there_behind}

pub follows_more : (naming : Naming) (job : JobData) (sheets more : List (Visit × SheetData)) → Follows naming job sheets → Follows naming job (sheets ++ more)
follows_more naming job sheets more follows = record {
  few =
      let longer : length (sheets ++ more) ≡ length sheets + length more = length-append sheets more in
      omega (arith, longer, follows.few);
  unread = follows.unread;
  sets = λ begun.
      subst (λ (l : List (Visit × SheetData)). HasJust naming.grown.sets (first_definitions job ++ definitions_in l)) (sym (take-append-le naming.told sheets more follows.few)) (follows.sets begun);
  kept = λ number answer is.
      let k = follows.kept number answer is in (
        k.0,
        subst (λ (ts : List (Option Text × List Token)). slice_get ts number ≡ Some k.0) (sym (flat_map-append targets_in sheets more)) (there_behind (asked_targets sheets) (asked_targets more) number k.0 k.1),
        k.2,
      );
  left = λ rest is.
      let longer : length (sheets ++ more) ≡ length sheets + length more = length-append sheets more in
      let was = follows.left rest is in (
        omega (arith, longer, was.0),
        subst (λ (l : List (Visit × SheetData)). IsRest job l rest) (sym (take-append-le rest.told sheets more was.0)) was.1,
      );
}
