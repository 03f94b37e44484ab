-- How the parts of a condition's line come together, token by token.
use Rattle.std.specs.Prelude.{ℕ, Bool, true, false, List, [], ◌∷◌, ◌++◌, Option, Some, None, option_map}
use Rattle.pp_tokens.specs.declared.Token.{Token}
use Rattle.directive_scan.specs.declared.operand.ConditionPart.{ConditionPart}
use Rattle.directive_scan.specs.declared.stage.Inner.{Inner}
use Rattle.directive_scan.specs.declared.stage.Inner.TheVariants as inner
use Rattle.directive_scan.specs.declared.stage.Sort.{Sort as SortRead}
use Rattle.directive_scan.specs.declared.stage.Sort.TheVariants as sort
use Rattle.directive_scan.specs.declared.stage.Stage.{Stage as StageRead}
use Rattle.directive_scan.specs.declared.stage.Stage.TheVariants as stage
use Rattle.directive_scan.specs.Operands.{Sort, asks, defines, opens, closes, plain, Stage, outside, behind_defined, behind_opening, wanted, within, Parts, probe_before, operand_of, parts_from}

abbrev pub sort_told : SortRead → Sort
sort_told sort.Asks = asks
sort_told sort.Defines = defines
sort_told sort.Opens = opens
sort_told sort.Closes = closes
sort_told sort.Plain = plain

abbrev pub is_asking : Sort → Bool
is_asking s = elim s [ asks ↦ true | _ ↦ false ]

abbrev pub is_opening : Sort → Bool
is_opening s = elim s [ opens ↦ true | _ ↦ false ]

abbrev pub stage_told : StageRead → Stage
stage_told stage.Outside = outside
stage_told stage.BehindDefined = behind_defined
stage_told stage.BehindOpening = behind_opening
stage_told (stage.Wanted name) = wanted name
stage_told (stage.Within name tokens depth) = within name tokens depth

-- how many parentheses of an operand are open
abbrev pub open_count : StageRead → ℕ
open_count stage.Outside = 0
open_count stage.BehindDefined = 0
open_count stage.BehindOpening = 0
open_count (stage.Wanted name) = 0
open_count (stage.Within name tokens depth) = depth

abbrev pub count_reached : Option StageRead → ℕ
count_reached None = 0
count_reached (Some s) = open_count s

-- the parts so far, and those of the tokens that are left
abbrev pub so_far : List ConditionPart → Stage → List Token → Parts
so_far parts s others = option_map (λ more. parts ++ more) (parts_from s others)

-- the same behind a token, which may have made the line malformed
abbrev pub reached : List ConditionPart → Option StageRead → List Token → Parts
reached parts None others = None
reached parts (Some s) others = so_far parts (stage_told s) others

-- what a token within an operand does, and the parts behind it
abbrev pub inner_before : (Stage → Parts) → Token → Token → List Token → Inner → Parts
inner_before next t name tokens inner.Malformed = None
inner_before next t name tokens inner.End = probe_before name (operand_of tokens) (next outside)
inner_before next t name tokens (inner.Within depth) = next (within name (tokens ++ t ∷ []) depth)

abbrev pub inner_count : Inner → ℕ
inner_count inner.Malformed = 0
inner_count inner.End = 0
inner_count (inner.Within depth) = depth
