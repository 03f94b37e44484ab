-- The operands of `__has_include` on the line of a condition (a GNU form; ISO/IEC 9899:2024, 6.10.2).
use Rattle.std.specs.Prelude.{ℕ, zero, suc, List, [], ◌∷◌, ◌++◌, if◌then◌else◌, Option, Some, None, option_map, codes}
use Rattle.pp_tokens.specs.declared.Kind.{Kind}
use Rattle.pp_tokens.specs.declared.Kind.TheVariants as kind
use Rattle.pp_tokens.specs.declared.Token.{Token}
use Rattle.pp_tokens.specs.Marks.{is_word, is_open, is_close}
use Rattle.directive_scan.specs.declared.directive.Target.{Target}
use Rattle.directive_scan.specs.declared.directive.Target.TheVariants.{Plain, Computed}
use Rattle.directive_scan.specs.declared.operand.ConditionPart.{ConditionPart}
use Rattle.directive_scan.specs.declared.operand.ConditionPart.TheVariants.{Written, Probe}
use Rattle.directive_scan.specs.Directives.{header_name}

-- what operands are made of
pub data Sort : Type 0 where
  asks : Sort
  defines : Sort
  opens : Sort
  closes : Sort
  plain : Sort

unfoldable pub sort_of : Token → Sort
sort_of t =
    if is_word (codes "__has_include") t then asks
    else (if is_word (codes "defined") t then defines
    else (if is_open t then opens
    else (if is_close t then closes
    else plain)))

-- how far a line was read: outside of operands; behind a `defined`; behind a `defined (`; behind a `__has_include` that wants its
-- operand; within an operand, by its first token, behind these tokens of it, in so many of its parentheses
pub data Stage : Type 0 where
  outside : Stage
  behind_defined : Stage
  behind_opening : Stage
  wanted : Token → Stage
  within : Token → List Token → ℕ → Stage

-- one header name is plain; another operand has at least one token, and is computed
abbrev pub operand_of_kind : Token → Kind → Target
operand_of_kind t kind.Header = Plain (header_name t.text)
operand_of_kind t kind.Ident = Computed (t ∷ [])
operand_of_kind t kind.Number = Computed (t ∷ [])
operand_of_kind t kind.Char = Computed (t ∷ [])
operand_of_kind t kind.Str = Computed (t ∷ [])
operand_of_kind t kind.Punct = Computed (t ∷ [])
operand_of_kind t kind.Other = Computed (t ∷ [])

unfoldable pub operand_of : List Token → Option Target
operand_of [] = None
operand_of (t ∷ []) = Some (operand_of_kind t t.kind)
operand_of (t ∷ u ∷ ts) = Some (Computed (t ∷ u ∷ ts))

-- the parts of a line from a stage on
abbrev pub Parts : Type 0
Parts = Option (List ConditionPart)

abbrev pub part_before : ConditionPart → Parts → Parts
part_before part None = None
part_before part (Some parts) = Some (part ∷ parts)

-- an operand that is ended
abbrev pub probe_before : Token → Option Target → Parts → Parts
probe_before name None parts = None
probe_before name (Some target) parts = part_before (Probe name target) parts

-- a token, by what it is, and the parts behind it
abbrev pub token_before : (Stage → Parts) → Token → Sort → Stage → Parts
token_before next t asks outside = next (wanted t)
token_before next t asks behind_defined = part_before (Written t) (next outside)
token_before next t asks behind_opening = part_before (Written t) (next outside)
token_before next t defines outside = part_before (Written t) (next behind_defined)
token_before next t defines behind_defined = part_before (Written t) (next behind_defined)
token_before next t defines behind_opening = part_before (Written t) (next behind_defined)
token_before next t opens outside = part_before (Written t) (next outside)
token_before next t opens behind_defined = part_before (Written t) (next behind_opening)
token_before next t opens behind_opening = part_before (Written t) (next outside)
token_before next t closes outside = part_before (Written t) (next outside)
token_before next t closes behind_defined = part_before (Written t) (next outside)
token_before next t closes behind_opening = part_before (Written t) (next outside)
token_before next t plain outside = part_before (Written t) (next outside)
token_before next t plain behind_defined = part_before (Written t) (next outside)
token_before next t plain behind_opening = part_before (Written t) (next outside)
token_before next t opens (wanted name) = next (within name [] 0)
token_before next t asks (wanted name) = None
token_before next t defines (wanted name) = None
token_before next t closes (wanted name) = None
token_before next t plain (wanted name) = None
token_before next t asks (within name ts n) = None
token_before next t defines (within name ts n) = next (within name (ts ++ t ∷ []) n)
token_before next t plain (within name ts n) = next (within name (ts ++ t ∷ []) n)
token_before next t opens (within name ts n) = next (within name (ts ++ t ∷ []) (suc n))
token_before next t closes (within name ts (suc n)) = next (within name (ts ++ t ∷ []) n)
token_before next t closes (within name ts zero) = probe_before name (operand_of ts) (next outside)

-- a line ends outside of operands
abbrev pub parts_at_end : Stage → Parts
parts_at_end outside = Some []
parts_at_end behind_defined = Some []
parts_at_end behind_opening = Some []
parts_at_end (wanted name) = None
parts_at_end (within name ts n) = None

unfoldable pub parts_from : Stage → List Token → Parts
parts_from stage [] = parts_at_end stage
parts_from stage (t ∷ ts) = token_before (λ next. parts_from next ts) t (sort_of t) stage

-- The line of a condition, with each operand of `__has_include` in its place: `(`, a header name, `)`, or `(`, at least one token with
-- its parentheses balanced, `)`. Behind a `defined`, or a `defined (`, a `__has_include` is none; one that has no operand, or that
-- stands within another's, makes the line malformed, which is None.
unfoldable pub parts_of : List Token → Parts
parts_of line = parts_from outside line

-- the operands of some parts
unfoldable pub targets_of : List ConditionPart → List Target
targets_of [] = []
targets_of (Written t ∷ parts) = targets_of parts
targets_of (Probe name target ∷ parts) = target ∷ targets_of parts

-- the operands of a line
abbrev pub operands_of : List Token → Option (List Target)
operands_of line = option_map targets_of (parts_of line)
