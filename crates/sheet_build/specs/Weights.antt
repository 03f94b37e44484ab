-- What a sheet weighs in a memo.
use Rattle.std.specs.Prelude.{ℕ, List, ◌+◌, ◌-◌, ◌^◌, min, length, sum_by}
use Rattle.macro_defs.specs.Defining.{Named}
use Rattle.tree_model.specs.declared.walk.Located.{Located}
use Rattle.search_path.specs.Search.{Hit}
use Rattle.sheet_build.specs.Sheet.{SheetData, ComputedAsk}

-- the tokens of definitions, those of computed targets, and the nodes that were walked for plain targets and for probes
abbrev pub tokens_defined : List Named → ℕ
tokens_defined defs = sum_by (λ (named : Named). length named.definition.body) defs

abbrev pub definition_tokens : SheetData → ℕ
definition_tokens sheet = tokens_defined sheet.defs

abbrev pub computed_tokens : SheetData → ℕ
computed_tokens sheet = sum_by (λ (c : ComputedAsk). length c.tokens) sheet.computed

abbrev pub nodes_walked : SheetData → ℕ
nodes_walked sheet = sum_by (λ (hit : Hit). length hit.1.walked) sheet.plain + sum_by (λ (l : Located). length l.walked) sheet.probes

-- one more than these together, or 2^64 - 1 where that is greater
unfoldable pub sheet_weight : SheetData → ℕ
sheet_weight sheet = min (2 ^ 64 - 1) (1 + (definition_tokens sheet + (computed_tokens sheet + nodes_walked sheet)))
