-- What code keeps of a sheet, and how it grows piece by piece.
use Rattle.std.specs.Prelude.{◌≡◌, ◌≤◌, ℕ, List, [], ◌∷◌, ◌++◌, ◌||◌, Option, length, map}
use Rattle.std.specs.List.{filter_map, flat_map, list_any}
use Rattle.base_types.specs.Limits.{body_limit}
use Rattle.pp_tokens.specs.Lines.{lexed}
use Rattle.directive_scan.specs.Directives.{pieces}
use Rattle.directive_scan.specs.declared.Directive.{Directive}
use Rattle.directive_scan.specs.declared.Piece.{Piece}
use Rattle.directive_scan.specs.declared.Piece.TheVariants.{Line}
use Rattle.macro_defs.specs.Defining.{Named}
use Rattle.search_path.specs.SetupOf.{SetupData}
use Rattle.search_path.specs.Search.{Hit, search}
use Rattle.search_path.specs.declared.asking.Ask.{Ask}
use Rattle.search_path.specs.declared.asking.Visit.{Visit}
use Rattle.tree_model.specs.Trees.{FileTree}
use Rattle.sheet_build.specs.Sheet.{SheetData, AskedTarget, plain_hit, computed_of, includes_in, probes_in, definition_in, is_line, named_pair}
use Rattle.sheet_build.specs.declared.unweighed.Parts.{Parts}
use Rattle.sheet_build.specs.declared.unweighed.Defs.{Defs}
use Rattle.sheet_build.specs.declared.unweighed.Defs.TheVariants.{Read, Unread, Unlexed}

-- the definitions that are kept so
abbrev pub defs_seen : Defs → List Named
defs_seen (Read defs) = map named_pair defs
defs_seen (Unread ps) = filter_map definition_in ps
defs_seen (Unlexed body trigraphs) = filter_map definition_in (pieces (lexed trigraphs body).lines)

-- a file that isn't lexed yet isn't too large
abbrev pub AreReadable : Defs → Type 0
AreReadable (Read defs) = Unit {0}
AreReadable (Unread ps) = Unit {0}
AreReadable (Unlexed body trigraphs) = length body ≤ body_limit

-- the sheet of these definitions and parts
abbrev pub sheet_with : List Named → Parts → SheetData
sheet_with defs p = record { defs = defs; plain = p.plain; probes = p.probes; computed = p.computed; has_line = p.has_line }

-- that of these parts, without definitions
abbrev pub sheet_of_parts : Parts → SheetData
sheet_of_parts = sheet_with []

-- the sheet of a file with these pieces, but for its definitions
abbrev pub asked_from : (Ask → Option Hit) → Visit → List Piece → SheetData
asked_from find visit ps = record {
  defs = [];
  plain = filter_map (plain_hit find visit) (flat_map includes_in ps);
  probes = map (λ hit. hit.1) (filter_map (plain_hit find visit) (flat_map probes_in ps));
  computed = filter_map computed_of (flat_map (λ p. includes_in p ++ probes_in p) ps);
  has_line = list_any is_line ps;
}

-- the sheet of some pieces with that of the pieces behind them
abbrev pub joined_sheets : SheetData → SheetData → SheetData
joined_sheets s t = record {
  defs = s.defs ++ t.defs;
  plain = s.plain ++ t.plain;
  probes = s.probes ++ t.probes;
  computed = s.computed ++ t.computed;
  has_line = s.has_line || t.has_line;
}

-- what some pieces add to parts
abbrev pub Adds : FileTree → SetupData → Visit → List Piece → Parts → Parts → Type 0
Adds told setup visit ps old new = sheet_of_parts new ≡ joined_sheets (sheet_of_parts old) (asked_from (search told setup) visit ps)

-- a directive adds nothing, on whatever line
abbrev pub AddsNothing : Directive → Type 0
AddsNothing d = (find : Ask → Option Hit) (visit : Visit) (at : ℕ) (s : SheetData) → s ≡ joined_sheets s (asked_from find visit (Line at d ∷ []))

-- a sheet with what includes ask for
abbrev pub with_includes : (Ask → Option Hit) → Visit → List AskedTarget → SheetData → SheetData
with_includes find visit asks s = record {
  defs = s.defs;
  plain = s.plain ++ filter_map (plain_hit find visit) asks;
  probes = s.probes;
  computed = s.computed ++ filter_map computed_of asks;
  has_line = s.has_line;
}

-- a sheet with what operands of `__has_include` ask for
abbrev pub with_probes : (Ask → Option Hit) → Visit → List AskedTarget → SheetData → SheetData
with_probes find visit asks s = record {
  defs = s.defs;
  plain = s.plain;
  probes = s.probes ++ map (λ hit. hit.1) (filter_map (plain_hit find visit) asks);
  computed = s.computed ++ filter_map computed_of asks;
  has_line = s.has_line;
}
