-- The sheet of a file: what it may ask for and define, whatever its conditionals say (ISO C 6.10).
use Rattle.std.specs.Prelude.{Bool, true, false, ◌<◌, List, [], ◌∷◌, ◌++◌, length, map, Option, Some, None, Result, Ok, Err, cond, nat_le}
use Rattle.std.specs.List.{list_any, flat_map, filter_map}
use Rattle.pp_tokens.specs.declared.Token.{Token}
use Rattle.pp_tokens.specs.Lines.{lexed}
use Rattle.directive_scan.specs.declared.HeaderName.{HeaderName}
use Rattle.directive_scan.specs.declared.Target.{Target}
use Rattle.directive_scan.specs.declared.Target.TheVariants.{Plain, Computed}
use Rattle.directive_scan.specs.declared.Directive.{Directive}
use Rattle.directive_scan.specs.declared.Directive.TheVariants as named
use Rattle.directive_scan.specs.declared.Piece.{Piece}
use Rattle.directive_scan.specs.declared.Piece.TheVariants.{Run, Line}
use Rattle.directive_scan.specs.Directives.{pieces}
use Rattle.directive_scan.specs.Operands.{operands_of}
use Rattle.macro_defs.specs.declared.DefineError.{DefineError}
use Rattle.macro_defs.specs.MacroDefinition.{MacroDefinition}
use Rattle.macro_defs.specs.Defining.{Named, defined_by}
use Rattle.tree_model.specs.Paths.{Text, Path, spelled}
use Rattle.base_types.specs.Limits.{body_limit}
use Rattle.tree_model.specs.Trees.{FileTree}
use Rattle.tree_model.specs.Bodies.{body_at_path}
use Rattle.tree_model.specs.Walk.{locate}
use Rattle.tree_model.specs.declared.walk.Located.{Located}
use Rattle.search_path.specs.SetupOf.{SetupData}
use Rattle.search_path.specs.Search.{Hit, search}
use Rattle.search_path.specs.Asks.{header_ask}
use Rattle.search_path.specs.declared.asking.Visit.{Visit}
use Rattle.search_path.specs.declared.asking.Form.{Form}
use Rattle.search_path.specs.declared.asking.Form.TheVariants.{Quote, NextQuote}
use Rattle.search_path.specs.declared.asking.Ask.{Ask}

-- ---- what a line asks for ----

-- a target: by an include_next or not, and whether it is only probed for
pub record AskedTarget : Type 0 where
  pub next : Bool
  pub probe : Bool
  pub target : Target

abbrev pub asked_so : Bool → Bool → Target → AskedTarget
asked_so next probe target = record { next = next; probe = probe; target = target }

-- the target of an include (6.10.2)
abbrev pub includes_of : Directive → List AskedTarget
includes_of (named.Include target) = asked_so false false target ∷ []
includes_of (named.Next target) = asked_so true false target ∷ []
includes_of _ = []

-- the operands of `__has_include` on a line that is well formed
abbrev pub probes_for : Option (List Target) → List AskedTarget
probes_for None = []
probes_for (Some targets) = map (asked_so false true) targets

abbrev pub probes_of : Directive → List AskedTarget
probes_of (named.If tokens) = probes_for (operands_of tokens)
probes_of (named.Elif tokens) = probes_for (operands_of tokens)
probes_of _ = []

abbrev pub includes_in : Piece → List AskedTarget
includes_in (Run tokens) = []
includes_in (Line at what) = includes_of what

abbrev pub probes_in : Piece → List AskedTarget
probes_in (Run tokens) = []
probes_in (Line at what) = probes_of what

-- the definition of a line that is accepted (6.10.3)
abbrev pub accepted : Result Named DefineError → Option Named
accepted (Ok named) = Some named
accepted (Err e) = None

abbrev pub definition_of : Directive → Option Named
definition_of (named.Define tokens) = accepted (defined_by tokens)
definition_of _ = None

abbrev pub definition_in : Piece → Option Named
definition_in (Run tokens) = None
definition_in (Line at what) = definition_of what

abbrev pub is_line_directive : Directive → Bool
is_line_directive (named.Line tokens) = true
is_line_directive _ = false

abbrev pub is_line : Piece → Bool
is_line (Run tokens) = false
is_line (Line at what) = is_line_directive what

-- ---- the sheet ----

-- tokens that name a file once they are expanded: the form in which a name in quotes is asked for, and whether the file is
-- only probed for
pub record ComputedAsk : Type 0 where
  pub form : Form
  pub probe : Bool
  pub tokens : List Token

-- the definitions in order; the files found by plain includes, and those found by plain operands of probes; the computed
-- targets of both; and whether a `#line` stands in the file
pub record SheetData : Type 0 where
  pub defs : List Named
  pub plain : List Hit
  pub probes : List Located
  pub computed : List ComputedAsk
  pub has_line : Bool

abbrev pub empty_sheet : SheetData
empty_sheet = record { defs = []; plain = []; probes = []; computed = []; has_line = false }

abbrev pub quote_form : Bool → Form
quote_form false = Quote
quote_form true = NextQuote

abbrev pub computed_target : AskedTarget → Target → Option ComputedAsk
computed_target a (Plain header) = None
computed_target a (Computed tokens) = Some (record { form = quote_form a.next; probe = a.probe; tokens = tokens })

abbrev pub computed_of : AskedTarget → Option ComputedAsk
computed_of a = computed_target a a.target

-- what a visited file asks for by a name, in an include, an include_next or a probe
abbrev pub asked_for : Visit → Bool → HeaderName → Ask
asked_for visit next header = header_ask visit next header.angle header.name

-- what a search for a plain target gives
abbrev pub plain_target : (Ask → Option Hit) → Visit → AskedTarget → Target → Option Hit
plain_target find visit a (Plain header) = find (asked_for visit a.next header)
plain_target find visit a (Computed tokens) = None

abbrev pub plain_hit : (Ask → Option Hit) → Visit → AskedTarget → Option Hit
plain_hit find visit a = plain_target find visit a a.target

-- the sheet of a file with these pieces, which was visited so
abbrev pub sheet_from : (Ask → Option Hit) → Visit → List Piece → SheetData
sheet_from find visit ps = record {
  defs = filter_map definition_in ps;
  plain = filter_map (plain_hit find visit) (flat_map includes_in ps);
  probes = map (λ hit. hit.1) (filter_map (plain_hit find visit) (flat_map probes_in ps));
  computed = filter_map computed_of (flat_map (λ p. includes_in p ++ probes_in p) ps);
  has_line = list_any is_line ps;
}

-- the bytes of a located file, none where there is none
abbrev pub body_found : FileTree → Option Located → Text
body_found tree None = []
body_found tree (Some l) = body_at_path tree l.real

-- the bytes of the file that a place leads to
abbrev pub body_of_place : FileTree → Path → Text
body_of_place tree place = body_found tree (locate tree [] (spelled place))

-- a file that isn't too large has a sheet; another has the empty one
abbrev pub sheet_of_body : (Ask → Option Hit) → Bool → Visit → Text → SheetData
sheet_of_body find trigraphs visit body =
    cond (nat_le (length body) body_limit) (sheet_from find visit (pieces (lexed trigraphs body).lines)) empty_sheet

-- the sheet of a visit
unfoldable pub sheet_of : FileTree → SetupData → Visit → SheetData
sheet_of tree setup visit = sheet_of_body (search tree setup) setup.trigraphs visit (body_of_place tree visit.place)

-- the file of a visit is too large
abbrev pub IsLargeAt : FileTree → Visit → Type 0
IsLargeAt tree visit = body_limit < length (body_of_place tree visit.place)

-- a definition as code keeps it
abbrev pub named_pair : Text × MacroDefinition → Named
named_pair d = record { name = d.0; definition = d.1 }
