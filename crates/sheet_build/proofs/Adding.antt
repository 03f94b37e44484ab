-- How sheets grow.
use Rattle.std.proofs.Common.{◌≡◌, ◌<◌, ◌+◌, ◌++◌, ◌∷◌, [], ℕ, Bool, true, false, ◌||◌, List, length, take, get_or, map, Option, Some, refl, sym, ap, ◌∙◌, append_assoc, if◌then◌else◌}
use Rattle.std.specs.Prelude.{codes, bytes_eq}
use Rattle.std.specs.List.{filter_map, flat_map, cons_option}
use Rattle.std.specs.Option.{option_map}
use Rattle.std.proofs.Math.Bool.{or-false}
use Rattle.std.proofs.lemmas.List.{append-nil, map-append, take_more}
use Rattle.std.proofs.lemmas.List.Elements.{filter_map-append}
use Rattle.std.proofs.lemmas.List.Folds.{list_any-append}
use Rattle.std.proofs.lemmas.Grind.{flat_map-append}
use Rattle.pp_tokens.specs.declared.Token.{Token}
use Rattle.directive_scan.specs.declared.Piece.{Piece}
use Rattle.directive_scan.specs.declared.Piece.TheVariants.{Line}
use Rattle.directive_scan.specs.declared.Directive.{Directive}
use Rattle.directive_scan.specs.declared.Directive.TheVariants as named
use Rattle.directive_scan.specs.declared.DirectiveName.{DirectiveName}
use Rattle.directive_scan.specs.declared.DirectiveName.TheVariants as name
use Rattle.directive_scan.specs.Names.{directive_told}
use Rattle.directive_scan.specs.Directives.{pragma_of}
use Rattle.directive_scan.specs.declared.ConditionPart.{ConditionPart}
use Rattle.directive_scan.specs.declared.ConditionPart.TheVariants.{Written}
use Rattle.directive_scan.specs.Operands.{parts_of, operands_of, targets_of}
use Rattle.directive_scan.specs.declared.Target.{Target}
use Rattle.macro_defs.specs.Defining.{Named}
use Rattle.search_path.specs.Search.{Hit}
use Rattle.search_path.specs.declared.asking.Ask.{Ask}
use Rattle.search_path.specs.declared.asking.Visit.{Visit}
use Rattle.tree_model.specs.declared.walk.Located.{Located}
use Rattle.sheet_build.specs.Sheet.{empty_sheet, SheetData, ComputedAsk, AskedTarget, asked_so, plain_hit, computed_of, includes_in, probes_in, probes_for, definition_in, is_line}
use Rattle.sheet_build.specs.parts.Stored.{AddsNothing, asked_from, joined_sheets, with_includes, with_probes}

abbrev sheet_made : List Named → List Hit → List Located → List ComputedAsk → Bool → SheetData
sheet_made defs plain probes computed has_line = record { defs = defs; plain = plain; probes = probes; computed = computed; has_line = has_line }

same_sheet : (d d' : List Named) (p p' : List Hit) (q q' : List Located) (c c' : List ComputedAsk) (b b' : Bool) → d ≡ d' → p ≡ p' → q ≡ q' → c ≡ c' → b ≡ b' →
    sheet_made d p q c b ≡ sheet_made d' p' q' c' b'
same_sheet d d' p p' q q' c c' b b' ds ps qs cs bs = λ i. sheet_made (ds i) (ps i) (qs i) (cs i) (bs i)

-- a sheet with other definitions
abbrev pub with_defs : List Named → SheetData → SheetData
with_defs defs s = sheet_made defs s.plain s.probes s.computed s.has_line

abbrev hits : (Ask → Option Hit) → Visit → List AskedTarget → List Hit
hits find visit asks = filter_map (plain_hit find visit) asks

abbrev files : (Ask → Option Hit) → Visit → List AskedTarget → List Located
files find visit asks = map (λ hit. hit.1) (hits find visit asks)

files-append : (find : Ask → Option Hit) (visit : Visit) (xs ys : List AskedTarget) → files find visit (xs ++ ys) ≡ files find visit xs ++ files find visit ys
files-append find visit xs ys =
    ap (λ (hs : List Hit). map (λ hit. hit.1) hs) (filter_map-append (plain_hit find visit) xs ys) ∙ map-append (λ (hit : Hit). hit.1) (hits find visit xs) (hits find visit ys)

-- probes one behind the other
pub probes-append : (find : Ask → Option Hit) (visit : Visit) (xs ys : List AskedTarget) (s : SheetData) → with_probes find visit (xs ++ ys) s ≡ with_probes find visit ys (with_probes find visit xs s)
probes-append find visit xs ys s =
    same_sheet s.defs s.defs s.plain s.plain
    (s.probes ++ files find visit (xs ++ ys)) ((s.probes ++ files find visit xs) ++ files find visit ys)
    (s.computed ++ filter_map computed_of (xs ++ ys)) ((s.computed ++ filter_map computed_of xs) ++ filter_map computed_of ys)
    s.has_line s.has_line
    refl refl
    (ap (λ (ls : List Located). s.probes ++ ls) (files-append find visit xs ys) ∙ sym (append_assoc s.probes (files find visit xs) (files find visit ys)))
    (ap (λ (cs : List ComputedAsk). s.computed ++ cs) (filter_map-append computed_of xs ys) ∙ sym (append_assoc s.computed (filter_map computed_of xs) (filter_map computed_of ys)))
    refl

-- no probe adds nothing
pub probes-none : (find : Ask → Option Hit) (visit : Visit) (s : SheetData) → with_probes find visit [] s ≡ s
probes-none find visit s =
    same_sheet s.defs s.defs s.plain s.plain (s.probes ++ []) s.probes (s.computed ++ []) s.computed s.has_line s.has_line refl refl (append-nil s.probes) (append-nil s.computed) refl

-- one operand more was added
pub operands-next : (find : Ask → Option Hit) (visit : Visit) (target : Target) (rest others whole : List Target) (old new first : SheetData) →
    rest ≡ target ∷ others →
    with_probes find visit (map (asked_so false true) rest) old ≡ with_probes find visit (map (asked_so false true) whole) first →
    new ≡ with_probes find visit (asked_so false true target ∷ []) old →
    with_probes find visit (map (asked_so false true) others) new ≡ with_probes find visit (map (asked_so false true) whole) first
operands-next find visit target rest others whole old new first front before added =
    ap (λ (s : SheetData). with_probes find visit (map (asked_so false true) others) s) added
    ∙ sym (probes-append find visit (asked_so false true target ∷ []) (map (asked_so false true) others) old)
    ∙ ap (λ (ts : List Target). with_probes find visit (map (asked_so false true) ts) old) (sym front)
    ∙ before

-- all were
pub operands-all : (find : Ask → Option Hit) (visit : Visit) (rest whole targets : List Target) (new first : SheetData) →
    rest ≡ [] → whole ≡ targets →
    with_probes find visit (map (asked_so false true) rest) new ≡ with_probes find visit (map (asked_so false true) whole) first →
    new ≡ with_probes find visit (map (asked_so false true) targets) first
operands-all find visit rest whole targets new first none all before =
    sym (probes-none find visit new)
    ∙ ap (λ (ts : List Target). with_probes find visit (map (asked_so false true) ts) new) (sym none)
    ∙ before
    ∙ ap (λ (ts : List Target). with_probes find visit (map (asked_so false true) ts) first) all

-- A piece's askings.
abbrev asks_in : Piece → List AskedTarget
asks_in p = includes_in p ++ probes_in p

hits-append : (find : Ask → Option Hit) (visit : Visit) (f : Piece → List AskedTarget) (ps qs : List Piece) → hits find visit (flat_map f (ps ++ qs)) ≡ hits find visit (flat_map f ps) ++ hits find visit (flat_map f qs)
hits-append find visit f ps qs =
    ap (λ (xs : List AskedTarget). hits find visit xs) (flat_map-append f ps qs) ∙ filter_map-append (plain_hit find visit) (flat_map f ps) (flat_map f qs)

-- the sheet of pieces one behind the other
pub sheet-append : (find : Ask → Option Hit) (visit : Visit) (ps qs : List Piece) → asked_from find visit (ps ++ qs) ≡ joined_sheets (asked_from find visit ps) (asked_from find visit qs)
sheet-append find visit ps qs =
    let a = asked_from find visit ps in
    let b = asked_from find visit qs in
    let w = asked_from find visit (ps ++ qs) in
    same_sheet w.defs (a.defs ++ b.defs) w.plain (a.plain ++ b.plain) w.probes (a.probes ++ b.probes) w.computed (a.computed ++ b.computed) w.has_line (a.has_line || b.has_line)
    refl
    (hits-append find visit includes_in ps qs)
    (ap (λ (hs : List Hit). map (λ hit. hit.1) hs) (hits-append find visit probes_in ps qs) ∙ map-append (λ (hit : Hit). hit.1) (hits find visit (flat_map probes_in ps)) (hits find visit (flat_map probes_in qs)))
    (ap (λ (xs : List AskedTarget). filter_map computed_of xs) (flat_map-append asks_in ps qs) ∙ filter_map-append computed_of (flat_map asks_in ps) (flat_map asks_in qs))
    (list_any-append is_line ps qs)

-- one piece more was read
pub pieces-next : (find : Ask → Option Hit) (visit : Visit) (ps : List Piece) (i : ℕ) (p : Piece) (old new : SheetData) → i < length ps → p ≡ get_or ps i p →
    old ≡ asked_from find visit (take i ps) → new ≡ joined_sheets old (asked_from find visit (p ∷ [])) → new ≡ asked_from find visit (take (i + 1) ps)
pieces-next find visit ps i p old new below is before added =
    added
    ∙ ap (λ (s : SheetData). joined_sheets s (asked_from find visit (p ∷ []))) before
    ∙ sym (sheet-append find visit (take i ps) (p ∷ []))
    ∙ ap (λ (q : Piece). asked_from find visit (take i ps ++ q ∷ [])) is
    ∙ ap (λ (qs : List Piece). asked_from find visit qs) (sym (take_more ps i p below))

-- the definitions of one piece more
pub definitions-next : (ps : List Piece) (i : ℕ) (p : Piece) (old new : List Named) → i < length ps → p ≡ get_or ps i p → old ≡ filter_map definition_in (take i ps)
    → new ≡ old ++ cons_option (definition_in p) [] → new ≡ filter_map definition_in (take (i + 1) ps)
definitions-next ps i p old new below is before added =
    added
    ∙ ap (λ (defs : List Named). defs ++ cons_option (definition_in p) []) before
    ∙ sym (filter_map-append definition_in (take i ps) (p ∷ []))
    ∙ ap (λ (q : Piece). filter_map definition_in (take i ps ++ q ∷ [])) is
    ∙ ap (λ (qs : List Piece). filter_map definition_in qs) (sym (take_more ps i p below))

-- ---- what a directive adds ----

abbrev sheet_on : (Ask → Option Hit) → Visit → ℕ → Directive → SheetData
sheet_on find visit at what = asked_from find visit (Line at what ∷ [])

-- what a sheet becomes with a directive that is this one
pub on-line : (find : Ask → Option Hit) (visit : Visit) (at : ℕ) (what shown : Directive) (s : SheetData) {n : SheetData} → what ≡ shown →
    n ≡ joined_sheets s (sheet_on find visit at shown) → n ≡ joined_sheets s (sheet_on find visit at what)
on-line find visit at what shown s is added = added ∙ ap (λ (d : Directive). joined_sheets s (sheet_on find visit at d)) (sym is)

-- an include, whose target is asked for so
include-same : (find : Ask → Option Hit) (visit : Visit) (a : AskedTarget) (s : SheetData) →
    with_includes find visit (a ∷ []) s ≡ joined_sheets s (sheet_made [] (hits find visit (a ∷ [])) [] (filter_map computed_of (a ∷ [])) false)
include-same find visit a s =
    let plain = s.plain ++ hits find visit (a ∷ []) in
    let computed = s.computed ++ filter_map computed_of (a ∷ []) in
    same_sheet s.defs (s.defs ++ []) plain plain s.probes (s.probes ++ []) computed computed s.has_line (s.has_line || false)
    (sym (append-nil s.defs)) refl (sym (append-nil s.probes)) refl (sym (or-false s.has_line))

pub include-adds : (find : Ask → Option Hit) (visit : Visit) (at : ℕ) (target : Target) (s : SheetData) →
    with_includes find visit (asked_so false false target ∷ []) s ≡ joined_sheets s (sheet_on find visit at (named.Include target))
include-adds find visit at target s = include-same find visit (asked_so false false target) s

pub next-adds : (find : Ask → Option Hit) (visit : Visit) (at : ℕ) (target : Target) (s : SheetData) →
    with_includes find visit (asked_so true false target ∷ []) s ≡ joined_sheets s (sheet_on find visit at (named.Next target))
next-adds find visit at target s = include-same find visit (asked_so true false target) s

-- the operands of a condition, which are asked for so
probes-same : (find : Ask → Option Hit) (visit : Visit) (asks : List AskedTarget) (s : SheetData) →
    with_probes find visit asks s ≡ joined_sheets s (sheet_made [] [] (files find visit (asks ++ [])) (filter_map computed_of (asks ++ [])) false)
probes-same find visit asks s =
    same_sheet s.defs (s.defs ++ []) s.plain (s.plain ++ [])
    (s.probes ++ files find visit asks) (s.probes ++ files find visit (asks ++ []))
    (s.computed ++ filter_map computed_of asks) (s.computed ++ filter_map computed_of (asks ++ []))
    s.has_line (s.has_line || false)
    (sym (append-nil s.defs)) (sym (append-nil s.plain))
    (ap (λ (xs : List AskedTarget). s.probes ++ files find visit xs) (sym (append-nil asks)))
    (ap (λ (xs : List AskedTarget). s.computed ++ filter_map computed_of xs) (sym (append-nil asks)))
    (sym (or-false s.has_line))

pub if-adds : (find : Ask → Option Hit) (visit : Visit) (at : ℕ) (tokens : List Token) (s : SheetData) →
    with_probes find visit (probes_for (operands_of tokens)) s ≡ joined_sheets s (sheet_on find visit at (named.If tokens))
if-adds find visit at tokens s = probes-same find visit (probes_for (operands_of tokens)) s

pub elif-adds : (find : Ask → Option Hit) (visit : Visit) (at : ℕ) (tokens : List Token) (s : SheetData) →
    with_probes find visit (probes_for (operands_of tokens)) s ≡ joined_sheets s (sheet_on find visit at (named.Elif tokens))
elif-adds find visit at tokens s = probes-same find visit (probes_for (operands_of tokens)) s

-- ---- a condition without `__has_include` ----

no-targets : (tokens : List Token) → targets_of (map Written tokens) ≡ []
unfolding targets_of
no-targets [] = refl
no-targets (t ∷ ts) = no-targets ts

pub probeless-adds : (find : Ask → Option Hit) (visit : Visit) (tokens : List Token) (s : SheetData) → parts_of tokens ≡ Some (map Written tokens) →
    s ≡ with_probes find visit (probes_for (operands_of tokens)) s
probeless-adds find visit tokens s parts =
    sym (probes-none find visit s)
    ∙ ap (λ (ts : List Target). with_probes find visit (map (asked_so false true) ts) s) (sym (no-targets tokens))
    ∙ ap (λ (o : Option (List ConditionPart)). with_probes find visit (probes_for (option_map targets_of o)) s) (sym parts)

-- ---- a directive that adds nothing ----

joined-empty : (s : SheetData) → s ≡ joined_sheets s empty_sheet
joined-empty s =
    same_sheet s.defs (s.defs ++ []) s.plain (s.plain ++ []) s.probes (s.probes ++ []) s.computed (s.computed ++ []) s.has_line (s.has_line || false)
    (sym (append-nil s.defs)) (sym (append-nil s.plain)) (sym (append-nil s.probes)) (sym (append-nil s.computed)) (sym (or-false s.has_line))

pragma-empty : (find : Ask → Option Hit) (visit : Visit) (at : ℕ) (ts : List Token) → empty_sheet ≡ sheet_on find visit at (pragma_of ts)
unfolding pragma_of
pragma-empty find visit at [] = refl
pragma-empty find visit at (t ∷ ts) = by (bytes_eq t.text (codes "once"))
  where
    by : (b : Bool) → empty_sheet ≡ sheet_on find visit at (if b then named.Once else named.Pragma (t ∷ ts))
    by true = refl
    by false = refl

others-empty : (find : Ask → Option Hit) (visit : Visit) (at : ℕ) (n : DirectiveName) (ts : List Token) →
    (n ≡ name.Include → ⊥) → (n ≡ name.Next → ⊥) → (n ≡ name.Line → ⊥) → (n ≡ name.If → ⊥) → (n ≡ name.Elif → ⊥) → empty_sheet ≡ sheet_on find visit at (directive_told n ts)
others-empty find visit at name.Include ts a b c d e = absurd (a refl)
others-empty find visit at name.Next ts a b c d e = absurd (b refl)
others-empty find visit at name.Define ts a b c d e = refl
others-empty find visit at name.Line ts a b c d e = absurd (c refl)
others-empty find visit at name.If ts a b c d e = absurd (d refl)
others-empty find visit at name.Elif ts a b c d e = absurd (e refl)
others-empty find visit at name.Undef ts a b c d e = refl
others-empty find visit at name.Ifdef ts a b c d e = refl
others-empty find visit at name.Ifndef ts a b c d e = refl
others-empty find visit at name.Else ts a b c d e = refl
others-empty find visit at name.Endif ts a b c d e = refl
others-empty find visit at name.Error ts a b c d e = refl
others-empty find visit at name.Warning ts a b c d e = refl
others-empty find visit at name.Pragma ts a b c d e = pragma-empty find visit at ts
others-empty find visit at name.Null ts a b c d e = refl
others-empty find visit at name.Unknown ts a b c d e = refl

-- a name that tells so
pub others-add-nothing : (what : Directive) (n : DirectiveName) (ts : List Token) → what ≡ directive_told n ts →
    (n ≡ name.Include → ⊥) → (n ≡ name.Next → ⊥) → (n ≡ name.Line → ⊥) → (n ≡ name.If → ⊥) → (n ≡ name.Elif → ⊥) → AddsNothing what
others-add-nothing what n ts is a b c d e find visit at s =
    on-line find visit at what (directive_told n ts) s is (joined-empty s ∙ ap (joined_sheets s) (others-empty find visit at n ts a b c d e))

-- a condition that asks for no file
pub if-adds-nothing : (what : Directive) (ts : List Token) → what ≡ named.If ts → parts_of ts ≡ Some (map Written ts) → AddsNothing what
if-adds-nothing what ts is plain find visit at s = on-line find visit at what (named.If ts) s is (probeless-adds find visit ts s plain ∙ if-adds find visit at ts s)

pub elif-adds-nothing : (what : Directive) (ts : List Token) → what ≡ named.Elif ts → parts_of ts ≡ Some (map Written ts) → AddsNothing what
elif-adds-nothing what ts is plain find visit at s = on-line find visit at what (named.Elif ts) s is (probeless-adds find visit ts s plain ∙ elif-adds find visit at ts s)
