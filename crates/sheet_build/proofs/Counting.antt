-- The tokens of definitions, counted piece by piece.
use Rattle.std.proofs.Common.{◌≡◌, ◌<◌, ◌+◌, ◌-◌, ◌∷◌, ◌++◌, [], ℕ, suc, Bool, true, false, List, length, map, take, drop, get_or, Option, None, Some, Ok, Err, refl, sym, ap, ◌∙◌, arith, if◌then◌else◌}
use Rattle.std.specs.Prelude.{min, ◌&&◌, ◌||◌, not}
use Rattle.std.specs.List.{filter_map, cons_option, list_any}
use Rattle.std.proofs.lemmas.List.{length-map, take_more}
use Rattle.std.proofs.lemmas.List.Elements.{filter_map-append}
use Rattle.std.proofs.lemmas.List.Sums.{sum_by-cons, sum_by-append}
use Rattle.pp_tokens.specs.declared.Token.{Token}
use Rattle.pp_tokens.specs.Marks.{is_hash, is_open}
use Rattle.directive_scan.specs.declared.Directive.{Directive}
use Rattle.directive_scan.specs.declared.Directive.TheVariants as directive
use Rattle.directive_scan.specs.declared.Piece.{Piece}
use Rattle.directive_scan.specs.Spots.{AsksNothing}
use Rattle.macro_defs.specs.declared.definition.Shape.{Shape}
use Rattle.macro_defs.specs.declared.definition.Shape.TheVariants.{Object}
use Rattle.macro_defs.specs.declared.definition.DefineError.TheVariants as error
use Rattle.macro_defs.specs.MacroDefinition.{without_line}
use Rattle.macro_defs.specs.Defining.{Named, names_macro, up_to_parenthesis, begins_with_pasting, ends_with_pasting, hashes_parameters, begins_with_parameter, with_body, enclosed_of, after_name, defined_by}
use Rattle.sheet_build.specs.Sheet.{accepted, definition_of, definition_in}
use Rattle.sheet_build.specs.Weights.{tokens_defined}
use Rattle.sheet_build.specs.parts.Counted.{body_tokens, defined_tokens, object_tokens, enclosed_tokens}

-- ---- the definition of a directive ----

-- a directive that asks nothing defines nothing
pub nothing-asked : (what : Directive) → AsksNothing what → definition_of what ≡ None
nothing-asked (directive.Include target) asks = refl
nothing-asked (directive.Next target) asks = refl
nothing-asked (directive.Define tokens) asks = absurd asks
nothing-asked (directive.Undef tokens) asks = refl
nothing-asked (directive.If tokens) asks = refl
nothing-asked (directive.Ifdef tokens) asks = refl
nothing-asked (directive.Ifndef tokens) asks = refl
nothing-asked (directive.Elif tokens) asks = refl
nothing-asked directive.Else asks = refl
nothing-asked directive.Endif asks = refl
nothing-asked (directive.Line tokens) asks = refl
nothing-asked (directive.Error tokens) asks = refl
nothing-asked directive.Warning asks = refl
nothing-asked directive.Once asks = refl
nothing-asked (directive.Pragma tokens) asks = refl
nothing-asked directive.Null asks = refl
nothing-asked directive.Unknown asks = refl

-- ---- the sum over pieces ----

-- the tokens of one definition, or of none
one-tokens : (o : Option Named) → tokens_defined (cons_option o []) ≡ body_tokens o
one-tokens None = refl
one-tokens (Some named) = sum_by-cons (λ (n : Named). length n.definition.body) named [] ∙ omega arith

-- one piece more was counted
pub count-next : (top : ℕ) (ps : List Piece) (i : ℕ) (p : Piece) (old new added : ℕ) → i < length ps → p ≡ get_or ps i p → old ≡ min top (tokens_defined (filter_map definition_in (take i ps)))
    → added ≡ body_tokens (definition_in p) → new ≡ min (old + added) top → new ≡ min top (tokens_defined (filter_map definition_in (take (i + 1) ps)))
count-next top ps i p old new added below is before one sum =
    let defs : List Named = filter_map definition_in (take i ps) in
    let more : take (i + 1) ps ≡ take i ps ++ p ∷ [] = take_more ps i p below ∙ ap (λ (q : Piece). take i ps ++ q ∷ []) (sym is) in
    let whole : tokens_defined (filter_map definition_in (take (i + 1) ps)) ≡ tokens_defined defs + body_tokens (definition_in p) =
    ap (λ (qs : List Piece). tokens_defined (filter_map definition_in qs)) more
    ∙ ap tokens_defined (filter_map-append definition_in (take i ps) (p ∷ []))
    ∙ sum_by-append (λ (n : Named). length n.definition.body) defs (cons_option (definition_in p) [])
    ∙ ap (λ (n : ℕ). tokens_defined defs + n) (one-tokens (definition_in p)) in
    omega (arith, before, one, sum, whole)

-- ---- a definition that is accepted ----

-- `##` stands last where it stands first of what is left with one token
pub ends-begins : (ts : List Token) → begins_with_pasting (drop (length ts - 1) ts) ≡ ends_with_pasting ts
unfolding ends_with_pasting
ends-begins [] = refl
ends-begins (t ∷ []) = refl
ends-begins (t ∷ u ∷ ts) =
    let less : suc (suc (length ts)) - 1 ≡ suc (suc (length ts) - 1) = omega arith in
    ap (λ (n : ℕ). begins_with_pasting (drop n (t ∷ u ∷ ts))) less ∙ ends-begins (u ∷ ts)

-- the tokens of a replacement list, by where `##` stands
pub ended-tokens : (ts : List Token) → begins_with_pasting ts ≡ false → ends_with_pasting ts ≡ true → 0 ≡ object_tokens ts
ended-tokens ts front last = by (begins_with_pasting ts) (ends_with_pasting ts) last
  where
    by : (a b : Bool) → b ≡ true → 0 ≡ (if a then 0 else (if b then 0 else length ts))
    by true b e = refl
    by false true e = refl
    by false false e = absurd (cc)

pub whole-tokens : (ts : List Token) → begins_with_pasting ts ≡ false → ends_with_pasting ts ≡ false → length ts ≡ object_tokens ts
whole-tokens ts front last = by (begins_with_pasting ts) (ends_with_pasting ts) front last
  where
    by : (a b : Bool) → a ≡ false → b ≡ false → length ts ≡ (if a then 0 else (if b then 0 else length ts))
    by true b e f = absurd (cc)
    by false true e f = absurd (cc)
    by false false e f = refl

-- a body where each `#` is right
pub body-tokens : (name : List ℕ) (shape : Shape) (hashes : Bool) (body : List Token) → hashes ≡ true → body_tokens (accepted (with_body name shape hashes body)) ≡ object_tokens body
body-tokens name shape false body right = absurd (cc)
body-tokens name shape true body right = by (begins_with_pasting body) (ends_with_pasting body)
  where
    by : (a b : Bool) → body_tokens (accepted (if a || b then Err error.PasteEnd else Ok (record { name = name; definition = record { shape = shape; body = map without_line body } }))) ≡ (if a then 0 else (if b then 0 else length body))
    by true b = refl
    by false true = refl
    by false false = length-map body without_line

-- no `#` is wrong where there is none
pub no-hashes : (names : List (List ℕ)) (body : List Token) → list_any is_hash body ≡ false → hashes_parameters names body ≡ true
unfolding hashes_parameters
no-hashes names [] none = refl
no-hashes names (t ∷ ts) none = by (is_hash t) (list_any is_hash ts) none (no-hashes names ts)
  where
    by : (a b : Bool) → (a || b) ≡ false → (b ≡ false → hashes_parameters names ts ≡ true) → ((not a || begins_with_parameter names ts) && hashes_parameters names ts) ≡ true
    by true b none rest = absurd (cc)
    by false b none rest = rest none

pub nothing-defined : defined_tokens [] ≡ 0
unfolding defined_by
nothing-defined = refl

pub unnamed-defined : (t : Token) (ts : List Token) → names_macro t ≡ false → defined_tokens (t ∷ ts) ≡ 0
unfolding defined_by
unnamed-defined t ts unnamed = by (names_macro t) unnamed
  where
    by : (b : Bool) → b ≡ false → body_tokens (accepted (if b then after_name t.text ts else Err error.Name)) ≡ 0
    by true e = absurd (cc)
    by false e = refl

named-defined : (t : Token) (ts : List Token) → names_macro t ≡ true → defined_tokens (t ∷ ts) ≡ body_tokens (accepted (after_name t.text ts))
unfolding defined_by
named-defined t ts named = by (names_macro t) named
  where
    by : (b : Bool) → b ≡ true → body_tokens (accepted (if b then after_name t.text ts else Err error.Name)) ≡ body_tokens (accepted (after_name t.text ts))
    by true e = refl
    by false e = absurd (cc)

pub alone-defined : (t : Token) → names_macro t ≡ true → defined_tokens (t ∷ []) ≡ 0
unfolding ends_with_pasting
alone-defined t named = named-defined t [] named ∙ body-tokens t.text Object true [] refl

pub object-defined : (t u : Token) (ts : List Token) → names_macro t ≡ true → (is_open u && not u.space) ≡ false → defined_tokens (t ∷ u ∷ ts) ≡ object_tokens (u ∷ ts)
object-defined t u ts named object = named-defined t (u ∷ ts) named ∙ by (is_open u && not u.space) object
  where
    by : (b : Bool) → b ≡ false → body_tokens (accepted (if b then enclosed_of t.text (up_to_parenthesis ts) else with_body t.text Object true (u ∷ ts))) ≡ object_tokens (u ∷ ts)
    by true e = absurd (cc)
    by false e = body-tokens t.text Object true (u ∷ ts) refl

pub function-defined : (t u : Token) (ts : List Token) → names_macro t ≡ true → (is_open u && not u.space) ≡ true → defined_tokens (t ∷ u ∷ ts) ≡ enclosed_tokens t.text ts
function-defined t u ts named function = named-defined t (u ∷ ts) named ∙ by (is_open u && not u.space) function
  where
    by : (b : Bool) → b ≡ true → body_tokens (accepted (if b then enclosed_of t.text (up_to_parenthesis ts) else with_body t.text Object true (u ∷ ts))) ≡ enclosed_tokens t.text ts
    by true e = refl
    by false e = absurd (cc)
