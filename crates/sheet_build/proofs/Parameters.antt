-- The tokens of function-like macros with at most two parameters, which are names.
use Rattle.std.proofs.Common.{◌≡◌, ◌∷◌, [], ℕ, Bool, true, false, List, Option, Some, refl, ap, ◌∙◌, if◌then◌else◌}
use Rattle.std.specs.Prelude.{codes, bytes_eq, not, ◌&&◌, ◌||◌}
use Rattle.std.specs.Cmp.Lexicographic.{bytes_decides}
use Rattle.pp_tokens.specs.declared.Token.{Token}
use Rattle.pp_tokens.specs.declared.Kind.{Kind}
use Rattle.pp_tokens.specs.declared.Kind.TheVariants as kind
use Rattle.pp_tokens.specs.Marks.{names, punctuates, is_close, is_comma, is_ellipsis, is_identifier}
use Rattle.macro_defs.specs.declared.definition.Shape.TheVariants.{Function}
use Rattle.macro_defs.specs.Defining.{Enclosed, Parameters, up_to_parenthesis, within_more, cut_at_commas, onto_first_piece, listed, last_parameter, before_parameters, only_named, are_distinct, is_written_reserved, where_distinct, parameters_of, hashes_parameters, function_of, enclosed_of}
use Rattle.sheet_build.specs.Sheet.{accepted}
use Rattle.sheet_build.specs.parts.Counted.{body_tokens, object_tokens, enclosed_tokens, is_parameter, IsListed}
use Rattle.sheet_build.proofs.Counting.{body-tokens, no-hashes}

-- an identifier is no punctuator
no-mark : (k : Kind) → names k ≡ true → punctuates k ≡ false
no-mark kind.Ident is = refl
no-mark kind.Header is = absurd (cc)
no-mark kind.Number is = absurd (cc)
no-mark kind.Char is = absurd (cc)
no-mark kind.Str is = absurd (cc)
no-mark kind.Punct is = absurd (cc)
no-mark kind.Other is = absurd (cc)

-- these parameters, with a replacement list without `#`
parameters-listed : (name : List ℕ) (ts within body : List Token) (p : Parameters) → up_to_parenthesis ts ≡ Some (record { within = within; rest = body }) → parameters_of within ≡ Some p
    → hashes_parameters p.names body ≡ true → enclosed_tokens name ts ≡ object_tokens body
parameters-listed name ts within body p enclosed is right =
    ap (λ (o : Option Enclosed). body_tokens (accepted (enclosed_of name o))) enclosed
    ∙ ap (λ (o : Option Parameters). body_tokens (accepted (function_of name o body))) is
    ∙ body-tokens name (Function p.names p.variadic) (hashes_parameters p.names body) body right

chosen : {A : Type 0} (b : Bool) (x y : A) → b ≡ true → (if b then x else y) ≡ x
chosen true x y e = refl
chosen false x y e = absurd (cc)

passed : {A : Type 0} (b : Bool) (x y : A) → b ≡ false → (if b then x else y) ≡ y
passed true x y e = absurd (cc)
passed false x y e = refl

-- where the parenthesis stands
closed-here : (t : Token) (ts : List Token) → is_close t ≡ true → up_to_parenthesis (t ∷ ts) ≡ Some (record { within = []; rest = ts })
unfolding up_to_parenthesis
closed-here t ts is = chosen (is_close t) _ _ is

closed-later : (t : Token) (ts within body : List Token) → is_close t ≡ false → up_to_parenthesis ts ≡ Some (record { within = within; rest = body }) → up_to_parenthesis (t ∷ ts) ≡ Some (record { within = t ∷ within; rest = body })
unfolding up_to_parenthesis
closed-later t ts within body other behind = passed (is_close t) _ _ other ∙ ap (within_more t) behind

and-false : (a b : Bool) → a ≡ false → (a && b) ≡ false
and-false true b e = absurd (cc)
and-false false b e = refl

-- what a parameter isn't
record IsName (t : Token) : Type 0 where
  ident : is_identifier t ≡ true
  unreserved : is_written_reserved t ≡ false
  unclosed : is_close t ≡ false
  no_comma : is_comma t ≡ false
  no_ellipsis : is_ellipsis t ≡ false

is_name : (t : Token) → is_parameter t ≡ true → IsName t
is_name t is = go (is_identifier t) (is_written_reserved t) refl refl is
  where
    go : (a b : Bool) → is_identifier t ≡ a → is_written_reserved t ≡ b → (a && not b) ≡ true → IsName t
    go true true one other both = absurd (cc)
    go true false one other both =
        let other_kind : punctuates t.kind ≡ false = no-mark t.kind one in
        record { ident = one; unreserved = other; unclosed = and-false (punctuates t.kind) _ other_kind; no_comma = and-false (punctuates t.kind) _ other_kind; no_ellipsis = and-false (punctuates t.kind) _ other_kind }
    go false b one other both = absurd (cc)

-- ---- no parameter ----

pub none-listed : (t : Token) (ts : List Token) → is_close t ≡ true → IsListed 1 (t ∷ ts)
none-listed t ts close name clear =
    parameters-listed name (t ∷ ts) [] ts (record { names = []; variadic = false }) (closed-here t ts close) refl (no-hashes [] ts clear)

-- ---- one ----

cut-one : (t : Token) → IsName t → cut_at_commas (t ∷ []) ≡ (t ∷ []) ∷ []
unfolding cut_at_commas
cut-one t is = passed (is_comma t) _ _ is.no_comma

last-one : (t : Token) → IsName t → last_parameter (t ∷ []) ≡ Some (record { names = t.text ∷ []; variadic = false })
last-one t is = passed (is_ellipsis t) _ _ is.no_ellipsis ∙ ap (λ (b : Bool). only_named b t.text false) is.ident

one-parameter : (t : Token) → IsName t → parameters_of (t ∷ []) ≡ Some (record { names = t.text ∷ []; variadic = false })
unfolding listed are_distinct
one-parameter t is =
    passed (is_written_reserved t || false) _ _ (ap (λ (b : Bool). b || false) is.unreserved)
    ∙ ap (λ (ps : List (List Token)). where_distinct (listed ps)) (cut-one t is)
    ∙ ap where_distinct (last-one t is)

pub one-listed : (t u : Token) (ts : List Token) → is_parameter t ≡ true → is_close u ≡ true → IsListed 2 (t ∷ u ∷ ts)
one-listed t u ts parameter close name clear =
    let is = is_name t parameter in
    parameters-listed name (t ∷ u ∷ ts) (t ∷ []) ts (record { names = t.text ∷ []; variadic = false })
    (closed-later t (u ∷ ts) [] ts is.unclosed (closed-here u ts close)) (one-parameter t is) (no-hashes (t.text ∷ []) ts clear)

-- ---- two ----

-- a comma isn't written `__VA_ARGS__`
comma-unreserved : (t : Token) → is_comma t ≡ true → is_written_reserved t ≡ false
comma-unreserved t is = ap (λ (text : List ℕ). bytes_eq text (codes "__VA_ARGS__")) ((bytes_decides t.text (codes ",")).0 (second (punctuates t.kind) (bytes_eq t.text (codes ",")) is))
  where
    second : (a b : Bool) → (a && b) ≡ true → b ≡ true
    second true b both = both
    second false b both = absurd (cc)

cut-two : (t u v : Token) → IsName t → is_comma u ≡ true → IsName v → cut_at_commas (t ∷ u ∷ v ∷ []) ≡ (t ∷ []) ∷ (v ∷ []) ∷ []
unfolding cut_at_commas
cut-two t u v first comma last =
    passed (is_comma t) _ _ first.no_comma
    ∙ ap (onto_first_piece t) (chosen (is_comma u) _ _ comma ∙ ap (λ (ps : List (List Token)). [] ∷ ps) (cut-one v last))

listed-two : (t v : Token) → IsName t → IsName v → listed ((t ∷ []) ∷ (v ∷ []) ∷ []) ≡ Some (record { names = t.text ∷ v.text ∷ []; variadic = false })
unfolding listed
listed-two t v first last = ap (before_parameters (t ∷ [])) (last-one v last) ∙ chosen (is_identifier t) _ _ first.ident

two-parameters : (t u v : Token) → IsName t → is_comma u ≡ true → IsName v → bytes_eq t.text v.text ≡ false → parameters_of (t ∷ u ∷ v ∷ []) ≡ Some (record { names = t.text ∷ v.text ∷ []; variadic = false })
unfolding are_distinct
two-parameters t u v first comma last distinct =
    passed (is_written_reserved t || (is_written_reserved u || (is_written_reserved v || false))) _ _
    (ap (λ (b : Bool). b || (is_written_reserved u || (is_written_reserved v || false))) first.unreserved
    ∙ ap (λ (b : Bool). b || (is_written_reserved v || false)) (comma-unreserved u comma)
    ∙ ap (λ (b : Bool). b || false) last.unreserved)
    ∙ ap (λ (ps : List (List Token)). where_distinct (listed ps)) (cut-two t u v first comma last)
    ∙ ap where_distinct (listed-two t v first last)
    ∙ chosen (not (bytes_eq t.text v.text || false) && true) _ _ (ap (λ (b : Bool). not (b || false) && true) distinct)

pub two-listed : (t u v w : Token) (ts : List Token) → is_parameter t ≡ true → is_close u ≡ false → is_comma u ≡ true → is_parameter v ≡ true → bytes_eq t.text v.text ≡ false → is_close w ≡ true
    → IsListed 4 (t ∷ u ∷ v ∷ w ∷ ts)
two-listed t u v w ts parameter open_still comma other distinct close name clear =
    let first = is_name t parameter in
    let last = is_name v other in
    parameters-listed name (t ∷ u ∷ v ∷ w ∷ ts) (t ∷ u ∷ v ∷ []) ts (record { names = t.text ∷ v.text ∷ []; variadic = false })
    (closed-later t (u ∷ v ∷ w ∷ ts) (u ∷ v ∷ []) ts first.unclosed
    (closed-later u (v ∷ w ∷ ts) (v ∷ []) ts open_still (closed-later v (w ∷ ts) [] ts last.unclosed (closed-here w ts close))))
    (two-parameters t u v first comma last distinct) (no-hashes (t.text ∷ v.text ∷ []) ts clear)
