-- The numbers of the parameters that tokens name.
use Rattle.std.proofs.Common.{◌≡◌, ℕ, zero, suc, ◌+◌, ◌<◌, Bool, true, false, ◌||◌, cond, if◌then◌else◌, List, [], ◌∷◌, ◌++◌, map, take, length, drop, get_or, slice_get, position, Option, None, Some, bytes_eq, refl, sym, ap, ◌∙◌, arith}
use Rattle.std.specs.Prelude.{Vec, Result, Ok, Err, IfOk}
use Rattle.std.specs.Borrow.{Bor}
use Rattle.std.specs.List.{position_from, list_any}
use Rattle.std.specs.Option.{option_and_then, option_flatten}
use Rattle.std.proofs.lemmas.List.{map-append, take_more}
use Rattle.std.proofs.lemmas.Cmp.{nat_list_eq_equiv}
use Rattle.std.proofs.lemmas.Iterator.Adapters.{position_from-zero}
use Rattle.indexmap.specs.IndexMap.{IndexMap}
use Rattle.pp_tokens.specs.declared.Token.{Token}
use Rattle.pp_tokens.specs.Marks.{is_identifier}
use Rattle.macro_defs.specs.declared.definition.Shape.{Shape}
use Rattle.macro_defs.specs.declared.definition.Shape.TheVariants.{Object, Function}
use Rattle.macro_defs.specs.MacroDefinition.{MacroDefinition, without_line, has_operators, is_operator}
use Rattle.macro_defs.specs.Arguments.{argument_named, parameters_in, parameter_at}
use Rattle.macro_defs.specs.Defining.{definition_from}
use Rattle.macro_defs.specs.parts.Stored.{number_for_name, number_named, numbers_kept}

-- a name more in a map
pub number_more : {S : Type 0} (old new : IndexMap (Bor (List ℕ)) ℕ S) (name : Bor (List ℕ)) (kept number : ℕ) → kept ≡ number
    → ((q : Bor (List ℕ)) → number_for_name new q.now ≡ cond (bytes_eq name.now q.now) (Some kept) (number_for_name old q.now))
    → (other : List ℕ) → number_for_name new other ≡ (if bytes_eq other name.now then Some number else number_for_name old other)
number_more old new name kept number same updates other =
    updates (record { ref_ptr = (0, 0); now = other })
    ∙ ap (λ (b : Bool). if b then Some kept else number_for_name old other) (nat_list_eq_equiv.symm name.now other)
    ∙ ap (λ n. if bytes_eq other name.now then Some n else number_for_name old other) same

-- from the first place on, all places
pub from_first : (name : List ℕ) (params : List (List ℕ)) (place : ℕ) → place ≡ 0 → position_from (bytes_eq name) place (drop place params) ≡ position (bytes_eq name) params
from_first name params place first =
    ap (λ p. position_from (bytes_eq name) p (drop p params)) first ∙ sym (position_from-zero (bytes_eq name) params)

-- a token more
pub mapped-more : {X Y : Type 0} (f : X → Y) (xs : List X) (i : ℕ) (x : X) (ys : List Y) (y : Y) (now : List Y) → i < length xs → x ≡ get_or xs i x
    → ys ≡ map f (take i xs) → y ≡ f x → now ≡ ys ++ y ∷ [] → now ≡ map f (take (i + 1) xs)
mapped-more f xs i x ys y now within is before told made =
    made ∙ ap (λ l. l ++ y ∷ []) before ∙ ap (λ v. map f (take i xs) ++ v ∷ []) (told ∙ ap f is)
    ∙ sym (ap (map f) (take_more xs i x within) ∙ map-append f (take i xs) (get_or xs i x ∷ []))

-- where a map has the number of the first parameter of each name, it tells which parameter each token names
told_by : {S : Type 0} (numbers : IndexMap (Bor (List ℕ)) ℕ S) (params : List (List ℕ)) (body : List Token)
    → ((name : List ℕ) → number_for_name numbers name ≡ position (bytes_eq name) params) → map (number_named numbers) body ≡ map (argument_named params) body
told_by numbers params [] tells = refl
told_by numbers params (t ∷ body) tells =
    ap (λ o. (if is_identifier t then o else None) ∷ map (number_named numbers) body) (tells t.text)
    ∙ ap (λ os. argument_named params t ∷ os) (told_by numbers params body tells)

-- where there are parameters, each token's number is kept
pub kept-some : (params : List (List ℕ)) (body : List Token) → 0 < length params → map (argument_named params) body ≡ numbers_kept params body
kept-some [] body some = absurd (omega (arith, some))
kept-some (name ∷ params) body some = refl

pub kept-told : {S E A : Type 0} (numbers : IndexMap (Bor (List ℕ)) ℕ S) (params : List (List ℕ)) (body : List Token) → 0 < length params
    → ((name : List ℕ) → number_for_name numbers name ≡ position (bytes_eq name) params)
    → (result : Result (Vec (Option ℕ) A) E) → IfOk result (λ named. named.items ≡ map (number_named numbers) body) → IfOk result (λ named. named.items ≡ numbers_kept params body)
kept-told numbers params body some tells (Ok named) is = is ∙ told_by numbers params body tells ∙ kept-some params body some
kept-told numbers params body some tells (Err e) is = tt

-- What is kept, at a place.

parameter : (names : List (List ℕ)) (body : List Token) (place : ℕ)
    → option_flatten (slice_get (map (argument_named names) body) place) ≡ option_and_then (argument_named names) (slice_get (map without_line body) place)
parameter names [] place = refl
parameter names (t ∷ body) zero = refl
parameter names (t ∷ body) (suc place) = parameter names body place

unnamed : (b : Bool) (text : List ℕ) → None ≡ (if b then position (bytes_eq text) [] else None)
unnamed true text = refl
unnamed false text = refl

-- without parameters no token names one
no_parameter : (body : List Token) (place : ℕ) → None ≡ option_and_then (argument_named []) (slice_get (map without_line body) place)
no_parameter [] place = refl
no_parameter (t ∷ body) zero = unnamed (is_identifier t) t.text
no_parameter (t ∷ body) (suc place) = no_parameter body place

kept_at : (names : List (List ℕ)) (body : List Token) (place : ℕ)
    → option_flatten (slice_get (numbers_kept names body) place) ≡ option_and_then (argument_named names) (slice_get (map without_line body) place)
kept_at [] body place = no_parameter body place
kept_at (name ∷ names) body place = parameter (name ∷ names) body place

module _ (shape : Shape) (body : List Token) (named : List (Option ℕ)) (d : MacroDefinition) (place : ℕ)
    (view : definition_from shape body ≡ d) (kept : named ≡ numbers_kept (parameters_in shape) body) where
  pub kept_here : option_flatten (slice_get named place) ≡ parameter_at d place
  kept_here = ap (λ ns. option_flatten (slice_get ns place)) kept ∙ kept_at (parameters_in shape) body place ∙ ap (λ e. parameter_at e place) view

-- the lines of tokens don't tell whether one is a `#` or a `##`
pub operator_unlined : (body : List Token) → list_any is_operator body ≡ list_any is_operator (map without_line body)
operator_unlined [] = refl
operator_unlined (t ∷ body) = ap (λ b. is_operator t || b) (operator_unlined body)

pub operators_unlined : (shape : Shape) (body : List Token) → has_operators shape body ≡ has_operators shape (map without_line body)
operators_unlined Object body = refl
operators_unlined (Function params variadic) body = operator_unlined body

pub operators_here : (shape : Shape) (body : List Token) (operators : Bool) (d : MacroDefinition) → definition_from shape body ≡ d
    → operators ≡ has_operators shape body → operators ≡ has_operators d.shape d.body
operators_here shape body operators d is kept = kept ∙ operators_unlined shape body ∙ ap (λ d. has_operators d.shape d.body) is
