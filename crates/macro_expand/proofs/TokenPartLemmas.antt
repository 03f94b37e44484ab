-- A replacement list without `#` and `##`, token by token.
use Rattle.std.proofs.Common.{◌≡◌, ℕ, zero, suc, ◌+◌, ◌<◌, ◌≤◌, ◌==◌, Bool, true, false, not, ◌&&◌, ◌||◌, List, [], ◌∷◌, ◌++◌, map, length, get_or, slice_get, drop, arith, refl, ap, sym, ◌∙◌, subst, Option, Some, None, true≢false, drop_of_length-le}
use Rattle.std.specs.List.{list_any}
use Rattle.std.specs.Option.{option_and_then}
use Rattle.std.proofs.Math.Bool.{or-false}
use Rattle.pp_tokens.specs.declared.Token.{Token}
use Rattle.pp_tokens.specs.Marks.{is_hash, is_pasting}
use Rattle.macro_defs.specs.declared.definition.Shape.{Shape}
use Rattle.macro_defs.specs.declared.definition.Shape.TheVariants.{Object, Function}
use Rattle.macro_defs.specs.MacroDefinition.{MacroDefinition, without_line, is_operator, has_operators}
use Rattle.macro_defs.specs.Arguments.{argument_named, parameters_in, parameter_at}
use Rattle.macro_expand.specs.Replacement.{Marked, Arguments, BodyPart, parts_after, one_joins, body_parts, is_join, first_body_part, is_alone, stands_alone}
use Rattle.macro_expand.specs.parts.Parts.{operand_part, takes_written, joins, parts_from, is_named, MarksNamed}
use Rattle.macro_expand.specs.parts.Pieces.{tokens_of_part, tokens_of_parts}
use Rattle.macro_expand.proofs.PartLemmas.{body_part-operand, parts_after-part, alone-before, or_both}
use Rattle.macro_expand.proofs.StringLemmas.{grows, nothing_left}

-- No part is a `##`, nor takes an argument as it is written.

operand-apart : (t : Token) (named : Option ℕ) → is_join (Some (operand_part None t named)) ≡ false
operand-apart t None = refl
operand-apart t (Some i) = refl

operand-unwritten : (t : Token) (named : Option ℕ) → takes_written (operand_part None t named) ≡ false
operand-unwritten t None = refl
operand-unwritten t (Some i) = refl

pub from-unjoined : (d : MacroDefinition) (place : ℕ) (ts : List Token) → list_any joins (parts_from d place ts) ≡ false
from-unjoined d place [] = refl
from-unjoined d place (t ∷ ts) =
    ap (λ b. b || list_any joins (parts_from d (place + 1) ts)) (operand-apart t (parameter_at d place)) ∙ from-unjoined d (place + 1) ts

pub from-unwritten : (d : MacroDefinition) (place : ℕ) (ts : List Token) → list_any takes_written (parts_from d place ts) ≡ false
from-unwritten d place [] = refl
from-unwritten d place (t ∷ ts) =
    ap (λ b. b || list_any takes_written (parts_from d (place + 1) ts)) (operand-unwritten t (parameter_at d place)) ∙ from-unwritten d (place + 1) ts

first-unjoined : (d : MacroDefinition) (place : ℕ) (ts : List Token) → is_join (first_body_part (parts_from d place ts)) ≡ false
first-unjoined d place [] = refl
first-unjoined d place (t ∷ ts) = operand-apart t (parameter_at d place)

-- What the parts are.

abbrev named_part : List (List ℕ) → Token → BodyPart
named_part names t = operand_part None t (argument_named names t)

neither : (a b : Bool) → (a || b) ≡ false → (a ≡ false) × (b ≡ false)
neither true b none = absurd (true≢false none)
neither false b none = (refl, none)

-- without `#` and `##` each token is a part
each_part : (names : List (List ℕ)) (body : List Token) → list_any is_operator body ≡ false → map (named_part names) body ≡ body_parts names body
unfolding parts_after one_joins
each_part names [] none = refl
each_part names (t ∷ ts) none =
    let all : (is_operator t ≡ false) × (list_any is_operator ts ≡ false) = neither (is_operator t) (list_any is_operator ts) none in
    let own : (is_hash t ≡ false) × (is_pasting t ≡ false) = neither (is_hash t) (is_pasting t) all.0 in
    ap (λ ps. named_part names t ∷ ps) (each_part names ts all.1)
    ∙ ap (λ b. named_part names t ∷ one_joins b (parts_after None names ts)) (sym (operand-apart t (argument_named names t)))
    ∙ ap (λ p. one_joins false (p ∷ parts_after None names ts)) (sym (body_part-operand t (argument_named names t) own.1))
    ∙ ap (one_joins false) (sym (parts_after-part None names t ts own.0))

-- the parameters that the definition tells are those that the tokens name
from-named : (d : MacroDefinition) (place : ℕ) (ts : List Token) → ((k : ℕ) → slice_get d.body (place + k) ≡ slice_get ts k) →
    parts_from d place ts ≡ map (named_part (parameters_in d.shape)) ts
from-named d place [] same = refl
from-named d place (t ∷ ts) same =
    let start : place ≡ place + 0 = omega arith in
    ap (λ o. operand_part None t o ∷ parts_from d (place + 1) ts)
    (ap (parameter_at d) start ∙ ap (option_and_then (argument_named (parameters_in d.shape))) (same 0))
    ∙ ap (λ ps. named_part (parameters_in d.shape) t ∷ ps)
    (from-named d (place + 1) ts (λ k. let next : (place + 1) + k ≡ place + suc k = omega arith in ap (slice_get d.body) next ∙ same (suc k)))

unmarked_list : (shape : Shape) (body : List Token) → (shape ≡ Object → ⊥) → has_operators shape body ≡ false → list_any is_operator body ≡ false
unmarked_list Object body called none = absurd (called refl)
unmarked_list (Function params variadic) body called none = none

pub tokens_are-parts : (d : MacroDefinition) (tokens : List Token) → map without_line tokens ≡ d.body → (d.shape ≡ Object → ⊥) →
    has_operators d.shape d.body ≡ false → parts_from d 0 (map without_line tokens) ≡ body_parts (parameters_in d.shape) d.body
tokens_are-parts d tokens whole called none =
    ap (parts_from d 0) whole ∙ from-named d 0 d.body (λ k. let at : 0 + k ≡ k = omega arith in ap (slice_get d.body) at) ∙ each_part (parameters_in d.shape) d.body (unmarked_list d.shape d.body called none)

-- Arguments that stand alone (6.10.3.1).

beside_none : (b l r : Bool) → l ≡ false → r ≡ false → (b && not l && not r) ≡ b
beside_none b true r left right = absurd (true≢false left)
beside_none b false true left right = absurd (true≢false right)
beside_none true false false left right = refl
beside_none false false false left right = refl

alone_operand : (i : ℕ) (t : Token) (named : Option ℕ) (right : List BodyPart) → is_join (first_body_part right) ≡ false →
    is_alone i None (operand_part None t named) right ≡ is_named i named
alone_operand i t None right apart = refl
alone_operand i t (Some j) right apart = beside_none (i == j) false (is_join (first_body_part right)) refl apart

alone_first : (i : ℕ) (d : MacroDefinition) (place : ℕ) (t : Token) (ts : List Token) →
    stands_alone i None (parts_from d place (t ∷ ts)) ≡ (is_named i (parameter_at d place) || stands_alone i None (parts_from d (place + 1) ts))
unfolding stands_alone
alone_first i d place t ts =
    let p : BodyPart = operand_part None t (parameter_at d place) in
    ap (λ b. b || stands_alone i (Some p) (parts_from d (place + 1) ts))
    (alone_operand i t (parameter_at d place) (parts_from d (place + 1) ts) (first-unjoined d (place + 1) ts))
    ∙ ap (λ b. is_named i (parameter_at d place) || b) (sym (alone-before i p false (parts_from d (place + 1) ts) (sym (operand-apart t (parameter_at d place)))))

some_front : (ts : List Token) (place : ℕ) → place < length ts → (t : Token) × (drop place ts ≡ t ∷ drop (place + 1) ts)
some_front [] place here = absurd (omega (arith, here))
some_front (t ∷ ts) zero here = (t, refl)
some_front (t ∷ ts) (suc place) here =
    let front : (u : Token) × (drop place ts ≡ u ∷ drop (place + 1) ts) = some_front ts place (omega (arith, here)) in
    let next : suc (place + 1) ≡ suc place + 1 = omega arith in
    (front.0, front.1 ∙ ap (λ n. front.0 ∷ drop n (t ∷ ts)) next)

-- a turn of the loop: the argument that one token more names
module _ (count : ℕ) (d : MacroDefinition) (tokens : List Token) (place : ℕ) (whole : ℕ → Bool) where
  pub named-turn : (old new : List Bool) → place < length tokens → length old ≡ count → MarksNamed old new (parameter_at d place) →
      ((i : ℕ) → i < count → (get_or old i false || stands_alone i None (parts_from d place (map without_line (drop place tokens)))) ≡ whole i) →
      (i : ℕ) → i < count → (get_or new i false || stands_alone i None (parts_from d (place + 1) (map without_line (drop (place + 1) tokens)))) ≡ whole i
  named-turn old new here same marks keeps i below =
      let front : (t : Token) × (drop place tokens ≡ t ∷ drop (place + 1) tokens) = some_front tokens place here in
      let rest : Bool = stands_alone i None (parts_from d (place + 1) (map without_line (drop (place + 1) tokens))) in
      ap (λ b. b || rest) (marks.1 i (subst (λ n. i < n) (sym same) below))
      ∙ or_both (get_or old i false) (is_named i (parameter_at d place)) rest
      ∙ ap (λ b. get_or old i false || b) (sym (alone_first i d place (without_line front.0) (map without_line (drop (place + 1) tokens))))
      ∙ ap (λ ts. get_or old i false || stands_alone i None (parts_from d place (map without_line ts))) (sym front.1)
      ∙ keeps i below

  pub named-done : (alone : List Bool) → length tokens ≤ place →
      ((i : ℕ) → i < count → (get_or alone i false || stands_alone i None (parts_from d place (map without_line (drop place tokens)))) ≡ whole i) →
      (i : ℕ) → i < count → get_or alone i false ≡ whole i
  unfolding stands_alone
  named-done alone past keeps i below =
      sym (or-false (get_or alone i false))
      ∙ ap (λ ts. get_or alone i false || stands_alone i None (parts_from d place (map without_line ts))) (sym (drop_of_length-le tokens past))
      ∙ keeps i below

-- The tokens that are made.

-- a turn of the loop: one token more
pub made-turn : (args : Arguments) (d : MacroDefinition) (place : ℕ) (tokens ts : List Token) (t : Token) (out next whole : List Marked) → tokens ≡ t ∷ ts →
    next ≡ out ++ tokens_of_part args (operand_part None (without_line t) (parameter_at d place)) →
    out ++ tokens_of_parts args (parts_from d place (map without_line tokens)) ≡ whole →
    next ++ tokens_of_parts args (parts_from d (place + 1) (map without_line ts)) ≡ whole
made-turn args d place tokens ts t out next whole is made keeps =
    grows out next (tokens_of_part args (operand_part None (without_line t) (parameter_at d place)))
    (tokens_of_parts args (parts_from d place (map without_line tokens)))
    (tokens_of_parts args (parts_from d (place + 1) (map without_line ts))) whole made
    (ap (λ us. tokens_of_parts args (parts_from d place (map without_line us))) is) keeps

pub made-done : (args : Arguments) (d : MacroDefinition) (place : ℕ) (tokens : List Token) (out whole : List Marked) → tokens ≡ [] →
    out ++ tokens_of_parts args (parts_from d place (map without_line tokens)) ≡ whole → out ≡ whole
made-done args d place tokens out whole none keeps =
    nothing_left out (tokens_of_parts args (parts_from d place (map without_line tokens))) whole
    (ap (λ ts. tokens_of_parts args (parts_from d place (map without_line ts))) none) keeps
