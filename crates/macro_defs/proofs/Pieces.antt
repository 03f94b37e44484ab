-- Tokens that are parted at marks.
use Rattle.std.proofs.Common.{◌≡◌, ℕ, Bool, true, false, List, [], ◌∷◌, ◌++◌, Option, Some, None, refl, sym, ap, ◌∙◌, if◌then◌else◌, append_assoc}
use Rattle.std.specs.List.{list_any}
use Rattle.std.proofs.lemmas.Bool.{or_parts}
use Rattle.pp_tokens.specs.declared.Token.{Token}
use Rattle.pp_tokens.specs.Marks.{is_comma, is_close}
use Rattle.macro_defs.specs.Defining.{Parameters, IsParted, up_to_parenthesis, within_more, cut_at_commas, onto_first_piece, listed, before_parameters, last_parameter, behind_names}

-- The first `)`.

close_here : (before : List Token) (t : Token) (behind : List Token) → is_close t ≡ true → list_any is_close before ≡ false → up_to_parenthesis (before ++ t ∷ behind) ≡ Some (record { within = before; rest = behind })
unfolding up_to_parenthesis
close_here [] t behind mark first = ap (λ (b : Bool). if b then Some (record { within = []; rest = behind }) else within_more t (up_to_parenthesis behind)) mark
close_here (u ∷ before) t behind mark first =
    ap (λ (b : Bool). if b then Some (record { within = []; rest = before ++ t ∷ behind }) else within_more u (up_to_parenthesis (before ++ t ∷ behind))) (or_parts (is_close u) (list_any is_close before) first).0
    ∙ ap (within_more u) (close_here before t behind mark (or_parts (is_close u) (list_any is_close before) first).1)

pub closed : (tokens before behind : List Token) → IsParted is_close tokens before behind → up_to_parenthesis tokens ≡ Some (record { within = before; rest = behind })
closed tokens before behind parted = ap up_to_parenthesis parted.whole ∙ close_here before parted.mark behind parted.passes parted.first

pub unclosed : (tokens : List Token) → list_any is_close tokens ≡ false → up_to_parenthesis tokens ≡ None
unfolding up_to_parenthesis
unclosed [] none = refl
unclosed (t ∷ tokens) none =
    ap (λ (b : Bool). if b then Some (record { within = []; rest = tokens }) else within_more t (up_to_parenthesis tokens)) (or_parts (is_close t) (list_any is_close tokens) none).0
    ∙ ap (within_more t) (unclosed tokens (or_parts (is_close t) (list_any is_close tokens) none).1)

-- The pieces between commas.

comma_here : (before : List Token) (t : Token) (behind : List Token) → is_comma t ≡ true → list_any is_comma before ≡ false → cut_at_commas (before ++ t ∷ behind) ≡ before ∷ cut_at_commas behind
unfolding cut_at_commas
comma_here [] t behind mark first = ap (λ (b : Bool). if b then [] ∷ cut_at_commas behind else onto_first_piece t (cut_at_commas behind)) mark
comma_here (u ∷ before) t behind mark first =
    ap (λ (b : Bool). if b then [] ∷ cut_at_commas (before ++ t ∷ behind) else onto_first_piece u (cut_at_commas (before ++ t ∷ behind))) (or_parts (is_comma u) (list_any is_comma before) first).0
    ∙ ap (onto_first_piece u) (comma_here before t behind mark (or_parts (is_comma u) (list_any is_comma before) first).1)

cut_once : (tokens before behind : List Token) → IsParted is_comma tokens before behind → cut_at_commas tokens ≡ before ∷ cut_at_commas behind
cut_once tokens before behind parted = ap cut_at_commas parted.whole ∙ comma_here before parted.mark behind parted.passes parted.first

uncut : (tokens : List Token) → list_any is_comma tokens ≡ false → cut_at_commas tokens ≡ tokens ∷ []
unfolding cut_at_commas
uncut [] none = refl
uncut (t ∷ tokens) none =
    ap (λ (b : Bool). if b then [] ∷ cut_at_commas tokens else onto_first_piece t (cut_at_commas tokens)) (or_parts (is_comma t) (list_any is_comma tokens) none).0
    ∙ ap (onto_first_piece t) (uncut tokens (or_parts (is_comma t) (list_any is_comma tokens) none).1)

-- there is a piece at least
onto_some : (t : Token) (pieces : List (List Token)) → onto_first_piece t pieces ≡ [] → ⊥
onto_some t [] is = cc
onto_some t (p ∷ pieces) is = cc

some_piece : (tokens : List Token) → cut_at_commas tokens ≡ [] → ⊥
unfolding cut_at_commas
some_piece [] is = cc
some_piece (t ∷ tokens) is = by (is_comma t) is
  where
    by : (b : Bool) → (if b then [] ∷ cut_at_commas tokens else onto_first_piece t (cut_at_commas tokens)) ≡ [] → ⊥
    by true is' = cc
    by false is' = onto_some t (cut_at_commas tokens) is'

listed_more : (piece : List Token) (pieces : List (List Token)) → (pieces ≡ [] → ⊥) → listed (piece ∷ pieces) ≡ before_parameters piece (listed pieces)
unfolding listed
listed_more piece [] some = absurd (some refl)
listed_more piece (next ∷ pieces) some = refl

listed_one : (piece : List Token) → listed (piece ∷ []) ≡ last_parameter piece
unfolding listed
listed_one piece = refl

before_none : (piece : List Token) → before_parameters piece None ≡ None
before_none [] = refl
before_none (t ∷ []) = refl
before_none (t ∷ u ∷ ts) = refl

-- the parameters of tokens that are cut at a comma
cut_listed : (tokens before behind : List Token) → IsParted is_comma tokens before behind → listed (cut_at_commas tokens) ≡ before_parameters before (listed (cut_at_commas behind))
cut_listed tokens before behind parted = ap listed (cut_once tokens before behind parted) ∙ listed_more before (cut_at_commas behind) (some_piece behind)

-- a piece that is no name
pub no_name : (names : List (List ℕ)) (tokens before behind : List Token) → IsParted is_comma tokens before behind
    → ((p : Parameters) → before_parameters before (Some p) ≡ None) → behind_names names (listed (cut_at_commas tokens)) ≡ None
no_name names tokens before behind parted none = ap (behind_names names) (cut_listed tokens before behind parted ∙ by (listed (cut_at_commas behind)))
  where
    by : (p : Option Parameters) → before_parameters before p ≡ None
    by None = before_none before
    by (Some p) = none p

-- a piece that is one
pub one_name : (names : List (List ℕ)) (tokens before behind : List Token) (name : List ℕ) → IsParted is_comma tokens before behind
    → ((p : Parameters) → before_parameters before (Some p) ≡ Some (record p { names = name ∷ p.names }))
    → behind_names names (listed (cut_at_commas tokens)) ≡ behind_names (names ++ name ∷ []) (listed (cut_at_commas behind))
one_name names tokens before behind name parted one = ap (behind_names names) (cut_listed tokens before behind parted) ∙ by (listed (cut_at_commas behind))
  where
    by : (p : Option Parameters) → behind_names names (before_parameters before p) ≡ behind_names (names ++ name ∷ []) p
    by None = ap (behind_names names) (before_none before)
    by (Some p) = ap (behind_names names) (one p) ∙ ap (λ ns. Some (record p { names = ns })) (sym (append_assoc names (name ∷ []) p.names))

-- the last piece
pub no_last : (names : List (List ℕ)) (tokens : List Token) → list_any is_comma tokens ≡ false → last_parameter tokens ≡ None → behind_names names (listed (cut_at_commas tokens)) ≡ None
no_last names tokens none is = ap (behind_names names) (ap listed (uncut tokens none) ∙ listed_one tokens ∙ is)

pub one_last : (names : List (List ℕ)) (tokens : List Token) (name : List ℕ) (variadic : Bool) → list_any is_comma tokens ≡ false
    → last_parameter tokens ≡ Some (record { names = name ∷ []; variadic = variadic }) → behind_names names (listed (cut_at_commas tokens)) ≡ Some (record { names = names ++ name ∷ []; variadic = variadic })
one_last names tokens name variadic none is = ap (behind_names names) (ap listed (uncut tokens none) ∙ listed_one tokens ∙ is)
