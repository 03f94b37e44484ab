-- Definitions, compared part by part.
use Rattle.std.proofs.Common.{◌≡◌, Bool, true, false, List, [], ◌∷◌, map, refl, sym, ap, ◌∙◌}
use Rattle.std.specs.Prelude.{◌&&◌}
use Rattle.std.specs.Bool.{Decides}
use Rattle.std.specs.Cmp.Lexicographic.{pointwise}
use Rattle.pp_tokens.specs.declared.Token.{Token}
use Rattle.macro_defs.specs.declared.definition.Shape.{Shape}
use Rattle.macro_defs.specs.MacroDefinition.{MacroDefinition, without_line}
use Rattle.macro_defs.specs.Sameness.{is_same_token, is_same_shape, is_same_definition, is_same_definition-Decides}

-- tokens of the same kind, spelling and space
abbrev pub is_like : Token → Token → Bool
is_like a b = is_same_token (without_line a) (without_line b)

like_tokens : (one other : List Token) → pointwise is_like one other ≡ pointwise is_same_token (map without_line one) (map without_line other)
like_tokens [] [] = refl
like_tokens [] (u ∷ other) = refl
like_tokens (t ∷ one) [] = refl
like_tokens (t ∷ one) (u ∷ other) = ap (λ (b : Bool). is_like t u && b) (like_tokens one other)

-- the test of two definitions, by their forms and tokens
is_tested : (s s' : Shape) (ts ts' : List Token) (a b : MacroDefinition) → s ≡ a.shape → s' ≡ b.shape → map without_line ts ≡ a.body → map without_line ts' ≡ b.body
    → (is_same_shape s s' && pointwise is_like ts ts') ≡ is_same_definition a b
is_tested s s' ts ts' a b one other these those =
    ap (λ (p : Bool). is_same_shape s s' && p) (like_tokens ts ts')
    ∙ ap (λ (form : Shape). is_same_shape form s' && pointwise is_same_token (map without_line ts) (map without_line ts')) one
    ∙ ap (λ (form : Shape). is_same_shape a.shape form && pointwise is_same_token (map without_line ts) (map without_line ts')) other
    ∙ ap (λ (body : List Token). is_same_shape a.shape b.shape && pointwise is_same_token body (map without_line ts')) these
    ∙ ap (λ (body : List Token). is_same_shape a.shape b.shape && pointwise is_same_token a.body body) those

-- forms that are the same: the tokens tell
pub by_tokens : (s s' : Shape) (ts ts' : List Token) (a b : MacroDefinition) (result : Bool) → s ≡ a.shape → s' ≡ b.shape → map without_line ts ≡ a.body → map without_line ts' ≡ b.body
    → true ≡ is_same_shape s s' → result ≡ pointwise is_like ts ts' → result ≡ is_same_definition a b
by_tokens s s' ts ts' a b result one other these those same is =
    is ∙ ap (λ (p : Bool). p && pointwise is_like ts ts') same ∙ is_tested s s' ts ts' a b one other these those

-- forms that aren't
pub by_shape : (s s' : Shape) (a b : MacroDefinition) → s ≡ a.shape → s' ≡ b.shape → false ≡ is_same_shape s s' → false ≡ is_same_definition a b
by_shape s s' a b one other apart =
    ap (λ (p : Bool). p && pointwise is_same_token a.body b.body)
    (apart ∙ ap (λ (form : Shape). is_same_shape form s') one ∙ ap (is_same_shape a.shape) other)

-- what the test computes is equality
pub equal_so : (a b : MacroDefinition) (result : Bool) → result ≡ is_same_definition a b → Decides result (a ≡ b)
equal_so a b result is = (λ t. (is_same_definition-Decides a b).0 (sym is ∙ t), λ e. is ∙ (is_same_definition-Decides a b).1 e)
