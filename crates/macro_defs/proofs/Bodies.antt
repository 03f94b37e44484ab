-- Replacement lists, one token after the other.
use Rattle.std.proofs.Common.{◌≡◌, ℕ, suc, zero, ◌+◌, ◌-◌, ◌<◌, ◌≤◌, Bool, true, false, List, [], ◌∷◌, length, get_or, take, drop, refl, sym, ap, ◌∙◌, arith}
use Rattle.std.specs.Prelude.{not, ◌&&◌, ◌||◌}
use Rattle.std.proofs.lemmas.List.{take_rest, drop_all}
use Rattle.pp_tokens.specs.declared.Token.{Token}
use Rattle.pp_tokens.specs.Marks.{is_hash, is_pasting}
use Rattle.macro_defs.specs.Defining.{ends_with_pasting, hashes_parameters, begins_with_parameter, is_wrong_hash}
use Rattle.macro_defs.proofs.Fronts.{front_at}

right_hash : (a b : Bool) → (not a || b) ≡ not (a && not b)
right_hash true true = refl
right_hash true false = refl
right_hash false b = refl

-- one token more
pub hashes_turn : (names : List (List ℕ)) (body : List Token) (i : ℕ) (t : Token) (wrong : Bool) → i < length body → t ≡ get_or body i t
    → wrong ≡ is_wrong_hash names t (take (length body - (i + 1)) (drop (i + 1) body)) → hashes_parameters names (drop i body) ≡ (not wrong && hashes_parameters names (drop (i + 1) body))
unfolding hashes_parameters
hashes_turn names body i t wrong within at is =
    ap (hashes_parameters names) (front_at body i t within at)
    ∙ ap (λ (b : Bool). b && hashes_parameters names (drop (i + 1) body)) (right_hash (is_hash t) (begins_with_parameter names (drop (i + 1) body)))
    ∙ ap (λ (rest : List Token). not (is_wrong_hash names t rest) && hashes_parameters names (drop (i + 1) body)) (sym (take_rest body (i + 1)))
    ∙ ap (λ (b : Bool). not b && hashes_parameters names (drop (i + 1) body)) (sym is)

-- no token more
pub hashes_end : (names : List (List ℕ)) (body : List Token) (i : ℕ) → length body ≤ i → hashes_parameters names (drop i body) ≡ true
unfolding hashes_parameters
hashes_end names body i past = ap (hashes_parameters names) (drop_all i body past)

-- the last token tells
last_tells : (ts : List Token) (n : ℕ) (t : Token) → suc n ≡ length ts → t ≡ get_or ts n t → is_pasting t ≡ ends_with_pasting ts
unfolding ends_with_pasting
last_tells [] n t len at = absurd (omega arith)
last_tells (x ∷ []) zero t len at = ap is_pasting at
last_tells (x ∷ []) (suc n) t len at = absurd (omega arith)
last_tells (x ∷ u ∷ ts) zero t len at = absurd (omega arith)
last_tells (x ∷ u ∷ ts) (suc n) t len at = last_tells (u ∷ ts) n t (omega arith) at

pub ends_so : (ts : List Token) (t : Token) → 0 < length ts → t ≡ get_or ts (length ts - 1) t → is_pasting t ≡ ends_with_pasting ts
ends_so ts t some at = let len : suc (length ts - 1) ≡ length ts = omega arith in last_tells ts (length ts - 1) t len at

pub ends_none : (ts : List Token) → ts ≡ [] → ends_with_pasting ts ≡ false
unfolding ends_with_pasting
ends_none ts is = ap ends_with_pasting is
