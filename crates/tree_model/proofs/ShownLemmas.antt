-- What is shown of a list, one member more, and of plain bytes.
use Rattle.std.proofs.Common.{◌≡◌, ◌<◌, ◌+◌, ℕ, List, [], ◌∷◌, ◌++◌, length, get_or, take, sym, ◌∙◌, ap, refl, Bool, true, false, not, ◌&&◌, ◌||◌, ◌==◌, if◌then◌else◌, codes}
use Rattle.std.specs.List.{flat_map, list_all, list_any}
use Rattle.std.proofs.lemmas.Bool.{and_parts}
use Rattle.base_types.specs.Ascii as ascii
use Rattle.tree_model.specs.Paths.{Text}
use Rattle.tree_model.specs.Shown.{shown_byte, is_plain}
use Rattle.std.proofs.lemmas.List.{flat_map_more, take_more}

pub one-more : {X A : Type 0} (f : X → List A) (front : List A) (xs : List X) (i : ℕ) (x d : X) → i < length xs → x ≡ get_or xs i d → (front ++ flat_map f (take i xs)) ++ f x ≡ front ++ flat_map f (take (i + 1) xs)
one-more f front xs i x d below is =
    flat_map_more f front (take i xs) x
    ∙ ap (λ ys. front ++ flat_map f ys) (ap (λ y. take i xs ++ y ∷ []) is ∙ sym (take_more xs i d below))

plain-byte : (escaped quoted ended : Bool) (b : ℕ) (whole : Text) → (not escaped && (not quoted && not ended)) ≡ true
    → (if escaped then codes "\\\\" else (if quoted then codes "\\\"" else (if ended then codes "\\n" else b ∷ []))) ++ whole ≡ b ∷ whole
plain-byte false false false b whole plain = refl
plain-byte true quoted ended b whole plain = absurd (cc)
plain-byte false true ended b whole plain = absurd (cc)
plain-byte false false true b whole plain = absurd (cc)

-- plain bytes are shown as they are
pub plain-shown : (text : Text) → list_all is_plain text ≡ true → flat_map shown_byte text ≡ text
plain-shown [] plain = refl
plain-shown (b ∷ text) plain =
    let both = and_parts (is_plain b) (list_all is_plain text) plain in
    ap (λ (l : Text). shown_byte b ++ l) (plain-shown text both.1)
    ∙ plain-byte (b == ascii.backslash) (b == ascii.quote) (b == ascii.newline) b text both.0

-- three tests of one element and of those behind it, and whether all pass none of them
apart : (a b c A B C : Bool) → not (((a || A) || (b || B)) || (c || C)) ≡ ((not a && (not b && not c)) && not ((A || B) || C))
apart true b c A B C = refl
apart false b c true B C = by_rest b c B C
  where
    by_rest : (b c B C : Bool) → false ≡ ((true && (not b && not c)) && false)
    by_rest true c B C = refl
    by_rest false true B C = refl
    by_rest false false B C = refl
apart false true c false B C = refl
apart false false true false true C = refl
apart false false true false false C = refl
apart false false false false B C = refl

-- a name is plain where none of the three bytes stands in it
pub plain_without : (bs : List ℕ) → not ((list_any (λ b. (b == 92)) bs || list_any (λ b. (b == 34)) bs) || list_any (λ b. (b == 10)) bs) ≡ list_all is_plain bs
plain_without [] = refl
plain_without (b ∷ bs) = apart (b == 92) (b == 34) ((b == 10)) _ _ _ ∙ ap (λ (rest : Bool). is_plain b && rest) (plain_without bs)
