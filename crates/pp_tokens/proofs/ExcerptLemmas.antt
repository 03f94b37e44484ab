-- The places of an excerpt, and the bytes that spell what it took.
use Rattle.std.specs.Prelude.{◌≡◌, ℕ, zero, suc, ◌+◌, ◌-◌, ◌≤◌, ◌<◌, min, List, [], ◌∷◌, ◌++◌, map, length, take, drop, refl}
use Rattle.std.proofs.Common.{sym, ◌∙◌, ap, arith, subst, drop_of_length-le, length-take}
use Rattle.std.proofs.Math.Seq.{take-add}
use Rattle.std.proofs.lemmas.List.{drop-drop, drop-take}
use Rattle.pp_tokens.specs.declared.place.Place.{Place}
use Rattle.pp_tokens.specs.declared.token.Token.{Token}
use Rattle.pp_tokens.specs.parts.Packed.{place_told}
use Rattle.pp_tokens.specs.parts.Seen.{token_of_place, EachWithin}

-- what holds of the first of some places, and of those behind it
pub first_within : (text : List ℕ) (places rest : List Place) (p : Place) → EachWithin text places → places ≡ p ∷ rest
    → ((place_told p).start + (place_told p).length ≤ length text) × EachWithin text rest
unfolding EachWithin
first_within text places rest p within is = subst (EachWithin text) is within

pub front_within : (text : List ℕ) (places : List Place) (n : ℕ) → EachWithin text places → EachWithin text (take n places)
unfolding EachWithin
front_within text places zero within = tt
front_within text [] (suc n) within = tt
front_within text (p ∷ ps) (suc n) (here, within) = (here, front_within text ps n within)

pub behind_within : (text : List ℕ) (places : List Place) (n : ℕ) → EachWithin text places → EachWithin text (drop n places)
unfolding EachWithin
behind_within text places zero within = within
behind_within text [] (suc n) within = tt
behind_within text (p ∷ ps) (suc n) (here, within) = behind_within text ps n within

-- a token stands behind what was taken, and these bytes between them
pub joined : (text between : List ℕ) (start end next size : ℕ) → start ≤ end → end + length between ≡ next → take (length between) (drop end text) ≡ between
    → take ((next + size) - start) (drop start text) ≡ take (end - start) (drop start text) ++ (between ++ take size (drop next text))
joined text between start end next size below is there =
    let taken = take (end - start) (drop start text) in
    let wide : (next + size) - start ≡ (end - start) + (length between + size) = omega (arith, below, is) in
    let apart : end ≡ start + (end - start) = omega (arith, below) in
    let behind : drop (end - start) (drop start text) ≡ drop end text = drop-drop (end - start) start text ∙ ap (λ n. drop n text) (sym apart) in
    ap (λ n. take n (drop start text)) wide
    ∙ take-add (end - start) (length between + size) (drop start text)
    ∙ ap (λ (l : List ℕ). taken ++ take (length between + size) l) behind
    ∙ ap (λ (l : List ℕ). taken ++ l) (take-add (length between) size (drop end text))
    ∙ ap (λ (l : List ℕ). taken ++ (l ++ take size (drop (length between) (drop end text)))) there
    ∙ ap (λ (l : List ℕ). taken ++ (between ++ take size l)) (drop-drop (length between) end text ∙ ap (λ n. drop n text) is)

-- the tokens of a stretch of places
pub stretch_of : (text : List ℕ) (places : List Place) (size from : ℕ) → map (token_of_place text) (take size (drop from places)) ≡ take size (drop from (map (token_of_place text) places))
stretch_of text places zero from = refl
stretch_of text [] (suc size) zero = refl
stretch_of text [] (suc size) (suc from) = refl
stretch_of text (p ∷ ps) (suc size) zero = ap (λ (ts : List Token). token_of_place text p ∷ ts) (stretch_of text ps size zero)
stretch_of text (p ∷ ps) (suc size) (suc from) = stretch_of text ps (suc size) from

-- the tokens of a stretch behind the first so many
pub behind_front : (ts : List Token) (at end count : ℕ) → count < end - at → take (end - (at + count)) (drop (at + count) ts) ≡ drop count (take (end - at) (drop at ts))
behind_front ts at end count below =
    let size : count + (end - (at + count)) ≡ end - at = omega (arith, below) in
    ap (take (end - (at + count))) (sym (drop-drop count at ts))
    ∙ sym (drop-take count (end - (at + count)) (drop at ts))
    ∙ ap (λ n. drop count (take n (drop at ts))) size

-- none is behind all of them
pub none_behind : (ts : List Token) (at end count : ℕ) → end - at ≤ count → take (end - end) (drop end ts) ≡ drop count (take (end - at) (drop at ts))
none_behind ts at end count past =
    let none : end - end ≡ zero = omega arith in
    let size : length (take (end - at) (drop at ts)) ≡ min (end - at) (length (drop at ts)) = length-take (end - at) (drop at ts) in
    ap (λ n. take n (drop end ts)) none ∙ sym (drop_of_length-le (take (end - at) (drop at ts)) (omega (arith, size, past)))
