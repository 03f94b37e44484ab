-- The tokens of all lines, one after another, are those of all places up to the last line's end.
use Rattle.std.specs.Prelude.{◌≡◌, ℕ, zero, suc, ◌+◌, ◌-◌, ◌≤◌, ◌<◌, List, [], ◌∷◌, ◌++◌, map, length, take, drop, get_or, Some, None, refl, slice_get}
use Rattle.std.specs.List.{flat_map}
use Rattle.std.proofs.Common.{sym, ◌∙◌, ap, arith}
use Rattle.std.proofs.lemmas.List.{map-append, drop-drop, length-map, length-take-le}
use Rattle.pp_tokens.specs.declared.place.Place.{Place}
use Rattle.pp_tokens.specs.declared.token.Token.{Token}
use Rattle.pp_tokens.specs.parts.Seen.{token_of_place, seen_lines, last_end, Ascends}
use Rattle.pp_tokens.proofs.Places.{ascends_last, start_of, token_within, token_past}

-- the front of a list in two parts
two_parts : {A : Type 0} → (a b : ℕ) (xs : List A) → take a xs ++ take b (drop a xs) ≡ take (a + b) xs
two_parts zero b xs = (let e : zero + b ≡ b = omega arith in rw e refl)
two_parts (suc a) b [] = (let e : suc a + b ≡ suc (a + b) = omega arith in rw e (none b))
  where
    none : {B : Type 0} → (n : ℕ) → take {A = B} n [] ≡ []
    none zero = refl
    none (suc n) = refl
two_parts (suc a) b (x ∷ xs) = (let e : suc a + b ≡ suc (a + b) = omega arith in rw e (ap (λ ys. x ∷ ys) (two_parts a b xs)))

flat_is : (text : List ℕ) (places : List Place) (from : ℕ) (ends : List ℕ) (last : ℕ) → Ascends from ends last
    → flat_map (λ l. l) (seen_lines text places from ends) ≡ map (token_of_place text) (take (last_end from ends - from) (drop from places))
unfolding seen_lines Ascends last_end
flat_is text places from [] last h = (let e : from - from ≡ zero = omega arith in rw e refl)
flat_is text places from (end ∷ ends) last (low, h) =
    let later = ascends_last end ends last h in
    let rest = last_end end ends in
    let behind : drop end places ≡ drop (end - from) (drop from places) =
    (let e : end ≡ from + (end - from) = omega (arith, low) in ap (λ n. drop n places) e ∙ sym (drop-drop (end - from) from places)) in
    let size : (end - from) + (rest - end) ≡ rest - from = omega (arith, low, later.0) in
    ap (λ (ts : List Token). map (token_of_place text) (take (end - from) (drop from places)) ++ ts)
    (flat_is text places end ends last h ∙ ap (λ (ps : List Place). map (token_of_place text) (take (rest - end) ps)) behind)
    ∙ sym (map-append (token_of_place text) (take (end - from) (drop from places)) (take (rest - end) (drop (end - from) (drop from places))))
    ∙ ap (map (token_of_place text)) (two_parts (end - from) (rest - end) (drop from places))
    ∙ ap (λ n. map (token_of_place text) (take n (drop from places))) size

-- the lines before one
take_lines : (text : List ℕ) (places : List Place) (from : ℕ) (ends : List ℕ) (line : ℕ) → take line (seen_lines text places from ends) ≡ seen_lines text places from (take line ends)
unfolding seen_lines
take_lines text places from [] zero = refl
take_lines text places from [] (suc line) = refl
take_lines text places from (end ∷ ends) zero = refl
take_lines text places from (end ∷ ends) (suc line) =
    ap (λ (ls : List (List Token)). map (token_of_place text) (take (end - from) (drop from places)) ∷ ls) (take_lines text places end ends line)

ascends_front : (from : ℕ) (ends : List ℕ) (last line : ℕ) → Ascends from ends last → Ascends from (take line ends) last
unfolding Ascends
ascends_front from [] last zero h = h
ascends_front from [] last (suc line) h = h
ascends_front from (end ∷ ends) last zero (low, h) = (let later = ascends_last end ends last h in omega (arith, low, later.0, later.1))
ascends_front from (end ∷ ends) last (suc line) (low, h) = (low, ascends_front end ends last line h)

last_is_start : (from : ℕ) (ends : List ℕ) (line : ℕ) → line ≤ length ends → last_end from (take line ends) ≡ start_of from ends line
unfolding last_end
last_is_start from [] zero h = refl
last_is_start from [] (suc line) h = absurd (omega arith)
last_is_start from (end ∷ ends) zero h = refl
last_is_start from (end ∷ ends) (suc line) h = last_is_start end ends line (omega arith)

-- the number of the first token of a line
pub before_is : (text : List ℕ) (places : List Place) (ends : List ℕ) (line : ℕ) → Ascends 0 ends (length places) → line ≤ length ends
    → length (flat_map (λ l. l) (take line (seen_lines text places 0 ends))) ≡ get_or (0 ∷ ends) line 0
before_is text places ends line h below =
    let front = ascends_front 0 ends (length places) line h in
    let last = ascends_last 0 (take line ends) (length places) front in
    let e : last_end 0 (take line ends) - 0 ≡ last_end 0 (take line ends) = omega arith in
    ap (λ (ls : List (List Token)). length (flat_map (λ l. l) ls)) (take_lines text places 0 ends line)
    ∙ ap length (flat_is text places 0 (take line ends) (length places) front)
    ∙ length-map (take (last_end 0 (take line ends) - 0) places) (token_of_place text)
    ∙ length-take-le (last_end 0 (take line ends) - 0) places (omega (arith, last.1))
    ∙ e ∙ last_is_start 0 ends line below

pub all_are : (text : List ℕ) (places : List Place) (ends : List ℕ) (end : ℕ) → Ascends 0 ends (length places) → end ≡ get_or (0 ∷ ends) (length ends) 0
    → (flat_map (λ l. l) (seen_lines text places 0 ends) ≡ map (token_of_place text) (take (end - 0) (drop 0 places))) × (end ≤ length places)
all_are text places ends end h is =
    let last = ascends_last 0 ends (length places) h in
    let same : last_end 0 ends ≡ end = ap (last_end 0) (sym (take_all ends)) ∙ last_is_start 0 ends (length ends) (omega arith) ∙ sym is in
    (flat_is text places 0 ends (length places) h ∙ ap (λ n. map (token_of_place text) (take (n - 0) (drop 0 places))) same, omega (arith, last.1, same))
  where
    take_all : (xs : List ℕ) → take (length xs) xs ≡ xs
    take_all [] = refl
    take_all (x ∷ xs) = ap (λ ys. x ∷ ys) (take_all xs)

-- the token with a number, and none behind the last
pub numbered : (text : List ℕ) (places : List Place) (ends : List ℕ) (end number : ℕ) (p : Place) → Ascends 0 ends (length places) → end ≡ get_or (0 ∷ ends) (length ends) 0
    → number < end → slice_get places number ≡ Some p → slice_get (flat_map (λ l. l) (seen_lines text places 0 ends)) number ≡ Some (token_of_place text p)
numbered text places ends end number p h is below found =
    ap (λ (ts : List Token). slice_get ts number) (all_are text places ends end h is).0
    ∙ token_within text places 0 end number p (omega (arith, below)) (let e : 0 + number ≡ number = omega arith in rw e found)

pub none_numbered : (text : List ℕ) (places : List Place) (ends : List ℕ) (end number : ℕ) → Ascends 0 ends (length places) → end ≡ get_or (0 ∷ ends) (length ends) 0
    → end ≤ number → slice_get (flat_map (λ l. l) (seen_lines text places 0 ends)) number ≡ None
none_numbered text places ends end number h is past =
    let all = all_are text places ends end h is in
    ap (λ (ts : List Token). slice_get ts number) all.0
    ∙ token_past text places 0 end number (omega arith) all.1 (omega (arith, past))
