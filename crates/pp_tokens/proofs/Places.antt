-- The lines that a list of places and the lines' ends show.
use Rattle.std.specs.Prelude.{◌≡◌, ℕ, zero, suc, ◌+◌, ◌-◌, ◌≤◌, ◌<◌, List, [], ◌∷◌, ◌++◌, map, length, take, drop, get_or, Some, None, refl, slice_get, option_map}
use Rattle.std.proofs.Common.{sym, ◌∙◌, ap, arith, length-drop, subst, append_assoc}
use Rattle.std.proofs.Math.Seq.{take-length}
use Rattle.std.proofs.lemmas.List.{map-append, append-nil, length-append, drop-append-le, take-append-le, length-map, length-take-le, get_or_default}
use Rattle.std.proofs.lemmas.Option.{slice_get-map, slice_get_past}
use Rattle.pp_tokens.specs.declared.place.Place.{Place}
use Rattle.pp_tokens.specs.declared.token.Token.{Token}
use Rattle.pp_tokens.specs.parts.Packed.{place_told}
use Rattle.pp_tokens.specs.parts.Seen.{token_of_place, seen_lines, last_end, Ascends, EachWithin}

pub ascends_last : (from : ℕ) (ends : List ℕ) (last : ℕ) → Ascends from ends last → (from ≤ last_end from ends) × (last_end from ends ≤ last)
unfolding last_end Ascends
ascends_last from [] last h = (omega arith, h)
ascends_last from (end ∷ ends) last (low, h) = let later = ascends_last end ends last h in (omega (arith, low, later.0), later.1)

pub ascends_more : (from : ℕ) (ends : List ℕ) (last more : ℕ) → last ≤ more → Ascends from ends last → Ascends from ends more
unfolding Ascends
ascends_more from [] last more le h = omega arith
ascends_more from (end ∷ ends) last more le (low, h) = (low, ascends_more end ends last more le h)

-- the ends go up to their own last
pub ascends_own : (from : ℕ) (ends : List ℕ) (last : ℕ) → Ascends from ends last → Ascends from ends (last_end from ends)
unfolding Ascends last_end
ascends_own from [] last h = omega arith
ascends_own from (end ∷ ends) last (low, h) = (low, ascends_own end ends last h)

pub ascends_line : (from : ℕ) (ends : List ℕ) (last : ℕ) → Ascends from ends last → Ascends from (ends ++ (last ∷ [])) last
unfolding Ascends
ascends_line from [] last h = (h, omega arith)
ascends_line from (end ∷ ends) last (low, h) = (low, ascends_line end ends last h)

pub last_of_more : (from : ℕ) (ends : List ℕ) (last : ℕ) → last_end from (ends ++ (last ∷ [])) ≡ last
unfolding last_end
last_of_more from [] last = refl
last_of_more from (end ∷ ends) last = last_of_more end ends last

-- the last end, where a list has one
pub last_end_is : (from : ℕ) (ends : List ℕ) (end : ℕ) → slice_get ends (length ends - 1) ≡ Some end → last_end from ends ≡ end
unfolding last_end
last_end_is from [] end is = absurd (cc)
last_end_is from (one ∷ []) end is = let same : one ≡ end = cc in same
last_end_is from (one ∷ two ∷ ends) end is =
    let place : length (one ∷ two ∷ ends) - 1 ≡ suc (length (two ∷ ends) - 1) = omega arith in
    last_end_is one (two ∷ ends) end (sym (ap (slice_get (one ∷ two ∷ ends)) place) ∙ is)

pub no_last : (ends : List ℕ) → slice_get ends (length ends - 1) ≡ None → ends ≡ []
no_last [] is = refl
no_last (one ∷ []) is = absurd (cc)
no_last (one ∷ two ∷ ends) is =
    let place : length (one ∷ two ∷ ends) - 1 ≡ suc (length (two ∷ ends) - 1) = omega arith in
    let none : (two ∷ ends) ≡ [] = no_last (two ∷ ends) (sym (ap (slice_get (one ∷ two ∷ ends)) place) ∙ is) in
    absurd (cc)

pub within_more : (text : List ℕ) (places : List Place) (p : Place) → EachWithin text places → (place_told p).start + (place_told p).length ≤ length text → EachWithin text (places ++ (p ∷ []))
unfolding EachWithin
within_more text [] p h le = (le, tt)
within_more text (q ∷ places) p h le = (h.0, within_more text places p h.1 le)

pub within_front : (text : List ℕ) (places others : List Place) → EachWithin text (places ++ others) → EachWithin text places
unfolding EachWithin
within_front text [] others h = tt
within_front text (q ∷ places) others h = (h.0, within_front text places others h.1)

pub none_left : {A : Type 0} → (k : ℕ) (xs : List A) → drop k (take k xs) ≡ []
none_left zero xs = refl
none_left (suc k) [] = refl
none_left (suc k) (x ∷ xs) = none_left k xs

pub all_dropped : {A : Type 0} → (xs : List A) → drop (length xs) xs ≡ []
all_dropped [] = refl
all_dropped (x ∷ xs) = all_dropped xs

-- a place more changes no line that has ended
pub same_lines : (text : List ℕ) (places : List Place) (p : Place) (from : ℕ) (ends : List ℕ) → Ascends from ends (length places) → seen_lines text (places ++ (p ∷ [])) from ends ≡ seen_lines text places from ends
unfolding seen_lines Ascends
same_lines text places p from [] h = refl
same_lines text places p from (end ∷ ends) (low, h) =
    let last = ascends_last end ends (length places) h in
    let high : end ≤ length places = omega (arith, last.0, last.1) in
    let behind : drop from (places ++ (p ∷ [])) ≡ drop from places ++ (p ∷ []) = drop-append-le from places (p ∷ []) (omega (arith, low, high)) in
    let front : take (end - from) (drop from places ++ (p ∷ [])) ≡ take (end - from) (drop from places) =
    take-append-le (end - from) (drop from places) (p ∷ []) (omega (arith, low, high, length-drop from places)) in
    rw (behind, front, same_lines text places p end ends h) refl

-- nor do more
pub same_lines_all : (text : List ℕ) (places others : List Place) (from : ℕ) (ends : List ℕ) → Ascends from ends (length places) → seen_lines text (places ++ others) from ends ≡ seen_lines text places from ends
same_lines_all text places [] from ends h = ap (λ ps. seen_lines text ps from ends) (append-nil places)
same_lines_all text places (p ∷ others) from ends h =
    let longer : length places ≤ length (places ++ (p ∷ [])) = omega (arith, length-append places (p ∷ [])) in
    ap (λ ps. seen_lines text ps from ends) (sym (append_assoc places (p ∷ []) others))
    ∙ same_lines_all text (places ++ (p ∷ [])) others from ends (ascends_more from ends (length places) (length (places ++ (p ∷ []))) longer h)
    ∙ same_lines text places p from ends h

-- the line that ends with the last place
pub line_more : (text : List ℕ) (places : List Place) (from : ℕ) (ends : List ℕ) → Ascends from ends (length places)
    → seen_lines text places from (ends ++ (length places ∷ [])) ≡ seen_lines text places from ends ++ (map (token_of_place text) (drop (last_end from ends) places) ∷ [])
unfolding seen_lines Ascends last_end
line_more text places from [] h =
    let size : length places - from ≡ length (drop from places) = sym (length-drop from places) in
    let all : take (length places - from) (drop from places) ≡ drop from places = ap (λ n. take n (drop from places)) size ∙ take-length (drop from places) in
    rw all refl
line_more text places from (end ∷ ends) (low, h) =
    ap (λ (ls : List (List Token)). map (token_of_place text) (take (end - from) (drop from places)) ∷ ls) (line_more text places end ends h)

-- the tokens of the line that hasn't ended, with a place more
pub token_more : (text : List ℕ) (places : List Place) (p : Place) (from : ℕ) → from ≤ length places
    → map (token_of_place text) (drop from (places ++ (p ∷ []))) ≡ map (token_of_place text) (drop from places) ++ (token_of_place text p ∷ [])
token_more text places p from le =
    ap (map (token_of_place text)) (drop-append-le from places (p ∷ []) le) ∙ map-append (token_of_place text) (drop from places) (p ∷ [])

-- THE TOKEN AT A PLACE OF A LINE

pub lines_length : (text : List ℕ) (places : List Place) (from : ℕ) (ends : List ℕ) → length (seen_lines text places from ends) ≡ length ends
unfolding seen_lines
lines_length text places from [] = refl
lines_length text places from (end ∷ ends) = ap suc (lines_length text places end ends)

-- where a line begins
abbrev pub start_of : ℕ → List ℕ → ℕ → ℕ
start_of from ends line = get_or (from ∷ ends) line 0

-- the places of a line
abbrev pub places_of : List Place → ℕ → List ℕ → ℕ → List Place
places_of places from ends line = take (get_or ends line 0 - start_of from ends line) (drop (start_of from ends line) places)

pub line_at : (text : List ℕ) (places : List Place) (from : ℕ) (ends : List ℕ) (line : ℕ) → line < length ends
    → slice_get (seen_lines text places from ends) line ≡ Some (map (token_of_place text) (places_of places from ends line))
unfolding seen_lines
line_at text places from [] line h = absurd (omega arith)
line_at text places from (end ∷ ends) zero h = refl
line_at text places from (end ∷ ends) (suc line) h = line_at text places end ends line (omega arith)

pub line_past : (text : List ℕ) (places : List Place) (from : ℕ) (ends : List ℕ) (line : ℕ) → length ends ≤ line → slice_get (seen_lines text places from ends) line ≡ None
unfolding seen_lines
line_past text places from [] line h = refl
line_past text places from (end ∷ ends) zero h = absurd (omega arith)
line_past text places from (end ∷ ends) (suc line) h = line_past text places end ends line (omega arith)

pub ascends_at : (from : ℕ) (ends : List ℕ) (last line : ℕ) → Ascends from ends last → line < length ends
    → (start_of from ends line ≤ get_or ends line 0) × (get_or ends line 0 ≤ last)
unfolding Ascends
ascends_at from [] last line h below = absurd (omega arith)
ascends_at from (end ∷ ends) last zero (low, h) below = let later = ascends_last end ends last h in (low, omega (arith, later.0, later.1))
ascends_at from (end ∷ ends) last (suc line) (low, h) below = ascends_at end ends last line h (omega arith)

pub within_at : (text : List ℕ) (places : List Place) (i : ℕ) (p : Place) → EachWithin text places → slice_get places i ≡ Some p → (place_told p).start + (place_told p).length ≤ length text
unfolding EachWithin
within_at text [] i p h is = absurd (cc)
within_at text (q ∷ places) zero p h is = let same : q ≡ p = cc in subst (λ (x : Place). (place_told x).start + (place_told x).length ≤ length text) same h.0
within_at text (q ∷ places) (suc i) p h is = within_at text places i p h.1 is

-- an element of a stretch of a list
pub stretch_at : {A : Type 0} → (xs : List A) (start n i : ℕ) → i < n → slice_get (take n (drop start xs)) i ≡ slice_get xs (start + i)
stretch_at {A = A} xs start n i h = taken n i (drop start xs) h ∙ dropped start i xs
  where
    taken : (n i : ℕ) (ys : List A) → i < n → slice_get (take n ys) i ≡ slice_get ys i
    taken zero i ys h' = absurd (omega arith)
    taken (suc n) i [] h' = refl
    taken (suc n) zero (y ∷ ys) h' = refl
    taken (suc n) (suc i) (y ∷ ys) h' = taken n i ys (omega arith)

    dropped : (s i : ℕ) (ys : List A) → slice_get (drop s ys) i ≡ slice_get ys (s + i)
    dropped zero i ys = (let e : zero + i ≡ i = omega arith in rw e refl)
    dropped (suc s) i [] = refl
    dropped (suc s) i (y ∷ ys) = (let e : suc s + i ≡ suc (s + i) = omega arith in rw e (dropped s i ys))

-- the first and the last number of a line's places
pub range_is : (places : List Place) (ends : List ℕ) (line start end : ℕ) → Ascends 0 ends (length places) → line < length ends
    → end ≡ get_or ends line end → start ≡ get_or (0 ∷ ends) line 0
    → (start ≤ end) × (end ≤ length places) × (end ≡ get_or ends line 0)
range_is places ends line start end h below e s =
    let at = ascends_at 0 ends (length places) line h below in
    let same : end ≡ get_or ends line 0 = e ∙ get_or_default ends line end 0 below in
    (omega (arith, at.0, same, s), omega (arith, at.1, same), same)

pub tokens_at : (text : List ℕ) (places : List Place) (ends : List ℕ) (line start end : ℕ) → line < length ends → end ≡ get_or ends line 0 → start ≡ get_or (0 ∷ ends) line 0
    → slice_get (seen_lines text places 0 ends) line ≡ Some (map (token_of_place text) (take (end - start) (drop start places)))
tokens_at text places ends line start end below e s = line_at text places 0 ends line below ∙ (λ i. Some (map (token_of_place text) (take (sym e i - sym s i) (drop (sym s i) places))))

pub stretch_length : (text : List ℕ) (places : List Place) (start end : ℕ) → start ≤ end → end ≤ length places → length (map (token_of_place text) (take (end - start) (drop start places))) ≡ end - start
stretch_length text places start end low high =
    length-map (take (end - start) (drop start places)) (token_of_place text) ∙ length-take-le (end - start) (drop start places) (omega (arith, low, high, length-drop start places))

-- the token at a place within a line
pub token_within : (text : List ℕ) (places : List Place) (start end place : ℕ) (p : Place) → place < end - start → slice_get places (start + place) ≡ Some p
    → slice_get (map (token_of_place text) (take (end - start) (drop start places))) place ≡ Some (token_of_place text p)
token_within text places start end place p below is =
    slice_get-map (token_of_place text) (take (end - start) (drop start places)) place
    ∙ ap (option_map (token_of_place text)) (stretch_at places start (end - start) place below ∙ is)

pub token_past : (text : List ℕ) (places : List Place) (start end place : ℕ) → start ≤ end → end ≤ length places → end - start ≤ place
    → slice_get (map (token_of_place text) (take (end - start) (drop start places))) place ≡ None
token_past text places start end place low high past =
    slice_get_past (map (token_of_place text) (take (end - start) (drop start places))) place (omega (arith, stretch_length text places start end low high, past))
