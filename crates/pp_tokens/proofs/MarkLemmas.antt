-- Punctuators and other bytes that stand in front of a text.
use Rattle.std.specs.Prelude.{◌≡◌, ◌≢◌, ℕ, ◌≤◌, ◌<◌, Bool, true, false, cond, not, ◌&&◌, ◌||◌, List, [], ◌∷◌, ◌++◌, length, get_or, Some, None, option_map, suc, refl, ◌==◌, eqb}
use Rattle.std.proofs.Common.{sym, ◌∙◌, ap, inr, subst, arith, append_assoc}
use Rattle.std.proofs.lemmas.Bool.{ne_eqb, and_left, and_parts, and_right, or_parts}
use Rattle.pp_tokens.specs.declared.token.Kind.TheVariants.{Punct, Other}
use Rattle.pp_tokens.specs.Grammar.{is_white, is_newline, is_digit, is_identifier_start, is_identifier, is_number, number_goes_on, is_string, is_character, is_punctuator, kind_of}
use Rattle.pp_tokens.specs.Lines.{Part, token, part_of, is_comment, is_open_comment, NoLonger, first_part}
use Rattle.pp_tokens.specs.parts.Text.{is_quote, begins_number, begins_comment, is_single, is_pair, is_triple, is_quadruple, is_second, mark_length}
use Rattle.pp_tokens.proofs.Reading.{stands_first}
use Rattle.pp_tokens.proofs.Punctuators.{no_zero, single_is, pair_is, triple_is, quadruple_is, no_quintuple, no_single, no_second}

-- what the lexer knows of the first byte, and of the one behind it, where it looks for a punctuator
pub record Mark (b c : ℕ) : Type 0 where
  pub white : is_white b ≡ false
  pub newline : is_newline b ≡ false
  pub word : is_identifier_start b ≡ false
  pub quote : is_quote b ≡ false
  pub number : begins_number b c ≡ false
  pub comment : begins_comment b c ≡ false

-- a byte that passes a test isn't one that fails it
other_byte : (f : ℕ → Bool) (k b : ℕ) → f k ≡ true → f b ≡ false → eqb k b ≡ false
other_byte f k b passes fails = ne_eqb k b (λ e. (let h : true ≡ false = sym passes ∙ ap f e ∙ fails in cc))

mark_no_string : (b : ℕ) (u : List ℕ) → is_identifier_start b ≡ false → is_quote b ≡ false → is_string (b ∷ u) ≡ false
unfolding is_string
mark_no_string b u word quote =
    let q : (b == 34) ≡ false = (or_parts (b == 34) (b == 39) quote).0 in
    let p : eqb 117 b ≡ false = other_byte is_identifier_start 117 b refl word in
    let r : eqb 85 b ≡ false = other_byte is_identifier_start 85 b refl word in
    let l : eqb 76 b ≡ false = other_byte is_identifier_start 76 b refl word in
    rw (q, p, r, l) refl

mark_no_character : (b : ℕ) (u : List ℕ) → is_identifier_start b ≡ false → is_quote b ≡ false → is_character (b ∷ u) ≡ false
unfolding is_character
mark_no_character b u word quote =
    let q : (b == 39) ≡ false = (or_parts (b == 34) (b == 39) quote).1 in
    let p : eqb 117 b ≡ false = other_byte is_identifier_start 117 b refl word in
    let r : eqb 85 b ≡ false = other_byte is_identifier_start 85 b refl word in
    let l : eqb 76 b ≡ false = other_byte is_identifier_start 76 b refl word in
    rw (q, p, r, l) refl

mark_no_number : (b c : ℕ) (u : List ℕ) → begins_number b c ≡ false → is_number (b ∷ c ∷ u) ≡ false
unfolding is_number
mark_no_number b c u number = and_left _ _ number

one_no_number : (b : ℕ) → is_digit b ≡ false → is_number (b ∷ []) ≡ false
unfolding is_number number_goes_on
one_no_number b digit = and_left (is_digit b || ((b == 46) && false)) true (rw digit (and_right (b == 46) false refl))

mark_no_comment : (b c : ℕ) (u : List ℕ) → begins_comment b c ≡ false → is_comment (b ∷ c ∷ u) ≡ false
unfolding is_comment
mark_no_comment b c u comment = by_test (b == 47) refl
  where
    by_test : (t : Bool) → (b == 47) ≡ t → is_comment (b ∷ c ∷ u) ≡ false
    by_test false e = rw e refl
    by_test true e =
        let both = or_parts (c == 42) (c == 47) (ap (λ x. x && ((c == 42) || (c == 47))) (sym e) ∙ comment) in
        rw (e, both.0, both.1) refl

mark_no_open : (b c : ℕ) (u : List ℕ) → begins_comment b c ≡ false → is_open_comment (b ∷ c ∷ u) ≡ false
unfolding is_open_comment
mark_no_open b c u comment = by_test (b == 47) refl
  where
    by_test : (t : Bool) → (b == 47) ≡ t → is_open_comment (b ∷ c ∷ u) ≡ false
    by_test false e = rw e refl
    by_test true e =
        let both = or_parts (c == 42) (c == 47) (ap (λ x. x && ((c == 42) || (c == 47))) (sym e) ∙ comment) in
        rw (e, both.0) refl

-- a text of two bytes and more that begins so is a punctuator or nothing
mark_part : (b c : ℕ) (u : List ℕ) → Mark b c → part_of (b ∷ c ∷ u) ≡ cond (is_punctuator (b ∷ c ∷ u)) (Some (token Punct)) None
unfolding part_of kind_of is_identifier
mark_part b c u m =
    rw (mark_no_comment b c u m.comment, mark_no_open b c u m.comment, m.word, mark_no_number b c u m.number, mark_no_character b (c ∷ u) m.word m.quote, mark_no_string b (c ∷ u) m.word m.quote)
    (by_test (is_punctuator (b ∷ c ∷ u)))
  where
    by_test : (t : Bool) → option_map token (cond t (Some Punct) None) ≡ cond t (Some (token Punct)) None
    by_test true = refl
    by_test false = refl

-- the one byte is a punctuator, or of no other kind
one_mark : (b c : ℕ) → Mark b c → part_of (b ∷ []) ≡ Some (token (cond (is_punctuator (b ∷ [])) Punct Other))
unfolding part_of kind_of is_identifier is_comment is_open_comment
one_mark b c m =
    let digit : is_digit b ≡ false = (or_parts (is_digit b) _ m.number).0 in
    rw (m.newline, m.white, m.word, one_no_number b digit, mark_no_character b [] m.word m.quote, mark_no_string b [] m.word m.quote)
    (by_test (is_punctuator (b ∷ [])))
  where
    by_test : (t : Bool) → option_map token (cond t (Some Punct) (Some Other)) ≡ Some (token (cond t Punct Other))
    by_test true = refl
    by_test false = refl

-- no front of more than n bytes, and at most four, is a punctuator
record NoneLonger (n b : ℕ) (bs : List ℕ) : Type 0 where
  pub pair : n < 2 → is_pair b (get_or bs 0 0) ≡ false
  pub triple : n < 3 → is_triple b (get_or bs 0 0) (get_or bs 1 0) ≡ false
  pub quadruple : n < 4 → is_quadruple b (get_or bs 0 0) (get_or bs 1 0) (get_or bs 2 0) ≡ false

no_part : (n b : ℕ) (front rest : List ℕ) → Mark b (get_or (front ++ rest) 0 0) → NoneLonger n b (front ++ rest) → n ≤ length front → front ≢ [] → part_of (b ∷ front) ≡ None
no_part n b [] rest m none long some = absurd (some refl)
no_part n b (c ∷ []) rest m none long some =
    mark_part b c [] m ∙ ap (λ t. cond t (Some (token Punct)) None) (sym (pair_is b c) ∙ none.pair (omega arith))
no_part n b (c ∷ d ∷ []) rest m none long some =
    mark_part b c (d ∷ []) m ∙ ap (λ t. cond t (Some (token Punct)) None) (sym (triple_is b c d) ∙ none.triple (omega arith))
no_part n b (c ∷ d ∷ e ∷ []) rest m none long some =
    mark_part b c (d ∷ e ∷ []) m ∙ ap (λ t. cond t (Some (token Punct)) None) (sym (quadruple_is b c d e) ∙ none.quadruple (omega arith))
no_part n b (c ∷ d ∷ e ∷ f ∷ u) rest m none long some =
    mark_part b c (d ∷ e ∷ f ∷ u) m ∙ ap (λ t. cond t (Some (token Punct)) None) (no_quintuple b c d e f u)

-- a part of which no longer front is a punctuator stands first
mark_first : (b : ℕ) (front rest : List ℕ) (p : Part) → Mark b (get_or (front ++ rest) 0 0) → NoneLonger (suc (length front)) b (front ++ rest) → part_of (b ∷ front) ≡ Some p
    → first_part false (b ∷ (front ++ rest)) ≡ (p, suc (length front))
mark_first b front rest p m none is =
    stands_first false p (b ∷ front) rest (λ e. cc) (inr (λ e. absurd (cc), is, longest))
  where
    longer : (front more : List ℕ) → more ≢ [] → (suc (length front) ≤ length (front ++ more)) × (front ++ more ≢ [])
    longer front [] some = absurd (some refl)
    longer [] (x ∷ more) some = (omega arith, λ e. cc)
    longer (y ∷ front) (x ∷ more) some = (omega (arith, (longer front (x ∷ more) some).0), λ e. cc)

    longest : NoLonger part_of (b ∷ front) rest
    longest more rest' some e =
        let same : front ++ rest ≡ (front ++ more) ++ rest' = ap (λ (l : List ℕ). front ++ l) e ∙ sym (append_assoc front more rest') in
        let is_long = longer front more some in
        no_part (suc (length front)) b (front ++ more) rest' (subst (λ (l : List ℕ). Mark b (get_or l 0 0)) same m)
        (subst (λ (l : List ℕ). NoneLonger (suc (length front)) b l) same none) is_long.0 is_long.1

-- no punctuator holds a zero byte
zero_second : (b : ℕ) (r : List ℕ) → is_punctuator (b ∷ 0 ∷ r) ≡ true → ⊥
zero_second b r h = let later : false ≡ true = (and_parts (not (b == 0)) false (no_zero (b ∷ 0 ∷ r) h)).1 in cc

zero_third : (b c : ℕ) (r : List ℕ) → is_punctuator (b ∷ c ∷ 0 ∷ r) ≡ true → ⊥
zero_third b c r h =
    let behind = (and_parts (not (b == 0)) (not (c == 0) && false) (no_zero (b ∷ c ∷ 0 ∷ r) h)).1 in
    let later : false ≡ true = (and_parts (not (c == 0)) false behind).1 in
    cc

zero_fourth : (b c d : ℕ) → is_punctuator (b ∷ c ∷ d ∷ 0 ∷ []) ≡ true → ⊥
zero_fourth b c d h =
    let behind = (and_parts (not (b == 0)) (not (c == 0) && (not (d == 0) && false)) (no_zero (b ∷ c ∷ d ∷ 0 ∷ []) h)).1 in
    let behind' = (and_parts (not (c == 0)) (not (d == 0) && false) behind).1 in
    let later : false ≡ true = (and_parts (not (d == 0)) false behind').1 in
    cc

-- what more than one byte that is a punctuator is
punctuator_part : (b c : ℕ) (u : List ℕ) → Mark b c → is_punctuator (b ∷ c ∷ u) ≡ true → part_of (b ∷ c ∷ u) ≡ Some (token Punct)
punctuator_part b c u m h = mark_part b c u m ∙ ap (λ t. cond t (Some (token Punct)) None) h

-- FROM THE LONGEST TO THE SHORTEST

quadruple_first : (text : List ℕ) → 0 < length text → Mark (get_or text 0 0) (get_or text 1 0)
    → is_quadruple (get_or text 0 0) (get_or text 1 0) (get_or text 2 0) (get_or text 3 0) ≡ true → first_part false text ≡ (token Punct, 4)
quadruple_first [] some m h = absurd (omega arith)
quadruple_first (b ∷ bs) some m h = go bs m (sym (quadruple_is b (get_or bs 0 0) (get_or bs 1 0) (get_or bs 2 0)) ∙ h)
  where
    go : (bs : List ℕ) → Mark b (get_or bs 0 0) → is_punctuator (b ∷ get_or bs 0 0 ∷ get_or bs 1 0 ∷ get_or bs 2 0 ∷ []) ≡ true
        → first_part false (b ∷ bs) ≡ (token Punct, 4)
    go [] m h = absurd (zero_second b (0 ∷ 0 ∷ []) h)
    go (c ∷ []) m h = absurd (zero_third b c (0 ∷ []) h)
    go (c ∷ d ∷ []) m h = absurd (zero_fourth b c d h)
    go (c ∷ d ∷ e ∷ rest) m h =
        mark_first b (c ∷ d ∷ e ∷ []) rest (token Punct) m
        (record { pair = λ n. absurd (omega arith); triple = λ n. absurd (omega arith); quadruple = λ n. absurd (omega arith) })
        (punctuator_part b c (d ∷ e ∷ []) m h)

triple_first : (text : List ℕ) → 0 < length text → Mark (get_or text 0 0) (get_or text 1 0)
    → is_quadruple (get_or text 0 0) (get_or text 1 0) (get_or text 2 0) (get_or text 3 0) ≡ false
    → is_triple (get_or text 0 0) (get_or text 1 0) (get_or text 2 0) ≡ true → first_part false text ≡ (token Punct, 3)
triple_first [] some m four h = absurd (omega arith)
triple_first (b ∷ bs) some m four h = go bs m four (sym (triple_is b (get_or bs 0 0) (get_or bs 1 0)) ∙ h)
  where
    go : (bs : List ℕ) → Mark b (get_or bs 0 0) → is_quadruple b (get_or bs 0 0) (get_or bs 1 0) (get_or bs 2 0) ≡ false
        → is_punctuator (b ∷ get_or bs 0 0 ∷ get_or bs 1 0 ∷ []) ≡ true → first_part false (b ∷ bs) ≡ (token Punct, 3)
    go [] m four h = absurd (zero_second b (0 ∷ []) h)
    go (c ∷ []) m four h = absurd (zero_third b c [] h)
    go (c ∷ d ∷ rest) m four h =
        mark_first b (c ∷ d ∷ []) rest (token Punct) m
        (record { pair = λ n. absurd (omega arith); triple = λ n. absurd (omega arith); quadruple = λ n. four })
        (punctuator_part b c (d ∷ []) m h)

pair_first : (text : List ℕ) → 0 < length text → Mark (get_or text 0 0) (get_or text 1 0)
    → is_quadruple (get_or text 0 0) (get_or text 1 0) (get_or text 2 0) (get_or text 3 0) ≡ false
    → is_triple (get_or text 0 0) (get_or text 1 0) (get_or text 2 0) ≡ false
    → is_pair (get_or text 0 0) (get_or text 1 0) ≡ true → first_part false text ≡ (token Punct, 2)
pair_first [] some m four three h = absurd (omega arith)
pair_first (b ∷ bs) some m four three h = go bs m four three (sym (pair_is b (get_or bs 0 0)) ∙ h)
  where
    go : (bs : List ℕ) → Mark b (get_or bs 0 0) → is_quadruple b (get_or bs 0 0) (get_or bs 1 0) (get_or bs 2 0) ≡ false
        → is_triple b (get_or bs 0 0) (get_or bs 1 0) ≡ false
        → is_punctuator (b ∷ get_or bs 0 0 ∷ []) ≡ true → first_part false (b ∷ bs) ≡ (token Punct, 2)
    go [] m four three h = absurd (zero_second b [] h)
    go (c ∷ rest) m four three h =
        mark_first b (c ∷ []) rest (token Punct) m
        (record { pair = λ n. absurd (omega arith); triple = λ n. three; quadruple = λ n. four })
        (punctuator_part b c [] m h)

-- one byte, of which no longer front is a punctuator
pub alone_first : (text : List ℕ) → 0 < length text → Mark (get_or text 0 0) (get_or text 1 0)
    → is_quadruple (get_or text 0 0) (get_or text 1 0) (get_or text 2 0) (get_or text 3 0) ≡ false
    → is_triple (get_or text 0 0) (get_or text 1 0) (get_or text 2 0) ≡ false
    → is_pair (get_or text 0 0) (get_or text 1 0) ≡ false
    → first_part false text ≡ (token (cond (is_single (get_or text 0 0)) Punct Other), 1)
alone_first [] some m four three two = absurd (omega arith)
alone_first (b ∷ bs) some m four three two =
    mark_first b [] bs (token (cond (is_single b) Punct Other)) m (record { pair = λ n. two; triple = λ n. three; quadruple = λ n. four })
    (one_mark b (get_or bs 0 0) m ∙ ap (λ t. Some (token (cond t Punct Other))) (sym (single_is b)))

-- THE SHORT WAYS

-- where the second byte is no punctuator's, none is longer than a byte
pub short_mark : (a b c d : ℕ) → is_second b ≡ false → mark_length a b c d ≡ 1
short_mark a b c d h =
    let four : is_quadruple a b c d ≡ false = quadruple_is a b c d ∙ no_second a b (c ∷ d ∷ []) h in
    let three : is_triple a b c ≡ false = triple_is a b c ∙ no_second a b (c ∷ []) h in
    let two : is_pair a b ≡ false = pair_is a b ∙ no_second a b [] h in
    rw (four, three, two) refl

-- a byte that is no punctuator begins none
pub other_first : (text : List ℕ) → 0 < length text → Mark (get_or text 0 0) (get_or text 1 0) → is_single (get_or text 0 0) ≡ false
    → first_part false text ≡ (token Other, 1)
other_first text some m h =
    let a = get_or text 0 0 in
    let b = get_or text 1 0 in
    let c = get_or text 2 0 in
    let d = get_or text 3 0 in
    alone_first text some m (quadruple_is a b c d ∙ no_single a (b ∷ c ∷ d ∷ []) h) (triple_is a b c ∙ no_single a (b ∷ c ∷ []) h) (pair_is a b ∙ no_single a (b ∷ []) h)
    ∙ ap (λ t. (token (cond t Punct Other), 1)) h

pub punctuator_first : (text : List ℕ) → 0 < length text → Mark (get_or text 0 0) (get_or text 1 0) → is_single (get_or text 0 0) ≡ true
    → first_part false text ≡ (token Punct, mark_length (get_or text 0 0) (get_or text 1 0) (get_or text 2 0) (get_or text 3 0))
punctuator_first text some m h = by_four (is_quadruple a b c d) refl
  where
    a : ℕ
    a = get_or text 0 0

    b : ℕ
    b = get_or text 1 0

    c : ℕ
    c = get_or text 2 0

    d : ℕ
    d = get_or text 3 0

    by_two : (t : Bool) → is_quadruple a b c d ≡ false → is_triple a b c ≡ false → is_pair a b ≡ t → first_part false text ≡ (token Punct, mark_length a b c d)
    by_two true four three e = pair_first text some m four three e ∙ (rw (four, three, e) refl)
    by_two false four three e = alone_first text some m four three e ∙ (rw (four, three, e, h) refl)

    by_three : (t : Bool) → is_quadruple a b c d ≡ false → is_triple a b c ≡ t → first_part false text ≡ (token Punct, mark_length a b c d)
    by_three true four e = triple_first text some m four e ∙ (rw (four, e) refl)
    by_three false four e = by_two (is_pair a b) four e refl

    by_four : (t : Bool) → is_quadruple a b c d ≡ t → first_part false text ≡ (token Punct, mark_length a b c d)
    by_four true e = quadruple_first text some m e ∙ (rw e refl)
    by_four false e = by_three (is_triple a b c) e refl
