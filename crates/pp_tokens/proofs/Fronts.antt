-- What stands at the front of what is left of a body: a newline, a character or a splice.
use Rattle.std.specs.Prelude.{◌≡◌, ℕ, ◌+◌, ◌<◌, Bool, true, false, cond, ◌&&◌, List, [], ◌∷◌, drop, refl, ◌==◌, nat_eq, Option, Some, None, ◌⊎◌}
use Rattle.std.specs.List.{starts_with}
use Rattle.std.proofs.Common.{sym, ◌∙◌, ap, inl, inr, subst, arith}
use Rattle.std.proofs.lemmas.Bool.{eqb-true, ne_eqb, and_parts, and_right}
use Rattle.pp_tokens.specs.Phases.{Cell, cell, trigraph, with_newlines, numbered, without_trigraphs}
use Rattle.pp_tokens.specs.parts.Pieces.{characters, newline_length, front_trigraph, or_byte, front_character}

-- TRIGRAPHS

-- no trigraph begins with this
pub no_first : (c : Cell) (cs : List Cell) → (c.byte == 63) ≡ false → without_trigraphs (c ∷ cs) ≡ c ∷ without_trigraphs cs
unfolding without_trigraphs
no_first c [] h = refl
no_first c (d ∷ []) h = refl
no_first c (d ∷ e ∷ cs) h = rw (h, without_trigraphs) refl

-- the second byte is none of a trigraph
no_second : (c d : Cell) (cs : List Cell) → (d.byte == 63) ≡ false → without_trigraphs (c ∷ d ∷ cs) ≡ c ∷ without_trigraphs (d ∷ cs)
unfolding without_trigraphs
no_second c d [] h = refl
no_second c d (e ∷ cs) h =
    let n : ((c.byte == 63) && (d.byte == 63)) ≡ false = and_right (c.byte == 63) (d.byte == 63) h in
    rw (n, without_trigraphs) refl

-- nor is the third
no_third : (line : ℕ) (e : Cell) (cs : List Cell) → trigraph e.byte ≡ None → without_trigraphs (cell 63 line ∷ cell 63 line ∷ e ∷ cs) ≡ cell 63 line ∷ without_trigraphs (cell 63 line ∷ e ∷ cs)
unfolding without_trigraphs
no_third line e cs h = rw (h, without_trigraphs) refl

a_trigraph : (line x : ℕ) (e : Cell) (cs : List Cell) → trigraph e.byte ≡ Some x → without_trigraphs (cell 63 line ∷ cell 63 line ∷ e ∷ cs) ≡ cell x line ∷ without_trigraphs cs
unfolding without_trigraphs
a_trigraph line x e cs h = rw (h, without_trigraphs) refl

-- the last byte of a trigraph differs from each byte that ends none
third_other : (d k x : ℕ) → trigraph k ≡ None → trigraph d ≡ Some x → (d == k) ≡ false
third_other d k x none some =
    ne_eqb d k (λ (same : d ≡ k). let h : ◌≡◌ {A = Option ℕ} None (Some x) = sym none ∙ ap trigraph (sym same) ∙ some in cc)

-- what a trigraph stands for is no newline
trigraph_visible : (d x : ℕ) → trigraph d ≡ Some x → (x == 10) ≡ false
trigraph_visible d x =
    pick (d == 61) 35 _ refl (pick (d == 40) 91 _ refl (pick (d == 47) 92 _ refl
    (pick (d == 41) 93 _ refl (pick (d == 39) 94 _ refl (pick (d == 60) 123 _ refl
    (pick (d == 33) 124 _ refl (pick (d == 62) 125 _ refl (pick (d == 45) 126 None refl (λ y h. absurd (cc)))))))))) x
  where
    pick : (t : Bool) (a : ℕ) (others : Option ℕ) → (a == 10) ≡ false → ((y : ℕ) → others ≡ Some y → (y == 10) ≡ false)
        → (y : ℕ) → cond t (Some a) others ≡ Some y → (y == 10) ≡ false
    pick true a others seen more y h = (let same : a ≡ y = cc in ap (λ k. k == 10) (sym same) ∙ seen)
    pick false a others seen more y h = more y h

-- NEWLINES

feed_is : (b : ℕ) (bs : List ℕ) → starts_with nat_eq (b ∷ bs) (10 ∷ []) ≡ true → b ≡ 10
feed_is b bs h = sym (eqb-true 10 b (and_parts (nat_eq 10 b) _ h).0)

-- the first byte of a text after its carriage returns that belong to newlines are dropped
abbrev FirstByte : ℕ → List ℕ → Type 0
FirstByte d ds = (rest : List ℕ) × ((with_newlines (d ∷ ds) ≡ d ∷ rest) ⊎ (with_newlines (d ∷ ds) ≡ 10 ∷ rest))

first_byte : (d : ℕ) (ds : List ℕ) → FirstByte d ds
unfolding with_newlines
first_byte d [] = ([], inl (let n : ((d == 13) && false) ≡ false = and_right (d == 13) false refl in rw n refl))
first_byte d (e ∷ ds) = by_test ((d == 13) && starts_with nat_eq (e ∷ ds) (10 ∷ [])) refl
  where
    by_test : (t : Bool) → ((d == 13) && starts_with nat_eq (e ∷ ds) (10 ∷ [])) ≡ t → FirstByte d (e ∷ ds)
    by_test false h = (with_newlines (e ∷ ds), inl (rw h refl))
    by_test true h =
        (let ten : e ≡ 10 = feed_is e ds (and_parts (d == 13) _ h).1 in
        (with_newlines ds, inr (rw h (ap (λ k. with_newlines (k ∷ ds)) ten))))

-- what is no newline and begins no trigraph is a character
pub byte_front : (trigraphs : Bool) (line b : ℕ) (bs : List ℕ) → ((b == 13) && starts_with nat_eq bs (10 ∷ [])) ≡ false → (trigraphs && (b == 63)) ≡ false
    → characters trigraphs line (b ∷ bs) ≡ cell b line ∷ characters trigraphs (cond (b == 10) (line + 1) line) bs
unfolding characters numbered with_newlines
byte_front false line b bs h q = rw h refl
byte_front true line b bs h q = rw h (no_first (cell b line) (numbered (cond (b == 10) (line + 1) line) (with_newlines bs)) q)

-- a carriage return that belongs to a newline
return_front : (trigraphs : Bool) (line : ℕ) (bs : List ℕ) → characters trigraphs line (13 ∷ 10 ∷ bs) ≡ characters trigraphs line (10 ∷ bs)
unfolding characters with_newlines
return_front trigraphs line bs = refl

-- the newline at the front, and what is behind it
record NewlineFront (rest : List ℕ) : Type 0 where
  more : List ℕ
  is : ((rest ≡ 10 ∷ more) × (newline_length rest ≡ 1)) ⊎ ((rest ≡ 13 ∷ 10 ∷ more) × (newline_length rest ≡ 2))

newline_is : (rest : List ℕ) → 0 < newline_length rest → NewlineFront rest
unfolding newline_length
newline_is [] some = absurd (omega arith)
newline_is (b ∷ bs) some = feed (b == 10) refl bs some
  where
    ends : (t : Bool) → (b == 10) ≡ false → (c : ℕ) (cs : List ℕ) → ((b == 13) && starts_with nat_eq (c ∷ cs) (10 ∷ [])) ≡ t → 0 < cond t 2 0 → NewlineFront (b ∷ c ∷ cs)
    ends false other c cs h some' = absurd (omega arith)
    ends true other c cs h some' =
        (let both = and_parts (b == 13) (starts_with nat_eq (c ∷ cs) (10 ∷ [])) h in
        record {
          more = cs;
          is = inr ((λ i. eqb-true b 13 both.0 i ∷ feed_is c cs both.1 i ∷ cs), rw (other, h) refl);
        })

    returned : (b == 10) ≡ false → (cs : List ℕ) → 0 < cond ((b == 13) && starts_with nat_eq cs (10 ∷ [])) 2 0 → NewlineFront (b ∷ cs)
    returned other [] some' = absurd (let n : ((b == 13) && false) ≡ false = and_right (b == 13) false refl in let k = rw n at some' in omega (arith, k))
    returned other (c ∷ cs) some' = ends ((b == 13) && starts_with nat_eq (c ∷ cs) (10 ∷ [])) other c cs refl some'

    feed : (t : Bool) → (b == 10) ≡ t → (cs : List ℕ) → 0 < cond t 1 (cond ((b == 13) && starts_with nat_eq cs (10 ∷ [])) 2 0) → NewlineFront (b ∷ cs)
    feed true h cs some' = record { more = cs; is = inl ((λ i. eqb-true b 10 h i ∷ cs), rw h refl) }
    feed false h cs some' = returned h cs some'

pub newline_front : (trigraphs : Bool) (line : ℕ) (rest : List ℕ) → 0 < newline_length rest
    → characters trigraphs line rest ≡ cell 10 line ∷ characters trigraphs (line + 1) (drop (newline_length rest) rest)
newline_front trigraphs line rest some =
    let front = newline_is rest some in
    let fed : characters trigraphs line (10 ∷ front.more) ≡ cell 10 line ∷ characters trigraphs (line + 1) front.more =
    byte_front trigraphs line 10 front.more refl (and_right trigraphs false refl) in
    elim front.is [
      | inl (is, one) ↦ ap (characters trigraphs line) is ∙ fed ∙ (λ i. cell 10 line ∷ characters trigraphs (line + 1) (drop (sym one i) (sym is i)))
      | inr (is, two) ↦
          ap (characters trigraphs line) is ∙ return_front trigraphs line front.more ∙ fed
          ∙ (λ i. cell 10 line ∷ characters trigraphs (line + 1) (drop (sym two i) (sym is i)))
    ]

-- no newline stands at the front
record NoNewline (b : ℕ) (bs : List ℕ) : Type 0 where
  feed : (b == 10) ≡ false
  returned : ((b == 13) && starts_with nat_eq bs (10 ∷ [])) ≡ false

no_newline_is : (b : ℕ) (bs : List ℕ) → newline_length (b ∷ bs) ≡ 0 → NoNewline b bs
unfolding newline_length
no_newline_is b bs none = by_tests (b == 10) ((b == 13) && starts_with nat_eq bs (10 ∷ [])) refl refl none
  where
    by_tests : (s t : Bool) → (b == 10) ≡ s → ((b == 13) && starts_with nat_eq bs (10 ∷ [])) ≡ t → cond {A = ℕ} s 1 (cond t 2 0) ≡ 0 → NoNewline b bs
    by_tests false false h k none' = record { feed = h; returned = k }
    by_tests true t h k none' = absurd (omega arith)
    by_tests false true h k none' = absurd (omega arith)

-- CHARACTERS

-- a trigraph at the front
record TrigraphFront (rest : List ℕ) (x : ℕ) : Type 0 where
  third : ℕ
  more : List ℕ
  is : rest ≡ 63 ∷ 63 ∷ third ∷ more
  stands : trigraph third ≡ Some x

trigraph_is : (rest : List ℕ) (x : ℕ) → front_trigraph rest ≡ Some x → TrigraphFront rest x
unfolding front_trigraph
trigraph_is [] x h = absurd (cc)
trigraph_is (a ∷ []) x h = absurd (cc)
trigraph_is (a ∷ b ∷ []) x h = absurd (cc)
trigraph_is (a ∷ b ∷ c ∷ cs) x h = questions ((a == 63) && (b == 63)) refl h
  where
    questions : (t : Bool) → ((a == 63) && (b == 63)) ≡ t → cond t (trigraph c) None ≡ Some x → TrigraphFront (a ∷ b ∷ c ∷ cs) x
    questions false e h' = absurd (cc)
    questions true e h' =
        (let both = and_parts (a == 63) (b == 63) e in
        record {
          third = c;
          more = cs;
          is = λ i. eqb-true a 63 both.0 i ∷ eqb-true b 63 both.1 i ∷ c ∷ cs;
          stands = h';
        })

trigraph_front : (line x third : ℕ) (more : List ℕ) → trigraph third ≡ Some x → characters true line (63 ∷ 63 ∷ third ∷ more) ≡ cell x line ∷ characters true line more
unfolding characters numbered with_newlines
trigraph_front line x third more h =
    let returned : ((third == 13) && starts_with nat_eq more (10 ∷ [])) ≡ false = ap (λ t. t && starts_with nat_eq more (10 ∷ [])) (third_other third 13 x refl h) in
    let feed : (third == 10) ≡ false = third_other third 10 x refl h in
    rw (returned, feed) (a_trigraph line x (cell third line) (numbered line (with_newlines more)) h)

-- a question mark that begins no trigraph stays
abbrev QuestionStays : ℕ → List ℕ → Type 0
QuestionStays line bytes = without_trigraphs (cell 63 line ∷ numbered line bytes) ≡ cell 63 line ∷ without_trigraphs (numbered line bytes)

question_stays : (line : ℕ) (bs : List ℕ) → front_trigraph (63 ∷ bs) ≡ None → QuestionStays line (with_newlines bs)
unfolding numbered with_newlines without_trigraphs front_trigraph
question_stays line [] none = refl
question_stays line (d ∷ ds) none = by_second (d == 63) refl none
  where
    third : (es : List ℕ) → front_trigraph (63 ∷ 63 ∷ es) ≡ None → QuestionStays line (63 ∷ with_newlines es)
    third [] none' = refl
    third (e ∷ es) none' =
        (let first = first_byte e es in
        elim first.1 [
          | inl is ↦ subst (λ (bytes : List ℕ). QuestionStays line (63 ∷ bytes)) (sym is) (no_third line (cell e line) (numbered (cond (e == 10) (line + 1) line) first.0) none')
          | inr is ↦ subst (λ (bytes : List ℕ). QuestionStays line (63 ∷ bytes)) (sym is) (no_third line (cell 10 line) (numbered (line + 1) first.0) refl)
        ])

    by_second : (t : Bool) → (d == 63) ≡ t → front_trigraph (63 ∷ d ∷ ds) ≡ None → QuestionStays line (with_newlines (d ∷ ds))
    by_second true h none' =
        (let same : d ≡ 63 = eqb-true d 63 h in
        subst (λ k. QuestionStays line (with_newlines (k ∷ ds))) (sym same) (third ds (ap (λ k. front_trigraph (63 ∷ k ∷ ds)) (sym same) ∙ none')))
    by_second false h none' =
        (let first = first_byte d ds in
        elim first.1 [
          | inl is ↦ subst (QuestionStays line) (sym is) (no_second (cell 63 line) (cell d line) (numbered (cond (d == 10) (line + 1) line) first.0) h)
          | inr is ↦ subst (QuestionStays line) (sym is) (no_second (cell 63 line) (cell 10 line) (numbered (line + 1) first.0) refl)
        ])

question_front : (line : ℕ) (bs : List ℕ) → front_trigraph (63 ∷ bs) ≡ None → characters true line (63 ∷ bs) ≡ cell 63 line ∷ characters true line bs
unfolding characters numbered with_newlines
question_front line bs none = question_stays line bs none

-- a byte that is no newline and begins no trigraph, on its line
stays : (trigraphs : Bool) (line b : ℕ) (bs : List ℕ) → NoNewline b bs → (trigraphs && (b == 63)) ≡ false → characters trigraphs line (b ∷ bs) ≡ cell b line ∷ characters trigraphs line bs
stays trigraphs line b bs plain h =
    byte_front trigraphs line b bs plain.returned h ∙ ap (λ (t : Bool). cell b line ∷ characters trigraphs (cond t (line + 1) line) bs) plain.feed

-- the character at the front
pub character_front : (trigraphs : Bool) (line b : ℕ) (bs : List ℕ) → newline_length (b ∷ bs) ≡ 0
    → characters trigraphs line (b ∷ bs) ≡ cell (front_character trigraphs (b ∷ bs)).0 line ∷ characters trigraphs line (drop (front_character trigraphs (b ∷ bs)).1 (b ∷ bs))
unfolding front_character
character_front false line b bs none = stays false line b bs (no_newline_is b bs none) refl
character_front true line b bs none = chosen (front_trigraph (b ∷ bs)) refl
  where
    other : (t : Bool) → (b == 63) ≡ t → front_trigraph (b ∷ bs) ≡ None → characters true line (b ∷ bs) ≡ cell b line ∷ characters true line bs
    other false h e = stays true line b bs (no_newline_is b bs none) h
    other true h e =
        (let same : b ≡ 63 = eqb-true b 63 h in
        subst (λ k. characters true line (k ∷ bs) ≡ cell k line ∷ characters true line bs) (sym same)
        (question_front line bs (ap (λ k. front_trigraph (k ∷ bs)) (sym same) ∙ e)))

    chosen : (o : Option ℕ) → front_trigraph (b ∷ bs) ≡ o → characters true line (b ∷ bs) ≡ cell (or_byte o b).0 line ∷ characters true line (drop (or_byte o b).1 (b ∷ bs))
    chosen None e = other (b == 63) refl e
    chosen (Some x) e =
        (let front = trigraph_is (b ∷ bs) x e in
        subst (λ (rest : List ℕ). characters true line rest ≡ cell x line ∷ characters true line (drop 3 rest)) (sym front.is)
        (trigraph_front line x front.third front.more front.stands))

-- it is no newline
pub character_visible : (trigraphs : Bool) (b : ℕ) (bs : List ℕ) → newline_length (b ∷ bs) ≡ 0 → ((front_character trigraphs (b ∷ bs)).0 == 10) ≡ false
unfolding front_character
character_visible false b bs none = (no_newline_is b bs none).feed
character_visible true b bs none = chosen (front_trigraph (b ∷ bs)) refl
  where
    chosen : (o : Option ℕ) → front_trigraph (b ∷ bs) ≡ o → ((or_byte o b).0 == 10) ≡ false
    chosen None e = (no_newline_is b bs none).feed
    chosen (Some x) e = (let front = trigraph_is (b ∷ bs) x e in trigraph_visible front.third x front.stands)
