-- A text has exactly one reading, and the function gives it.
use Rattle.std.specs.Prelude.{cond, option_map, ◌≡◌, ◌≢◌, ℕ, zero, suc, ◌-◌, ◌≤◌, ◌<◌, Bool, true, false, List, [], ◌∷◌, ◌++◌, length, take, drop, Option, Some, None, refl, unwrap_or}
use Rattle.std.proofs.Common.{sym, ◌∙◌, ap, inl, inr, subst, arith}
use Rattle.std.proofs.lemmas.List.{map-append, length-map, length-drop, take-map, drop-map, take-append-drop}
use Rattle.std.proofs.Math.Seq.{take-append_seam, drop-append_seam}
use Rattle.pp_tokens.specs.declared.token.Kind.{Kind}
use Rattle.pp_tokens.specs.declared.token.Kind.TheVariants.{Header, Other}
use Rattle.pp_tokens.specs.Grammar.{is_newline, is_white, is_one_byte, is_header, kind_of, is_identifier, is_number, is_string, is_character, is_punctuator, closes}
use Rattle.pp_tokens.specs.Phases.{Cell, bytes, source_text}
use Rattle.pp_tokens.specs.Lines.{Part, token, newline, Element, part_of, is_comment, is_open_comment, header_due, words_after, or_else, NoLonger, NoHeader, Stands, Reads, longest_from, header_part, first_part, elements, LexedFile, IsLexed, lexed, file_of}
use Rattle.pp_tokens.proofs.Longest.{none_longest, longest_found, longest_none, longest_sound, Found}
use Rattle.pp_tokens.proofs.Headers.{header_once}

-- where no front is a header name, none is a header part
no_header_part : (front text : List ℕ) → ((more rest : List ℕ) → text ≡ more ++ rest → is_header (front ++ more) ≡ false) → NoLonger header_part front text
no_header_part front text none more rest some e = rw (none more rest e) refl

-- what rightly stands in front is what the function finds there
pub stands_first : (due : Bool) (part : Part) (t after : List ℕ) → t ≢ [] → Stands due part t after → first_part due (t ++ after) ≡ (part, length t)
unfolding first_part
stands_first due part t after some (inl (is_due, is_part, header)) =
    let found : longest_from header_part [] (t ++ after) ≡ Some (token Header, length t) =
    longest_found header_part [] t after (token Header) some (rw header refl)
    (λ more rest some' e. rw (header_once t more some' header) refl) in
    rw is_due (rw found (rw is_part refl))
stands_first true part t after some (inr (no_header, is, longest)) =
    let none : longest_from header_part [] (t ++ after) ≡ None =
    none_longest header_part [] (t ++ after) (no_header_part [] (t ++ after) (no_header refl)) in
    let found : longest_from part_of [] (t ++ after) ≡ Some (part, length t) = longest_found part_of [] t after part some is longest in
    rw none (rw found refl)
stands_first false part t after some (inr (no_header, is, longest)) =
    let found : longest_from part_of [] (t ++ after) ≡ Some (part, length t) = longest_found part_of [] t after part some is longest in
    rw found refl

-- what rightly stands somewhere isn't empty
pub stands_some : (due : Bool) (part : Part) (after : List ℕ) → Stands due part [] after → ⊥
unfolding is_header part_of is_comment is_open_comment kind_of is_identifier is_number is_string is_character is_punctuator closes
stands_some due part after (inl (d, p, header)) = cc
stands_some due part after (inr (n, is, longest)) = cc

skipped : (n : ℕ) (words : List (List ℕ)) (cs : List Cell) → elements n words cs ≡ elements zero words (drop n cs)
unfolding elements
skipped zero words cs = refl
skipped (suc n) words [] = refl
skipped (suc n) words (c ∷ cs) = skipped n words cs

-- the element that was found, cut off the text
abbrev pub cut_off : Part × ℕ → List Cell → Element
cut_off f text = record { part = f.0; cells = take f.1 text }

pub next_element : (words : List (List ℕ)) (c : Cell) (cs : List Cell) (f : Part × ℕ) → first_part (header_due words) (bytes (c ∷ cs)) ≡ f
    → elements zero words (c ∷ cs) ≡ cut_off f (c ∷ cs) ∷ elements zero (words_after words (cut_off f (c ∷ cs))) (drop (f.1 - 1) cs)
unfolding elements
next_element words c cs f h = rw h (ap (λ es. cut_off f (c ∷ cs) ∷ es) (skipped (f.1 - 1) (words_after words (cut_off f (c ∷ cs))) cs))

-- the whole of an element in front, and what is behind it
take_front : (c : Cell) (cs rest : List Cell) → take (length (bytes (c ∷ cs))) (c ∷ (cs ++ rest)) ≡ c ∷ cs
take_front c cs rest = rw (length-map cs (λ (d : Cell). d.byte)) (take-append_seam (c ∷ cs) rest)

drop_front : (c : Cell) (cs rest : List Cell) → drop (length (bytes (c ∷ cs)) - 1) (cs ++ rest) ≡ rest
drop_front c cs rest =
    let n : length (bytes (c ∷ cs)) - 1 ≡ length cs = omega (arith, length-map cs (λ (d : Cell). d.byte)) in
    rw n (drop-append_seam cs rest)

reading_step : (words : List (List ℕ)) (part : Part) (cells rest : List Cell)
    → Stands (header_due words) part (bytes cells) (bytes rest)
    → elements zero words (cells ++ rest)
    ≡ record { part = part; cells = cells } ∷ elements zero (words_after words (record { part = part; cells = cells })) rest
reading_step words part [] rest stands = absurd (stands_some _ _ _ stands)
reading_step words part (c ∷ cs) rest stands =
    let found : first_part (header_due words) (bytes (c ∷ (cs ++ rest))) ≡ (part, length (bytes (c ∷ cs))) =
    ap (first_part (header_due words)) (map-append (λ (d : Cell). d.byte) (c ∷ cs) rest)
    ∙ stands_first (header_due words) part (bytes (c ∷ cs)) (bytes rest) (λ e. cc) stands in
    next_element words c (cs ++ rest) (part, length (bytes (c ∷ cs))) found
    ∙ rw (take_front c cs rest, drop_front c cs rest) refl

-- THE READING IS DETERMINED: whatever list of elements a text is read as, it is the one that the function gives
pub reading_is : (words : List (List ℕ)) (es : List Element) (text : List Cell) → Reads words es text → es ≡ elements zero words text
unfolding elements
reading_is words [] text h = rw h refl
reading_is words (e ∷ es) text (rest, split, stands, reads) =
    rw split (rw (reading_step words e.part e.cells rest stands) (ap (λ (l : List Element). e ∷ l) (reading_is (words_after words e) es rest reads)))

-- a choice that gives nothing went the other way
not_none : {A : Type 0} (t : Bool) (x : A) (o : Option A) → cond t (Some x) o ≡ None → (t ≡ false) × (o ≡ None)
not_none true x o h = absurd (cc)
not_none false x o h = (refl, h)

no_kind : (o : Option Kind) → option_map token o ≡ None → o ≡ None
no_kind None h = refl
no_kind (Some k) h = absurd (cc)

-- one byte is always a part
one_byte_is_part : (b : ℕ) → part_of (b ∷ []) ≡ None → ⊥
unfolding part_of is_comment is_open_comment kind_of
one_byte_is_part b h =
    let a = not_none (is_newline b) _ _ h in
    let w = not_none (is_white b) _ _ a.1 in
    let k = no_kind (kind_of (b ∷ [])) w.1 in
    let k1 = not_none (is_identifier (b ∷ [])) _ _ k in
    let k2 = not_none (is_number (b ∷ [])) _ _ k1.1 in
    let k3 = not_none (is_character (b ∷ [])) _ _ k2.1 in
    let k4 = not_none (is_string (b ∷ [])) _ _ k3.1 in
    let k5 = not_none (is_punctuator (b ∷ [])) _ _ k4.1 in
    let k6 = not_none (is_one_byte (b ∷ [])) Other None k5.1 in
    let e : is_one_byte (b ∷ []) ≡ true = rw (a.0, w.0) refl in
    cc

-- what stands in front of a text, by the function
pub record Front (due : Bool) (text : List ℕ) (f : Part × ℕ) : Type 0 where
  pub front : List ℕ
  pub rest : List ℕ
  pub some : front ≢ []
  pub split : text ≡ front ++ rest
  pub size : f.1 ≡ length front
  pub stands : Stands due f.0 front rest

is_header_part : (t : List ℕ) (a : Part) → header_part t ≡ Some a → (is_header t ≡ true) × (a ≡ token Header)
is_header_part t a h = by_test (is_header t) refl
  where
    by_test : (b : Bool) → is_header t ≡ b → (is_header t ≡ true) × (a ≡ token Header)
    by_test true e = (e, (let h' : Some (token Header) ≡ Some a = sym (ap (λ b. cond b (Some (token Header)) None) e) ∙ h in cc))
    by_test false e = absurd (let h' : None ≡ Some a = sym (ap (λ (b : Bool). cond b (Some (token Header)) None) e) ∙ h in cc)

-- where no header name is read, the longest part is
longest_stands : (due : Bool) (text : List ℕ) → text ≢ [] → (due ≡ true → NoHeader text) → (o : Option (Part × ℕ)) → longest_from part_of [] text ≡ o
    → Front due text (unwrap_or o (newline, 1))
longest_stands due [] some none o h = absurd (some refl)
longest_stands due (b ∷ bs) some none None h =
    absurd (one_byte_is_part b (longest_none part_of [] (b ∷ bs) h (b ∷ []) bs (λ e. cc) refl))
longest_stands due (b ∷ bs) some none (Some f) h =
    let s : Found part_of [] (b ∷ bs) f.0 f.1 = longest_sound part_of [] (b ∷ bs) f.0 f.1 h in
    record {
      front = s.more;
      rest = s.rest;
      some = s.some;
      split = s.split;
      size = s.size;
      stands = inr (subst (λ t. due ≡ true → NoHeader t) s.split none, s.is, s.longest);
    }

header_first : (text : List ℕ) → text ≢ [] → (o : Option (Part × ℕ)) → longest_from header_part [] text ≡ o
    → Front true text (unwrap_or (or_else o (longest_from part_of [] text)) (newline, 1))
unfolding is_header
header_first text some None h =
    let none : NoHeader text = λ front rest e. no_header front rest e in
    longest_stands true text some (λ _. none) (longest_from part_of [] text) refl
  where
    no_header : (front rest : List ℕ) → text ≡ front ++ rest → is_header front ≡ false
    no_header [] rest e = refl
    no_header (b ∷ bs) rest e = (not_none (is_header (b ∷ bs)) (token Header) None (longest_none header_part [] text h (b ∷ bs) rest (λ e'. cc) e)).0
header_first text some (Some f) h =
    let s : Found header_part [] text f.0 f.1 = longest_sound header_part [] text f.0 f.1 h in
    let both = is_header_part s.more f.0 s.is in
    record { front = s.more; rest = s.rest; some = s.some; split = s.split; size = s.size; stands = inl (refl, both.1, both.0) }

pub first_stands : (due : Bool) (text : List ℕ) → text ≢ [] → Front due text (first_part due text)
unfolding first_part
first_stands true text some = header_first text some (longest_from header_part [] text) refl
first_stands false text some = longest_stands false text some (λ e. absurd (cc)) (longest_from part_of [] text) refl

-- the cut of a list into a front of this length and a rest
cut_at : (xs front rest : List ℕ) (n : ℕ) → xs ≡ front ++ rest → n ≡ length front → (front ≡ take n xs) × (rest ≡ drop n xs)
cut_at xs front rest n split size =
    (sym (rw (size, split) (take-append_seam front rest)), sym (rw (size, split) (drop-append_seam front rest)))

pub some_length : (xs : List ℕ) → xs ≢ [] → 0 < length xs
some_length [] h = absurd (h refl)
some_length (x ∷ xs) h = omega arith

pub drop_one_more : (n : ℕ) (c : Cell) (cs : List Cell) → 0 < n → drop n (c ∷ cs) ≡ drop (n - 1) cs
drop_one_more zero c cs h = absurd (omega arith)
drop_one_more (suc n) c cs h = let e : suc n - 1 ≡ n = omega arith in rw e refl

-- A READING EXISTS: what the function gives is one
read_up_to : (n : ℕ) (words : List (List ℕ)) (text : List Cell) → length text ≤ n → Reads words (elements zero words text) text
unfolding elements
read_up_to n words [] h = refl
read_up_to zero words (c ∷ cs) h = absurd (omega arith)
read_up_to (suc n) words (c ∷ cs) h =
    let due = header_due words in
    let f = first_part due (bytes (c ∷ cs)) in
    let p = first_stands due (bytes (c ∷ cs)) (λ e. cc) in
    let cut = cut_at (bytes (c ∷ cs)) p.front p.rest f.1 p.split p.size in
    let positive : 0 < f.1 = omega (arith, some_length p.front p.some, p.size) in
    let after = words_after words (cut_off f (c ∷ cs)) in
    let rest = drop (f.1 - 1) cs in
    let rest_is : drop f.1 (c ∷ cs) ≡ rest = drop_one_more f.1 c cs positive in
    let front_bytes : p.front ≡ bytes (take f.1 (c ∷ cs)) = cut.0 ∙ take-map (λ (d : Cell). d.byte) f.1 (c ∷ cs) in
    let rest_bytes : p.rest ≡ bytes rest = cut.1 ∙ drop-map (λ (d : Cell). d.byte) f.1 (c ∷ cs) ∙ ap bytes rest_is in
    let stands : Stands due f.0 (bytes (take f.1 (c ∷ cs))) (bytes rest) =
    subst (λ t. Stands due f.0 t (bytes rest)) front_bytes (subst (λ r. Stands due f.0 p.front r) rest_bytes p.stands) in
    let split : c ∷ cs ≡ take f.1 (c ∷ cs) ++ rest = sym (take-append-drop f.1 (c ∷ cs)) ∙ ap (λ r. take f.1 (c ∷ cs) ++ r) rest_is in
    let reads : Reads after (elements zero after rest) rest = read_up_to n after rest (omega (arith, length-drop (f.1 - 1) cs)) in
    (rest, split, stands, subst (λ es. Reads after es rest) (sym (skipped (f.1 - 1) after cs)) reads)

pub reads_function : (words : List (List ℕ)) (text : List Cell) → Reads words (elements zero words text) text
reads_function words text = read_up_to (length text) words text (omega arith)

-- a body is read as one file, and that is what the function gives
pub lexed_is : (trigraphs : Bool) (body : List ℕ) (file : LexedFile) → IsLexed trigraphs body file → file ≡ lexed trigraphs body
unfolding lexed
lexed_is trigraphs body file (es, reads, is) = is ∙ ap file_of (reading_is [] es (source_text trigraphs body) reads)

pub is_lexed : (trigraphs : Bool) (body : List ℕ) → IsLexed trigraphs body (lexed trigraphs body)
unfolding lexed
is_lexed trigraphs body = (elements zero [] (source_text trigraphs body), reads_function [] (source_text trigraphs body), refl)
