-- An identifier or a number in front of a space or a newline is one token, whatever stands behind it (6.4).
use Rattle.std.specs.Prelude.{◌≡◌, ℕ, Bool, true, false, cond, not, ◌&&◌, ◌||◌, List, [], ◌∷◌, ◌++◌, drop, Option, Some, None, refl, ◌==◌, nat_eq, bytes_eq}
use Rattle.std.specs.List.{list_all, list_any, starts_with}
use Rattle.std.proofs.Common.{sym, ◌∙◌, ap, inl, inr, subst}
use Rattle.std.proofs.lemmas.Bool.{eqb-true, eq-eqb, and_parts, and_left, and_right, or_cases, or_from}
use Rattle.std.proofs.lemmas.Slice.Eq.{bytes_eq-Decides}
use Rattle.pp_tokens.specs.declared.token.Kind.{Kind}
use Rattle.pp_tokens.specs.declared.token.Kind.TheVariants.{Ident, Number, Char, Str, Punct, Other}
use Rattle.pp_tokens.specs.Grammar.{is_digit, is_sign, is_identifier_start, is_identifier_byte, is_identifier, continues_number, number_goes_on, begins_with_digit, is_number, is_quoted, is_string, is_character, is_header, punctuators, is_punctuator, is_one_byte, kind_of}
use Rattle.pp_tokens.specs.Lines.{white, newline, token, part_of, is_comment, is_open_comment, NoLonger, NoHeader, Stands}
use Rattle.job_words.specs.parts.Told.{is_word_kind}

-- a byte of an identifier or of a number
abbrev pub is_wordy : ℕ → Bool
is_wordy b = is_identifier_byte b || ((b == 46) || is_sign b)

-- a byte that passes a test isn't one that fails it
pub apart : (f : ℕ → Bool) (b k : ℕ) → f b ≡ true → f k ≡ false → (b == k) ≡ false
apart f b k passes fails = by_test (b == k) refl
  where
    by_test : (t : Bool) → (b == k) ≡ t → t ≡ false
    by_test false e = refl
    by_test true e = (let h : true ≡ false = sym passes ∙ ap f (eqb-true b k e) ∙ fails in absurd (cc))

-- THE BYTES OF A WORD

second : (a b c : Bool) → b ≡ true → ((a || b) || c) ≡ true
second true b c h = refl
second false true c h = refl
second false false c h = absurd (cc)

third : (a b c : Bool) → b ≡ true → (a || (b || c)) ≡ true
third true b c h = refl
third false true c h = refl
third false false c h = absurd (cc)

without_last : (a b c d : Bool) → (a || (b || (c && d))) ≡ true → (a || (b || c)) ≡ true
without_last true b c d h = refl
without_last false true c d h = refl
without_last false false true d h = refl
without_last false false false d h = absurd (cc)

bytes_wordy : (bs : List ℕ) → list_all is_identifier_byte bs ≡ true → list_all is_wordy bs ≡ true
bytes_wordy [] h = refl
bytes_wordy (b ∷ bs) h =
    let both = and_parts (is_identifier_byte b) (list_all is_identifier_byte bs) h in
    rw both.0 (bytes_wordy bs both.1)

identifier_wordy : (t : List ℕ) → is_identifier t ≡ true → list_all is_wordy t ≡ true
unfolding is_identifier
identifier_wordy [] h = refl
identifier_wordy (b ∷ bs) h =
    let both = and_parts (is_identifier_start b) (list_all is_identifier_byte bs) h in
    rw both.0 (bytes_wordy bs both.1)

goes_on_wordy : (a : ℕ) (bs : List ℕ) → number_goes_on a bs ≡ true → list_all is_wordy bs ≡ true
unfolding number_goes_on
goes_on_wordy a [] h = refl
goes_on_wordy a (b ∷ bs) h =
    let both = and_parts (continues_number a b) (number_goes_on b bs) h in
    let here : is_wordy b ≡ true = without_last (is_identifier_byte b) (b == 46) (is_sign b) _ both.0 in
    rw here (goes_on_wordy b bs both.1)

number_wordy : (t : List ℕ) → is_number t ≡ true → list_all is_wordy t ≡ true
unfolding is_number
number_wordy [] h = refl
number_wordy (b ∷ bs) h =
    let both = and_parts (is_digit b || ((b == 46) && begins_with_digit bs)) (number_goes_on b bs) h in
    let here : is_wordy b ≡ true = begins both.0 in
    rw here (goes_on_wordy b bs both.1)
  where
    begins : (is_digit b || ((b == 46) && begins_with_digit bs)) ≡ true → is_wordy b ≡ true
    begins some = elim (or_cases (is_digit b) ((b == 46) && begins_with_digit bs) some) [
      | inl digit ↦ second (is_identifier_start b) (is_digit b) _ digit
      | inr point ↦ third (is_identifier_byte b) (b == 46) _ (and_parts (b == 46) _ point).0
    ]

other_kinds : (c d e f : Bool) (k : Kind) → is_word_kind k ≡ true → cond c (Some Char) (cond d (Some Str) (cond e (Some Punct) (cond f (Some Other) None))) ≡ Some k → ⊥
other_kinds true d e f k is h = (let same : Char ≡ k = cc in let no : is_word_kind Char ≡ true = ap is_word_kind same ∙ is in cc)
other_kinds false true e f k is h = (let same : Str ≡ k = cc in let no : is_word_kind Str ≡ true = ap is_word_kind same ∙ is in cc)
other_kinds false false true f k is h = (let same : Punct ≡ k = cc in let no : is_word_kind Punct ≡ true = ap is_word_kind same ∙ is in cc)
other_kinds false false false true k is h = (let same : Other ≡ k = cc in let no : is_word_kind Other ≡ true = ap is_word_kind same ∙ is in cc)
other_kinds false false false false k is h = cc

wordy_by : (t : List ℕ) (i n : Bool) (o : Option Kind) (k : Kind) → is_identifier t ≡ i → is_number t ≡ n → (o ≡ Some k → ⊥) → cond i (Some Ident) (cond n (Some Number) o) ≡ Some k
    → list_all is_wordy t ≡ true
wordy_by t true n o k identifier number other h = identifier_wordy t identifier
wordy_by t false true o k identifier number other h = number_wordy t number
wordy_by t false false o k identifier number other h = absurd (other h)

pub all_wordy : (t : List ℕ) (k : Kind) → is_word_kind k ≡ true → kind_of t ≡ Some k → list_all is_wordy t ≡ true
unfolding kind_of
all_wordy t k is h =
    wordy_by t (is_identifier t) (is_number t) _ k refl refl (other_kinds (is_character t) (is_string t) (is_punctuator t) (is_one_byte t) k is) h

-- nothing is no word
pub some_word : (k : Kind) → kind_of [] ≡ Some k → ⊥
unfolding kind_of is_identifier is_number is_string is_character is_punctuator
some_word k h = cc

-- WHERE A WORD ENDS

-- a byte that is in no word, no punctuator and no literal's front
pub record Ends (stop : ℕ) : Type 0 where
  pub other : is_wordy stop ≡ false
  pub in_identifier : is_identifier_byte stop ≡ false
  pub in_number : (a : ℕ) → continues_number a stop ≡ false
  pub single : (stop == 39) ≡ false
  pub double : (stop == 34) ≡ false
  pub eight : nat_eq 56 stop ≡ false
  pub in_none : list_all (λ p. not (list_any (λ b. b == stop) p)) punctuators ≡ true

pub at_space : Ends 32
at_space = record { other = refl; in_identifier = refl; in_number = λ a. refl; single = refl; double = refl; eight = refl; in_none = refl }

pub at_newline : Ends 10
at_newline = record { other = refl; in_identifier = refl; in_number = λ a. refl; single = refl; double = refl; eight = refl; in_none = refl }

-- a text with a byte in it that fails isn't all of them
some_fails : (p : ℕ → Bool) (xs : List ℕ) (b : ℕ) (bs : List ℕ) → p b ≡ false → list_all p (xs ++ (b ∷ bs)) ≡ false
some_fails p [] b bs h = rw h refl
some_fails p (x ∷ xs) b bs h = and_right (p x) _ (some_fails p xs b bs h)

goes_on_ends : (stop : ℕ) → Ends stop → (a : ℕ) (t more : List ℕ) → number_goes_on a (t ++ (stop ∷ more)) ≡ false
unfolding number_goes_on
goes_on_ends stop ends a [] more = rw (ends.in_number a) refl
goes_on_ends stop ends a (b ∷ t) more = and_right (continues_number a b) _ (goes_on_ends stop ends b t more)

no_quote : (q stop : ℕ) → is_wordy q ≡ false → (stop == q) ≡ false → (t more : List ℕ) → list_all is_wordy t ≡ true → is_quoted q (t ++ (stop ∷ more)) ≡ false
no_quote q stop fails apart_from [] more all = rw apart_from refl
no_quote q stop fails apart_from (c ∷ t) more all = (let e : (c == q) ≡ false = apart is_wordy c q (and_parts _ _ all).0 fails in rw e refl)

-- a text with a byte that no entry has is no entry
has : (stop : ℕ) (t more : List ℕ) → list_any (λ b. b == stop) (t ++ (stop ∷ more)) ≡ true
has stop [] more = rw (eq-eqb stop stop refl) refl
has stop (b ∷ t) more = later (b == stop) (has stop t more)
  where
    later : (x : Bool) → list_any (λ b. b == stop) (t ++ (stop ∷ more)) ≡ true → (x || list_any (λ b. b == stop) (t ++ (stop ∷ more))) ≡ true
    later true h = refl
    later false h = h

not_entry : (stop : ℕ) (t more p : List ℕ) → not (list_any (λ b. b == stop) p) ≡ true → bytes_eq (t ++ (stop ∷ more)) p ≡ false
not_entry stop t more p none = by_test (bytes_eq (t ++ (stop ∷ more)) p) refl
  where
    by_test : (s : Bool) → bytes_eq (t ++ (stop ∷ more)) p ≡ s → s ≡ false
    by_test false e = refl
    by_test true e =
        (let same : t ++ (stop ∷ more) ≡ p = (bytes_eq-Decides (t ++ (stop ∷ more)) p).0 e in
        let there : list_any (λ b. b == stop) p ≡ true = ap (list_any (λ b. b == stop)) (sym same) ∙ has stop t more in
        let h : false ≡ true = ap not (sym there) ∙ none in
        absurd (cc))

no_entry : (stop : ℕ) (t more : List ℕ) (ps : List (List ℕ)) → list_all (λ p. not (list_any (λ b. b == stop) p)) ps ≡ true → list_any (bytes_eq (t ++ (stop ∷ more))) ps ≡ false
no_entry stop t more [] none = refl
no_entry stop t more (p ∷ ps) none =
    let both = and_parts (not (list_any (λ b. b == stop) p)) (list_all (λ q. not (list_any (λ b. b == stop) q)) ps) none in
    or_from _ _ (not_entry stop t more p both.0) (no_entry stop t more ps both.1)

-- NOTHING LONGER IS A PART

module _ (stop : ℕ) (ends : Ends stop) (b : ℕ) (t more : List ℕ) (wordy : list_all is_wordy (b ∷ t) ≡ true) where
  first_wordy : is_wordy b ≡ true
  first_wordy = (and_parts (is_wordy b) (list_all is_wordy t) wordy).0

  others_wordy : list_all is_wordy t ≡ true
  others_wordy = (and_parts (is_wordy b) (list_all is_wordy t) wordy).1

  no_identifier : is_identifier (b ∷ (t ++ (stop ∷ more))) ≡ false
  unfolding is_identifier
  no_identifier = and_right (is_identifier_start b) _ (some_fails is_identifier_byte t stop more ends.in_identifier)

  no_number : is_number (b ∷ (t ++ (stop ∷ more))) ≡ false
  unfolding is_number
  no_number = and_right _ _ (goes_on_ends stop ends b t more)

-- what stands behind one byte of a prefix, and behind two
one_byte : (q stop x b : ℕ) → is_wordy q ≡ false → (stop == q) ≡ false → (t more : List ℕ) → list_all is_wordy t ≡ true
    → (starts_with nat_eq (b ∷ (t ++ (stop ∷ more))) (x ∷ []) && is_quoted q (drop 1 (b ∷ (t ++ (stop ∷ more))))) ≡ false
one_byte q stop x b fails apart_from t more all = and_right _ _ (no_quote q stop fails apart_from t more all)

two_bytes : (q stop x y b : ℕ) → is_wordy q ≡ false → (stop == q) ≡ false → nat_eq y stop ≡ false → (t more : List ℕ) → list_all is_wordy t ≡ true
    → (starts_with nat_eq (b ∷ (t ++ (stop ∷ more))) (x ∷ y ∷ []) && is_quoted q (drop 2 (b ∷ (t ++ (stop ∷ more))))) ≡ false
two_bytes q stop x y b fails apart_from eight [] more all = and_left _ _ (and_right (nat_eq x b) _ (rw eight refl))
two_bytes q stop x y b fails apart_from eight (c ∷ t) more all = and_right _ _ (no_quote q stop fails apart_from t more (and_parts _ _ all).1)

module _ (stop : ℕ) (ends : Ends stop) (b : ℕ) (t more : List ℕ) (wordy : list_all is_wordy (b ∷ t) ≡ true) where
  no_string : is_string (b ∷ (t ++ (stop ∷ more))) ≡ false
  unfolding is_string
  no_string =
      let all = others_wordy stop ends b t more wordy in
      or_from _ _ (no_quote 34 stop refl ends.double (b ∷ t) more wordy)
      (or_from _ _ (two_bytes 34 stop 117 56 b refl ends.double ends.eight t more all)
      (or_from _ _ (one_byte 34 stop 117 b refl ends.double t more all)
      (or_from _ _ (one_byte 34 stop 85 b refl ends.double t more all) (or_from _ _ (one_byte 34 stop 76 b refl ends.double t more all) refl))))

  no_character : is_character (b ∷ (t ++ (stop ∷ more))) ≡ false
  unfolding is_character
  no_character =
      let all = others_wordy stop ends b t more wordy in
      or_from _ _ (no_quote 39 stop refl ends.single (b ∷ t) more wordy)
      (or_from _ _ (one_byte 39 stop 117 b refl ends.single t more all)
      (or_from _ _ (one_byte 39 stop 85 b refl ends.single t more all) (or_from _ _ (one_byte 39 stop 76 b refl ends.single t more all) refl)))

  no_punctuator : is_punctuator (b ∷ (t ++ (stop ∷ more))) ≡ false
  unfolding is_punctuator
  no_punctuator = no_entry stop (b ∷ t) more punctuators ends.in_none

longer_than_one : (b stop : ℕ) (t more : List ℕ) → is_one_byte (b ∷ (t ++ (stop ∷ more))) ≡ false
longer_than_one b stop [] more = refl
longer_than_one b stop (c ∷ t) more = refl

no_kind : (stop : ℕ) → Ends stop → (b : ℕ) (t more : List ℕ) → list_all is_wordy (b ∷ t) ≡ true → kind_of (b ∷ (t ++ (stop ∷ more))) ≡ None
unfolding kind_of
no_kind stop ends b t more wordy =
    rw (
      no_identifier stop ends b t more wordy,
      no_number stop ends b t more wordy,
      no_character stop ends b t more wordy,
      no_string stop ends b t more wordy,
      no_punctuator stop ends b t more wordy,
      longer_than_one b stop t more,
    ) refl

-- comments begin with a slash
no_comment : (b : ℕ) (u : List ℕ) → (b == 47) ≡ false → is_comment (b ∷ u) ≡ false
unfolding is_comment
no_comment b [] h = refl
no_comment b (c ∷ u) h = rw h refl

no_open_comment : (b : ℕ) (u : List ℕ) → (b == 47) ≡ false → is_open_comment (b ∷ u) ≡ false
unfolding is_open_comment
no_open_comment b [] h = refl
no_open_comment b (c ∷ u) h = rw h refl

no_slash : (b : ℕ) (t : List ℕ) → list_all is_wordy (b ∷ t) ≡ true → (b == 47) ≡ false
no_slash b t wordy = apart is_wordy b 47 (and_parts (is_wordy b) (list_all is_wordy t) wordy).0 refl

no_part : (stop : ℕ) → Ends stop → (b : ℕ) (t more : List ℕ) → list_all is_wordy (b ∷ t) ≡ true → part_of (b ∷ (t ++ (stop ∷ more))) ≡ None
unfolding part_of
no_part stop ends b [] more wordy =
    let slash = no_slash b [] wordy in
    rw (no_comment b (stop ∷ more) slash, no_open_comment b (stop ∷ more) slash, no_kind stop ends b [] more wordy) refl
no_part stop ends b (c ∷ t) more wordy =
    let slash = no_slash b (c ∷ t) wordy in
    rw (no_comment b (c ∷ (t ++ (stop ∷ more))) slash, no_open_comment b (c ∷ (t ++ (stop ∷ more))) slash, no_kind stop ends b (c ∷ t) more wordy) refl

-- a word is the part that it is
token_part : (b : ℕ) (t : List ℕ) (k : Kind) → list_all is_wordy (b ∷ t) ≡ true → kind_of (b ∷ t) ≡ Some k → part_of (b ∷ t) ≡ Some (token k)
unfolding part_of
token_part b [] k wordy is =
    let slash = no_slash b [] wordy in
    let first : is_wordy b ≡ true = (and_parts (is_wordy b) true wordy).0 in
    rw (
      apart is_wordy b 10 first refl,
      apart is_wordy b 32 first refl,
      apart is_wordy b 9 first refl,
      apart is_wordy b 11 first refl,
      apart is_wordy b 12 first refl,
      apart is_wordy b 13 first refl,
      no_comment b [] slash,
      no_open_comment b [] slash,
      is,
    ) refl
token_part b (c ∷ t) k wordy is =
    let slash = no_slash b (c ∷ t) wordy in
    rw (no_comment b (c ∷ t) slash, no_open_comment b (c ∷ t) slash, is) refl

-- WHAT STANDS THERE

pub word_stands : (due : Bool) (text : List ℕ) (k : Kind) (stop : ℕ) (behind : List ℕ) → due ≡ false → is_word_kind k ≡ true → kind_of text ≡ Some k → Ends stop
    → Stands due (token k) text (stop ∷ behind)
word_stands due [] k stop behind none plain is ends = absurd (some_word k is)
word_stands due (b ∷ t) k stop behind none plain is ends =
    inr ((λ d. (let h : true ≡ false = sym d ∙ none in absurd (cc))), token_part b t k (all_wordy (b ∷ t) k plain is) is, longest)
  where
    longest : NoLonger part_of (b ∷ t) (stop ∷ behind)
    longest [] rest some e = absurd (some refl)
    longest (m ∷ ms) rest some e =
        (let same : stop ≡ m = cc in
        subst (λ n. part_of (b ∷ (t ++ (n ∷ ms))) ≡ None) same (no_part stop ends b t ms (all_wordy (b ∷ t) k plain is)))

pub space_stands : (due : Bool) (behind : List ℕ) → due ≡ false → Stands due white (32 ∷ []) behind
unfolding part_of kind_of is_identifier is_number number_goes_on is_string is_character is_punctuator is_comment is_open_comment
space_stands due behind none = inr ((λ d. (let h : true ≡ false = sym d ∙ none in absurd (cc))), refl, longest)
  where
    longest : NoLonger part_of (32 ∷ []) behind
    longest [] rest some e = absurd (some refl)
    longest (m ∷ ms) rest some e = refl

-- the last newline, which begins no header name
no_header : NoHeader (10 ∷ [])
unfolding is_header
no_header [] rest e = refl
no_header (m ∷ ms) rest e = (let same : 10 ≡ m = cc in subst (λ n. is_header (n ∷ ms) ≡ false) same refl)

pub newline_stands : (due : Bool) → Stands due newline (10 ∷ []) []
unfolding part_of kind_of is_identifier is_number number_goes_on is_string is_character is_punctuator is_comment is_open_comment
newline_stands due = inr ((λ d. no_header), refl, longest)
  where
    longest : NoLonger part_of (10 ∷ []) []
    longest [] rest some e = absurd (some refl)
    longest (m ∷ ms) rest some e = absurd (cc)
