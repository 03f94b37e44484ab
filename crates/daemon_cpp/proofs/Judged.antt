-- What a condition's line says that was read token by token is what its tokens say.
use Rattle.std.specs.Prelude.{map, codes, bytes_eq, Ok, Err, if◌then◌else◌, ◌&&◌, ◌||◌, option_map}
use Rattle.std.proofs.Common.{◌≡◌, ℕ, Bool, true, false, List, [], ◌∷◌, ◌++◌, Option, None, Some, Result, refl, sym, ◌∙◌, ap, append_assoc}
use Rattle.std.specs.List.{list_any}
use Rattle.std.specs.Cmp.Lexicographic.{bytes_decides}
use Rattle.std.proofs.lemmas.List.{append-nil}
use Rattle.std.proofs.lemmas.List.Folds.{list_any-append}
use Rattle.pp_tokens.specs.declared.Token.{Token}
use Rattle.pp_tokens.specs.declared.Kind.{Kind}
use Rattle.pp_tokens.specs.declared.Kind.TheVariants as kind
use Rattle.pp_tokens.specs.Marks.{names, punctuates, is_identifier, is_open, is_close, is_word}
use Rattle.tree_model.specs.Paths.{Text}
use Rattle.cond_eval.specs.declared.CondError.{CondError}
use Rattle.cond_eval.specs.declared.lexeme.Lexeme.{Lexeme}
use Rattle.cond_eval.specs.Constants.{number_value}
use Rattle.cond_eval.specs.Constants as constants
use Rattle.cond_eval.specs.Lexemes.{lexeme_of}
use Rattle.cond_eval.specs.Value.{in_front, lexemes_of, value_read, expression_value}
use Rattle.daemon_cpp.specs.Diagnostics.{BadExpression}
use Rattle.daemon_cpp.specs.Prep.{State, refuse, DefinedSort, defining, naming, opening_mark, closing_mark, plain, defined_sort_of, DefinedStage, answer_token, token_more, defined_before, defined_from, at_line_end, with_defined, is_defined, zeroed, probe_free, defined_answered, expanded_condition}
use Rattle.daemon_cpp.specs.Prep as prep
use Rattle.daemon_cpp.specs.parts.Controlling.{StageSoFar, LineSoFar, outside, named_next, in_parentheses, closing_next, malformed, at_first, behind_lexemes, with_lexeme, answer, with_token, with_tokens, with_token_at, judged_by, judged}

-- ---- tokens that were answered, one more ----

abbrev is_probe : Token → Bool
is_probe = is_word (codes "__has_include")

-- the line behind tokens that were answered
abbrev line-at : StageSoFar → List Token → LineSoFar
line-at s done = record { stage = s; probe = list_any is_probe done; lexemes = lexemes_of (map zeroed done) }

behind-front : (r : Result Lexeme CondError) (x : Result Lexeme CondError) (y : Result (List Lexeme) CondError) → in_front x (behind_lexemes r y) ≡ behind_lexemes r (in_front x y)
behind-front (Ok l) (Ok x) (Ok y) = refl
behind-front (Ok l) (Ok x) (Err e) = refl
behind-front (Ok l) (Err e) (Ok y) = refl
behind-front (Ok l) (Err e) (Err f) = refl
behind-front (Err d) (Ok x) (Ok y) = refl
behind-front (Err d) (Ok x) (Err e) = refl
behind-front (Err d) (Err e) (Ok y) = refl
behind-front (Err d) (Err e) (Err f) = refl

behind-none : (r : Result Lexeme CondError) → in_front r (Ok []) ≡ behind_lexemes r (Ok [])
behind-none (Ok l) = refl
behind-none (Err e) = refl

lexemes-more : (done : List Token) (t : Token) → lexemes_of (map zeroed (done ++ t ∷ [])) ≡ behind_lexemes (lexeme_of (zeroed t)) (lexemes_of (map zeroed done))
unfolding lexemes_of
lexemes-more [] t = behind-none (lexeme_of (zeroed t))
lexemes-more (d ∷ done) t = ap (in_front (lexeme_of (zeroed d))) (lexemes-more done t) ∙ behind-front (lexeme_of (zeroed t)) (lexeme_of (zeroed d)) (lexemes_of (map zeroed done))

or-none : (b c : Bool) → c ≡ false → (b || c) ≡ b
or-none true c e = refl
or-none false c e = e

or-one : (b c : Bool) → (b || (c || false)) ≡ (b || c)
or-one true c = refl
or-one false true = refl
or-one false false = refl

probe-more : (done : List Token) (t : Token) → list_any is_probe (done ++ t ∷ []) ≡ (list_any is_probe done || is_probe t)
probe-more done t = list_any-append is_probe done (t ∷ []) ∙ or-one (list_any is_probe done) (is_probe t)

-- one more token, by what it is
line-more : (s : StageSoFar) (done : List Token) (t : Token) (found : Bool) (read : Result Lexeme CondError) → (list_any is_probe done || is_probe t) ≡ found → lexeme_of (zeroed t) ≡ read →
    line-at s (done ++ t ∷ []) ≡ record { stage = s; probe = found; lexemes = behind_lexemes read (lexemes_of (map zeroed done)) }
line-more s done t found read probes reads =
    ap (λ (b : Bool). record { stage = s; probe = b; lexemes = lexemes_of (map zeroed (done ++ t ∷ [])) }) (probe-more done t ∙ probes)
    ∙ ap (λ (ls : Result (List Lexeme) CondError). record { stage = s; probe = found; lexemes = ls }) (lexemes-more done t ∙ ap (λ (r : Result Lexeme CondError). behind_lexemes r (lexemes_of (map zeroed done))) reads)

-- a 1 or a 0 in the place of a token
answer-read : (d : Token) (said : Bool) → lexeme_of (answer_token d said) ≡ Ok (answer said)
unfolding lexeme_of number_value constants.value_behind
answer-read d true = refl
answer-read d false = refl

answer-itself : (d : Token) (said : Bool) → zeroed (answer_token d said) ≡ answer_token d said
answer-itself d true = refl
answer-itself d false = refl

answer-no-probe : (d : Token) (said : Bool) → is_probe (answer_token d said) ≡ false
answer-no-probe d true = refl
answer-no-probe d false = refl

answer-more : (done : List Token) (d : Token) (said : Bool) → line-at outside (done ++ answer_token d said ∷ []) ≡ with_lexeme (Ok (answer said)) (line-at outside done)
answer-more done d said =
    line-more outside done (answer_token d said) (list_any is_probe done) (Ok (answer said)) (or-none (list_any is_probe done) (is_probe (answer_token d said)) (answer-no-probe d said))
    (ap lexeme_of (answer-itself d said) ∙ answer-read d said)

zero-name : (t : Token) → is_identifier t ≡ true → zeroed t ≡ answer_token t false
zero-name t e = rw e refl

name-probe : (t : Token) → is_identifier t ≡ true → is_probe t ≡ bytes_eq t.text (codes "__has_include")
name-probe t e = rw e refl

name-more : (done : List Token) (t : Token) → is_identifier t ≡ true →
    line-at outside (done ++ t ∷ []) ≡ with_lexeme (Ok (answer false)) (record { stage = outside; probe = list_any is_probe done || bytes_eq t.text (codes "__has_include"); lexemes = lexemes_of (map zeroed done) })
name-more done t e =
    line-more outside done t (list_any is_probe done || bytes_eq t.text (codes "__has_include")) (Ok (answer false)) (ap (λ b. list_any is_probe done || b) (name-probe t e))
    (ap lexeme_of (zero-name t e) ∙ answer-read t false)

zero-other : (t : Token) → is_identifier t ≡ false → zeroed t ≡ t
zero-other t e = rw e refl

other-probe : (t : Token) → is_identifier t ≡ false → is_probe t ≡ false
other-probe t e = rw e refl

other-more : (done : List Token) (t : Token) → is_identifier t ≡ false → line-at outside (done ++ t ∷ []) ≡ with_lexeme (lexeme_of t) (line-at outside done)
other-more done t e =
    line-more outside done t (list_any is_probe done) (lexeme_of t) (or-none (list_any is_probe done) (is_probe t) (other-probe t e)) (ap lexeme_of (zero-other t e))

-- ---- the tokens that are left ----

-- a `)` is no name and no `(`
no-name : (k : Kind) (b : Bool) → (punctuates k && b) ≡ true → names k ≡ false
no-name kind.Ident b e = absurd (cc)
no-name kind.Number b e = refl
no-name kind.Char b e = refl
no-name kind.Str b e = refl
no-name kind.Punct b e = refl
no-name kind.Header b e = refl
no-name kind.Other b e = refl

both : (a b : Bool) → (a && b) ≡ true → b ≡ true
both true b e = e
both false b e = absurd (cc)

never : (a : Bool) → (a && false) ≡ false
never true = refl
never false = refl

close-no-name : (t : Token) → is_close t ≡ true → is_identifier t ≡ false
close-no-name t e = no-name t.kind (bytes_eq t.text (codes ")")) e

close-no-opens : (t : Token) → is_close t ≡ true → is_open t ≡ false
close-no-opens t e =
    let is : t.text ≡ codes ")" = (bytes_decides t.text (codes ")")).0 (both (punctuates t.kind) (bytes_eq t.text (codes ")")) e) in
    ap (λ (s : Text). punctuates t.kind && bytes_eq s (codes "(")) is ∙ never (punctuates t.kind)

abbrev sorted : Bool → Bool → Bool → Bool → DefinedSort
sorted name word opens closes =
    if name && word then defining
    else (if name then naming
    else (if opens then opening_mark
    else (if closes then closing_mark
    else plain)))

module _ (defined : Text → Bool) (at : ℕ) (state : State) where
  abbrev stage-of : DefinedStage → StageSoFar
  stage-of prep.outside = outside
  stage-of (prep.named_next d) = named_next
  stage-of (prep.in_parentheses d) = in_parentheses
  stage-of (prep.closing_next d name) = closing_next (defined name)

  -- a line's tokens that were answered, and those behind them
  abbrev behind : List Token → Option (List Token) → Option (List Token)
  behind done o = option_map (λ more. done ++ more) o

  abbrev said : List Token → LineSoFar → prep.Reached Bool
  said ts line = judged at (with_tokens defined ts line) state

  Same : List Token → LineSoFar → Option (List Token) → Type 0
  Same ts line o = said ts line ≡ defined_answered at o state

  one-more : (done : List Token) (t : Token) (o : Option (List Token)) → behind (done ++ t ∷ []) o ≡ behind done (token_more t o)
  one-more done t None = refl
  one-more done t (Some others) = ap Some (append_assoc done (t ∷ []) others)

  malformed-stays : (ts : List Token) (line : LineSoFar) → line.stage ≡ malformed → with_tokens defined ts line ≡ line
  unfolding with_tokens with_token
  malformed-stays [] line e = refl
  malformed-stays (t ∷ ts) line e =
      ap (with_tokens defined ts) (ap (λ (s : StageSoFar). with_token_at defined s t line) e) ∙ malformed-stays ts line e

  malformed-said : (ts : List Token) (line : LineSoFar) → line.stage ≡ malformed → said ts line ≡ refuse at BadExpression state
  malformed-said ts line e = ap (λ (l : LineSoFar). judged at l state) (malformed-stays ts line e) ∙ rw e refl

  free-said : (probe : Bool) (tokens : List Token) → judged_by at true probe (value_read (lexemes_of (map zeroed tokens))) state ≡ probe_free at probe tokens state
  unfolding expression_value
  free-said true tokens = refl
  free-said false tokens = refl

  -- the tokens from one on, by what it is
  abbrev before : List Token → Token → DefinedSort → DefinedStage → Option (List Token)
  before ts t k s = defined_before defined (λ next. defined_from defined next ts) t k s

  -- what is said behind one more token, whatever was answered before it
  abbrev FromHere : List Token → Type 0
  FromHere ts = (s : DefinedStage) (done : List Token) → said ts (line-at (stage-of s) done) ≡ defined_answered at (behind done (defined_from defined s ts)) state

  abbrev outside-line : Bool → Bool → Token → LineSoFar → LineSoFar
  outside-line name word t line =
      if name
      then (if word then record line { stage = named_next }
      else with_lexeme (Ok (answer false)) (record line { probe = line.probe || bytes_eq t.text (codes "__has_include") }))
      else with_lexeme (lexeme_of t) line

  other-said : (ts done : List Token) (t : Token) → is_identifier t ≡ false → FromHere ts →
      said ts (with_lexeme (lexeme_of t) (line-at outside done)) ≡ defined_answered at (behind done (token_more t (defined_from defined prep.outside ts))) state
  other-said ts done t i from =
      ap (said ts) (sym (other-more done t i)) ∙ from prep.outside (done ++ t ∷ [])
      ∙ ap (λ (o : Option (List Token)). defined_answered at o state) (one-more done t (defined_from defined prep.outside ts))

  outside-said : (ts done : List Token) (t : Token) (name word opens closes : Bool) → is_identifier t ≡ name → FromHere ts →
      said ts (outside-line name word t (line-at outside done)) ≡ defined_answered at (behind done (before ts t (sorted name word opens closes) prep.outside)) state
  outside-said ts done t true true opens closes i from = from (prep.named_next t) done
  outside-said ts done t true false opens closes i from =
      ap (said ts) (sym (name-more done t i)) ∙ from prep.outside (done ++ t ∷ [])
      ∙ ap (λ (o : Option (List Token)). defined_answered at o state) (one-more done t (defined_from defined prep.outside ts))
  outside-said ts done t false word true closes i from = other-said ts done t i from
  outside-said ts done t false word false true i from = other-said ts done t i from
  outside-said ts done t false word false false i from = other-said ts done t i from

  answer-said : (ts done : List Token) (d : Token) (yes_ : Bool) → FromHere ts →
      said ts (with_lexeme (Ok (answer yes_)) (line-at outside done)) ≡ defined_answered at (behind done (token_more (answer_token d yes_) (defined_from defined prep.outside ts))) state
  answer-said ts done d yes_ from =
      ap (said ts) (sym (answer-more done d yes_)) ∙ from prep.outside (done ++ answer_token d yes_ ∷ [])
      ∙ ap (λ (o : Option (List Token)). defined_answered at o state) (one-more done (answer_token d yes_) (defined_from defined prep.outside ts))

  abbrev named-line : Bool → Bool → Token → LineSoFar → LineSoFar
  named-line name opens t line =
      if name then with_lexeme (Ok (answer (defined t.text))) (record line { stage = outside })
      else (if opens then record line { stage = in_parentheses } else record line { stage = malformed })

  named-said : (ts done : List Token) (d t : Token) (name word opens closes : Bool) → FromHere ts →
      said ts (named-line name opens t (line-at named_next done)) ≡ defined_answered at (behind done (before ts t (sorted name word opens closes) (prep.named_next d))) state
  named-said ts done d t true true opens closes from = answer-said ts done d (defined t.text) from
  named-said ts done d t true false opens closes from = answer-said ts done d (defined t.text) from
  named-said ts done d t false word true closes from = from (prep.in_parentheses d) done
  named-said ts done d t false word false true from = malformed-said ts (line-at malformed done) refl
  named-said ts done d t false word false false from = malformed-said ts (line-at malformed done) refl

  inside-said : (ts done : List Token) (d t : Token) (name word opens closes : Bool) → FromHere ts →
      said ts (record (line-at in_parentheses done) { stage = if name then closing_next (defined t.text) else malformed })
      ≡ defined_answered at (behind done (before ts t (sorted name word opens closes) (prep.in_parentheses d))) state
  inside-said ts done d t true true opens closes from = from (prep.closing_next d t.text) done
  inside-said ts done d t true false opens closes from = from (prep.closing_next d t.text) done
  inside-said ts done d t false word true closes from = malformed-said ts (line-at malformed done) refl
  inside-said ts done d t false word false true from = malformed-said ts (line-at malformed done) refl
  inside-said ts done d t false word false false from = malformed-said ts (line-at malformed done) refl

  abbrev closing-line : Bool → Bool → LineSoFar → LineSoFar
  closing-line closes yes_ line = if closes then with_lexeme (Ok (answer yes_)) (record line { stage = outside }) else record line { stage = malformed }

  closing-said : (ts done : List Token) (d t : Token) (label : Text) (name word opens closes : Bool) → (closes ≡ true → name ≡ false) → (closes ≡ true → opens ≡ false) → FromHere ts →
      said ts (closing-line closes (defined label) (line-at (closing_next (defined label)) done))
      ≡ defined_answered at (behind done (before ts t (sorted name word opens closes) (prep.closing_next d label))) state
  closing-said ts done d t label true word opens true not-name not-opens from = absurd (let e : true ≡ false = not-name refl in cc)
  closing-said ts done d t label false word true true not-name not-opens from = absurd (let e : true ≡ false = not-opens refl in cc)
  closing-said ts done d t label false word false true not-name not-opens from = answer-said ts done d (defined label) from
  closing-said ts done d t label true true opens false not-name not-opens from = malformed-said ts (line-at malformed done) refl
  closing-said ts done d t label true false opens false not-name not-opens from = malformed-said ts (line-at malformed done) refl
  closing-said ts done d t label false word true false not-name not-opens from = malformed-said ts (line-at malformed done) refl
  closing-said ts done d t label false word false false not-name not-opens from = malformed-said ts (line-at malformed done) refl

  abbrev name-of : Token → Bool
  name-of t = is_identifier t

  abbrev word-of : Token → Bool
  word-of t = bytes_eq t.text (codes "defined")

  -- one token more
  more-said : (ts : List Token) (t : Token) → FromHere ts → FromHere (t ∷ ts)
  unfolding with_tokens with_token defined_from defined_sort_of
  more-said ts t from prep.outside done = outside-said ts done t (name-of t) (word-of t) (is_open t) (is_close t) refl from
  more-said ts t from (prep.named_next d) done = named-said ts done d t (name-of t) (word-of t) (is_open t) (is_close t) from
  more-said ts t from (prep.in_parentheses d) done = inside-said ts done d t (name-of t) (word-of t) (is_open t) (is_close t) from
  more-said ts t from (prep.closing_next d label) done =
      closing-said ts done d t label (name-of t) (word-of t) (is_open t) (is_close t) (close-no-name t) (close-no-opens t) from

  no-more : FromHere []
  unfolding with_tokens defined_from
  no-more prep.outside done =
      free-said (list_any is_probe done) done
      ∙ ap (λ (ts : List Token). probe_free at (list_any is_probe ts) ts state) (sym (append-nil done))
  no-more (prep.named_next d) done = refl
  no-more (prep.in_parentheses d) done = refl
  no-more (prep.closing_next d label) done = refl

  all-said : (ts : List Token) → FromHere ts
  all-said [] = no-more
  all-said (t ∷ ts) = more-said ts t (all-said ts)

  nothing-before : (o : Option (List Token)) → behind [] o ≡ o
  nothing-before None = refl
  nothing-before (Some others) = refl

  first-line : line-at outside [] ≡ at_first
  unfolding lexemes_of
  first-line = refl

  pub whole-said : (ts : List Token) → judged at (with_tokens defined ts at_first) state ≡ defined_answered at (with_defined defined ts) state
  unfolding with_defined
  whole-said ts =
      ap (said ts) (sym first-line) ∙ all-said ts prep.outside []
      ∙ ap (λ (o : Option (List Token)). defined_answered at o state) (nothing-before (defined_from defined prep.outside ts))
