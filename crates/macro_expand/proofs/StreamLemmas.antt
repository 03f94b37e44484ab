-- Expansion that gives its tokens one after another, by the expansion of the whole list.
use Rattle.std.proofs.Common.{◌≡◌, ℕ, true, false, ◌+◌, length, List, [], ◌∷◌, ◌++◌, map, inl, inr, reverse, Some, None, Option, MatchOption, option_to_list, Result, Ok, Err, refl, ap, sym, ◌∙◌, append_assoc, arith}
use Rattle.std.proofs.lemmas.List.{nil_from_length, map-append, append-nil, reverse-append, reverse-reverse}
use Rattle.std.specs.Prelude.{codes, bytes_eq}
use Rattle.std.proofs.lemmas.Bool.{and_parts}
use Rattle.pp_tokens.specs.declared.Token.{Token}
use Rattle.pp_tokens.specs.Marks.{is_identifier, is_open, is_close, is_word}
use Rattle.macro_expand.specs.declared.outcome.Mode.{Mode}
use Rattle.macro_expand.specs.declared.marked.Marked.{Marked as Kept}
use Rattle.macro_expand.specs.declared.answers.TablePlace.{TablePlace}
use Rattle.macro_expand.specs.declared.outcome.RunError.{RunError}
use Rattle.macro_expand.specs.declared.outcome.ExpandError.{ExpandError}
use Rattle.macro_expand.specs.declared.outcome.ExpandError.TheVariants.{Count as PublicCount, Unclosed as PublicUnclosed, Paste as PublicPaste, Deep as PublicDeep, Work as PublicWork, Memory as PublicMemory}
use Rattle.macro_expand.specs.Asking.{Failure}
use Rattle.macro_expand.specs.Replacement.{Marked}
use Rattle.macro_expand.specs.declared.outcome.Mode.TheVariants.{Condition}
use Rattle.macro_expand.specs.declared.marked.Role.TheVariants.{Defined}
use Rattle.macro_expand.specs.Expansion.{Expanded, Table, Place, expanded_by, head_role, has_operand, operand_of_defined, is_some_tokens}
use Rattle.macro_expand.specs.Answered.{Answerer, after_result, answered_and_then, before, expanded_for, table_answerer}
use Rattle.macro_defs.specs.Table.{TableEntries, lookup}
use Rattle.macro_expand.specs.Seen.{marked_of, kept_plain, kept_token, place_of, GivesTokens, StepKeepsResult, Stops, ReportsResult}
use Rattle.macro_expand.specs.Stream.{Given, Stream, given, given_before, to_come, GivesNext, IsOperand}
use Rattle.macro_expand.specs.parts.Steps.{StaysAsItIs, TakesUntouched, TakesEach, TakesDefined, Becomes}
use Rattle.macro_expand.proofs.AnsweredLaws.{lifted, before-nothing, expanded_for-nil, expanded_for-ordinary, expanded_for-undefined, expanded_for-defined}
use Rattle.macro_expand.proofs.GivesLaws.{by_is, result_is, lowered-lifted}
use Rattle.macro_expand.proofs.LoopLaws.{tokens_of_marked, Stops-is}

pub given_before-nothing : (r : Result Given Failure) → given_before [] r ≡ r
given_before-nothing (Ok g) = refl
given_before-nothing (Err f) = refl

pub given_before-both : (ts us : List Token) (r : Result Given Failure) → given_before (ts ++ us) r ≡ given_before ts (given_before us r)
given_before-both ts us (Ok g) = ap (λ (l : List Token). let q : Result Given Failure = Ok (record { tokens = l; units = g.units }) in q) (append_assoc ts us g.tokens)
given_before-both ts us (Err f) = refl

pub reverse_nil : {A : Type 0} (xs : List A) → reverse xs ≡ [] → xs ≡ []
reverse_nil xs none = sym (reverse-reverse xs) ∙ ap reverse none

-- the last of a list is the first of its reverse
pub reverse_last : {A : Type 0} (xs ys : List A) (x : A) → xs ≡ ys ++ x ∷ [] → reverse xs ≡ x ∷ reverse ys
reverse_last xs ys x last = ap reverse last ∙ reverse-append ys (x ∷ [])

-- what is taken from the end of a reverse is the first
pub first_taken : {A : Type 0} (xs ys : List A) (o : Option A) (n m : ℕ) → reverse xs ≡ ys ++ option_to_list o → m ≡ length ys →
    MatchOption o ((n ≡ 0) × (m ≡ 0)) (λ _. m + 1 ≡ n) → MatchOption o ((xs ≡ []) × (ys ≡ [])) (λ t. xs ≡ t ∷ reverse ys)
first_taken xs ys None n m taken same none =
    let empty : ys ≡ [] = nil_from_length ys (sym same ∙ none.1) in
    (reverse_nil xs (taken ∙ ap (λ l. l ++ []) empty), empty)
first_taken xs ys (Some t) n m taken same none = sym (reverse-reverse xs) ∙ reverse_last (reverse xs) ys t taken

-- a token that is moved from the front of a reverse
pub moved_first : (out out' : List Token) (xs ys : List Kept) (m : Kept) → xs ≡ ys ++ m ∷ [] → out' ≡ out ++ kept_token m ∷ [] →
    out' ++ map kept_token (reverse ys) ≡ out ++ map kept_token (reverse xs)
moved_first out out' xs ys m last put =
    ap (λ (l : List Token). l ++ map kept_token (reverse ys)) put
    ∙ append_assoc out (kept_token m ∷ []) (map kept_token (reverse ys))
    ∙ ap (λ (l : List Kept). out ++ map kept_token l) (sym (reverse_last xs ys m last))

-- an error reports what is given, as it reports the result
pub reports_given : (e : ExpandError) (ts : List Token) (r : Result Expanded Failure) → ReportsResult e r → ReportsResult e (given_before ts (given r))
reports_given (PublicCount name line) ts r h = ap (λ (q : Result Expanded Failure). given_before ts (given q)) h
reports_given (PublicUnclosed name line) ts r h = ap (λ (q : Result Expanded Failure). given_before ts (given q)) h
reports_given (PublicPaste left right line) ts r h = ap (λ (q : Result Expanded Failure). given_before ts (given q)) h
reports_given (PublicDeep line) ts r h = ap (λ (q : Result Expanded Failure). given_before ts (given q)) h
reports_given PublicWork ts r h = ap (λ (q : Result Expanded Failure). given_before ts (given q)) h
reports_given PublicMemory ts r h = tt

with_tokens : List Marked → Result Expanded Failure → Result Expanded Failure
with_tokens ts (Ok e) = Ok (record e { tokens = ts ++ e.tokens })
with_tokens ts (Err f) = Err f

before-lifted : {S : Type 0} (ts : List Marked) (r : Result Expanded Failure) (u : S) →
    before ts (record { result = lifted r; state = u }) ≡ record { result = lifted (with_tokens ts r); state = u }
unfolding with_tokens before answered_and_then after_result
before-lifted ts (Ok e) u = refl
before-lifted ts (Err f) u = refl

given-with : (out : List Kept) (r : Result Expanded Failure) → given (with_tokens (map marked_of out) r) ≡ given_before (map kept_token out) (given r)
unfolding with_tokens
given-with out (Ok e) =
    ap (λ (l : List Token). let q : Result Given Failure = Ok (record { tokens = l; units = e.units }) in q)
    (map-append (λ (m : Marked). m.token) (map marked_of out) e.tokens ∙ ap (λ (l : List Token). l ++ map (λ (m : Marked). m.token) e.tokens) (tokens_of_marked out))
given-with out (Err f) = refl

module _ {S : Type 0} (table : Table) (here : S → Place) (mode : Mode) where
  By : S → ℕ → List Kept → Result Expanded Failure
  By s units pending = expanded_by table (here s) mode 0 units (map marked_of pending)

  -- steps that put out these tokens
  pub stream_step : (s u : S) (units left : ℕ) (pending out later : List Kept) →
      expanded_for (table_answerer (λ _. table) here) s mode 0 units (map marked_of pending)
      ≡ before (map marked_of out) (expanded_for (table_answerer (λ _. table) here) u mode 0 left (map marked_of later)) →
      given (expanded_by table (here s) mode 0 units (map marked_of pending))
      ≡ given_before (map kept_token out) (given (expanded_by table (here u) mode 0 left (map marked_of later)))
  unfolding By
  stream_step s u units left pending out later step =
      ap given (result_is table here s mode units (map marked_of pending) (lifted (with_tokens (map marked_of out) (By u left later))) u
      (step ∙ ap (before (map marked_of out)) (by_is table here u mode left (map marked_of later)) ∙ before-lifted (map marked_of out) (By u left later) u)
      ∙ lowered-lifted (with_tokens (map marked_of out) (By u left later)))
      ∙ given-with out (By u left later)

  -- the same with what is ready
  pub stream_turn : (s u : S) (units left : ℕ) (pending out later ready others : List Kept) → ready ≡ [] → others ≡ out →
      expanded_for (table_answerer (λ _. table) here) s mode 0 units (map marked_of pending)
      ≡ before (map marked_of out) (expanded_for (table_answerer (λ _. table) here) u mode 0 left (map marked_of later)) →
      given_before (map kept_token ready) (given (expanded_by table (here s) mode 0 units (map marked_of pending)))
      ≡ given_before (map kept_token others) (given (expanded_by table (here u) mode 0 left (map marked_of later)))
  stream_turn s u units left pending out later ready others none same step =
      ap (λ (l : List Kept). given_before (map kept_token l) (given (expanded_by table (here s) mode 0 units (map marked_of pending)))) none
      ∙ given_before-nothing (given (expanded_by table (here s) mode 0 units (map marked_of pending)))
      ∙ stream_step s u units left pending out later step
      ∙ ap (λ (l : List Kept). given_before (map kept_token l) (given (expanded_by table (here u) mode 0 left (map marked_of later)))) (sym same)

  -- nothing is pending
  pub stream_end : (s : S) (units : ℕ) (pending ready : List Kept) → ready ≡ [] → pending ≡ [] →
      given_before (map kept_token ready) (given (expanded_by table (here s) mode 0 units (map marked_of pending))) ≡ Ok (record { tokens = []; units = units })
  stream_end s units pending ready none ended =
      ap (λ (l : List Kept). given_before (map kept_token l) (given (expanded_by table (here s) mode 0 units (map marked_of pending)))) none
      ∙ given_before-nothing (given (expanded_by table (here s) mode 0 units (map marked_of pending)))
      ∙ ap (λ (l : List Kept). given (expanded_by table (here s) mode 0 units (map marked_of l))) ended
      ∙ ap given
      (result_is table here s mode units [] (lifted (Ok (record { tokens = []; units = units }))) s (expanded_for-nil (table_answerer (λ _. table) here) s mode 0 units)
      ∙ lowered-lifted (Ok (record { tokens = []; units = units })))

failed : (r : Result Expanded Failure) (f : Failure) → given r ≡ Err f → r ≡ Err f
failed (Ok e) f same = absurd (cc)
failed (Err g) f same = let inner : g ≡ f = cc in ap (λ (h : Failure). let q : Result Expanded Failure = Err h in q) inner

-- what is given as a whole gives the tokens
pub gives_given : (r : Result Expanded Failure) (ts : List Token) (units : ℕ) → given r ≡ given_before ts (Ok (record { tokens = []; units = units })) → GivesTokens r ts units
gives_given (Ok e) ts units same =
    let q : Ok (record { tokens = map (λ (m : Marked). m.token) e.tokens; units = e.units }) ≡ Ok (record { tokens = ts ++ []; units = units }) = same in
    (ap (λ (x : Result Given Failure). given_tokens x) q ∙ append-nil ts, ap (λ (x : Result Given Failure). given_units x) q)
  where
    given_tokens : Result Given Failure → List Token
    given_tokens (Ok g) = g.tokens
    given_tokens (Err f) = []

    given_units : Result Given Failure → ℕ
    given_units (Ok g) = g.units
    given_units (Err f) = 0
gives_given (Err f) ts units same = absurd (cc)

-- an error that what is still to come has is that of the whole
pub reports_whole : (e : ExpandError) (r : Result Expanded Failure) (ts : List Token) (later : Result Given Failure) → given r ≡ given_before ts later → ReportsResult e later → ReportsResult e r
reports_whole (PublicCount name line) r ts later same h = failed r _ (same ∙ ap (given_before ts) h)
reports_whole (PublicUnclosed name line) r ts later same h = failed r _ (same ∙ ap (given_before ts) h)
reports_whole (PublicPaste left right line) r ts later same h = failed r _ (same ∙ ap (given_before ts) h)
reports_whole (PublicDeep line) r ts later same h = failed r _ (same ∙ ap (given_before ts) h)
reports_whole PublicWork r ts later same h = failed r _ (same ∙ ap (given_before ts) h)
reports_whole PublicMemory r ts later same h = tt

-- one token more that was given
pub given_turn : (whole : Result Given Failure) (ts ts' : List Token) (old new : Stream) (units left : ℕ) (t : Token) → whole ≡ given_before ts (to_come old units) →
    GivesNext (Some t) old units new left → ts' ≡ ts ++ t ∷ [] → whole ≡ given_before ts' (to_come new left)
given_turn whole ts ts' old new units left t kept gives put =
    kept
    ∙ ap (given_before ts) gives
    ∙ sym (given_before-both ts (t ∷ []) (to_come new left))
    ∙ ap (λ (l : List Token). given_before l (to_come new left)) (sym put)

-- Steps under a table.
module _ (table : Table) (mode : Mode) where
  stays_step : (s : TablePlace) (units : ℕ) (t : Kept) (rest : List Kept) → StaysAsItIs table mode t rest →
      expanded_for (table_answerer (λ _. table) (λ p. place_of p.here.now)) s mode 0 units (marked_of t ∷ map marked_of rest) ≡ before (marked_of t ∷ []) (expanded_for (table_answerer (λ _. table) (λ p. place_of p.here.now)) s mode 0 units (map marked_of rest))
  stays_step s units t rest (inl role) = expanded_for-ordinary (table_answerer (λ _. table) (λ p. place_of p.here.now)) s mode 0 units (marked_of t) (map marked_of rest) role
  stays_step s units t rest (inr (role, none)) = expanded_for-undefined (table_answerer (λ _. table) (λ p. place_of p.here.now)) s s mode 0 units (marked_of t) (map marked_of rest) role refl none

  -- a token that is put out as it is
  pub stays_turn : (s u : TablePlace) (units left : ℕ) (pending now rest out : List Kept) (t : Kept) → Becomes table s mode units pending [] u left now → now ≡ t ∷ rest → out ≡ [] →
      StaysAsItIs table mode t rest → Becomes table s mode units pending (t ∷ reverse out) u left rest
  stays_turn s u units left pending now rest out t kept is none stays =
      kept
      ∙ before-nothing _
      ∙ ap (λ (l : List Kept). expanded_for (table_answerer (λ _. table) (λ p. place_of p.here.now)) u mode 0 left (map marked_of l)) is
      ∙ stays_step u left t rest stays
      ∙ ap (λ (l : List Kept). before (map marked_of (t ∷ reverse l)) (expanded_for (table_answerer (λ _. table) (λ p. place_of p.here.now)) u mode 0 left (map marked_of rest))) (sym none)

  -- another token's step
  pub head_turn : (s u v : TablePlace) (units left less : ℕ) (pending now rest later none out us : List Kept) (t : Kept) → Becomes table s mode units pending [] u left now → now ≡ t ∷ rest →
      none ≡ [] → StepKeepsResult (table_answerer (λ _. table) (λ p. place_of p.here.now)) mode 0 u left none t rest v less out later → out ≡ us → Becomes table s mode units pending us v less later
  head_turn s u v units left less pending now rest later none out us t kept is empty goes same =
      kept
      ∙ ap (λ (l : List Kept). before [] (expanded_for (table_answerer (λ _. table) (λ p. place_of p.here.now)) u mode 0 left (map marked_of l))) is
      ∙ ap (λ (l : List Kept). before (map marked_of l) (expanded_for (table_answerer (λ _. table) (λ p. place_of p.here.now)) u mode 0 left (marked_of t ∷ map marked_of rest))) (sym empty)
      ∙ goes
      ∙ ap (λ (l : List Kept). before (map marked_of l) (expanded_for (table_answerer (λ _. table) (λ p. place_of p.here.now)) v mode 0 less (map marked_of later))) same

  pub head_stops : (e : RunError) (s u v : TablePlace) (units left : ℕ) (pending now rest : List Kept) (t : Kept) → Becomes table s mode units pending [] u left now → now ≡ t ∷ rest →
      Stops e v (expanded_for (table_answerer (λ _. table) (λ p. place_of p.here.now)) u mode 0 left (marked_of t ∷ map marked_of rest)) → Stops e v (expanded_for (table_answerer (λ _. table) (λ p. place_of p.here.now)) s mode 0 units (map marked_of pending))
  head_stops e s u v units left pending now rest t kept is stops =
      Stops-is e v _ _ (kept ∙ before-nothing _ ∙ ap (λ (l : List Kept). expanded_for (table_answerer (λ _. table) (λ p. place_of p.here.now)) u mode 0 left (map marked_of l)) is) stops

-- a token that no macro touches, at the front of what is pending, comes first whatever the units
pub lent_first : (entries : TableEntries) (s : TablePlace) (mode : Mode) (ready pending later : List Kept) (t : Token) → ready ≡ [] → TakesUntouched (lookup entries) mode t pending later →
    (units : ℕ) → given_before (map kept_token ready) (given (expanded_by (lookup entries) (place_of s.here.now) mode 0 units (map marked_of pending)))
    ≡ given_before (t ∷ []) (given_before (map kept_token ready) (given (expanded_by (lookup entries) (place_of s.here.now) mode 0 units (map marked_of later))))
lent_first entries s mode ready pending later t none (m, (same, (is, stays))) units =
    stream_turn (lookup entries) (λ (p : TablePlace). place_of p.here.now) mode s s units units pending (m ∷ []) later ready (m ∷ []) none refl
    (stays_turn (lookup entries) mode s s units units pending pending later [] m (sym (before-nothing _)) is refl stays)
    ∙ ap (λ (x : Token). given_before (x ∷ []) (given (expanded_by (lookup entries) (place_of s.here.now) mode 0 units (map marked_of later)))) same
    ∙ ap (given_before (t ∷ []))
    (sym
    (ap (λ (l : List Kept). given_before (map kept_token l) (given (expanded_by (lookup entries) (place_of s.here.now) mode 0 units (map marked_of later)))) none
    ∙ given_before-nothing (given (expanded_by (lookup entries) (place_of s.here.now) mode 0 units (map marked_of later)))))

-- the same of all that are taken one after another
pub lent_each : (entries : TableEntries) (s : TablePlace) (mode : Mode) (ready pending later : List Kept) (ts : List Token) → ready ≡ [] → TakesEach (lookup entries) mode ts pending later →
    (units : ℕ) → given_before (map kept_token ready) (given (expanded_by (lookup entries) (place_of s.here.now) mode 0 units (map marked_of pending)))
    ≡ given_before ts (given_before (map kept_token ready) (given (expanded_by (lookup entries) (place_of s.here.now) mode 0 units (map marked_of later))))
lent_each entries s mode ready pending later [] none same units =
    ap (λ (l : List Kept). given_before (map kept_token ready) (given (expanded_by (lookup entries) (place_of s.here.now) mode 0 units (map marked_of l)))) same
    ∙ sym (given_before-nothing _)
lent_each entries s mode ready pending later (t ∷ ts) none (mid, (first, each)) units =
    lent_first entries s mode ready pending mid t none first units
    ∙ ap (given_before (t ∷ [])) (lent_each entries s mode ready mid later ts none each units)
    ∙ sym (given_before-both (t ∷ []) ts _)

pub taken_length : (table : Table) (mode : Mode) (ts : List Token) (old new : List Kept) → TakesEach table mode ts old new → length new + length ts ≡ length old
taken_length table mode [] old new same = omega (arith, ap length same)
taken_length table mode (t ∷ ts) old new (mid, (first, each)) = omega (arith, taken_length table mode ts mid new each, ap length first.1.1.0)

-- A `DEFINED` WITH ITS OPERAND

plain_tokens : (ts : List Token) → map kept_token (map kept_plain ts) ≡ ts
plain_tokens [] = refl
plain_tokens (t ∷ ts) = ap (λ (l : List Token). t ∷ l) (plain_tokens ts)

plain_length : (ts : List Token) (later : List Kept) → length (map kept_plain ts ++ later) ≡ length ts + length later
plain_length [] later = omega arith
plain_length (t ∷ ts) later = omega (arith, plain_length ts later)

name_alone : (n : Marked) (later : List Marked) → is_identifier n.token ≡ true → operand_of_defined (n ∷ later) ≡ (n ∷ [], later)
name_alone n [] id = rw id refl
name_alone n (x ∷ []) id = rw id refl
name_alone n (x ∷ y ∷ zs) id = rw id refl

name_between : (a n b : Marked) (later : List Marked) → is_identifier a.token ≡ false → is_open a.token ≡ true → is_identifier n.token ≡ true → is_close b.token ≡ true →
    operand_of_defined (a ∷ n ∷ b ∷ later) ≡ (a ∷ n ∷ b ∷ [], later)
name_between a n b later other opens id closes = rw (other, opens, id, closes) refl

-- an operand is what a `defined` before it takes along
operand_taken : (name : Token) (operand : List Token) (later : List Kept) → IsOperand name operand →
    operand_of_defined (map marked_of (map kept_plain operand ++ later)) ≡ (map marked_of (map kept_plain operand), map marked_of later)
operand_taken name operand later (id, inl is) = rw is (name_alone (marked_of (kept_plain name)) (map marked_of later) id)
operand_taken name operand later (id, inr (a, (b, (marks, is)))) =
    rw is (name_between (marked_of (kept_plain a)) (marked_of (kept_plain name)) (marked_of (kept_plain b)) (map marked_of later) marks.0 marks.1.0 id marks.1.1)

some_operand : (name : Token) (operand : List Token) → IsOperand name operand → is_some_tokens (map marked_of (map kept_plain operand)) ≡ true
some_operand name operand (id, inl is) = rw is refl
some_operand name operand (id, inr (a, (b, (marks, is)))) = rw is refl

role_defined : (mode : Mode) (t : Marked) (rest : List Marked) → mode ≡ Condition → is_word (codes "defined") t.token ≡ true → has_operand rest ≡ true → head_role mode t rest ≡ Defined
unfolding head_role
role_defined mode t rest condition word some =
    let both = and_parts (is_identifier t.token) (bytes_eq t.token.text (codes "defined")) word in
    rw (condition, both.0, both.1, some) refl

-- a `defined` and its operand at the front of what is pending come first whatever the units
pub defined_first : (entries : TableEntries) (s : TablePlace) (mode : Mode) (ready pending later : List Kept) (name : Token) → mode ≡ Condition → ready ≡ [] →
    (taken : TakesDefined name pending later) → (units : ℕ) →
    given_before (map kept_token ready) (given (expanded_by (lookup entries) (place_of s.here.now) mode 0 units (map marked_of pending)))
    ≡ given_before (taken.0 ∷ taken.1.0) (given_before (map kept_token ready) (given (expanded_by (lookup entries) (place_of s.here.now) mode 0 units (map marked_of later))))
defined_first entries s mode ready pending later name condition none (word, (operand, ((is_defined, is_operand), is))) units =
    stream_turn (lookup entries) (λ (p : TablePlace). place_of p.here.now) mode s s units units pending out later ready out none refl step
    ∙ ap (λ (l : List Token). given_before l (given (expanded_by (lookup entries) (place_of s.here.now) mode 0 units (map marked_of later)))) (plain_tokens (word ∷ operand))
    ∙ ap (given_before (word ∷ operand))
    (sym
    (ap (λ (l : List Kept). given_before (map kept_token l) (given (expanded_by (lookup entries) (place_of s.here.now) mode 0 units (map marked_of later)))) none
    ∙ given_before-nothing (given (expanded_by (lookup entries) (place_of s.here.now) mode 0 units (map marked_of later)))))
  where
    out : List Kept
    out = map kept_plain (word ∷ operand)

    behind : List Marked
    behind = map marked_of (map kept_plain operand ++ later)

    answers : Answerer TablePlace
    answers = table_answerer (λ (_ : TablePlace). lookup entries) (λ (p : TablePlace). place_of p.here.now)

    role : head_role mode (marked_of (kept_plain word)) behind ≡ Defined
    role =
        role_defined mode (marked_of (kept_plain word)) behind condition is_defined
        (ap (λ (p : List Marked × List Marked). is_some_tokens p.0) (operand_taken name operand later is_operand) ∙ some_operand name operand is_operand)

    step : expanded_for answers s mode 0 units (map marked_of pending) ≡ before (map marked_of out) (expanded_for answers s mode 0 units (map marked_of later))
    step =
        ap (λ (l : List Kept). expanded_for answers s mode 0 units (map marked_of l)) is
        ∙ expanded_for-defined answers s mode 0 units (marked_of (kept_plain word)) behind role
        ∙ ap (λ (p : List Marked × List Marked). before (marked_of (kept_plain word) ∷ p.0) (expanded_for answers s mode 0 units p.1)) (operand_taken name operand later is_operand)

pub defined_length : (name : Token) (old new : List Kept) → (taken : TakesDefined name old new) → length new + length (taken.0 ∷ taken.1.0) ≡ length old
defined_length name old new (word, (operand, (both, is))) = omega (arith, ap length is, plain_length (word ∷ operand) new)
