-- What one step of the loop over pending tokens keeps, whoever answers.
use Rattle.std.proofs.Common.{◌≡◌, refl, ℕ, ◌+◌, ◌≤◌, List, [], ◌∷◌, ◌++◌, map, length, ap, sym, ◌∙◌, subst, Result, Ok, Err, Option, Some, None, arith, append_assoc, OnOk, inl, inr}
use Rattle.std.specs.Prelude.{◌⊎◌, IfErr}
use Rattle.std.specs.Option.{option_map}
use Rattle.std.proofs.lemmas.List.{map-append, length-map, append-nil}
use Rattle.macro_expand.specs.declared.outcome.Mode.{Mode}
use Rattle.pp_tokens.specs.declared.Kind.TheVariants.{Str, Number}
use Rattle.macro_expand.specs.declared.marked.Role.TheVariants.{Ordinary, Defined, FileName, LineNumber}
use Rattle.macro_expand.specs.declared.marked.Marked.{Marked as Kept}
use Rattle.macro_expand.specs.declared.outcome.RunError.{RunError}
use Rattle.macro_expand.specs.declared.outcome.RunError.TheVariants.{Count as CountError, Unclosed as UnclosedError, Paste as PasteError, Deep as DeepError, Work as WorkError, Presumed as PresumedError, Memory}
use Rattle.macro_expand.specs.Asking.{Failure, Work}
use Rattle.macro_expand.specs.Replacement.{Marked}
use Rattle.macro_expand.specs.Expansion.{Expanded, head_role, operand_of_defined, replaced_token, in_quotes}
use Rattle.macro_expand.specs.Answered.{Answerer, Reply, Stop, ByFailure, ByPresumed, Answered, after_result, answered_and_then, before, expanded_for, charged_for}
use Rattle.macro_expand.specs.Seen.{marked_of, Reports, Stops, StepKeepsResult, HasTokens}
use Rattle.pp_tokens.specs.declared.Token.{Token}
use Rattle.macro_expand.proofs.AnsweredLaws.{before-nothing, before-before, expanded_for-nil, expanded_for-ordinary, expanded_for-defined, expanded_for-file_unknown, expanded_for-file_paid, expanded_for-file_work, expanded_for-line_unknown, expanded_for-line_paid, expanded_for-line_work, charged_for-paid, charged_for-work}

pub tokens_of_marked : (list : List Kept) → map (λ (m : Marked). m.token) (map marked_of list) ≡ map (λ (m : Kept). m.token) list
tokens_of_marked [] = refl
tokens_of_marked (m ∷ ms) = ap (λ ts. m.token ∷ ts) (tokens_of_marked ms)

pub on_ok-map : {A E : Type 0} {P Q : Type 0} (r : Result A E) → (P → Q) → OnOk r P → OnOk r Q
on_ok-map (Ok x) f h = f h
on_ok-map (Err e) f h = h

pub on_ok-both : {A E : Type 0} {P Q R : Type 0} (r : Result A E) → (P → Q → R) → OnOk r P → OnOk r Q → OnOk r R
on_ok-both (Ok x) f p q = f p q
on_ok-both (Err e) f p q = q

pub on_ok-three : {A E : Type 0} {P Q R T : Type 0} (r : Result A E) → (P → Q → R → T) → OnOk r P → OnOk r Q → OnOk r R → OnOk r T
on_ok-three (Ok x) f p q h = f p q h
on_ok-three (Err e) f p q h = h

pub if_err-map : {A E : Type 0} {P Q : E → Type 0} (r : Result A E) → ((e : E) → P e → Q e) → IfErr r P → IfErr r Q
if_err-map (Ok x) f h = h
if_err-map (Err e) f h = f e h

-- where a part stops, so does the whole, in the same way
pub Stops-same : {A B S : Type 0} (e : RunError) (s : S) (a : Answered A S) (b : Answered B S) →
    ((why : Stop) → a ≡ record { result = Err why; state = s } → b ≡ record { result = Err why; state = s }) → Stops e s a → Stops e s b
Stops-same (CountError name line) s a b h k = h _ k
Stops-same (UnclosedError name line) s a b h k = h _ k
Stops-same (PasteError left right line) s a b h k = h _ k
Stops-same (DeepError line) s a b h k = h _ k
Stops-same WorkError s a b h k = h _ k
Stops-same PresumedError s a b h k = h _ k
Stops-same Memory s a b h k = tt

pub Stops-is : {A S : Type 0} (e : RunError) (s : S) (a b : Answered A S) → b ≡ a → Stops e s a → Stops e s b
Stops-is e s a b is stops = subst (λ q. Stops e s q) (sym is) stops

-- an error that reports a pure part's result stops the whole
pub Stops-reports : {A B S : Type 0} (e : RunError) (s : S) (r : Result A Failure) (b : Answered B S) →
    ((f : Failure) → r ≡ Err f → b ≡ record { result = Err (ByFailure f); state = s }) → Reports e r → Stops e s b
Stops-reports (CountError name line) s r b h k = h _ k
Stops-reports (UnclosedError name line) s r b h k = h _ k
Stops-reports (PasteError left right line) s r b h k = h _ k
Stops-reports (DeepError line) s r b h k = h _ k
Stops-reports WorkError s r b h k = h _ k
Stops-reports PresumedError s r b h k = absurd k
Stops-reports Memory s r b h k = tt

Stops-memory : {A S : Type 0} (e : RunError) (s : S) (b : Answered A S) → e ≡ Memory → Stops e s b
Stops-memory e s b is = subst (λ q. Stops q s b) (sym is) tt

from_quotes : (o : Option (List ℕ)) (text : List ℕ) → option_map in_quotes o ≡ Some text → (name : List ℕ) × ((o ≡ Some name) × (in_quotes name ≡ text))
from_quotes None text e = absurd (cc)
from_quotes (Some name) text e = (name, (refl, cc))

module _ {S : Type 0} (w : Answerer S) (mode : Mode) (depth : ℕ) where
  -- tokens that are put out, and the rest
  goes_on-put : (s u : S) (units left : ℕ) (t : Kept) (ts out out' pending pending' : List Kept) →
      expanded_for w s mode depth units (marked_of t ∷ map marked_of pending)
      ≡ before (map marked_of ts) (expanded_for w u mode depth left (map marked_of pending')) →
      out' ≡ out ++ ts →
      StepKeepsResult w mode depth s units out t pending u left out' pending'
  goes_on-put s u units left t ts out out' pending pending' step made =
      ap (before (map marked_of out)) step
      ∙ before-before (map marked_of out) (map marked_of ts) _
      ∙ ap (λ q. before q (expanded_for w u mode depth left (map marked_of pending')))
      (sym (map-append marked_of out ts) ∙ ap (map marked_of) (sym made))

  pub goes_on-ordinary : (s : S) (units : ℕ) (t : Kept) (out out' pending : List Kept) → head_role mode (marked_of t) (map marked_of pending) ≡ Ordinary →
      out' ≡ out ++ t ∷ [] → StepKeepsResult w mode depth s units out t pending s units out' pending
  goes_on-ordinary s units t out out' pending role made =
      goes_on-put s s units units t (t ∷ []) out out' pending pending
      (expanded_for-ordinary w s mode depth units (marked_of t) (map marked_of pending) role) made

  -- a name that is put out, by what was read of it
  pub goes_on-left : (s u : S) (units : ℕ) (t : Kept) (out out' pending after : List Kept) →
      expanded_for w s mode depth units (marked_of t ∷ map marked_of pending)
      ≡ before (marked_of t ∷ []) (expanded_for w u mode depth units (map marked_of after)) →
      out' ≡ out ++ t ∷ [] → StepKeepsResult w mode depth s units out t pending u units out' after
  goes_on-left s u units t out out' pending after step made = goes_on-put s u units units t (t ∷ []) out out' pending after step made

  pub goes_on-defined : (s : S) (units : ℕ) (t : Kept) (out mid out' pending pending' : List Kept) → head_role mode (marked_of t) (map marked_of pending) ≡ Defined →
      mid ≡ out ++ t ∷ [] →
      (map marked_of out' ≡ map marked_of mid ++ (operand_of_defined (map marked_of pending)).0)
      × (map marked_of pending' ≡ (operand_of_defined (map marked_of pending)).1) →
      StepKeepsResult w mode depth s units out t pending s units out' pending'
  goes_on-defined s units t out mid out' pending pending' role made moved =
      ap (before (map marked_of out)) (expanded_for-defined w s mode depth units (marked_of t) (map marked_of pending) role)
      ∙ before-before (map marked_of out) (marked_of t ∷ (operand_of_defined (map marked_of pending)).0) _
      ∙ ap (λ q. before (map marked_of out ++ marked_of t ∷ (operand_of_defined (map marked_of pending)).0) (expanded_for w s mode depth units q)) (sym moved.1)
      ∙ ap (λ q. before q (expanded_for w s mode depth units (map marked_of pending')))
      (sym (moved.0 ∙ ap (λ q. map marked_of q ++ (operand_of_defined (map marked_of pending)).0) made
      ∙ ap (λ q. q ++ (operand_of_defined (map marked_of pending)).0) (map-append marked_of out (t ∷ []))
      ∙ append_assoc (map marked_of out) (marked_of t ∷ []) (operand_of_defined (map marked_of pending)).0))

  -- a replacement that is paid and put in before the tokens after it, or can't be paid
  module _ (u : S) (paid : ℕ) (made after : List Kept) (whole : Answered Expanded S)
      (step : whole ≡ charged_for w u mode depth paid (Ok (map marked_of made)) (map marked_of after)) where
    pub put_in-paid : (left : ℕ) (next : List Kept) → next ≡ made ++ after → left + length made + 1 ≡ paid →
        whole ≡ expanded_for w u mode depth left (map marked_of next)
    put_in-paid left next joined pays =
        step
        ∙ charged_for-paid w u mode depth paid (map marked_of made) (map marked_of after) left (omega (arith, length-map made marked_of))
        ∙ ap (expanded_for w u mode depth left) (sym (map-append marked_of made after) ∙ ap (map marked_of) (sym joined))

    pub put_in-stops : (r : Result (Unit {0}) RunError) → IfErr r (λ e. (e ≡ Memory) ⊎ ((e ≡ WorkError) × (paid ≤ length made))) → IfErr r (λ e. Stops e u whole)
    put_in-stops (Ok x) h = h
    put_in-stops (Err e) (inl is) = Stops-memory e u whole is
    put_in-stops (Err e) (inr (is, out)) =
        subst (λ q. Stops q u whole) (sym is)
        (step ∙ charged_for-work w u mode depth paid (map marked_of made) (map marked_of after) (omega (arith, out, length-map made marked_of)))

  -- where nothing is put out
  pub goes_on-behind : (s u : S) (units left : ℕ) (t : Kept) (out pending next : List Kept) →
      expanded_for w s mode depth units (marked_of t ∷ map marked_of pending) ≡ expanded_for w u mode depth left (map marked_of next) →
      StepKeepsResult w mode depth s units out t pending u left out next
  goes_on-behind s u units left t out pending next step = ap (before (map marked_of out)) step

  module _ (s u : S) (units : ℕ) (t : Kept) (pending : List Kept) where
    Head : Answered Expanded S
    Head = expanded_for w s mode depth units (marked_of t ∷ map marked_of pending)

    -- a presumed text that isn't known
    text_unknown : (e : RunError) (r : Reply (Option (List ℕ)) S) →
        (r.answer ≡ None → r.state ≡ u → Head ≡ record { result = Err ByPresumed; state = u }) →
        (e ≡ Memory) ⊎ ((e ≡ PresumedError) × ((r.answer ≡ None) × (u ≡ r.state))) → Stops e u Head
    text_unknown e r stops (inl is) = Stops-memory e u Head is
    text_unknown e r stops (inr (is, (none, state))) = subst (λ q. Stops q u Head) (sym is) (stops none (sym state))

    -- a replacement of one token that can't be paid
    one_unpaid : (e : RunError) → (units ≤ 1 → Head ≡ record { result = Err (ByFailure Work); state = u }) →
        (e ≡ Memory) ⊎ ((e ≡ WorkError) × (units ≤ 1)) → Stops e u Head
    one_unpaid e stops (inl is) = Stops-memory e u Head is
    one_unpaid e stops (inr (is, out)) = subst (λ q. Stops q u Head) (sym is) (stops out)

    -- one token that is put out in place of the head
    goes_on-placed : (left : ℕ) (placed : Marked) (out out' : List Kept) →
        Head ≡ before (placed ∷ []) (expanded_for w u mode depth left (map marked_of pending)) →
        map marked_of out' ≡ map marked_of out ++ placed ∷ [] → StepKeepsResult w mode depth s units out t pending u left out' pending
    unfolding Head
    goes_on-placed left placed out out' step made =
        ap (before (map marked_of out)) step
        ∙ before-before (map marked_of out) (placed ∷ []) _
        ∙ ap (λ q. before q (expanded_for w u mode depth left (map marked_of pending))) (sym made)

    module _ (role : head_role mode (marked_of t) (map marked_of pending) ≡ FileName) where
      pub file_unknown : (e : RunError) →
          (e ≡ Memory) ⊎ ((e ≡ PresumedError) × (((w.file s).answer ≡ None) × (u ≡ (w.file s).state))) →
          Stops e u (expanded_for w s mode depth units (marked_of t ∷ map marked_of pending))
      unfolding Head
      file_unknown e =
          text_unknown e (w.file s) (λ none state.
          expanded_for-file_unknown w s mode depth units (marked_of t) (map marked_of pending) u role state none)

      module _ (state : u ≡ (w.file s).state) (text : List ℕ) (known : option_map in_quotes (w.file s).answer ≡ Some text) where
        pub file_work : (e : RunError) → (e ≡ Memory) ⊎ ((e ≡ WorkError) × (units ≤ 1)) →
            Stops e u (expanded_for w s mode depth units (marked_of t ∷ map marked_of pending))
        unfolding Head
        file_work e =
            let named = from_quotes (w.file s).answer text known in
            one_unpaid e (λ out. expanded_for-file_work w s mode depth units (marked_of t) (map marked_of pending) u role (sym state) named.0 named.1.0 out)

        pub goes_on-file : (left : ℕ) (out out' : List Kept) → left + 2 ≡ units →
            map marked_of out' ≡ map marked_of out ++ replaced_token (marked_of t) Str text ∷ [] →
            StepKeepsResult w mode depth s units out t pending u left out' pending
        unfolding Head
        goes_on-file left out out' paid made =
            let named = from_quotes (w.file s).answer text known in
            goes_on-placed left (replaced_token (marked_of t) Str text) out out'
            (expanded_for-file_paid w s mode depth units (marked_of t) (map marked_of pending) u role (sym state) named.0 left named.1.0 paid
            ∙ ap (λ q. before (replaced_token (marked_of t) Str q ∷ []) (expanded_for w u mode depth left (map marked_of pending))) named.1.1) made

    module _ (role : head_role mode (marked_of t) (map marked_of pending) ≡ LineNumber) where
      pub line_unknown : (e : RunError) →
          (e ≡ Memory) ⊎ ((e ≡ PresumedError) × (((w.line s t.token.line).answer ≡ None) × (u ≡ (w.line s t.token.line).state))) →
          Stops e u (expanded_for w s mode depth units (marked_of t ∷ map marked_of pending))
      unfolding Head
      line_unknown e =
          text_unknown e (w.line s t.token.line) (λ none state.
          expanded_for-line_unknown w s mode depth units (marked_of t) (map marked_of pending) u role state none)

      module _ (state : u ≡ (w.line s t.token.line).state) (text : List ℕ) (known : (w.line s t.token.line).answer ≡ Some text) where
        pub line_work : (e : RunError) → (e ≡ Memory) ⊎ ((e ≡ WorkError) × (units ≤ 1)) →
            Stops e u (expanded_for w s mode depth units (marked_of t ∷ map marked_of pending))
        unfolding Head
        line_work e =
            one_unpaid e (λ out. expanded_for-line_work w s mode depth units (marked_of t) (map marked_of pending) u role (sym state) text known out)

        pub goes_on-line : (left : ℕ) (out out' : List Kept) → left + 2 ≡ units →
            map marked_of out' ≡ map marked_of out ++ replaced_token (marked_of t) Number text ∷ [] →
            StepKeepsResult w mode depth s units out t pending u left out' pending
        unfolding Head
        goes_on-line left out out' paid made =
            goes_on-placed left (replaced_token (marked_of t) Number text) out out'
            (expanded_for-line_paid w s mode depth units (marked_of t) (map marked_of pending) u role (sym state) text left known paid) made

  -- The loop over steps: `whole` is what the list becomes.
  module _ (whole : Answered Expanded S) where
    abbrev pub Keeps : List Kept → S → ℕ → List Kept → Type 0
    Keeps out s units pending = whole ≡ before (map marked_of out) (expanded_for w s mode depth units (map marked_of pending))

    pub keeps_step : (out out' : List Kept) (t : Kept) (s u : S) (units left : ℕ) (pending rest rest' : List Kept) → pending ≡ t ∷ rest →
        StepKeepsResult w mode depth s units out t rest u left out' rest' → Keeps out s units pending → Keeps out' u left rest'
    keeps_step out out' t s u units left pending rest rest' is step keeps =
        keeps ∙ ap (λ q. before (map marked_of out) (expanded_for w s mode depth units (map marked_of q))) is ∙ step

    pub stops_step : (out : List Kept) (t : Kept) (s u : S) (units : ℕ) (pending rest : List Kept) (e : RunError) → pending ≡ t ∷ rest →
        Stops e u (expanded_for w s mode depth units (marked_of t ∷ map marked_of rest)) → Keeps out s units pending → Stops e u whole
    unfolding before answered_and_then after_result
    stops_step out t s u units pending rest e is stops keeps =
        Stops-same e u _ _ (λ f failed.
        keeps ∙ ap (before (map marked_of out))
        (ap (λ q. expanded_for w s mode depth units (map marked_of q)) is ∙ failed))
        stops

    pub keeps_end : (out : List Kept) (s : S) (units : ℕ) (pending : List Kept) → pending ≡ [] → Keeps out s units pending →
        whole ≡ record { result = Ok (record { tokens = map marked_of out; units = units }); state = s }
    unfolding before answered_and_then after_result
    keeps_end out s units pending is keeps =
        keeps ∙ ap (before (map marked_of out))
        (ap (λ q. expanded_for w s mode depth units (map marked_of q)) is
        ∙ expanded_for-nil w s mode depth units)
        ∙ ap (λ q. record { result = Ok (record { tokens = q; units = units }); state = s }) (append-nil (map marked_of out))

    -- The same for a list that keeps its tokens without their hide sets.
    abbrev pub KeepsTokens : List Token → S → ℕ → List Kept → Type 0
    KeepsTokens out s units pending = (list : List Kept) × (Keeps list s units pending × (out ≡ map (λ m. m.token) list))

    -- the step puts out into a list of its own, which is moved behind the others
    pub keeps_tokens_step : (out out' : List Token) (put made : List Kept) (t : Kept) (s u : S) (units left : ℕ) (pending rest rest' : List Kept) →
        pending ≡ t ∷ rest → put ≡ [] → StepKeepsResult w mode depth s units put t rest u left made rest' → out' ≡ out ++ map (λ m. m.token) made →
        KeepsTokens out s units pending → KeepsTokens out' u left rest'
    keeps_tokens_step out out' put made t s u units left pending rest rest' is empty step moved (list, (keeps, tokens)) = (
      list ++ made,
      (
        keeps_step list (list ++ made) t s u units left pending rest rest' is
            (goes_on-put s u units left t made list (list ++ made) rest rest'
            (sym (before-nothing _) ∙ ap (λ q. before (map marked_of q) (expanded_for w s mode depth units (marked_of t ∷ map marked_of rest))) (sym empty) ∙ step) refl)
            keeps,
        moved ∙ ap (λ q. q ++ map (λ m. m.token) made) tokens ∙ sym (map-append (λ (m : Kept). m.token) list made),
      ),
    )

    pub stops_tokens_step : (out : List Token) (t : Kept) (s u : S) (units : ℕ) (pending rest : List Kept) (e : RunError) → pending ≡ t ∷ rest →
        Stops e u (expanded_for w s mode depth units (marked_of t ∷ map marked_of rest)) → KeepsTokens out s units pending → Stops e u whole
    stops_tokens_step out t s u units pending rest e is stops (list, (keeps, tokens)) =
        stops_step list t s u units pending rest e is stops keeps

    pub keeps_tokens_end : (out : List Token) (s : S) (units : ℕ) (pending : List Kept) → pending ≡ [] → KeepsTokens out s units pending →
        HasTokens whole out units s
    keeps_tokens_end out s units pending is (list, (keeps, tokens)) =
        (map marked_of list, (keeps_end list s units pending is keeps, tokens_of_marked list ∙ sym tokens))
