-- What the name at the head of pending tokens does, from what the code found, whoever answers.
use Rattle.std.proofs.Common.{◌≡◌, ◌≤◌, true, subst, ℕ, suc, arith, ◌+◌, Vec, Global, get_or, append-nil, add-one, ◌<◌, Bool, false, List, [], ◌∷◌, ◌++◌, map, length, take, drop, refl, ap, sym, ◌∙◌, Result, Ok, Err, IfOk, IfErr, Option, Some, None}
use Rattle.std.proofs.lemmas.List.{map-append, length-map, get_or_default, take_all, drop_all}
use Rattle.macro_expand.specs.declared.outcome.Mode.{Mode}
use Rattle.macro_expand.specs.declared.marked.Role.TheVariants.{Name}
use Rattle.macro_defs.specs.declared.definition.Shape.TheVariants.{Object, Function}
use Rattle.pp_tokens.specs.declared.Token.{Token}
use Rattle.macro_expand.specs.declared.marked.Marked.{Marked as Kept}
use Rattle.macro_expand.specs.declared.outcome.RunError.{RunError}
use Rattle.macro_expand.specs.declared.outcome.RunError.TheVariants.{Count as CountError, Unclosed as UnclosedError, Paste as PasteError, Deep as DeepError, Work as WorkError, Presumed as PresumedError, Memory}
use Rattle.macro_defs.specs.MacroDefinition.{MacroDefinition}
use mathlib.Core.Path.{fun_ext}
use Rattle.macro_expand.specs.declared.name.MacroCall.{MacroCall}
use Rattle.macro_expand.specs.declared.name.ReadName.{ReadName}
use Rattle.macro_expand.specs.declared.name.ReadName.TheVariants.{Itself, Object as Joined, Lent, Call}
use Rattle.macro_expand.specs.Asking.{Failure, Count, Unclosed, Deep}
use Rattle.macro_expand.specs.Replacement.{Marked, after_open, BodyPart, body_parts, stands_alone}
use Rattle.macro_expand.specs.Expansion.{Expanded, ExpandedEach, head_role, object_replacement, variable_of, call_replacement}
use Rattle.macro_expand.specs.Answered.{Answerer, ByFailure, Answered, after_result, answered_and_then, before, expanded_for, charged_for, argument_for, arguments_for}
use Rattle.macro_expand.specs.Seen.{marked_of, lists_of, Reports, Stops, ReadsCall, RefusesCall, KeepsWritten, SameWhereAlone, call_replaced_by}
use Rattle.macro_expand.specs.parts.Parts.{parts_told}
use Rattle.macro_expand.specs.parts.Naming.{StandAlone, ReadsObject, called_for, named_for}
use Rattle.macro_expand.specs.parts.Steps.{EachStaysFor}
use Rattle.base_types.specs.Limits.{argument_depth_limit}
use Rattle.macro_expand.proofs.AnsweredLaws.{expanded_for-staying, argument_for-skipped, argument_for-deep, argument_for-alone, expanded_for-undefined, expanded_for-object, expanded_for-not_called, expanded_for-unclosed, expanded_for-count, expanded_for-called, charged_for-error, before_all, before_all-lists, arguments_for-next, arguments_for-nil}
use Rattle.macro_expand.proofs.PieceLemmas.{written_is}
use Rattle.macro_expand.proofs.LoopLaws.{Stops-is, Stops-same, Stops-reports}

-- Arguments whose parameters stand alone nowhere aren't expanded, so that nothing may be given in their place.

argument_given : {S : Type 0} (w : Answerer S) (s : S) (mode : Mode) (depth units : ℕ) (t : Token) (alone : Bool) (a g : List Marked) → (alone ≡ true → g ≡ a) →
    argument_for w s mode depth t alone units g ≡ argument_for w s mode depth t alone units a
argument_given w s mode depth units t true a g same = ap (argument_for w s mode depth t true units) (same refl)
argument_given w s mode depth units t false a g same = argument_for-skipped w s mode depth t units g ∙ sym (argument_for-skipped w s mode depth t units a)

given_expand : {S : Type 0} (w : Answerer S) (mode : Mode) (depth : ℕ) (t : Token) (parts : List BodyPart)
    (alone : List Bool) (written given : List (List Marked)) (i : ℕ) → SameWhereAlone alone written given →
    ((k : ℕ) → k < length written → get_or alone k false ≡ stands_alone (k + i) None parts) → (s : S) (units : ℕ) →
    arguments_for w s mode depth t parts i units given ≡ arguments_for w s mode depth t parts i units written
given_expand w mode depth t parts [] [] [] i same each s units = refl
given_expand w mode depth t parts (b ∷ bs) (a ∷ ws) (g ∷ gs) i same each s units =
    let here : 0 + i ≡ i = omega arith in
    let stands : stands_alone i None parts ≡ b = sym (each 0 (omega arith) ∙ ap (λ n. stands_alone n None parts) here) in
    arguments_for-next w s mode depth t parts i units g gs b stands
    ∙ ap (λ r. answered_and_then r (λ e v. before_all (e.tokens ∷ []) (arguments_for w v mode depth t parts (suc i) e.units gs)))
    (argument_given w s mode depth units t b a g same.0)
    ∙ ap (answered_and_then (argument_for w s mode depth t b units a))
    (fun_ext (λ e. fun_ext (λ v. ap (before_all (e.tokens ∷ []))
    (given_expand w mode depth t parts bs ws gs (suc i) same.1
    (λ k below.
    let there : suc k + i ≡ k + suc i = omega arith in
    each (suc k) (omega (arith, below)) ∙ ap (λ n. stands_alone n None parts) there) v e.units))))
    ∙ sym (arguments_for-next w s mode depth t parts i units a ws b stands)
given_expand w mode depth t parts [] [] (g ∷ gs) i same each s units = absurd same
given_expand w mode depth t parts [] (a ∷ ws) given i same each s units = absurd same
given_expand w mode depth t parts (b ∷ bs) [] given i same each s units = absurd same
given_expand w mode depth t parts (b ∷ bs) (a ∷ ws) [] i same each s units = absurd same

given-length : (alone : List Bool) (written given : List (List Marked)) → SameWhereAlone alone written given → length given ≡ length written
given-length [] [] [] same = refl
given-length (b ∷ bs) (a ∷ ws) (g ∷ gs) same = ap suc (given-length bs ws gs same.1)
given-length [] [] (g ∷ gs) same = absurd same
given-length [] (a ∷ ws) given same = absurd same
given-length (b ∷ bs) [] given same = absurd same
given-length (b ∷ bs) (a ∷ ws) [] same = absurd same

module _ {S : Type 0} (w : Answerer S) (s u : S) (mode : Mode) (depth units : ℕ) (t : Kept) (rest : List Kept)
    (role : head_role mode (marked_of t) (map marked_of rest) ≡ Name) (state : u ≡ (w.definition s t.token.text).state) where
  abbrev pub Head : Answered Expanded S
  Head = expanded_for w s mode depth units (marked_of t ∷ map marked_of rest)

  pub head_undefined : None ≡ (w.definition s t.token.text).answer →
      Head ≡ before (marked_of t ∷ []) (expanded_for w u mode depth units (map marked_of rest))
  head_undefined none = expanded_for-undefined w s u mode depth units (marked_of t) (map marked_of rest) role (sym state) (sym none)

  module _ (d : MacroDefinition) (some : Some d ≡ (w.definition s t.token.text).answer) where
    object_is : d.shape ≡ Object → Head ≡ charged_for w u mode depth units (object_replacement (marked_of t) d.body) (map marked_of rest)
    object_is shape = expanded_for-object w s u mode depth units (marked_of t) (map marked_of rest) role (sym state) d (sym some) shape

    pub head_object : (name : ReadName) → d.shape ≡ Object → ReadsObject t d.body name → Head ≡ named_for w u mode depth units t name (map marked_of rest)
    head_object Itself shape reads = absurd reads
    head_object (Joined made) shape reads = object_is shape ∙ ap (λ r. charged_for w u mode depth units r (map marked_of rest)) reads
    head_object (Lent hidden body) shape reads = object_is shape ∙ ap (λ r. charged_for w u mode depth units r (map marked_of rest)) reads
    head_object (Call written call) shape reads = absurd reads

    pub head_object_error : (e : RunError) → d.shape ≡ Object → Reports e (object_replacement (marked_of t) d.body) → Stops e u Head
    head_object_error e shape reports =
        Stops-reports e u _ _ (λ f failed.
        object_is shape ∙ ap (λ r. charged_for w u mode depth units r (map marked_of rest)) failed
        ∙ charged_for-error w u mode depth units f (map marked_of rest)) reports

    module _ (params : List (List ℕ)) (variadic : Bool) (shape : d.shape ≡ Function params variadic) where
      pub head_not_called : (rest' : List Kept) → rest' ≡ rest → after_open (map marked_of rest) ≡ None →
          Head ≡ before (marked_of t ∷ []) (expanded_for w u mode depth units (map marked_of rest'))
      head_not_called rest' same none =
          expanded_for-not_called w s u mode depth units (marked_of t) (map marked_of rest) role (sym state) d (sym some) params variadic shape none
          ∙ ap (λ q. before (marked_of t ∷ []) (expanded_for w u mode depth units (map marked_of q))) (sym same)

      module _ (within : List Marked) (opened : after_open (map marked_of rest) ≡ Some within) where
        pub head_refused : (e : RunError) → RefusesCall e t (length params) variadic within → Stops e u Head
        head_refused (CountError name line) (named, lined, (call, read, miscounted)) =
            expanded_for-count w s u mode depth units (marked_of t) (map marked_of rest) role (sym state) d (sym some) params variadic shape
            within opened call read miscounted
            ∙ ap (λ n. record { result = Err (ByFailure (Count n t.token.line)); state = u }) (sym named)
            ∙ ap (λ l. record { result = Err (ByFailure (Count name l)); state = u }) (sym lined)
        head_refused (UnclosedError name line) (named, lined, unclosed) =
            expanded_for-unclosed w s u mode depth units (marked_of t) (map marked_of rest) role (sym state) d (sym some) params variadic shape
            within opened unclosed
            ∙ ap (λ n. record { result = Err (ByFailure (Unclosed n t.token.line)); state = u }) (sym named)
            ∙ ap (λ l. record { result = Err (ByFailure (Unclosed name l)); state = u }) (sym lined)
        head_refused (PasteError left right line) h = absurd h
        head_refused (DeepError line) h = absurd h
        head_refused WorkError h = absurd h
        head_refused PresumedError h = absurd h
        head_refused Memory h = tt

        -- the call that was read, with what is kept of its arguments as written
        pub head_called : (written : List (List Marked)) (close : Kept) (after : List Marked) →
            ReadsCall (length params) variadic within written (marked_of close) after →
            (call : MacroCall) (given : List (List Marked)) → SameWhereAlone call.alone.items written given →
            StandAlone call.alone.items (length written) (parts_told call.parts) → parts_told call.parts ≡ body_parts params d.body →
            call.variable ≡ variable_of params variadic → call.read.close ≡ close →
            KeepsWritten (parts_told call.parts) written (lists_of call.read.written.items) →
            Head ≡ called_for w u mode depth units t call given after
        unfolding call_replacement called_for
        head_called written close after reads call given same stand seen which closes keeps =
            expanded_for-called w s u mode depth units (marked_of t) (map marked_of rest) role (sym state) d (sym some) params variadic shape
            within opened (record { within = reads.within; close = marked_of close; after = after }) reads.read written reads.counted
            ∙ ap (λ (ps : List BodyPart). answered_and_then (arguments_for w u mode depth t.token ps 0 units written) (λ e v.
            charged_for w v mode depth e.units (call_replaced_by t ps (variable_of params variadic) written (marked_of close) e.lists) after)) (sym seen)
            ∙ ap (λ (o : Option ℕ). answered_and_then (arguments_for w u mode depth t.token (parts_told call.parts) 0 units written) (λ e v.
            charged_for w v mode depth e.units (call_replaced_by t (parts_told call.parts) o written (marked_of close) e.lists) after)) (sym which)
            ∙ ap (answered_and_then (arguments_for w u mode depth t.token (parts_told call.parts) 0 units written))
            (fun_ext (λ e. fun_ext (λ v. ap (λ r. charged_for w v mode depth e.units r after)
            (sym (written_is t (parts_told call.parts) call.variable written (lists_of call.read.written.items) e.lists close call.read.close keeps closes)))))
            ∙ ap (λ a. answered_and_then a (λ e v.
            charged_for w v mode depth e.units (call_replaced_by t (parts_told call.parts) call.variable (lists_of call.read.written.items) (marked_of call.read.close) e.lists) after))
            (sym (given_expand w mode depth t.token (parts_told call.parts) call.alone.items written given 0 same
            (λ k below.
            let place : k ≡ k + 0 = omega arith in
            stand.1 k below ∙ ap (λ n. stands_alone n None (parts_told call.parts)) place) u units))

-- the arguments that are given are as many
pub stand_alone-same : (alone : List Bool) (a b : List (Vec Kept Global)) (parts : List BodyPart) → SameWhereAlone alone (lists_of a) (lists_of b) →
    StandAlone alone (length a) parts → StandAlone alone (length b) parts
stand_alone-same alone a b parts same stand =
    let f : Vec Kept Global → List Marked = λ v. map marked_of v.items in
    subst (λ n. StandAlone alone n parts) (sym (length-map a f) ∙ sym (given-length alone (lists_of a) (lists_of b) same) ∙ length-map b f) stand

-- A call whose arguments are expanded.
module _ {S : Type 0} (w : Answerer S) (s v : S) (mode : Mode) (depth units : ℕ) (t : Kept) (call : MacroCall) (given : List (List Marked)) where
  module _ (rest : List Marked) where
    pub argument_stops : (e : RunError) → Stops e v (arguments_for w s mode depth t.token (parts_told call.parts) 0 units given) →
        Stops e v (called_for w s mode depth units t call given rest)
    unfolding called_for answered_and_then after_result
    argument_stops e stops =
        Stops-same e v _ _ (λ f failed. ap (λ r. answered_and_then r (λ e u. charged_for w u mode depth e.units (call_replaced_by t (parts_told call.parts)
        call.variable (lists_of call.read.written.items) (marked_of call.read.close) e.lists) rest)) failed) stops

    module _ (lists : List (List Marked)) (left : ℕ)
        (expanded : arguments_for w s mode depth t.token (parts_told call.parts) 0 units given
        ≡ record { result = Ok (record { lists = lists; units = left }); state = v }) where
      Replaced : Result (List Marked) Failure
      Replaced = call_replaced_by t (parts_told call.parts) call.variable (lists_of call.read.written.items) (marked_of call.read.close) lists

      called_is : called_for w s mode depth units t call given rest ≡ charged_for w v mode depth left Replaced rest
      unfolding called_for answered_and_then after_result Replaced
      called_is =
          ap (λ r. answered_and_then r (λ e u. charged_for w u mode depth e.units (call_replaced_by t (parts_told call.parts)
          call.variable (lists_of call.read.written.items) (marked_of call.read.close) e.lists) rest)) expanded

      pub call_replaced : (made : List Kept) →
          call_replaced_by t (parts_told call.parts) call.variable (lists_of call.read.written.items) (marked_of call.read.close) lists ≡ Ok (map marked_of made) →
          called_for w s mode depth units t call given rest ≡ charged_for w v mode depth left (Ok (map marked_of made)) rest
      unfolding Replaced
      call_replaced made is = called_is ∙ ap (λ r. charged_for w v mode depth left r rest) is

      pub paste_stops : (e : RunError) →
          Reports e (call_replaced_by t (parts_told call.parts) call.variable (lists_of call.read.written.items) (marked_of call.read.close) lists) →
          Stops e v (called_for w s mode depth units t call given rest)
      unfolding Replaced
      paste_stops e reports =
          Stops-reports e v _ _ (λ f failed.
          called_is ∙ ap (λ r. charged_for w v mode depth left r rest) failed ∙ charged_for-error w v mode depth left f rest) reports

-- One argument.
module _ {S : Type 0} (w : Answerer S) (s : S) (mode : Mode) (depth units : ℕ) (t : Token) (alone : Bool) (a : List Kept) where
  Argument : Answered Expanded S
  Argument = argument_for w s mode depth t alone units (map marked_of a)

  pub argument_skipped : (out : List Kept) → alone ≡ false → out ≡ [] →
      argument_for w s mode depth t alone units (map marked_of a) ≡ record { result = Ok (record { tokens = map marked_of out; units = units }); state = s }
  argument_skipped out beside none =
      ap (λ b. argument_for w s mode depth t b units (map marked_of a)) beside
      ∙ argument_for-skipped w s mode depth t units (map marked_of a)
      ∙ ap (λ ts. record { result = Ok (record { tokens = map marked_of ts; units = units }); state = s }) (sym none)

  module _ (stands : alone ≡ true) where
    pub argument_deep : argument_depth_limit ≤ depth → argument_for w s mode depth t alone units (map marked_of a) ≡ record { result = Err (ByFailure (Deep t.line)); state = s }
    argument_deep deep =
        ap (λ b. argument_for w s mode depth t b units (map marked_of a)) stands ∙ argument_for-deep w s mode depth t units (map marked_of a) deep

    pub argument_staying : depth < argument_depth_limit → EachStaysFor w mode (map marked_of a) →
        argument_for w s mode depth t alone units (map marked_of a) ≡ record { result = Ok (record { tokens = map marked_of a; units = units }); state = s }
    argument_staying shallow stay =
        ap (λ b. argument_for w s mode depth t b units (map marked_of a)) stands ∙ argument_for-alone w s mode depth t units (map marked_of a) shallow
        ∙ expanded_for-staying w s mode (depth + 1) units (map marked_of a) stay

    module _ (shallow : depth < argument_depth_limit) (given : List Kept) (same : given ≡ a) (u : S) (left : ℕ) where
      argument_is : Argument ≡ expanded_for w s mode (depth + 1) units (map marked_of given)
      unfolding Argument
      argument_is =
          ap (λ b. argument_for w s mode depth t b units (map marked_of a)) stands ∙ argument_for-alone w s mode depth t units (map marked_of a) shallow
          ∙ ap (λ ts. expanded_for w s mode (depth + 1) units (map marked_of ts)) (sym same)

      pub argument_made : (r : Result (Vec Kept Global) RunError) →
          IfOk r (λ out. expanded_for w s mode (depth + 1) units (map marked_of given)
          ≡ record { result = Ok (record { tokens = map marked_of out.items; units = left }); state = u }) →
          IfOk r (λ out. argument_for w s mode depth t alone units (map marked_of a)
          ≡ record { result = Ok (record { tokens = map marked_of out.items; units = left }); state = u })
      unfolding Argument
      argument_made (Ok out) made = argument_is ∙ made
      argument_made (Err e) made = made

      pub argument_fails : (r : Result (Vec Kept Global) RunError) →
          IfErr r (λ e. Stops e u (expanded_for w s mode (depth + 1) units (map marked_of given))) →
          IfErr r (λ e. Stops e u (argument_for w s mode depth t alone units (map marked_of a)))
      unfolding Argument
      argument_fails (Ok out) stops = stops
      argument_fails (Err e) stops = Stops-is e u _ _ argument_is stops

-- what the code's list says of argument `i`
pub stands_is : (alone : List Bool) (count i : ℕ) (parts : List BodyPart) (b : Bool) → length alone ≡ count →
    ((k : ℕ) → k < count → get_or alone k false ≡ stands_alone k None parts) → i < count → b ≡ get_or alone i b → stands_alone i None parts ≡ b
stands_is alone count i parts b long each below is =
    sym (each i below) ∙ get_or_default alone i false b (rw long below) ∙ sym is

-- Turns of the loop over arguments, over the code's lists: `a` is argument `i`, the next one, and `next` is `out` with one more.
module _ {S : Type 0} (w : Answerer S) (s : S) (mode : Mode) (depth : ℕ) (t : Token) (parts : List BodyPart)
    (whole : Answered ExpandedEach S) (out now rest : List (Vec Kept Global)) (i units : ℕ)
    (a : Vec Kept Global) (is : now ≡ a ∷ rest)
    (keeps : whole ≡ before_all (lists_of out) (arguments_for w s mode depth t parts i units (lists_of now))) where
  Left : S → ℕ → ℕ → List (List Marked) → Answered ExpandedEach S
  Left u j left args = arguments_for w u mode depth t parts j left args

  at_argument : whole ≡ before_all (lists_of out) (Left s i units (map marked_of a.items ∷ lists_of rest))
  unfolding Left
  at_argument = keeps ∙ ap (λ q. before_all (lists_of out) (arguments_for w s mode depth t parts i units (lists_of q))) is

  at_next : (next : List (Vec Kept Global)) (v : Vec Kept Global) (u : S) (left : ℕ) → next ≡ out ++ v ∷ [] →
      whole ≡ before_all (lists_of out) (before_all (map marked_of v.items ∷ []) (Left u (suc i) left (lists_of rest))) →
      whole ≡ before_all (lists_of next) (arguments_for w u mode depth t parts (i + 1) left (lists_of rest))
  unfolding Left
  at_next next v u left made h =
      h ∙ before_all-lists (lists_of out) (map marked_of v.items) _
      ∙ ap (λ q. before_all q (arguments_for w u mode depth t parts (suc i) left (lists_of rest)))
      (sym (map-append (λ (v : Vec Kept Global). map marked_of v.items) out (v ∷ [])) ∙ ap lists_of (sym made))
      ∙ ap (λ n. before_all (lists_of next) (arguments_for w u mode depth t parts n left (lists_of rest))) (sym (add-one i))

  module _ (alone : Bool) (stands : stands_alone i None parts ≡ alone) where
    Then_more : Expanded → S → Answered ExpandedEach S
    Then_more e u = before_all (e.tokens ∷ []) (Left u (suc i) e.units (lists_of rest))

    at_expanded : whole ≡ before_all (lists_of out) (answered_and_then (argument_for w s mode depth t alone units (map marked_of a.items)) Then_more)
    unfolding Left Then_more
    at_expanded =
        at_argument
        ∙ ap (before_all (lists_of out)) (arguments_for-next w s mode depth t parts i units (map marked_of a.items) (lists_of rest) alone stands)

    pub turn_expanded : (next : List (Vec Kept Global)) (v : Vec Kept Global) (u : S) (left : ℕ) → next ≡ out ++ v ∷ [] →
        argument_for w s mode depth t alone units (map marked_of a.items) ≡ record { result = Ok (record { tokens = map marked_of v.items; units = left }); state = u } →
        whole ≡ before_all (lists_of next) (arguments_for w u mode depth t parts (i + 1) left (lists_of rest))
    unfolding Then_more answered_and_then after_result
    turn_expanded next v u left made expanded =
        at_next next v u left made (at_expanded ∙ ap (λ r. before_all (lists_of out) (answered_and_then r Then_more)) expanded)

    pub turn_stops : (u : S) (e : RunError) → Stops e u (argument_for w s mode depth t alone units (map marked_of a.items)) → Stops e u whole
    unfolding Then_more answered_and_then after_result before_all
    turn_stops u e stops =
        Stops-same e u _ _ (λ f failed. at_expanded ∙ ap (λ r. before_all (lists_of out) (answered_and_then r Then_more)) failed) stops

-- where every argument was expanded
pub arguments_end : {S : Type 0} (w : Answerer S) (s : S) (mode : Mode) (depth : ℕ) (t : Token) (parts : List BodyPart)
    (whole : Answered ExpandedEach S) (lists : List (Vec Kept Global)) (i units : ℕ) → length lists ≤ i →
    whole ≡ before_all (lists_of (take i lists)) (arguments_for w s mode depth t parts i units (lists_of (drop i lists))) →
    whole ≡ record { result = Ok (record { lists = lists_of lists; units = units }); state = s }
unfolding before_all answered_and_then after_result
arguments_end w s mode depth t parts whole lists i units ends keeps =
    keeps
    ∙ ap (λ q. before_all (lists_of (take i lists)) (arguments_for w s mode depth t parts i units (lists_of q))) (drop_all i lists ends)
    ∙ ap (before_all (lists_of (take i lists))) (arguments_for-nil w s mode depth t parts i units)
    ∙ ap (λ q. record { result = Ok (record { lists = q; units = units }); state = s }) (append-nil (lists_of (take i lists)) ∙ ap lists_of (take_all i lists ends))
