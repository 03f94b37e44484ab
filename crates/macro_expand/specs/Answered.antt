-- Expansion where an answerer with a state answers (6.10.3).
use Rattle.std.specs.Prelude.{ℕ, Bool, nat_lt, List, ◌++◌, Option, Some, None, Result, Ok, Err, pos, ◌+ℤ◌}
use Rattle.std.specs.Fmt.{signed_decimal}
use Rattle.base_types.specs.Limits.{argument_depth_limit}
use Rattle.macro_expand.specs.declared.outcome.Mode.{Mode}
use Rattle.pp_tokens.specs.declared.Token.{Token}
use Rattle.macro_defs.specs.MacroDefinition.{MacroDefinition}
use Rattle.macro_expand.specs.Asking.{Failure, Asking, give, fail, ask_definition, ask_file, ask_line}
use Rattle.macro_expand.specs.Replacement.{Marked, BodyPart}
use Rattle.macro_expand.specs.Expansion.{Expanded, ExpandedEach, expansion, charged, argument_expanded, arguments_expanded, Table, Place}

-- an answer, and the state after the question
pub record Reply (A S : Type 0) : Type 0 where
  pub answer : A
  pub state : S

-- Who answers, from a state on: which definition a name has, and the presumed name and number of a line, where they are known.
pub record Answerer (S : Type 0) : Type 0 where
  pub definition : S → List ℕ → Reply (Option MacroDefinition) S
  pub file : S → Reply (Option (List ℕ)) S
  pub line : S → ℕ → Reply (Option (List ℕ)) S

-- Why an expansion has no tokens: an error, or a presumed name or line that isn't known.
pub data Stop : Type 0 where
  ByFailure : Failure → Stop
  ByPresumed : Stop

pub record Answered (A S : Type 0) : Type 0 where
  pub result : Result A Stop
  pub state : S

-- what follows a presumed text, where it is known
abbrev pub with_text : {A S : Type 0} → Option (List ℕ) → S → (List ℕ → Answered A S) → Answered A S
with_text None s next = record { result = Err ByPresumed; state = s }
with_text (Some text) s next = next text

-- the result where this answerer answers from this state on, and the state then
unfoldable pub answered : {A S : Type 0} → Answerer S → S → Asking A → Answered A S
answered w s (give x) = record { result = Ok x; state = s }
answered w s (fail e) = record { result = Err (ByFailure e); state = s }
answered w s (ask_definition name next) = answered w (w.definition s name).state (next (w.definition s name).answer)
answered w s (ask_file next) = with_text (w.file s).answer (w.file s).state (λ text. answered w (w.file s).state (next text))
answered w s (ask_line line next) =
    with_text (w.line s line).answer (w.line s line).state (λ text. answered w (w.line s line).state (next text))

-- the first, and then what follows its result
unfoldable pub after_result : {A B S : Type 0} → Result A Stop → S → (A → S → Answered B S) → Answered B S
after_result (Ok x) s f = f x s
after_result (Err e) s f = record { result = Err e; state = s }

unfoldable pub answered_and_then : {A B S : Type 0} → Answered A S → (A → S → Answered B S) → Answered B S
answered_and_then a f = after_result a.result a.state f

-- tokens before a result's
unfoldable pub before : {S : Type 0} → List Marked → Answered Expanded S → Answered Expanded S
before ts a = answered_and_then a (λ e s. record { result = Ok (record e { tokens = ts ++ e.tokens }); state = s })

-- expansion where this answerer answers
unfoldable pub expanded_for : {S : Type 0} → Answerer S → S → Mode → ℕ → ℕ → List Marked → Answered Expanded S
expanded_for w s mode depth units ts = answered w s (expansion mode depth units ts)

-- what becomes of a replacement and the tokens after it
unfoldable pub charged_for : {S : Type 0} → Answerer S → S → Mode → ℕ → ℕ → Result (List Marked) Failure → List Marked → Answered Expanded S
charged_for w s mode depth units r rest = answered w s (charged (expansion mode) depth units r rest)

-- one argument of a call, expanded by itself where its parameter stands alone
unfoldable pub argument_for : {S : Type 0} → Answerer S → S → Mode → ℕ → Token → Bool → ℕ → List Marked → Answered Expanded S
argument_for w s mode depth t alone units a = answered w s (argument_expanded (expansion mode) depth alone (nat_lt depth argument_depth_limit) t units a)

-- the arguments of a call, expanded by themselves
unfoldable pub arguments_for : {S : Type 0} → Answerer S → S → Mode → ℕ → Token → List BodyPart → ℕ → ℕ → List (List Marked) → Answered ExpandedEach S
arguments_for w s mode depth t parts i units args = answered w s (arguments_expanded (expansion mode) depth t parts i units args)

-- A table at a place, whatever the state.
abbrev pub table_answerer : {S : Type 0} → (S → Table) → (S → Place) → Answerer S
table_answerer table here = record {
  definition = λ s name. record { answer = table s name; state = s };
  file = λ s. record { answer = Some (here s).name; state = s };
  line = λ s line. record { answer = Some (signed_decimal (pos line +ℤ (here s).shift)); state = s };
}
