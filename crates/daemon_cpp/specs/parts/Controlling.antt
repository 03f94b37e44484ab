-- What the code keeps of a condition's line that is being expanded. No public contract rests on it.
use Rattle.std.specs.Prelude.{◌≡◌, ℕ, Bool, true, false, List, [], ◌∷◌, ◌++◌, Option, Some, None, Result, Ok, Err, if◌then◌else◌, ◌||◌, codes, bytes_eq}
use Rattle.pp_tokens.specs.declared.Token.{Token}
use Rattle.pp_tokens.specs.Marks.{is_identifier, is_open, is_close, is_word}
use Rattle.tree_model.specs.Paths.{Text}
use Rattle.macro_expand.specs.Asking.{Failure}
use Rattle.macro_expand.specs.declared.stream.Standing.TheVariants.{Going}
use Rattle.macro_expand.specs.Stream.{Given, Stream, to_come}
use Rattle.cond_eval.specs.declared.Num.{Num}
use Rattle.cond_eval.specs.declared.CondError.{CondError}
use Rattle.cond_eval.specs.declared.lexeme.Lexeme.{Lexeme}
use Rattle.cond_eval.specs.declared.lexeme.Lexeme.TheVariants.{Constant}
use Rattle.cond_eval.specs.Lexemes.{lexeme_of}
use Rattle.cond_eval.specs.Value.{value_read}
use Rattle.daemon_cpp.specs.declared.controlling.Stage.{Stage as StageRead}
use Rattle.daemon_cpp.specs.declared.controlling.Stage.TheVariants as stage
use Rattle.daemon_cpp.specs.Diagnostics.{BadExpression, BadProbe}
use Rattle.daemon_cpp.specs.Prep.{State, Reached, refuse, truth_of}

-- how far the operand of a `defined` was read: none stands open; behind one; behind its `(`; behind its name there, which is defined or
-- not; or one had no operand
pub data StageSoFar : Type 0 where
  outside : StageSoFar
  named_next : StageSoFar
  in_parentheses : StageSoFar
  closing_next : Bool → StageSoFar
  malformed : StageSoFar

-- the lexemes so far, or the first constant that is none
pub record LineSoFar : Type 0 where
  pub stage : StageSoFar
  pub probe : Bool
  pub lexemes : Result (List Lexeme) CondError

abbrev pub stage_told : StageRead → StageSoFar
stage_told stage.Outside = outside
stage_told stage.NamedNext = named_next
stage_told stage.InParentheses = in_parentheses
stage_told (stage.ClosingNext said) = closing_next said
stage_told stage.Malformed = malformed

abbrev pub lexemes_told : Option CondError → List Lexeme → Result (List Lexeme) CondError
lexemes_told None ls = Ok ls
lexemes_told (Some e) ls = Err e

abbrev pub is_outside : StageSoFar → Bool
is_outside s = elim s [ outside ↦ true | _ ↦ false ]

abbrev pub at_first : LineSoFar
at_first = record { stage = outside; probe = false; lexemes = Ok [] }

-- a lexeme behind others
abbrev pub behind_lexemes : Result Lexeme CondError → Result (List Lexeme) CondError → Result (List Lexeme) CondError
behind_lexemes read (Err e) = Err e
behind_lexemes (Err e) (Ok ls) = Err e
behind_lexemes (Ok l) (Ok ls) = Ok (ls ++ l ∷ [])

abbrev pub with_lexeme : Result Lexeme CondError → LineSoFar → LineSoFar
with_lexeme read line = record line { lexemes = behind_lexemes read line.lexemes }

-- a 1 or a 0
abbrev pub answer : Bool → Lexeme
answer true = Constant (record { bits = 1; unsigned = false })
answer false = Constant (record { bits = 0; unsigned = false })

-- one token more, by the stage
abbrev pub with_outside : Token → LineSoFar → LineSoFar
with_outside t line =
    if is_identifier t
    then (if bytes_eq t.text (codes "defined") then record line { stage = named_next }
    else with_lexeme (Ok (answer false)) (record line { probe = line.probe || bytes_eq t.text (codes "__has_include") }))
    else with_lexeme (lexeme_of t) line

module _ (defined : Text → Bool) where
  abbrev pub with_named : Token → LineSoFar → LineSoFar
  with_named t line =
      if is_identifier t then with_lexeme (Ok (answer (defined t.text))) (record line { stage = outside })
      else (if is_open t then record line { stage = in_parentheses } else record line { stage = malformed })

  abbrev pub with_inside : Token → StageSoFar
  with_inside t = if is_identifier t then closing_next (defined t.text) else malformed

abbrev pub with_closing : Bool → Token → LineSoFar → LineSoFar
with_closing said t line =
    if is_close t then with_lexeme (Ok (answer said)) (record line { stage = outside }) else record line { stage = malformed }

module _ (defined : Text → Bool) where
  abbrev pub with_token_at : StageSoFar → Token → LineSoFar → LineSoFar
  with_token_at outside t line = with_outside t line
  with_token_at named_next t line = with_named defined t line
  with_token_at in_parentheses t line = record line { stage = with_inside defined t }
  with_token_at (closing_next said) t line = with_closing said t line
  with_token_at malformed t line = line

  unfoldable pub with_token : Token → LineSoFar → LineSoFar
  with_token t line = with_token_at line.stage t line

  unfoldable pub with_tokens : List Token → LineSoFar → LineSoFar
  with_tokens [] line = line
  with_tokens (t ∷ ts) line = with_tokens ts (with_token t line)

  -- a line behind the tokens that an expansion gives, and the units left
  abbrev pub read_from : LineSoFar → Result Given Failure → Result (LineSoFar × ℕ) Failure
  read_from line (Ok g) = Ok (with_tokens g.tokens line, g.units)
  read_from line (Err f) = Err f

  -- a token of a line that becomes this was read, and others may come; or none came
  abbrev pub ReadsNext : Bool → Result (LineSoFar × ℕ) Failure → LineSoFar → Stream → ℕ → Type 0
  ReadsNext true whole line stream left = (whole ≡ read_from line (to_come stream left)) × (stream.standing ≡ Going)
  ReadsNext false whole line stream left = whole ≡ Ok (line, left)

-- what a line says that was read to its end
abbrev pub judged_by : ℕ → Bool → Bool → Result Num CondError → State → Reached Bool
judged_by at false probe value state = refuse at BadExpression state
judged_by at true true value state = refuse at BadProbe state
judged_by at true false value state = truth_of at value state

abbrev pub judged : ℕ → LineSoFar → State → Reached Bool
judged at line state = judged_by at (is_outside line.stage) line.probe (value_read line.lexemes) state
