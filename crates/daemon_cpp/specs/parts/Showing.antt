-- What the code keeps of a state of preprocessing, and what its functions lead to. No public contract rests on it.
use Rattle.std.specs.Prelude.{◌≡◌, ◌≤◌, ℕ, List, length, drop, Option, Some, None, Result, Ok, Err, if◌then◌else◌, true, false, Bool, ◌+◌, ◌<◌, map, ◌++◌}
use Rattle.std.specs.Box.{box_value}
use Rattle.std.specs.List.{list_any}
use Rattle.macro_defs.specs.Table.{lookup}
use Rattle.directive_scan.specs.declared.Piece.{Piece}
use Rattle.base_types.specs.Limits.{text_limit}
use Rattle.cpp_output.specs.Layout.{put}
use Rattle.tree_model.specs.Paths.{Text, Path, is_same_path, spelled}
use Rattle.search_path.specs.Search.{Hit}
use Rattle.daemon_cpp.specs.declared.kept.Kept.{Kept}
use Rattle.daemon_cpp.specs.declared.kept.Places.{Places}
use Rattle.daemon_cpp.specs.declared.stop.Stop.{Stop}
use Rattle.daemon_cpp.specs.declared.stop.Stop.TheVariants as stop
use Rattle.daemon_cpp.specs.declared.section.Sought.{Sought}
use Rattle.daemon_cpp.specs.declared.pieces.Move.{Move}
use Rattle.daemon_cpp.specs.declared.pieces.Move.TheVariants.{Onward, Enter, Renumber}
use Rattle.daemon_cpp.specs.Diagnostics.{Diagnostic, diagnostic_text, BadLine, WrongCount, UnendedCall, BadPaste, DeepArguments, WorkLimit, TextLimit}
use Rattle.daemon_cpp.specs.Prep.{World, Here, State, PrepStep, Go, Stop as Stopped, Reached, Gives, Ends, Entering, is_marked, here_at, line_set, define_complaint, answer_token, answer_parts, probe, reach}
use Rattle.daemon_cpp.specs.parts.Reading.{ReadingStage, run_flat, reading, stage_of}
use Rattle.macro_defs.specs.declared.definition.DefineError.{DefineError}
use Rattle.macro_defs.specs.declared.definition.DefineError.TheVariants as define_error
use Rattle.macro_expand.specs.declared.outcome.ExpandError.{ExpandError}
use Rattle.macro_expand.specs.declared.outcome.ExpandError.TheVariants as expand_error
use Rattle.macro_expand.specs.declared.stream.Standing.TheVariants.{Going}
use Rattle.macro_expand.specs.Asking as failure
use Rattle.macro_expand.specs.Asking.{Failure}
use Rattle.macro_expand.specs.Seen.{ReportsResult}
use Rattle.macro_expand.specs.Stream.{Given, Stream, to_come}
use Rattle.cpp_output.specs.Laid.{Laid, after_events}
use Rattle.daemon_cpp.specs.declared.line.NewLine.{NewLine}
use Rattle.daemon_cpp.specs.declared.text.TextError.{TextError}
use Rattle.daemon_cpp.specs.declared.text.TextError.TheVariants as text_error
use Rattle.pp_tokens.specs.declared.Token.{Token}
use Rattle.directive_scan.specs.declared.ConditionPart.{ConditionPart}
use Rattle.directive_scan.specs.declared.ConditionPart.TheVariants.{Written, Probe}

-- the file that is read, as its parts say
abbrev pub here_seen : Places → Here
here_seen p = record {
  place = p.visit.now.place;
  found = p.visit.now.found;
  real = p.real.now;
  name = p.presumed.now.name;
  shift = p.presumed.now.shift;
}

-- What is kept shows a state, in a job with this source and in this file. The searches that succeeded are not kept.
pub record Shows (kept : Kept) (main : Path) (file : Here) (state : State) : Type 0 where
  pub source : state.source ≡ main
  pub output : state.output ≡ kept.layout
  pub within : length kept.layout.text ≤ text_limit
  pub left : state.left ≡ kept.work.left
  pub opened : state.opened ≡ kept.opened
  pub macros : state.macros ≡ lookup kept.macros
  pub once : (path : Path) → is_marked path state ≡ list_any (is_same_path path) kept.once
  pub here : state.here ≡ file

-- a diagnostic is this text, and these files were opened
abbrev pub ShowsDiagnostic : Text → List Path → Diagnostic → State → Type 0
ShowsDiagnostic words opened diagnostic state = (words ≡ diagnostic_text diagnostic) × (state.opened ≡ opened)

-- a value wasn't reached
abbrev pub IsNotReached : {A : Type 0} → Text → List Path → Reached A → Type 0
IsNotReached words opened (Gives x state) = ⊥
IsNotReached words opened (Ends diagnostic state) = ShowsDiagnostic words opened diagnostic state

-- a step ended
abbrev pub StopsWith : Text → List Path → PrepStep → Type 0
StopsWith words opened (Go state) = ⊥
StopsWith words opened (Stopped diagnostic state) = ShowsDiagnostic words opened diagnostic state

-- why nothing goes on: a diagnostic with this text, or want of memory
abbrev pub Refuses : Diagnostic → Stop → Type 0
Refuses diagnostic (stop.Ended words) = words ≡ diagnostic_text diagnostic
Refuses diagnostic stop.Fault = ⊥
Refuses diagnostic stop.Memory = Unit {0}

-- ---- what the code's functions answer, by what was kept before and is kept behind them ----

module _ (old new : Kept) (main : Path) (file : Here) where
  -- a value is reached, in a state that is shown, or a diagnostic; a fault and want of memory tell nothing
  abbrev pub Leads : {A : Type 0} → (State → Reached A) → Result A Stop → Type 0
  Leads r (Ok x) = (state : State) → Shows old main file state → (after : State) × ((r state ≡ Gives x after) × Shows new main file after)
  Leads r (Err (stop.Ended words)) = (state : State) → Shows old main file state → IsNotReached words new.opened (r state)
  Leads r (Err stop.Fault) = Unit {0}
  Leads r (Err stop.Memory) = Unit {0}

  -- the same of a step
  abbrev pub Goes : {A : Type 0} → (State → PrepStep) → Result A Stop → Type 0
  Goes step (Ok x) = (state : State) → Shows old main file state → (after : State) × ((step state ≡ Go after) × Shows new main file after)
  Goes step (Err (stop.Ended words)) = (state : State) → Shows old main file state → StopsWith words new.opened (step state)
  Goes step (Err stop.Fault) = Unit {0}
  Goes step (Err stop.Memory) = Unit {0}

  -- an include: the next piece, or a file that is entered from its line
  abbrev pub IncludesTo : Entering → ℕ → State → Option Hit → PrepStep → Type 0
  IncludesTo entering at after None step = step ≡ Go after
  IncludesTo entering at after (Some hit) step = step ≡ entering at hit after

  abbrev pub Includes : ℕ → (Entering → State → PrepStep) → Result (Option Hit) Stop → Type 0
  Includes at step (Ok found) = (entering : Entering) (state : State) → Shows old main file state →
      (after : State) × (IncludesTo entering at after found (step entering state) × Shows new main file after)
  Includes at step (Err (stop.Ended words)) = (entering : Entering) (state : State) → Shows old main file state → StopsWith words new.opened (step entering state)
  Includes at step (Err stop.Fault) = Unit {0}
  Includes at step (Err stop.Memory) = Unit {0}

  -- a piece: the next one, a file that is entered from an include on a line, or the same file with other numbers behind a line
  abbrev pub MovesTo : Entering → State → Move → PrepStep → Type 0
  MovesTo entering after Onward step = step ≡ Go after
  MovesTo entering after (Enter at hit) step = step ≡ entering at hit after
  MovesTo entering after (Renumber at numbers) step = step ≡ line_set at numbers after

  abbrev pub Moves : (Entering → State → PrepStep) → Result Move Stop → Type 0
  Moves step (Ok move) = (entering : Entering) (state : State) → Shows old main file state →
      (after : State) × (MovesTo entering after move (step entering state) × Shows new main file after)
  Moves step (Err (stop.Ended words)) = (entering : Entering) (state : State) → Shows old main file state → StopsWith words new.opened (step entering state)
  Moves step (Err stop.Fault) = Unit {0}
  Moves step (Err stop.Memory) = Unit {0}

  -- an if-section goes on at a piece
  abbrev pub Seeks : World → List Piece → (Entering → State → PrepStep) → Result ℕ Stop → Type 0
  Seeks world pieces step (Ok n) = (entering : Entering) (state : State) → Shows old main file state →
      (after : State) × ((step entering state ≡ run_flat world entering reading (drop n pieces) after) × Shows new main file after)
  Seeks world pieces step (Err (stop.Ended words)) = (entering : Entering) (state : State) → Shows old main file state → StopsWith words new.opened (step entering state)
  Seeks world pieces step (Err stop.Fault) = Unit {0}
  Seeks world pieces step (Err stop.Memory) = Unit {0}

-- a file is opened: its pieces are read, in a state inside it
abbrev pub Opens : Kept → Kept → Path → World → Hit → (Entering → State → PrepStep) → Result (List Piece) Stop → Type 0
Opens old new main world hit step (Ok pieces) = (entering : Entering) (file : Here) (state : State) → Shows old main file state →
    (after : State) × ((step entering state ≡ run_flat world entering reading pieces after) × Shows new main (here_at hit) after)
Opens old new main world hit step (Err (stop.Ended words)) = (entering : Entering) (file : Here) (state : State) → Shows old main file state →
    StopsWith words new.opened (step entering state)
Opens old new main world hit step (Err stop.Fault) = Unit {0}
Opens old new main world hit step (Err stop.Memory) = Unit {0}

-- the same in the file that is opened already
abbrev pub BeginsFile : Kept → Kept → Path → Here → World → (Entering → State → PrepStep) → Result (List Piece) Stop → Type 0
BeginsFile old new main file world step (Ok pieces) = (entering : Entering) (state : State) → Shows old main file state →
    (after : State) × ((step entering state ≡ run_flat world entering reading pieces after) × Shows new main file after)
BeginsFile old new main file world step (Err (stop.Ended words)) = (entering : Entering) (state : State) → Shows old main file state →
    StopsWith words new.opened (step entering state)
BeginsFile old new main file world step (Err stop.Fault) = Unit {0}
BeginsFile old new main file world step (Err stop.Memory) = Unit {0}

-- a place between two others
abbrev pub IsBetween : ℕ → ℕ → ℕ → Type 0
IsBetween from count n = (from ≤ n) × (n ≤ count)

-- other numbers are in the range of a line directive
abbrev pub IsNumbered : Move → Type 0
IsNumbered Onward = Unit {0}
IsNumbered (Enter at hit) = Unit {0}
IsNumbered (Renumber at numbers) = numbers.number ≤ 2147483647

-- ---- if-sections ----

module _ (old new : Kept) (main : Path) (file : Here) where
  -- from a piece on, an if-section goes on at a stage
  abbrev pub GoesOnAt : World → List Piece → (Entering → State → PrepStep) → ReadingStage → ℕ → Type 0
  GoesOnAt world pieces step stage n = (entering : Entering) (state : State) → Shows old main file state →
      (after : State) × ((step entering state ≡ run_flat world entering stage (drop n pieces) after) × Shows new main file after)

  -- behind a line of a conditional of which no group was read
  abbrev pub SeeksLine : World → List Piece → (Entering → State → PrepStep) → Result Sought Stop → Type 0
  SeeksLine world pieces step (Ok s) = GoesOnAt world pieces step (stage_of s.is_read) s.next
  SeeksLine world pieces step (Err (stop.Ended words)) = (entering : Entering) (state : State) → Shows old main file state → StopsWith words new.opened (step entering state)
  SeeksLine world pieces step (Err stop.Fault) = Unit {0}
  SeeksLine world pieces step (Err stop.Memory) = Unit {0}

-- where another line is looked for, it is one further on
abbrev pub IsBehind : ℕ → ℕ → Sought → Type 0
IsBehind from count s = IsBetween (if s.is_read then from else from + 1) count s.next

-- ---- tree ----

-- a fault, or want of memory
abbrev pub TellsNothing : Stop → Type 0
TellsNothing (stop.Ended words) = ⊥
TellsNothing stop.Fault = Unit {0}
TellsNothing stop.Memory = Unit {0}

-- ---- header ----

-- a file that was found is entered, unless it is marked
abbrev pub entered_unless : Bool → Hit → Option Hit
entered_unless true hit = None
entered_unless false hit = Some hit

-- ---- pieces ----

-- what is read leads to the next piece
abbrev pub moves_onward : {A : Type 0} → Result A Stop → Result Move Stop
moves_onward (Ok x) = Ok Onward
moves_onward (Err e) = Err e

-- ---- text ----

-- a failed expansion, in the file at a place of a job with this source
abbrev pub failure_told : Path → Path → ℕ → Failure → Diagnostic
failure_told place main at (failure.Count name line) = record { place = spelled place; at = at; complaint = WrongCount name }
failure_told place main at (failure.Unclosed name line) = record { place = spelled place; at = at; complaint = UnendedCall name }
failure_told place main at (failure.Paste left right line) = record { place = spelled place; at = at; complaint = BadPaste left right }
failure_told place main at (failure.Deep line) = record { place = spelled place; at = at; complaint = DeepArguments }
failure_told place main at failure.Work = record { place = spelled main; at = 0; complaint = WorkLimit }

-- why nothing goes on behind an error of an expansion, told at a line
abbrev pub TellsError : Path → Path → ℕ → ExpandError → Stop → Type 0
TellsError place main at (expand_error.Count name line) s = Refuses (failure_told place main at (failure.Count name line)) s
TellsError place main at (expand_error.Unclosed name line) s = Refuses (failure_told place main at (failure.Unclosed name line)) s
TellsError place main at (expand_error.Paste left right line) s = Refuses (failure_told place main at (failure.Paste left right line)) s
TellsError place main at (expand_error.Deep line) s = Refuses (failure_told place main at (failure.Deep line)) s
TellsError place main at expand_error.Work s = Refuses (failure_told place main at failure.Work) s
TellsError place main at expand_error.Memory s = s ≡ stop.Memory

-- the line of an error of an expansion
abbrev pub error_line : ExpandError → ℕ
error_line (expand_error.Count name line) = line
error_line (expand_error.Unclosed name line) = line
error_line (expand_error.Paste left right line) = line
error_line (expand_error.Deep line) = line
error_line expand_error.Work = 0
error_line expand_error.Memory = 0

-- why nothing goes on behind an error of a run of text
abbrev pub TellsText : Path → Path → TextError → Stop → Type 0
TellsText place main (text_error.Expand e) s = TellsError place main (error_line (box_value e)) (box_value e) s
TellsText place main text_error.Full s = Refuses (record { place = spelled main; at = 0; complaint = TextLimit }) s
TellsText place main text_error.Memory s = s ≡ stop.Memory

-- an output behind the tokens that an expansion gives, and the units left
abbrev pub laid_from : Laid → Result Given Failure → Result (Laid × ℕ) Failure
laid_from output (Ok g) = Ok (after_events output (map put g.tokens), g.units)
laid_from output (Err f) = Err f

-- it passes its limit
abbrev pub IsTooLong : Result (Laid × ℕ) Failure → Type 0
IsTooLong (Ok laid) = text_limit < length laid.0.text
IsTooLong (Err f) = ⊥

-- an error of a run that becomes this: that of its expansion, or else its text passes the limit; want of memory tells nothing
abbrev pub ReportsText : TextError → Result (Laid × ℕ) Failure → Type 0
ReportsText (text_error.Expand e) r = ReportsResult (box_value e) r
ReportsText text_error.Full r = IsTooLong r
ReportsText text_error.Memory r = Unit {0}

-- a token of a run that becomes this was laid out, and others may come; or none came
abbrev pub LaysNext : Bool → Result (Laid × ℕ) Failure → Laid → Stream → ℕ → Type 0
LaysNext true whole output stream left = (whole ≡ laid_from output (to_come stream left)) × (stream.standing ≡ Going)
LaysNext false whole output stream left = whole ≡ Ok (output, left)

-- how an expansion ends: with so many units left, or in failure
abbrev pub units_or_failure : Result Given Failure → Result ℕ Failure
units_or_failure (Ok g) = Ok g.units
units_or_failure (Err f) = Err f

abbrev pub IsOkay : {A : Type 0} → Result A Failure → Type 0
IsOkay (Ok x) = Unit {0}
IsOkay (Err f) = ⊥

-- ---- definitions ----

-- a definition that is refused, on a line of the file at a place; want of memory tells nothing
abbrev pub TellsDefinition : Path → ℕ → DefineError → Stop → Type 0
TellsDefinition place at define_error.Name s = Refuses (record { place = spelled place; at = at; complaint = define_complaint define_error.Name }) s
TellsDefinition place at define_error.Params s = Refuses (record { place = spelled place; at = at; complaint = define_complaint define_error.Params }) s
TellsDefinition place at define_error.PasteEnd s = Refuses (record { place = spelled place; at = at; complaint = define_complaint define_error.PasteEnd }) s
TellsDefinition place at define_error.Hash s = Refuses (record { place = spelled place; at = at; complaint = define_complaint define_error.Hash }) s
TellsDefinition place at define_error.Memory s = s ≡ stop.Memory

-- ---- line directives ----

-- what a line directive says, on a line of the file at a place, or that it may not say it; want of memory tells nothing
abbrev pub TellsLine : Path → ℕ → Option NewLine → Result NewLine Stop → Type 0
TellsLine place at (Some new) (Ok x) = x ≡ new
TellsLine place at (Some new) (Err s) = s ≡ stop.Memory
TellsLine place at None (Ok x) = ⊥
TellsLine place at None (Err s) = Refuses (record { place = spelled place; at = at; complaint = BadLine }) s

-- ---- conditions ----

module _ (world : World) where
  -- a part of a condition's line, answered
  abbrev pub part_answered : ℕ → ConditionPart → State → Reached Token
  part_answered at (Written t) state = Gives t state
  part_answered at (Probe t target) state = reach (λ is_found after. Gives (answer_token t is_found) after) (probe world at target state)

  -- the tokens so far, and those of the parts that are left
  abbrev pub answers_behind : List Token → ℕ → List ConditionPart → State → Reached (List Token)
  answers_behind done at parts state = reach (λ ts after. Gives (done ++ ts) after) (answer_parts world at parts state)

-- what is reached from a state that was shown is reached, by what is left to do, from one that is shown
abbrev pub Continues : {A : Type 0} → Kept → Kept → Path → Here → (State → Reached A) → (State → Reached A) → Type 0
Continues old new main file f g = (state : State) → Shows old main file state → (after : State) × ((f state ≡ g after) × Shows new main file after)
