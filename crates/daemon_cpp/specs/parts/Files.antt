-- The files that are read, as the code keeps them: what is left to read of each, and what this leads to. No public contract
-- rests on it.
use Rattle.std.specs.Prelude.{◌≡◌, ◌≤◌, ◌+◌, ◌++◌, ℕ, pos, List, [], ◌∷◌, map, length, drop, sum_by, Option, Some, None, Result, Ok, Err}
use Rattle.base_types.specs.Limits.{include_depth_limit}
use Rattle.directive_scan.specs.declared.Piece.{Piece}
use Rattle.tree_model.specs.Paths.{Text, Path}
use Rattle.tree_model.specs.Shown.{presumed_name}
use Rattle.search_path.specs.Search.{Hit}
use Rattle.job_words.specs.declared.MacroWord.{MacroWord}
use Rattle.daemon_cpp.specs.declared.outcome.Outcome.TheVariants as outcome
use Rattle.daemon_cpp.specs.declared.kept.Kept.{Kept}
use Rattle.daemon_cpp.specs.declared.stop.Stop.{Stop}
use Rattle.daemon_cpp.specs.declared.stop.Stop.TheVariants as stop
use Rattle.daemon_cpp.specs.declared.pieces.Move.{Move}
use Rattle.daemon_cpp.specs.declared.pieces.Move.TheVariants.{Onward, Enter, Renumber}
use Rattle.daemon_cpp.specs.declared.cpp.Told.{Told}
use Rattle.daemon_cpp.specs.declared.cpp.OpenFile.{OpenFile}
use Rattle.daemon_cpp.specs.declared.cpp.Left.{Left}
use Rattle.daemon_cpp.specs.declared.cpp.Reader.{Reader}
use Rattle.daemon_cpp.specs.Prep.{World, Here, State, PrepStep, Go, and_then, limited, first_state, enter_file, run_forced, open_source, prepared, line_set}
use Rattle.daemon_cpp.specs.parts.Reading.{Frame, run_flat, reading, entering_at, frames_resumed}
use Rattle.daemon_cpp.specs.parts.KnownTexts.{KnowsTexts}
use Rattle.daemon_cpp.specs.parts.Showing.{Shows, StopsWith}

abbrev pub here_of : OpenFile → Here
here_of file = record { place = file.visit.place; found = file.visit.found; real = file.real; name = file.numbers.name; shift = file.numbers.shift }

-- the pieces of a file that are left to read
abbrev pub pieces_left : OpenFile → List Piece
pieces_left file = drop file.next file.pieces

abbrev pub frame_of : Left → Frame
frame_of left = record { here = here_of left.file; at = left.at; rest = pieces_left left.file }

-- the files around the one that is read, the source first
abbrev pub frames_of : Reader → List Frame
frames_of reader = map frame_of reader.around.items

-- what is kept of a reader shows a state
abbrev pub IsShown : Reader → State → Type 0
IsShown reader state = Shows reader.kept reader.source (here_of reader.file) state

-- what is told of a step: its outcome, and the places of the files opened
abbrev pub told_of : PrepStep → Told
told_of step = record { outcome = (prepared step).outcome; opened = (prepared step).opened }

-- a diagnostic with this text, and these files opened
abbrev pub ended_told : Text → List Path → Told
ended_told words opened = record { outcome = outcome.Diag words; opened = opened }

-- what comes behind the files that are read
abbrev pub After : Type 0
After = State → PrepStep

-- what is told where a step in the file that is read is followed by the rest of the files around it, and then by this
abbrev pub told_behind : World → After → List Frame → PrepStep → Told
told_behind world behind frames step = told_of (and_then behind (frames_resumed world 0 frames step))

-- the rest of the file that is read
abbrev pub run_rest : World → List Frame → List Piece → State → PrepStep
run_rest world frames rest state = run_flat world (entering_at world (length frames)) reading rest state

-- what is left to read, and what comes behind it, lead to this
pub record RestLeadsTo (world : World) (behind : After) (reader : Reader) (whole : Told) : Type 0 where
  pub state : State
  pub shows : IsShown reader state
  pub knows : KnowsTexts world reader.lexed
  pub same : told_behind world behind (frames_of reader) (run_rest world (frames_of reader) (pieces_left reader.file) state) ≡ whole

-- a step from a state in some file, what is left to read, and what comes behind it, lead to this
pub record StepsTo (world : World) (behind : After) (reader : Reader) (from : Here) (step : State → PrepStep) (whole : Told) : Type 0 where
  pub state : State
  pub shows : Shows reader.kept reader.source from state
  pub knows : KnowsTexts world reader.lexed
  pub same : told_behind world behind (frames_of reader) (and_then (λ after. run_rest world (frames_of reader) (pieces_left reader.file) after) (step state)) ≡ whole

-- a file that is entered from an include on a line of the one that is read
abbrev pub EntersTo : World → After → Reader → ℕ → Hit → Told → Type 0
EntersTo world behind reader at inner whole =
    StepsTo world behind reader (here_of reader.file) (λ state. entering_at world (length (frames_of reader)) at inner state) whole

-- what comes behind the files that were read leads to this
pub record ComesTo (world : World) (behind : After) (reader : Reader) (whole : Told) : Type 0 where
  pub state : State
  pub shows : IsShown reader state
  pub knows : KnowsTexts world reader.lexed
  pub same : told_of (behind state) ≡ whole

-- a file that was found, of whose pieces none is read
abbrev pub opened_file : Hit → List Piece → OpenFile
opened_file hit pieces = record {
  visit = hit.0;
  real = hit.1.real;
  numbers = record { name = presumed_name hit.0.place; shift = pos 0 };
  pieces = pieces;
  next = 0;
}

-- one reader has gone into a file from where another stands, at an include on a line
pub record GoesInto (reader : Reader) (file : OpenFile) (at : ℕ) (after : Reader) : Type 0 where
  pub source : after.source ≡ reader.source
  pub kept : after.kept ≡ reader.kept
  pub lexed : after.lexed ≡ reader.lexed
  pub file_is : after.file ≡ file
  pub around : after.around.items ≡ reader.around.items ++ record { file = reader.file; at = at } ∷ []

-- what a step of the code brings: what was led to before is led to behind it, or it is a diagnostic
abbrev pub Brings : {A : Type 0} → (Told → Type 0) → Reader → (A → Told → Type 0) → Result A Stop → Type 0
Brings before reader after (Ok x) = (whole : Told) → before whole → after x whole
Brings before reader after (Err (stop.Ended words)) = (whole : Told) → before whole → ended_told words reader.kept.opened ≡ whole
Brings before reader after (Err stop.Fault) = Unit {0}
Brings before reader after (Err stop.Memory) = Unit {0}

-- what is told where reading ended so
abbrev pub IsEnd : {A : Type 0} → World → Reader → Told → Result A Stop → Type 0
IsEnd world reader whole (Ok x) = ComesTo world Go reader whole
IsEnd world reader whole (Err (stop.Ended words)) = ended_told words reader.kept.opened ≡ whole
IsEnd world reader whole (Err stop.Fault) = Unit {0}
IsEnd world reader whole (Err stop.Memory) = Unit {0}

-- a step between two files, which are shown before and behind it
abbrev pub Turns : {A : Type 0} → Kept → Kept → Path → Here → Here → (State → PrepStep) → Result A Stop → Type 0
Turns old new main from to step (Ok x) = (state : State) → Shows old main from state → (after : State) × ((step state ≡ Go after) × Shows new main to after)
Turns old new main from to step (Err (stop.Ended words)) = (state : State) → Shows old main from state → StopsWith words new.opened (step state)
Turns old new main from to step (Err stop.Fault) = Unit {0}
Turns old new main from to step (Err stop.Memory) = Unit {0}

-- nothing is left to read, neither of the file nor of files around it
pub record AllRead (reader : Reader) : Type 0 where
  pub alone : reader.around.items ≡ []
  pub ended : length reader.file.pieces ≤ reader.file.next

-- the units of work left, twice, the pieces left of the file that is read, and those of each file around it with one for
-- coming back to it
abbrev pub work_ahead : Reader → ℕ
work_ahead reader =
    reader.kept.work.left + reader.kept.work.left + length (pieces_left reader.file) + sum_by (λ (left : Left). length (pieces_left left.file) + 1) reader.around.items

-- what comes behind some of the files of the job's words: the others, and then the source
abbrev pub source_behind : World → Hit → List Text → After
source_behind world source names state =
    and_then (λ after. open_source world source after) (run_forced world (enter_file world include_depth_limit) names state)

-- what is told of a job whose source was found, which has these macros and includes these files in front
abbrev pub source_told : World → List MacroWord → Hit → List Text → Told
source_told world macros source names =
    told_of (and_then (λ state. open_source world source state)
    (and_then (λ state. run_forced world (enter_file world include_depth_limit) names state) (limited (first_state macros source))))

-- behind a piece of the file that is read, with this kept
abbrev pub behind_piece : Reader → Kept → Reader
behind_piece reader kept = record reader { kept = kept; file = record reader.file { next = reader.file.next + 1 } }

-- what a piece leads to, of what is left to read
abbrev pub MoveLeadsTo : World → After → Reader → Move → Told → Type 0
MoveLeadsTo world behind reader Onward whole = RestLeadsTo world behind reader whole
MoveLeadsTo world behind reader (Enter at inner) whole = EntersTo world behind reader at inner whole
MoveLeadsTo world behind reader (Renumber at numbers) whole = StepsTo world behind reader (here_of reader.file) (λ state. line_set at numbers state) whole

-- what a file of the job's words leads to: the names behind it, or its file, and then these
abbrev pub NamedTo : World → Hit → List Text → Reader → Option Hit → Told → Type 0
NamedTo world source names reader None whole = ComesTo world (source_behind world source names) reader whole
NamedTo world source names reader (Some hit) whole = EntersTo world (source_behind world source names) reader 0 hit whole

-- what opening a file leads to, once it is gone into
abbrev pub InsideTo : World → After → Reader → ℕ → Hit → List Piece → Told → Type 0
InsideTo world behind reader at inner pieces whole =
    (after : Reader) → GoesInto reader (opened_file inner pieces) at after → RestLeadsTo world behind after whole
