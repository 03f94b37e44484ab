-- What is left to do where files are read: of the file that is read, and of those that were left at an include. The code
-- keeps these as a stack. No public contract rests on it.
use Rattle.std.specs.Prelude.{ℕ, zero, suc, ◌-◌, Bool, true, false, List, [], ◌∷◌, Option, None, Some, length, cond, nat_le}
use Rattle.std.specs.List.{flat_map}
use Rattle.base_types.specs.Limits.{include_depth_limit}
use Rattle.pp_tokens.specs.declared.Token.{Token}
use Rattle.pp_tokens.specs.Lines.{LexedFile}
use Rattle.directive_scan.specs.declared.Piece.{Piece}
use Rattle.directive_scan.specs.declared.Malformed.{Malformed}
use Rattle.directive_scan.specs.declared.Malformed.TheVariants as malformed
use Rattle.directive_scan.specs.Groups.{Role, single, opening, elif_line, else_line, endif_line, role_of}
use Rattle.cpp_output.specs.Layout.{Event, enter}
use Rattle.tree_model.specs.Paths.{Path, spelled}
use Rattle.tree_model.specs.Shown.{presumed_name}
use Rattle.daemon_cpp.specs.Diagnostics.{Diagnostic, WithoutIf, AfterElse, Unended}
use Rattle.daemon_cpp.specs.Prep.{World, Here, State, PrepStep, Go, and_then, with_value, Entering, piece_step, piece_test, run_file, paid, opening_cost, enter_file, back_in}

-- How the pieces of a file are read: one after another; or none up to the next line of the present conditional, of which no group was
-- read so far, from within so many conditionals; or none up to its end, behind the group that was read. Conditionals around it need
-- no place here: a group of each is read.
pub data ReadingStage : Type 0 where
  reading : ReadingStage
  seeking : ℕ → ReadingStage
  passing : ℕ → ReadingStage

-- the stage behind a line of a conditional, by its test
abbrev pub stage_of : Bool → ReadingStage
stage_of true = reading
stage_of false = seeking 0

module _ (world : World) (entering : Entering) where
  -- a piece at a stage, by what it is to the nesting, and what follows
  abbrev pub staged : (ReadingStage → State → PrepStep) → Piece → State → ReadingStage → Role → PrepStep
  staged next p state reading single = and_then (λ after. next reading after) (piece_step world entering p state)
  staged next p state reading opening = with_value (λ holds after. next (stage_of holds) after) (piece_test world p state)
  staged next p state reading elif_line = next (passing 0) state
  staged next p state reading else_line = next (passing 0) state
  staged next p state reading endif_line = next reading state
  staged next p state (seeking n) single = next (seeking n) state
  staged next p state (seeking n) opening = next (seeking (suc n)) state
  staged next p state (seeking zero) elif_line = with_value (λ holds after. next (stage_of holds) after) (piece_test world p state)
  staged next p state (seeking zero) else_line = with_value (λ holds after. next (stage_of holds) after) (piece_test world p state)
  staged next p state (seeking zero) endif_line = next reading state
  staged next p state (seeking (suc n)) elif_line = next (seeking (suc n)) state
  staged next p state (seeking (suc n)) else_line = next (seeking (suc n)) state
  staged next p state (seeking (suc n)) endif_line = next (seeking n) state
  staged next p state (passing n) single = next (passing n) state
  staged next p state (passing n) opening = next (passing (suc n)) state
  staged next p state (passing n) elif_line = next (passing n) state
  staged next p state (passing n) else_line = next (passing n) state
  staged next p state (passing zero) endif_line = next reading state
  staged next p state (passing (suc n)) endif_line = next (passing n) state

  -- pieces from a stage on
  unfoldable pub run_flat : ReadingStage → List Piece → State → PrepStep
  run_flat stage [] state = Go state
  run_flat stage (p ∷ ps) state = staged (λ next after. run_flat next ps after) p state stage (role_of p)

-- from the next line of the present conditional on, or its end, from within so many conditionals
abbrev pub skip_piece : (ℕ → List Piece) → List Piece → ℕ → Role → List Piece
skip_piece next here n single = next n
skip_piece next here n opening = next (suc n)
skip_piece next here zero elif_line = here
skip_piece next here zero else_line = here
skip_piece next here zero endif_line = here
skip_piece next here (suc n) elif_line = next (suc n)
skip_piece next here (suc n) else_line = next (suc n)
skip_piece next here (suc n) endif_line = next n

unfoldable pub skipped : ℕ → List Piece → List Piece
skipped n [] = []
skipped n (p ∷ ps) = skip_piece (λ m. skipped m ps) (p ∷ ps) n (role_of p)

-- how many conditionals stand around the next piece, behind one of this role; none where it is the next line of the present one
abbrev pub depth_behind : Role → ℕ → Option ℕ
depth_behind single n = Some n
depth_behind opening n = Some (suc n)
depth_behind elif_line zero = None
depth_behind else_line zero = None
depth_behind endif_line zero = None
depth_behind elif_line (suc n) = Some (suc n)
depth_behind else_line (suc n) = Some (suc n)
depth_behind endif_line (suc n) = Some n

abbrev pub is_endif : Role → Bool
is_endif single = false
is_endif opening = false
is_endif elif_line = false
is_endif else_line = false
is_endif endif_line = true

-- a file that was left at an include on a line, with its pieces behind that
pub record Frame : Type 0 where
  pub here : Here
  pub at : ℕ
  pub rest : List Piece

-- entering from a file around which so many are open
abbrev pub entering_at : World → ℕ → Entering
entering_at world level = enter_file world (include_depth_limit - level)

-- a step in the file that is read, and then the rest of each file that was left; the files are listed from the source inward
unfoldable pub frames_resumed : World → ℕ → List Frame → PrepStep → PrepStep
frames_resumed world level [] step = step
frames_resumed world level (frame ∷ inner) step =
    and_then (λ after. run_flat world (entering_at world level) reading frame.rest after)
    (and_then (λ after. back_in frame.here frame.at after) (frames_resumed world (suc level) inner step))

-- the events in front of a file: an included one's marker
abbrev pub front_events : Bool → Path → List Event
front_events true place = enter (presumed_name place) ∷ []
front_events false place = []

-- how many tokens some lines have
abbrev pub token_count : List (List Token) → ℕ
token_count lines = length (flat_map (λ line. line) lines)

-- the work left when some is paid; none where it isn't enough
abbrev pub work_after : ℕ → ℕ → Option ℕ
work_after cost left = cond (nat_le cost left) (Some (left - cost)) None

-- a file that is opened, by its lexed form: its work is paid
abbrev pub run_body : World → Entering → List Event → LexedFile → State → PrepStep
run_body world entering events file state = paid world entering (opening_cost world entering file) (run_file world entering events file file.unended) state

-- what is wrong with the conditionals of a file at a place
abbrev pub malformed_told : Path → Malformed → Diagnostic
malformed_told place (malformed.WithoutIf name at) = record { place = spelled place; at = at; complaint = WithoutIf name }
malformed_told place (malformed.AfterElse name at) = record { place = spelled place; at = at; complaint = AfterElse name }
malformed_told place (malformed.Unended at) = record { place = spelled place; at = at; complaint = Unended }
