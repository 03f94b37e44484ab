-- Where a machine stands in a format, its moves, and what a reader of a frame says.
use Rattle.std.specs.Prelude.{◌≡◌, ◌⊎◌, ℕ, ◌≤◌, ◌<◌, List, [], ◌++◌, length, drop, Option, Some, None, Bool, true, false}
use Rattle.job_frames.specs.declared.FrameError.{FrameError}
use Rattle.job_frames.specs.declared.FrameError.TheVariants as why
use Rattle.job_frames.specs.declared.Fed.{Fed}
use Rattle.job_frames.specs.declared.Fed.TheVariants as fed
use Rattle.job_frames.specs.declared.field.Field.{Field}
use Rattle.job_frames.specs.declared.field.Field.TheVariants.{Whole}
use Rattle.job_frames.specs.declared.machine.Machine.{Machine}
use Rattle.job_frames.specs.declared.machine.Move.{Move}
use Rattle.job_frames.specs.declared.machine.Move.TheVariants.{Rest, Go}
use Rattle.job_frames.specs.declared.machine.Ran.{Ran}
use Rattle.job_frames.specs.declared.frame_reader.FrameReader.{FrameReader}
use Rattle.job_frames.specs.Fields.{Step, short, refused}
use Rattle.job_frames.specs.Formats.{Format, reading}
use Rattle.job_frames.specs.Outcomes.{Verdict, reason, Left, whatever_follows, nothing_follows, number_of}
use Rattle.job_frames.specs.parts.Dues.{due_of, size_of, wanted}

-- what a machine reads behind all that came, and what it keeps: no more has come than the field that is due has
abbrev pub left_to_read : {F A : Type 0} → (F → Format A) → Machine F → List ℕ → Step A
left_to_read format m more = reading (format m.frame) (m.pending.items ++ more)

pub record MachineStands {F A : Type 0} (format : F → Format A) (keeps : F → Type 0) (m : Machine F) : Type 0 where
  pub fits : length m.pending.items ≤ wanted (due_of (format m.frame))
  pub kept : keeps m.frame

-- all has come
abbrev pub IsWholeFrame : {A : Type 0} → Format A → Type 0
IsWholeFrame f = due_of f ≡ Some Whole

-- one move: the verdict on what came, or the field that is due has come and the next is due
abbrev pub Moves : {F A : Type 0} → (F → Format A) → (F → ℕ) → (F → Type 0) → Field → Machine F → Machine F → Move → Type 0
Moves format rank keeps field old new (Rest fed.More) = (new ≡ old) × (length old.pending.items < size_of field) × (left_to_read format old [] ≡ short)
Moves format rank keeps field old new (Rest fed.Done) = (new ≡ old) × (field ≡ Whole)
Moves format rank keeps field old new (Rest (fed.Refused e)) = (e ≡ why.Memory) ⊎ ((more : List ℕ) → left_to_read format old more ≡ refused (number_of e))
Moves format rank keeps field old new Go = ((more : List ℕ) → left_to_read format new more ≡ left_to_read format old more) × (rank new.frame < rank old.frame) × MachineStands format keeps new

-- a machine stands behind a piece as far as this place: what it reads is what it read
abbrev pub Passed : {F A : Type 0} → (F → Format A) → (F → Type 0) → Machine F → List ℕ → ℕ → Machine F → Type 0
Passed format keeps old piece at new = (at ≤ length piece) × ((more : List ℕ) → left_to_read format new (drop at piece ++ more) ≡ left_to_read format old (piece ++ more)) × MachineStands format keeps new

-- the verdict on a piece behind all that came
abbrev pub HasRunTo : {F A : Type 0} → (F → Format A) → (F → Type 0) → Machine F → List ℕ → Machine F → ℕ → Fed → Type 0
HasRunTo format keeps old piece new at fed.More = ((more : List ℕ) → left_to_read format new more ≡ left_to_read format old (piece ++ more)) × (left_to_read format new [] ≡ short) × MachineStands format keeps new
HasRunTo format keeps old piece new at fed.Done = Passed format keeps old piece at new × IsWholeFrame (format new.frame)
HasRunTo format keeps old piece new at (fed.Refused e) = (e ≡ why.Memory) ⊎ ((more : List ℕ) → left_to_read format old (piece ++ more) ≡ refused (number_of e))

abbrev pub HasRun : {F A : Type 0} → (F → Format A) → (F → Type 0) → Machine F → List ℕ → Machine F → Ran → Type 0
HasRun format keeps old piece new ran = HasRunTo format keeps old piece new ran.at ran.fed

-- READERS

-- the verdict on what is read, where bytes may follow the end or where none may
abbrev pub verdict : {A : Type 0} → Bool → Step A → Verdict A
verdict true s = whatever_follows s
verdict false s = nothing_follows s

-- the verdict where a machine came to rest with bytes left or not: where no byte may follow the end, one more is wrong
abbrev pub at_end_of : Bool → Bool → Fed
at_end_of true is_left = fed.Done
at_end_of false true = fed.Refused why.Order
at_end_of false false = fed.Done

abbrev pub rested : Fed → Bool → Bool → Fed
rested fed.More follows is_left = fed.More
rested fed.Done follows is_left = at_end_of follows is_left
rested (fed.Refused e) follows is_left = fed.Refused e

-- the verdict on all that came and each text that may come, by why a reader stopped, if it did
abbrev pub left_verdict : {A : Type 0} → Bool → Option FrameError → Format A → List ℕ → Left A
left_verdict follows None f pending more = verdict follows (reading f (pending ++ more))
left_verdict follows (Some e) f pending more = reason (number_of e)

abbrev pub left_of : {F A : Type 0} → (F → Format A) → Bool → FrameReader F → Left A
left_of format follows r = left_verdict follows r.stopped (format r.machine.frame) r.machine.pending.items

-- a machine that was left at a verdict: all has come, or its field isn't whole
abbrev pub Settled : {F A : Type 0} → (F → Format A) → Machine F → Type 0
Settled format m = IsWholeFrame (format m.frame) ⊎ (left_to_read format m [] ≡ short)

abbrev pub KeepsReader : {F A : Type 0} → (F → Format A) → (F → Type 0) → Option FrameError → Machine F → Type 0
KeepsReader format keeps None m = MachineStands format keeps m × Settled format m
KeepsReader format keeps (Some e) m = Unit {0}
