-- The verdict on all bytes so far, and what feeding a reader does.
use Rattle.std.specs.Prelude.{◌≡◌, ℕ, List, [], ◌∷◌, ◌++◌, ◌⊎◌, Option, Some, None}
use Rattle.job_frames.specs.declared.FrameError.{FrameError}
use Rattle.job_frames.specs.declared.FrameError.TheVariants.{Memory, Version, Token, Digits, Limit, Order, Parent, Words, Cut}
use Rattle.job_frames.specs.declared.Fed.{Fed}
use Rattle.job_frames.specs.declared.Fed.TheVariants.{More, Done, Refused}
use Rattle.job_frames.specs.Fields.{Step, short, refused, taken, order_reason}

-- The verdict on all bytes so far: nothing is wrong yet, or they give a value, or they are refused by the reason of
-- the first byte that is wrong. (Bytes with which nothing is wrong yet need not begin a whole spelling.)
pub data Verdict (A : Type 0) : Type 0 where
  going : Verdict A
  done : A → Verdict A
  reason : ℕ → Verdict A

-- the verdict where whatever follows the end doesn't matter
abbrev pub whatever_follows : {A : Type 0} → Step A → Verdict A
whatever_follows short = going
whatever_follows (refused n) = reason n
whatever_follows (taken a rest) = done a

-- the verdict where no byte may follow the end
abbrev pub frame_at_end : {A : Type 0} → A → List ℕ → Verdict A
frame_at_end a [] = done a
frame_at_end a (b ∷ bytes) = reason order_reason

abbrev pub nothing_follows : {A : Type 0} → Step A → Verdict A
nothing_follows short = going
nothing_follows (refused n) = reason n
nothing_follows (taken a rest) = frame_at_end a rest

abbrev pub number_of : FrameError → ℕ
number_of Memory = 1
number_of Version = 2
number_of Token = 3
number_of Digits = 4
number_of Limit = 5
number_of Order = 6
number_of Parent = 7
number_of Words = 8
number_of Cut = 9

-- an answer tells a verdict
abbrev pub Tells : {A : Type 0} → Fed → Verdict A → Type 0
Tells More v = v ≡ going
Tells {A} Done v = (a : A) × (v ≡ done a)
Tells (Refused e) v = v ≡ reason (number_of e)

-- the value of a verdict
abbrev pub value_of : {A : Type 0} → Verdict A → Option A
value_of going = None
value_of (done a) = Some a
value_of (reason n) = None

-- A reader is seen as the verdict that is left: what it says of each text that may come, behind all that came.
abbrev pub Left : Type 0 → Type 0
Left A = List ℕ → Verdict A

-- no refusal stands yet
abbrev pub NotRefused : {A : Type 0} → Left A → Type 0
NotRefused before = (n : ℕ) → before [] ≡ reason n → ⊥

-- feeding a piece: the answer is the verdict on all bytes so far. Only want of memory is no verdict, which comes where
-- no refusal stands yet, and stays.
abbrev pub IsFed : {A : Type 0} → Left A → List ℕ → Left A → Fed → Type 0
IsFed before piece after answer =
    (Tells answer (before piece) × ((more : List ℕ) → after more ≡ before (piece ++ more)))
    ⊎ (NotRefused before × (answer ≡ Refused Memory) × ((more : List ℕ) → after more ≡ reason 1))

-- the verdict where no byte follows: what isn't whole is cut off
abbrev pub frame_ended : {A : Type 0} → Verdict A → Verdict A
frame_ended going = reason 9
frame_ended (done a) = done a
frame_ended (reason n) = reason n

-- what a reader says behind its end, by its verdict at the end: a text that was cut off stays so
abbrev pub after_end : {A : Type 0} → Verdict A → Verdict A → Verdict A
after_end going v = reason 9
after_end (done a) v = v
after_end (reason n) v = v

-- ending a reader
abbrev pub IsEnded : {A : Type 0} → Left A → Left A → Fed → Type 0
IsEnded before after answer = Tells answer (frame_ended (before [])) × ((more : List ℕ) → after more ≡ after_end (before []) (before more))
