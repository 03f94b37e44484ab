-- What the functions that read a token answer.
use Rattle.std.specs.Prelude.{◌≡◌, ℕ, List, Option, Some, None}
use Rattle.job_frames.specs.declared.FrameError.{FrameError}
use Rattle.job_frames.specs.declared.fields.Number.{Number}
use Rattle.job_frames.specs.declared.fields.Number.TheVariants.{More, Refused, Taken}
use Rattle.job_frames.specs.Fields.{Step, short, refused, taken}
use Rattle.job_frames.specs.Outcomes.{number_of}

-- the answer tells what was read, where a value leaves this rest
abbrev pub TellsLetters : Number → List ℕ → Step (Unit {0}) → Type 0
TellsLetters More rest s = s ≡ short
TellsLetters (Refused e) rest s = s ≡ refused (number_of e)
TellsLetters (Taken n) rest s = s ≡ taken tt rest

abbrev pub TellsNumber : Number → List ℕ → Step ℕ → Type 0
TellsNumber More rest s = s ≡ short
TellsNumber (Refused e) rest s = s ≡ refused (number_of e)
TellsNumber (Taken n) rest s = s ≡ taken n rest

abbrev pub IsTaken : Number → Type 0
IsTaken More = ⊥
IsTaken (Refused e) = ⊥
IsTaken (Taken n) = Unit {0}

abbrev pub IsMore : Number → Type 0
IsMore More = Unit {0}
IsMore (Refused e) = ⊥
IsMore (Taken n) = ⊥

-- a judge's answer
abbrev pub told_judge : Option FrameError → Option ℕ
told_judge None = None
told_judge (Some e) = Some (number_of e)
