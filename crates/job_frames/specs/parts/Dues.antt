-- Which field of a format is due, what is due behind it, and what taking it means.
use Rattle.std.specs.Prelude.{◌≡◌, ◌⊎◌, ℕ, ◌<◌, List, Option, Some, None, Bool, true, false, Result, Ok, Err}
use Rattle.job_frames.specs.declared.FrameError.{FrameError}
use Rattle.job_frames.specs.declared.FrameError.TheVariants.{Memory}
use Rattle.job_frames.specs.declared.field.Field.{Field}
use Rattle.job_frames.specs.declared.field.Field.TheVariants.{Token, Body, Letter, Whole}
use Rattle.job_frames.specs.Formats.{Format, gives, refuses, due_token, due_body, due_letter}
use Rattle.job_frames.specs.Outcomes.{number_of}

-- the field that is due; none is where what came is wrong
abbrev pub due_of : {A : Type 0} → Format A → Option Field
due_of (gives a) = Some Whole
due_of (refuses n) = None
due_of (due_token letters judge next) = Some (Token letters)
due_of (due_body n next) = Some (Body n)
due_of (due_letter next) = Some Letter

-- how many bytes a field has
abbrev pub size_of : Field → ℕ
size_of (Token letters) = 12
size_of (Body n) = n
size_of Letter = 1
size_of Whole = 0

abbrev pub wanted : Option Field → ℕ
wanted None = 0
wanted (Some due) = size_of due

abbrev pub is_token_due : Option Field → Bool
is_token_due (Some (Token letters)) = true
is_token_due _ = false

-- a format, where a number passes its judge
abbrev pub passed : {A : Type 0} → Option ℕ → Format A → Format A
passed None f = f
passed (Some why) f = refuses why

-- what is due behind a token's number, behind a body, and at a letter
abbrev pub behind_token : {A : Type 0} → Format A → ℕ → Format A
behind_token (due_token letters judge next) n = passed (judge n) (next n)
behind_token f n = f

abbrev pub behind_body : {A : Type 0} → Format A → List ℕ → Format A
behind_body (due_body n next) bytes = next bytes
behind_body f bytes = f

abbrev pub at_letter : {A : Type 0} → Format A → ℕ → Format A
at_letter (due_letter next) c = next c
at_letter f c = f

-- a frame went on to where this is due, and fewer fields than a bound may be due yet; or it was refused by the reason of what is due.
-- Only want of memory tells nothing.
abbrev pub Went : {F A : Type 0} → (F → Format A) → (F → ℕ) → (F → Type 0) → Format A → ℕ → F → Result (Unit {0}) FrameError → Type 0
Went format rank keeps next bound new (Ok u) = (format new ≡ next) × (rank new < bound) × keeps new
Went format rank keeps next bound new (Err e) = (e ≡ Memory) ⊎ (next ≡ refuses (number_of e))
