-- Formats: the description of a frame, field by field, and the one reading of them all.
use Rattle.std.specs.Prelude.{ℕ, List, [], ◌∷◌, Option}
use Rattle.job_frames.specs.Fields.{Step, short, refused, taken, ◌>>=◌, field_token_at, field_body_at}

-- What is due in a frame, and what behind it, by what came: a value, where all has come; or a reason, where what came is wrong;
-- or a token with these letters, whose number a judge lets pass; or a body of this length; or any byte, which tells by its
-- letter what is due, and is itself the first one of that.
pub data Format (A : Type 0) : Type 0 where
  gives : A → Format A
  refuses : ℕ → Format A
  due_token : List ℕ → (ℕ → Option ℕ) → (ℕ → Format A) → Format A
  due_body : ℕ → (List ℕ → Format A) → Format A
  due_letter : (ℕ → Format A) → Format A

-- what a format reads from the front of a text
abbrev pub reading : {A : Type 0} → Format A → List ℕ → Step A
reading (gives a) bytes = taken a bytes
reading (refuses n) bytes = refused n
reading (due_token letters judge next) bytes = field_token_at letters judge bytes >>= λ n rest. reading (next n) rest
reading (due_body n next) bytes = field_body_at n bytes >>= λ body rest. reading (next body) rest
reading (due_letter next) [] = short
reading (due_letter next) (b ∷ bytes) = reading (next b) (b ∷ bytes)
