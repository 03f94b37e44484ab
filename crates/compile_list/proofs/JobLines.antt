-- The jobs of lines, one after another.
use Rattle.std.proofs.Common.{◌≡◌, ℕ, ◌+◌, ◌<◌, List, [], ◌∷◌, ◌++◌, length, Bool, true, false, if◌then◌else◌, Result, Ok, Err, refl, ap, arith, length-append}
use Rattle.std.specs.Prelude.{nat_le}
use Rattle.std.proofs.lemmas.Bool.{leb-true}
use Rattle.base_types.specs.Limits.{list_limit}
use Rattle.tree_model.specs.Paths.{Text}
use Rattle.job_words.specs.declared.job.Job.{Job}
use Rattle.compile_list.specs.declared.refused.ListError.{ListError}
use Rattle.compile_list.specs.declared.refused.ListWhy.{ListWhy}
use Rattle.compile_list.specs.Listed.{jobs_of, jobs_from, and_on, with_line, list_lines, too_long}

abbrev on : ℕ → List Text → Result (List Job) ListWhy → Result (List Job) ListError
on number lines read = and_on number (λ jobs. jobs_from (number + 1) jobs lines) read

-- a line was read, and the rest goes on from its jobs
pub line-read : (number : ℕ) (jobs more : List Job) (line : Text) (lines : List Text) → with_line jobs line ≡ Ok more → jobs_from number jobs (line ∷ lines) ≡ jobs_from (number + 1) more lines
unfolding jobs_from
line-read number jobs more line lines read = ap (on number lines) read

-- a line is refused, and so is the list
pub line-refused : (number : ℕ) (jobs : List Job) (line : Text) (lines : List Text) (why : ListWhy) → with_line jobs line ≡ Err why → jobs_from number jobs (line ∷ lines) ≡ Err (record { line = number; why = why })
unfolding jobs_from
line-refused number jobs line lines why refused = ap (on number lines) refused

-- no line is left
pub lines-ended : (number : ℕ) (jobs : List Job) → jobs_from number jobs [] ≡ Ok jobs
unfolding jobs_from
lines-ended number jobs = refl

-- a list within the limit
pub within : (bytes : Text) → nat_le (length bytes) list_limit ≡ true → jobs_of bytes ≡ jobs_from 1 [] (list_lines bytes)
unfolding jobs_of
within bytes short = ap (λ b. if b then jobs_from 1 [] (list_lines bytes) else Err too_long) short

-- a list of more bytes than are read
pub long-lists : (bytes more : Text) → list_limit < length bytes → jobs_of (bytes ++ more) ≡ Err too_long
unfolding jobs_of
long-lists bytes more long = by_test (nat_le (length (bytes ++ more)) list_limit) refl
  where
    by_test : (b : Bool) → nat_le (length (bytes ++ more)) list_limit ≡ b → (if b then jobs_from 1 [] (list_lines (bytes ++ more)) else Err too_long) ≡ Err too_long
    by_test true e =
        let within = leb-true (length (bytes ++ more)) list_limit e in
        let all = length-append bytes more in
        absurd (omega (arith, within, all, long))
    by_test false e = refl
