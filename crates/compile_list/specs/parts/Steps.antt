-- What reading a list comes to, and what the code has of it on the way.
use Rattle.std.specs.Prelude.{◌≡◌, ◌≤◌, ℕ, List, [], ◌∷◌, ◌++◌, length, map, take, nat_lt, bytes_eq, Option, Some, Result, Ok, Err}
use Rattle.std.specs.HashSet.{HashSet, contains_by}
use Rattle.std.specs.List.{filter, AllByRecursion}
use Rattle.std.specs.Option.{ForSome}
use Rattle.base_types.specs.Causes.{Rose}
use Rattle.base_types.specs.Limits.{job_limit}
use Rattle.tree_model.specs.Paths.{Text}
use Rattle.job_words.specs.declared.job.Job.{Job}
use Rattle.job_words.specs.Words.{IsJob}
use Rattle.compile_list.specs.declared.line.LineWords.{LineWords}
use Rattle.compile_list.specs.declared.listed.NoJobs.{NoJobs}
use Rattle.compile_list.specs.declared.listed.NoJobs.TheVariants as no_jobs
use Rattle.compile_list.specs.Listed.{jobs_of, is_taken, unit_words}

-- A list of these bytes, of which those are left afterwards, gives its jobs, at most 20,000, and was read to its end; or it is refused, or
-- the count of its faults rose, or there was no memory.
abbrev pub ListGives : Option (List ℕ) → Option (List ℕ) → ℕ → ℕ → Result (List Job) NoJobs → Type 0
ListGives before now from to (Ok jobs) =
    AllByRecursion IsJob jobs × ((length jobs ≤ job_limit) × (ForSome before (λ bytes. jobs_of bytes ≡ Ok jobs) × ForSome now (λ rest. rest ≡ [])))
ListGives before now from to (Err (no_jobs.Refused error)) = ForSome before (λ bytes. jobs_of bytes ≡ Err error)
ListGives before now from to (Err no_jobs.Fault) = Rose from to
ListGives before now from to (Err no_jobs.Memory) = Unit {0}

-- ---- on the way ----

-- a word of these bytes, if there are any
abbrev pub word_in : Text → List Text
word_in word = filter (λ word. nat_lt 0 (length word)) (word ∷ [])

-- the first 1,002 words of what was read of a line and of these units behind it
abbrev pub kept : LineWords → List (Option ℕ) → List Text
kept words units = take 1002 (words.ended ++ unit_words (map (λ b. Some b) words.word.items ++ units))

-- a set has the names of the outputs of jobs
abbrev pub HasOutputs : {S : Type 0} → HashSet Text S → List Job → Type 0
HasOutputs outputs jobs = (output : Text) → contains_by (λ other. bytes_eq output other) outputs ≡ is_taken output jobs
