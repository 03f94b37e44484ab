-- A job's working directory and words are within the limits of their fields.
use Rattle.std.proofs.Common.{◌≤◌, List, [], ◌∷◌, length}
use Rattle.std.specs.Prelude.{All}
use Rattle.std.specs.List.{AllByRecursion}
use Rattle.std.proofs.lemmas.List.Elements.{All-from_recursion}
use Rattle.tree_model.specs.Paths.{Text}
use Rattle.job_words.specs.declared.job.Job.{Job}
use Rattle.job_words.specs.Words.{IsJob, IsWord, JobsAreShort}

pub short-cwd : JobsAreShort → (job : Job) → IsJob job → length job.setup.cwd ≤ 4096
short-cwd short job is = (short job.setup.cwd job.words job is).place.1

pub few-words : JobsAreShort → (job : Job) → IsJob job → length job.words ≤ 1000
few-words short job is = (short job.setup.cwd job.words job is).few

each-short : (words : List Text) → AllByRecursion IsWord words → AllByRecursion (λ (word : Text). length word ≤ 4096) words
each-short [] each = tt
each-short (word ∷ words) each = (each.0.1, each-short words each.1)

pub short-words : JobsAreShort → (job : Job) → IsJob job → All (λ (word : Text). length word ≤ 4096) job.words
short-words short job is =
    All-from_recursion (λ (word : Text). length word ≤ 4096) job.words (each-short job.words (short job.setup.cwd job.words job is).each)
