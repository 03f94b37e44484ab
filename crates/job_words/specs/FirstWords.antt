-- How many words a reading needs.
use Rattle.std.specs.Prelude.{◌≡◌, ◌+◌, List, take}
use Rattle.base_types.specs.Limits.{job_words_limit}
use Rattle.tree_model.specs.Paths.{Text}
use Rattle.job_words.specs.Words.{job_reading}

-- words beyond the first 1,001 change nothing, since these are too many already
abbrev pub FirstWordsDecide : Type 0
FirstWordsDecide = (cwd : Text) (words : List Text) → job_reading cwd (take (job_words_limit + 1) words) ≡ job_reading cwd words
