-- The jobs that a compile list asks for.
use Rattle.std.specs.Prelude.{ℕ, List, [], ◌∷◌, ◌++◌, length, map, Bool, true, false, ◌||◌, ◌+◌, ◌==◌, if◌then◌else◌, nat_le, nat_lt, bytes_eq, Option, None, Some, Result, Ok, Err}
use Rattle.std.specs.List.{list_any, filter, filter_map, slice_split}
use Rattle.std.specs.Option.{option_map, is_none}
use Rattle.base_types.specs.Ascii as ascii
use Rattle.base_types.specs.Limits.{job_limit, list_limit}
use Rattle.bstr.specs.Text.{lines_of, without_terminator}
use Rattle.tree_model.specs.Paths.{Text}
use Rattle.job_words.specs.declared.job.Job.{Job}
use Rattle.job_words.specs.Words.{job_reading}
use Rattle.job_words.specs.declared.reading.WordError.{WordError}
use Rattle.compile_list.specs.declared.refused.ListError.{ListError}
use Rattle.compile_list.specs.declared.refused.ListWhy.{ListWhy}
use Rattle.compile_list.specs.declared.refused.ListWhy.TheVariants.{Escape, Limit, Words, Output}

-- the lines: `\n` or `\r\n` ends one, and the last may lack it; a `\r` that no `\n` follows is a byte like others
abbrev pub list_lines : Text → List Text
list_lines bytes = map without_terminator (lines_of bytes)

-- ---- the words of a line ----

-- a space or a tab
abbrev pub is_blank : ℕ → Bool
is_blank b = (b == ascii.space) || (b == ascii.tab)

-- a byte of a word, or None for a blank, which stands between words
abbrev pub unit_of : ℕ → Option ℕ
unit_of b = if is_blank b then None else Some b

-- a unit in front of others
abbrev pub with_unit : Option ℕ → Option (List (Option ℕ)) → Option (List (Option ℕ))
with_unit unit behind = option_map (λ units. unit ∷ units) behind

-- the units of a line: a `\` and the byte behind it are that byte as a byte of a word; none where a `\` ends the line
unfoldable pub units : Text → Option (List (Option ℕ))
units [] = Some []
units (b ∷ []) = if b == ascii.backslash then None else Some (unit_of b ∷ [])
units (b ∷ c ∷ line) = elim (b == ascii.backslash) [ true ↦ with_unit (Some c) (units line) | false ↦ with_unit (unit_of b) (units (c ∷ line)) ]

-- the bytes of a part between blanks
abbrev pub part_bytes : List (Option ℕ) → Text
part_bytes part = filter_map (λ unit. unit) part

-- the parts between blanks that aren't empty
abbrev pub unit_words : List (Option ℕ) → List Text
unit_words units = filter (λ word. nat_lt 0 (length word)) (map part_bytes (slice_split (λ unit. is_none unit) units))

-- the words of a line; none where a `\` ends it
abbrev pub line_words : Text → Option (List Text)
line_words line = option_map unit_words (units line)

-- ---- the job of a line ----

abbrev pub is_comment_line : Text → Bool
is_comment_line [] = false
is_comment_line (b ∷ line) = b == ascii.hash

-- an earlier job has the output's name
abbrev pub is_taken : Text → List Job → Bool
is_taken output jobs = list_any (λ (job : Job). bytes_eq output job.output) jobs

-- jobs, and the one that was read behind them
abbrev pub with_read : List Job → Result Job WordError → Result (List Job) ListWhy
with_read jobs (Err why) = Err (Words why)
with_read jobs (Ok job) = if is_taken job.output jobs then Err Output else Ok (jobs ++ job ∷ [])

-- jobs, and the one that a line's words ask for behind them, if they aren't 20,000: a working directory and compile words
abbrev pub with_line_job : List Job → Option (List Text) → Result (List Job) ListWhy
with_line_job jobs None = Err Escape
with_line_job jobs (Some []) = Ok jobs
with_line_job jobs (Some (cwd ∷ words)) = if nat_le job_limit (length jobs) then Err Limit else with_read jobs (job_reading cwd words)

-- the jobs of the lines in front of a line, and its own, if it gives one; or why it is refused
abbrev pub with_line : List Job → Text → Result (List Job) ListWhy
with_line jobs line = if is_comment_line line then Ok jobs else with_line_job jobs (line_words line)

-- ---- the jobs of a list ----

-- jobs are read on from, and the line at which they are refused is told by its number
abbrev pub and_on : ℕ → (List Job → Result (List Job) ListError) → Result (List Job) ListWhy → Result (List Job) ListError
and_on number next (Ok jobs) = next jobs
and_on number next (Err why) = Err (record { line = number; why = why })

-- the jobs of the lines in front, and those of these lines, of which the first has this number
unfoldable pub jobs_from : ℕ → List Job → List Text → Result (List Job) ListError
jobs_from number jobs [] = Ok jobs
jobs_from number jobs (line ∷ lines) = and_on number (λ more. jobs_from (number + 1) more lines) (with_line jobs line)

-- a list of more than 16,777,216 bytes is refused as a whole
abbrev pub too_long : ListError
too_long = record { line = 0; why = Limit }

-- The jobs of a list, whose lines are counted from 1; or the first line that is refused, and why.
unfoldable pub jobs_of : Text → Result (List Job) ListError
jobs_of bytes = if nat_le (length bytes) list_limit then jobs_from 1 [] (list_lines bytes) else Err too_long
