-- What a reading keeps, and how long its words are.
use Rattle.std.proofs.Common.{◌≡◌, ◌≤◌, nat_le, Bool, true, false, not, if◌then◌else◌, List, [], ◌∷◌, length, Option, Some, None, Result, Ok, Err, refl, sym, ap, subst, ◌∙◌, arith}
use Rattle.std.specs.List.{list_all, AllByRecursion}
use Rattle.std.proofs.lemmas.Bool.{leb-true, and_parts}
use Rattle.tree_model.specs.Paths.{Text}
use Rattle.tree_model.specs.Walk.{is_absolute}
use Rattle.job_words.specs.JobOf.{JobData}
use Rattle.job_words.specs.declared.given.Given.{Given}
use Rattle.job_words.specs.declared.given.Taker.{Taker}
use Rattle.job_words.specs.declared.reading.WordError.{WordError}
use Rattle.job_words.specs.declared.reading.WordError.TheVariants.{Cwd, Limit}
use Rattle.job_words.specs.Words.{ReadBehind, Word, Takes, Trigraphs, NoEffect, Source, NotKnown, give, read_and_then, at_source, at_word, read_on, nothing, word_of, word_without_operand, has_no_effect, finished_job, with_source, job_in, is_directory, are_short, job_reading, job_of, job_given, IsWord, JobsKeepWords, JobsAreShort}

-- the reading that a job comes from
job-read : (r : Result JobData WordError) (job : JobData) → job_given r ≡ Some job → r ≡ Ok job
job-read (Ok other) job e = let same : other ≡ job = cc in ap (λ j. Ok j) same
job-read (Err why) job e = absurd (cc)

-- a reading that gave a job: the tests held, and the words were read to their end
record IsRead (cwd : Text) (words : List Text) (job : JobData) : Type 0 where
  place : is_directory cwd ≡ true
  few : are_short words ≡ true
  whole : finished_job cwd words (read_on None words nothing) ≡ Ok job

parts_by : (cwd : Text) (words : List Text) (job : JobData) (a b : Bool) → is_directory cwd ≡ a → are_short words ≡ b
    → (if not a then Err Cwd else (if not b then Err Limit else finished_job cwd words (read_on None words nothing))) ≡ Ok job → IsRead cwd words job
parts_by cwd words job true true p q e = record { place = p; few = q; whole = e }
parts_by cwd words job true false p q e = absurd (cc)
parts_by cwd words job false b p q e = absurd (cc)

parts : (cwd : Text) (words : List Text) (job : JobData) → job_of cwd words ≡ Some job → IsRead cwd words job
unfolding job_of job_reading
parts cwd words job e = parts_by cwd words job (is_directory cwd) (are_short words) refl refl (job-read (job_reading cwd words) job e)

kept-with : (cwd : Text) (words : List Text) (source : Option Text) (given : Given) (job : JobData) → with_source cwd words source given ≡ Ok job → (job.setup.cwd ≡ cwd) × (job.words ≡ words)
kept-with cwd words None given job e = absurd (cc)
kept-with cwd words (Some source) given job e = (sym (ap (λ r. job_cwd r) e), sym (ap (λ r. job_words r) e))
  where
    job_cwd : Result JobData WordError → Text
    job_cwd (Ok j) = j.setup.cwd
    job_cwd (Err why) = cwd

    job_words : Result JobData WordError → List Text
    job_words (Ok j) = j.words
    job_words (Err why) = words

kept : (cwd : Text) (words : List Text) (r : Result Given WordError) (job : JobData) → finished_job cwd words r ≡ Ok job → (job.setup.cwd ≡ cwd) × (job.words ≡ words)
kept cwd words (Ok given) job e = kept-with cwd words given.source given job e
kept cwd words (Err why) job e = absurd (cc)

pub keeps-words : JobsKeepWords
keeps-words cwd words job e = kept cwd words (read_on None words nothing) job (parts cwd words job e).whole

-- ---- lengths ----

-- an operand that isn't refused is read on behind
on-given : (onward : Given → Result Given WordError) (given : Result Given WordError) (all : Given) → read_and_then onward given ≡ Ok all → (more : Given) × (onward more ≡ Ok all)
on-given onward (Ok more) all e = (more, e)
on-given onward (Err why) all e = absurd (cc)

-- a step that ends well goes on behind its word
goes-on : (next : ReadBehind) (word : Word) (given all : Given) → at_word next word given ≡ Ok all → (waiting : Option Taker) × ((more : Given) × (next waiting more ≡ Ok all))
goes-on next (Takes taker []) given all e = (Some taker, (given, e))
goes-on next (Takes taker (b ∷ text)) given all e = (None, on-given (next None) (give taker (b ∷ text) given) all e)
goes-on next Trigraphs given all e = (None, (_, e))
goes-on next NoEffect given all e = (None, (given, e))
goes-on next (Source name) given all e = by_source given.source e
  where
    by_source : (source : Option Text) → at_source next name source given ≡ Ok all → (waiting : Option Taker) × ((more : Given) × (next waiting more ≡ Ok all))
    by_source None e = (None, (_, e))
    by_source (Some other) e = absurd (cc)
goes-on next NotKnown given all e = absurd (cc)

-- no word that was read is empty
none-empty : (waiting : Option Taker) (words : List Text) (given all : Given) → read_on waiting words given ≡ Ok all → AllByRecursion (λ word. 1 ≤ length word) words
unfolding read_on word_of word_without_operand has_no_effect
none-empty waiting [] given all e = tt
none-empty None ([] ∷ words) given all e = absurd (cc)
none-empty (Some taker) ([] ∷ words) given all e = absurd (cc)
none-empty None ((b ∷ word) ∷ words) given all e =
    let onward = goes-on (λ waiting more. read_on waiting words more) (word_of (b ∷ word)) given all e in
    (omega arith, none-empty onward.0 words onward.1.0 all onward.1.1)
none-empty (Some taker) ((b ∷ word) ∷ words) given all e =
    let onward = on-given (λ more. read_on None words more) (give taker (b ∷ word) given) all e in
    (omega arith, none-empty None words onward.0 all onward.1)

each-word : (words : List Text) → AllByRecursion (λ word. 1 ≤ length word) words → list_all (λ word. nat_le (length word) 4096) words ≡ true → AllByRecursion IsWord words
each-word [] some short = tt
each-word (word ∷ words) some short =
    let both = and_parts (nat_le (length word) 4096) _ short in
    ((some.0, leb-true (length word) 4096 both.0), each-word words some.1 both.1)

given-of : (cwd : Text) (words : List Text) (r : Result Given WordError) (job : JobData) → finished_job cwd words r ≡ Ok job → (given : Given) × (r ≡ Ok given)
given-of cwd words (Ok given) job e = (given, refl)
given-of cwd words (Err why) job e = absurd (cc)

place-length : (cwd : Text) → is_directory cwd ≡ true → (1 ≤ length cwd) × (length cwd ≤ 4096)
unfolding is_directory
place-length [] h = absurd (cc)
place-length (b ∷ cwd) h =
    let rest = (and_parts (is_absolute (b ∷ cwd)) _ h).1 in
    (omega arith, leb-true (length (b ∷ cwd)) 4096 (and_parts (nat_le (length (b ∷ cwd)) 4096) _ rest).0)

pub are-short : JobsAreShort
unfolding are_short
are-short cwd words job e =
    let read = parts cwd words job e in
    let given = given-of cwd words (read_on None words nothing) job read.whole in
    let both = and_parts (nat_le (length words) 1000) _ read.few in
    record {
      place = place-length cwd read.place;
      few = leb-true (length words) 1000 both.0;
      each = each-word words (none-empty None words nothing given.0 given.1) both.1;
    }

-- ---- the job of a reading ----

-- a job that was put together from what the words give
pub job-of-parts : (cwd : Text) (words : List Text) (source : Text) (given : Given) (job : JobData) → job_reading cwd words ≡ with_source cwd words given.source given → given.source ≡ Some source → job ≡ job_in cwd words source given
    → job_of job.setup.cwd job.words ≡ Some job
unfolding job_of
job-of-parts cwd words source given job read some is =
    let P : JobData → Type 0 = λ j. job_of j.setup.cwd j.words ≡ Some j in
    let whole : job_reading cwd words ≡ Ok (job_in cwd words source given) = read ∙ ap (λ s. with_source cwd words s given) some in
    subst P (sym is) (ap job_given whole)
