-- The job that a working directory and compile words give, in the spelling of GCC's options.
use Rattle.std.specs.Prelude.{◌≡◌, ◌≤◌, List, [], ◌∷◌, ◌++◌, drop, Bool, true, false, not, ◌&&◌, ◌||◌, ◌==◌, if◌then◌else◌, nat_le, nat_eq, bytes_eq, Option, Some, None, Result, Ok, Err, length, codes, unwrap_or}
use Rattle.std.specs.List.{list_any, list_all, starts_with, before_last, AllByRecursion}
use Rattle.base_types.specs.Ascii as ascii
use Rattle.base_types.specs.Limits.{job_words_limit, word_limit}
use Rattle.tree_model.specs.Paths.{Text}
use Rattle.tree_model.specs.Walk.{is_absolute, components, last_of}
use Rattle.search_path.specs.SetupOf.{SetupData, setup_of}
use Rattle.job_words.specs.JobOf.{JobData, job_of_parts}
use Rattle.job_words.specs.Macros.{define_word, undef_word}
use Rattle.job_words.specs.declared.macro_word.MacroWord.{MacroWord}
use Rattle.job_words.specs.declared.reading.WordError.{WordError}
use Rattle.job_words.specs.declared.reading.WordError.TheVariants.{NoSource, TwoSources, Unknown, NoOperand, BadMacro, Limit, Cwd}
use Rattle.job_words.specs.declared.given.Taker.{Taker}
use Rattle.job_words.specs.declared.given.Taker.TheVariants.{Directory, QuoteDirectory, SystemDirectory, AfterDirectory, Include, Define, Undefine, Output}
use Rattle.job_words.specs.declared.given.Given.{Given}

-- ---- one word ----

-- what a word is: an option with an operand, of which this stands in the word itself; an option that has trigraphs read; one
-- without effect; the source's name; or none that is known
pub data Word : Type 0 where
  Takes : Taker → Text → Word
  Trigraphs : Word
  NoEffect : Word
  Source : Text → Word
  NotKnown : Word

-- options without effect on preprocessing
abbrev pub whole_options : List Text
whole_options = codes "-c" ∷ codes "-E" ∷ codes "-S" ∷ codes "-w" ∷ codes "-pipe" ∷ codes "-pthread" ∷ codes "-nostdinc" ∷ []

-- the beginnings of such options
abbrev pub option_fronts : List Text
option_fronts = codes "-O" ∷ codes "-W" ∷ codes "-g" ∷ codes "-f" ∷ codes "-m" ∷ codes "-pedantic" ∷ codes "-std=" ∷ []

abbrev pub begins : Text → Text → Bool
begins word front = starts_with nat_eq word front

-- `-Wp,` hands its text to the preprocessor, and isn't known
unfoldable pub has_no_effect : Text → Bool
has_no_effect word =
    list_any (λ option. bytes_eq word option) whole_options
    || (list_any (λ front. begins word front) option_fronts && not (begins word (codes "-Wp,")))

-- an empty word, or one that begins with `-`
abbrev pub is_no_name : Text → Bool
is_no_name [] = true
is_no_name (b ∷ word) = b == ascii.minus

unfoldable pub word_without_operand : Text → Word
word_without_operand word =
    if bytes_eq word (codes "-trigraphs") then Trigraphs
    else (if has_no_effect word then NoEffect else (if is_no_name word then NotKnown else Source word))

-- a word that begins with an option that takes an operand, or else is read otherwise
abbrev pub takes : Text → Taker → Text → Word → Word
takes option taker word otherwise = if begins word option then Takes taker (drop (length option) word) else otherwise

unfoldable pub word_of : Text → Word
word_of word =
    takes (codes "-I") Directory word
    (takes (codes "-iquote") QuoteDirectory word
    (takes (codes "-isystem") SystemDirectory word
    (takes (codes "-idirafter") AfterDirectory word
    (takes (codes "-include") Include word
    (takes (codes "-D") Define word
    (takes (codes "-U") Undefine word
    (takes (codes "-o") Output word (word_without_operand word))))))))

-- ---- all words ----

-- nothing was read
abbrev pub nothing : Given
nothing = record { source = None; quote = []; directories = []; system = []; after = []; macros = []; forced = []; output = None; trigraphs = false }

-- a macro joins those before it; without one there is no job
abbrev pub give_macro : Option MacroWord → Given → Result Given WordError
give_macro None given = Err BadMacro
give_macro (Some word) given = Ok (record given { macros = given.macros ++ word ∷ [] })

-- an operand joins those of its option, or is refused; of outputs the last holds
abbrev pub give : Taker → Text → Given → Result Given WordError
give Directory text given = Ok (record given { directories = given.directories ++ text ∷ [] })
give QuoteDirectory text given = Ok (record given { quote = given.quote ++ text ∷ [] })
give SystemDirectory text given = Ok (record given { system = given.system ++ text ∷ [] })
give AfterDirectory text given = Ok (record given { after = given.after ++ text ∷ [] })
give Include text given = Ok (record given { forced = given.forced ++ text ∷ [] })
give Define text given = give_macro (define_word text) given
give Undefine text given = give_macro (undef_word text) given
give Output text given = Ok (record given { output = Some text })

-- what was read so far is read on from, and a refusal stays
abbrev pub read_and_then : (Given → Result Given WordError) → Result Given WordError → Result Given WordError
read_and_then next (Ok given) = next given
read_and_then next (Err why) = Err why

-- what is read behind a word: whether an option waits for its operand, and what was read so far
abbrev pub ReadBehind : Type 0
ReadBehind = Option Taker → Given → Result Given WordError

-- an operand, which may not be empty
abbrev pub at_operand : ReadBehind → Taker → Text → Given → Result Given WordError
at_operand next taker [] given = Err NoOperand
at_operand next taker (b ∷ text) given = read_and_then (next None) (give taker (b ∷ text) given)

-- a source's name, where this one was read before
abbrev pub at_source : ReadBehind → Text → Option Text → Given → Result Given WordError
at_source next name None given = next None (record given { source = Some name })
at_source next name (Some other) given = Err TwoSources

-- a word that is no operand; an option whose word ends with it waits for the next word, which is its operand
abbrev pub at_word : ReadBehind → Word → Given → Result Given WordError
at_word next (Takes taker []) given = next (Some taker) given
at_word next (Takes taker (b ∷ text)) given = at_operand next taker (b ∷ text) given
at_word next Trigraphs given = next None (record given { trigraphs = true })
at_word next NoEffect given = next None given
at_word next (Source name) given = at_source next name given.source given
at_word next NotKnown given = Err Unknown

-- words from left to right, with the option that waits for its operand
unfoldable pub read_on : Option Taker → List Text → Given → Result Given WordError
read_on None [] given = Ok given
read_on (Some taker) [] given = Err NoOperand
read_on None (word ∷ words) given = at_word (λ waiting more. read_on waiting words more) (word_of word) given
read_on (Some taker) (word ∷ words) given = at_operand (λ waiting more. read_on waiting words more) taker word given

-- ---- the job ----

-- a name up to its last `.`, or the whole of one that has none
abbrev pub stem : Text → Text
stem name = if list_any (λ b. b == ascii.dot) name then before_last (λ b. b == ascii.dot) name else name

-- the output's name where the words give none: by the last component of the source's name
unfoldable pub output_of : Text → Text
output_of source = stem (last_of (components source)) ++ codes ".i"

-- a text that is there already isn't added again
abbrev pub add_once : List Text → Text → List Text
add_once texts text = if list_any (λ other. bytes_eq text other) texts then texts else texts ++ text ∷ []

-- texts one after another behind others, each once
unfoldable pub each_once_behind : List Text → List Text → List Text
each_once_behind before [] = before
each_once_behind before (text ∷ texts) = each_once_behind (add_once before text) texts

abbrev pub each_once : List Text → List Text
each_once texts = each_once_behind [] texts

-- what the words say of searches; each directory keeps the first place that it has in its part of the chain
abbrev pub setup_in : Text → Given → SetupData
setup_in cwd given = setup_of cwd (each_once given.quote) (each_once (given.directories ++ (given.system ++ given.after))) given.trigraphs

-- the job of a source
abbrev pub job_in : Text → List Text → Text → Given → JobData
job_in cwd words source given = job_of_parts (record {
  words = words;
  source = source;
  setup = setup_in cwd given;
  macros = given.macros;
  forced = given.forced;
  output = unwrap_or given.output (output_of source);
})

-- words that were read to their end want a source
abbrev pub with_source : Text → List Text → Option Text → Given → Result JobData WordError
with_source cwd words None given = Err NoSource
with_source cwd words (Some source) given = Ok (job_in cwd words source given)

abbrev pub finished_job : Text → List Text → Result Given WordError → Result JobData WordError
finished_job cwd words (Err why) = Err why
finished_job cwd words (Ok given) = with_source cwd words given.source given

-- a working directory begins with `/`, and has at most 4,096 bytes and no byte 0
unfoldable pub is_directory : Text → Bool
is_directory cwd = is_absolute cwd && (nat_le (length cwd) word_limit && list_all (λ b. not (b == 0)) cwd)

-- at most 1,000 words of at most 4,096 bytes
unfoldable pub are_short : List Text → Bool
are_short words = nat_le (length words) job_words_limit && list_all (λ word. nat_le (length word) word_limit) words

-- the job, or the first reason why there is none: the working directory, the size of the words, the words from left to right,
-- and at last a source
unfoldable pub job_reading : Text → List Text → Result JobData WordError
job_reading cwd words =
    if not (is_directory cwd) then Err Cwd
    else (if not (are_short words) then Err Limit else finished_job cwd words (read_on None words nothing))

abbrev pub job_given : Result JobData WordError → Option JobData
job_given (Ok job) = Some job
job_given (Err why) = None

-- the job that a working directory and words give, if they give one
unfoldable pub job_of : Text → List Text → Option JobData
job_of cwd words = job_given (job_reading cwd words)

-- a job is the reading of its own working directory and words
abbrev pub IsJob : JobData → Type 0
IsJob job = job_of job.setup.cwd job.words ≡ Some job

-- ---- laws ----

-- what a reading gives keeps the working directory and the words
abbrev pub JobsKeepWords : Type 0
JobsKeepWords = (cwd : Text) (words : List Text) (job : JobData) → job_of cwd words ≡ Some job → (job.setup.cwd ≡ cwd) × (job.words ≡ words)

-- a word of 1 to 4,096 bytes
abbrev pub IsWord : Text → Type 0
IsWord word = (1 ≤ length word) × (length word ≤ word_limit)

-- a working directory of 1 to 4,096 bytes, and at most 1,000 words, each of 1 to 4,096
pub record IsShort (cwd : Text) (words : List Text) : Type 0 where
  pub place : (1 ≤ length cwd) × (length cwd ≤ word_limit)
  pub few : length words ≤ job_words_limit
  pub each : AllByRecursion IsWord words

-- no job is read from more, or from nothing
abbrev pub JobsAreShort : Type 0
JobsAreShort = (cwd : Text) (words : List Text) (job : JobData) → job_of cwd words ≡ Some job → IsShort cwd words
