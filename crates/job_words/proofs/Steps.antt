-- Reading words from left to right.
use Rattle.std.proofs.Common.{◌≡◌, ℕ, ◌+◌, ◌<◌, ◌≤◌, ◌⊎◌, inl, inr, if◌then◌else◌, Bool, true, false, List, [], ◌∷◌, length, drop, get_or, Option, Some, None, Result, Ok, Err, refl, sym, ap, ◌∙◌, arith, bytes_eq}
use Rattle.std.specs.Prelude.{codes}
use Rattle.std.proofs.lemmas.List.{drop_all, drop_more, length-drop}
use Rattle.tree_model.specs.Paths.{Text}
use Rattle.job_words.specs.declared.given.Given.{Given}
use Rattle.job_words.specs.declared.given.Taker.{Taker}
use Rattle.job_words.specs.declared.reading.WordError.{WordError}
use Rattle.job_words.specs.declared.reading.WordError.TheVariants.{Memory}
use Rattle.job_words.specs.declared.given.Taker.TheVariants.{Directory, QuoteDirectory, SystemDirectory, AfterDirectory, Include, Define, Undefine, Output}
use Rattle.job_words.specs.Words.{ReadBehind, Word, Takes, Trigraphs, NoEffect, Source, NotKnown, at_word, at_operand, begins, has_no_effect, is_no_name, read_on, word_of, word_without_operand}
use Rattle.job_words.specs.parts.Told.{IsReadOn, IsShortWord, at_any}

-- an operand in its option's word
pub operand-here : (next : ReadBehind) (taker : Taker) (text : Text) (given : Given) → 0 < length text → at_operand next taker text given ≡ at_word next (Takes taker text) given
operand-here next taker [] given some = absurd (omega arith)
operand-here next taker (b ∷ text) given some = refl

-- the same, at a call that read it
pub operand-read : (taker : Taker) (text : Text) (old new : Given) (result : Result (Option Taker) WordError) → 0 < length text → IsReadOn (λ next. at_operand next taker text old) old new result → IsReadOn (λ next. at_word next (Takes taker text) old) old new result
operand-read taker text old new (Ok waiting) some read = ((λ next. sym (operand-here next taker text old some) ∙ read.0 next), read.1)
operand-read taker text old new (Err why) some (inl memory) = inl memory
operand-read taker text old new (Err why) some (inr ends) = inr (λ next. sym (operand-here next taker text old some) ∙ ends next)

-- the first of some words
pub first-word : (waiting : Option Taker) (word : Text) (words : List Text) (given : Given) → read_on waiting (word ∷ words) given ≡ at_any (λ behind more. read_on behind words more) waiting word given
unfolding read_on
first-word None word words given = refl
first-word (Some taker) word words given = refl

-- the words behind a place: the first of them, and those behind it
pub at-place : (words : List Text) (i : ℕ) (word d : Text) (waiting : Option Taker) (given : Given) → i < length words → word ≡ get_or words i d
    → read_on waiting (drop i words) given ≡ at_any (λ behind more. read_on behind (drop (i + 1) words) more) waiting word given
at-place words i word d waiting given within is =
    ap (λ rest. read_on waiting rest given) (drop_more words i d within ∙ ap (λ w. w ∷ drop (i + 1) words) (sym is))
    ∙ first-word waiting word (drop (i + 1) words) given

-- an error at a word is that of the whole reading
pub error-at : (whole : Result Given WordError) (step : ReadBehind → Result Given WordError) (next : ReadBehind) (why : WordError) → whole ≡ step next → (why ≡ Memory) ⊎ ((next : ReadBehind) → step next ≡ Err why) → (why ≡ Memory) ⊎ (whole ≡ Err why)
error-at whole step next why is (inl memory) = inl memory
error-at whole step next why is (inr ends) = inr (is ∙ ends next)

-- the end of all words
pub at-end : (words : List Text) (i : ℕ) (waiting : Option Taker) (given : Given) → length words ≤ i → read_on waiting (drop i words) given ≡ read_on waiting [] given
at-end words i waiting given past = ap (λ rest. read_on waiting rest given) (drop_all i words past)

-- ---- lengths ----

takes-short : (test : Bool) (taker : Taker) (text : Text) (otherwise : Word) → length text ≤ 4096 → IsShortWord otherwise → IsShortWord (if test then Takes taker text else otherwise)
takes-short true taker text otherwise short other = short
takes-short false taker text otherwise short other = other

without-short : (a b c : Bool) (word : Text) → IsShortWord (if a then Trigraphs else (if b then NoEffect else (if c then NotKnown else Source word)))
without-short true b c word = tt
without-short false true c word = tt
without-short false false true word = tt
without-short false false false word = tt

-- an operand is no longer than its word
pub short-word : (word : Text) → length word ≤ 4096 → IsShortWord (word_of word)
unfolding word_of word_without_operand
short-word word short =
    let behind : (n : ℕ) → length (drop n word) ≤ 4096 = λ n. omega (arith, length-drop n word, short) in
    takes-short (begins word (codes "-I")) Directory (drop 2 word) _ (behind 2)
    (takes-short (begins word (codes "-iquote")) QuoteDirectory (drop 7 word) _ (behind 7)
    (takes-short (begins word (codes "-isystem")) SystemDirectory (drop 8 word) _ (behind 8)
    (takes-short (begins word (codes "-idirafter")) AfterDirectory (drop 10 word) _ (behind 10)
    (takes-short (begins word (codes "-include")) Include (drop 8 word) _ (behind 8)
    (takes-short (begins word (codes "-D")) Define (drop 2 word) _ (behind 2)
    (takes-short (begins word (codes "-U")) Undefine (drop 2 word) _ (behind 2)
    (takes-short (begins word (codes "-o")) Output (drop 2 word) _ (behind 2)
    (without-short (bytes_eq word (codes "-trigraphs")) (has_no_effect word) (is_no_name word) word))))))))
