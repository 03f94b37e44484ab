-- The words of the code, as words of the definition, and what their reading gives. No public contract rests on it.
use Rattle.std.specs.Prelude.{◌≡◌, ◌<◌, ◌≤◌, ◌==◌, ◌⊎◌, ℕ, ◌+◌, Bool, true, false, length, slice_index, List, [], ◌∷◌, Option, Some, None, Result, Err, MatchResult, bytes_eq}
use Rattle.std.specs.Borrow.{Bor}
use Rattle.std.specs.HashSet.{HashSet, contains_by}
use Rattle.std.specs.List.{list_any}
use Rattle.base_types.specs.Limits.{word_limit}
use Rattle.pp_tokens.specs.declared.token.Kind.{Kind}
use Rattle.pp_tokens.specs.declared.token.Kind.TheVariants.{Ident, Number}
use Rattle.pp_tokens.specs.declared.Token.{Token}
use Rattle.macro_defs.specs.declared.definition.Shape.TheVariants.{Object}
use Rattle.macro_defs.specs.MacroDefinition.{MacroDefinition}
use Rattle.tree_model.specs.Paths.{Text}
use Rattle.job_words.specs.declared.given.Given.{Given}
use Rattle.job_words.specs.declared.given.Taker.{Taker}
use Rattle.job_words.specs.declared.given.Taker.TheVariants.{Define, Undefine}
use Rattle.job_words.specs.declared.reading.WordError.{WordError}
use Rattle.job_words.specs.declared.reading.WordError.TheVariants.{BadMacro, Memory}
use Rattle.job_words.specs.Words.{Word, Takes, Trigraphs, NoEffect, Source, NotKnown, ReadBehind, at_operand, at_word, word_of}
use Rattle.job_words.specs.declared.word.Word as code
use Rattle.job_words.specs.declared.word.Word.TheVariants as variant

abbrev pub told_word : code.Word → Word
told_word (variant.Takes taker text) = Takes taker text.now
told_word variant.Trigraphs = Trigraphs
told_word variant.NoEffect = NoEffect
told_word (variant.Source name) = Source name.now
told_word variant.Unknown = NotKnown

-- the operand in an option's word has at most 4,096 bytes
abbrev pub IsShortWord : Word → Type 0
IsShortWord (Takes taker text) = length text ≤ word_limit
IsShortWord Trigraphs = Unit {0}
IsShortWord NoEffect = Unit {0}
IsShortWord (Source name) = Unit {0}
IsShortWord NotKnown = Unit {0}

-- an option whose operand is kept as it is
abbrev pub IsText : Taker → Type 0
IsText Define = ⊥
IsText Undefine = ⊥
IsText _ = Unit {0}

-- how many directories were given
abbrev pub texts_given : Given → ℕ
texts_given given = length given.quote + (length given.directories + (length given.system + length given.after))

-- a word, with the option that waits for its operand
abbrev pub at_any : ReadBehind → Option Taker → Text → Given → Result Given WordError
at_any next (Some taker) word given = at_operand next taker word given
at_any next None word given = at_word next (word_of word) given

-- a step was read: it goes on from what the call gives, or ends with its error, whatever stands behind
abbrev pub IsReadOn : (ReadBehind → Result Given WordError) → Given → Given → Result (Option Taker) WordError → Type 0
IsReadOn step old new result =
    MatchResult result
    (λ waiting. ((next : ReadBehind) → step next ≡ next waiting new) × (texts_given new ≤ texts_given old + 1))
    (λ why. (why ≡ Memory) ⊎ ((next : ReadBehind) → step next ≡ Err why))

-- an error of code tells that there is no macro or no line; want of memory tells nothing
abbrev pub IsNoMacro : {A : Type 0} → WordError → Option A → Type 0
IsNoMacro why given = (why ≡ Memory) ⊎ ((why ≡ BadMacro) × (given ≡ None))

-- a set has the texts of a list
abbrev pub HasTexts : {S : Type 0} → HashSet (Bor Text) S → List Text → Type 0
HasTexts seen texts = (text : Text) → contains_by (λ other. bytes_eq text other.now) seen ≡ list_any (λ other. bytes_eq text other) texts

-- a byte stands at no place of a text from this one on
abbrev pub NoneFrom : ℕ → ℕ → Text → Type 0
NoneFrom start byte text = (k : ℕ) → start ≤ k → k < length text → (slice_index text k == byte) ≡ false

-- the first place of a byte in a text
abbrev pub IsFirst : ℕ → ℕ → Text → Type 0
IsFirst place byte text =
    (place < length text) × ((slice_index text place == byte) ≡ true) × ((k : ℕ) → k < place → (slice_index text k == byte) ≡ false)

-- the last place of a byte in a text
abbrev pub IsLast : ℕ → ℕ → Text → Type 0
IsLast place byte text = (place < length text) × ((slice_index text place == byte) ≡ true) × NoneFrom (place + 1) byte text

-- a macro's value of one such token is read without the lexer
abbrev pub is_word_kind : Kind → Bool
is_word_kind k = elim k [ Ident ↦ true | Number ↦ true | _ ↦ false ]

-- the one token of a value, as a definition keeps it
abbrev pub word_token : Kind → Text → Token
word_token kind text = record { kind = kind; text = text; line = 0; space = true }

-- an object-like macro with a replacement list of one token
abbrev pub word_macro : Kind → Text → MacroDefinition
word_macro kind text = record { shape = Object; body = word_token kind text ∷ [] }
