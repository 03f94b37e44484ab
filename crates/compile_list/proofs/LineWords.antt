-- The words of a line, of which the first are kept.
use Rattle.std.proofs.Common.{◌≡◌, ℕ, ◌≤◌, List, [], ◌∷◌, ◌++◌, length, map, take, Option, None, Some, refl, sym, ap, ◌∙◌, append-nil}
use Rattle.std.specs.List.{filter, slice_split, onto_first}
use Rattle.std.specs.Prelude.{nat_lt}
use Rattle.std.specs.Option.{is_none}
use Rattle.std.proofs.lemmas.List.{take_all, take_at}
use Rattle.std.proofs.lemmas.List.Elements.{filter-append}
use Rattle.tree_model.specs.Paths.{Text}
use Rattle.compile_list.specs.Listed.{part_bytes, unit_words, units}
use Rattle.compile_list.specs.parts.Steps.{word_in}

-- the units of a word's bytes
abbrev pub of_word : Text → List (Option ℕ)
of_word word = map (λ b. Some b) word

abbrev parts : List (Option ℕ) → List (List (Option ℕ))
parts units = slice_split (λ unit. is_none unit) units

abbrev filled : List Text → List Text
filled words = filter (λ word. nat_lt 0 (length word)) words

-- a word ends at a blank
parts-at : (word : Text) (more : List (Option ℕ)) → parts (of_word word ++ None ∷ more) ≡ of_word word ∷ parts more
parts-at [] more = refl
parts-at (b ∷ word) more = ap (λ l. onto_first (Some b) l) (parts-at word more)

-- and at the end of the line
parts-last : (word : Text) → parts (of_word word) ≡ of_word word ∷ []
parts-last [] = refl
parts-last (b ∷ word) = ap (λ l. onto_first (Some b) l) (parts-last word)

bytes-of : (word : Text) → part_bytes (of_word word) ≡ word
bytes-of [] = refl
bytes-of (b ∷ word) = ap (λ l. b ∷ l) (bytes-of word)

pub words-at : (word : Text) (more : List (Option ℕ)) → unit_words (of_word word ++ None ∷ more) ≡ word_in word ++ unit_words more
words-at word more =
    ap (λ l. filled (map part_bytes l)) (parts-at word more)
    ∙ ap (λ w. filled (w ∷ map part_bytes (parts more))) (bytes-of word)
    ∙ filter-append (λ word. nat_lt 0 (length word)) (word ∷ []) (map part_bytes (parts more))

pub words-last : (word : Text) → unit_words (of_word word ++ []) ≡ word_in word
words-last word =
    ap unit_words (append-nil (of_word word))
    ∙ ap (λ l. filled (map part_bytes l)) (parts-last word)
    ∙ ap (λ w. filled (w ∷ [])) (bytes-of word)

-- ---- the words that are kept ----

-- where so many are kept, what stands behind doesn't count
pub full : (n : ℕ) (words more other : List Text) → n ≡ length words → take n (words ++ more) ≡ take n (words ++ other)
full n words more other is = take_at words more n (sym is) ∙ sym (take_at words other n (sym is))

-- few words are all kept
pub all-kept : (n : ℕ) (words : List Text) → length words ≤ n → words ≡ take n (words ++ [])
all-kept n words few = sym (ap (take n) (append-nil words) ∙ take_all n words few)
