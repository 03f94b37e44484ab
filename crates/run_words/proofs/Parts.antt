-- The numbers between commas, one after another.
use Rattle.std.proofs.Common.{◌≡◌, ◌≢◌, ℕ, ◌<◌, ◌==◌, List, [], ◌∷◌, ◌++◌, length, get_or, Option, None, Some, refl, sym, ap, ◌∙◌, append_assoc, ne_eqb}
use Rattle.std.specs.List.{slice_split}
use Rattle.std.proofs.lemmas.List.{get_or_default}
use Rattle.std.proofs.lemmas.List.Splits.{slice_split_at, slice_split_none}
use Rattle.tree_model.specs.Paths.{Text}
use Rattle.run_words.specs.Asked.{numbers_in, number_between, number_in_front}

-- the parts of a word
abbrev pub parts : Text → List Text
parts word = slice_split (λ b. b == 44) word

abbrev pub Lacks : Text → Type 0
Lacks word = (i : ℕ) → i < length word → get_or word i 0 ≢ 44

-- numbers in front of those that the rest gives
abbrev pub numbers_behind : List ℕ → Option (List ℕ) → Option (List ℕ)
numbers_behind before None = None
numbers_behind before (Some numbers) = Some (before ++ numbers)

next-number : (before : List ℕ) (n : ℕ) (rest : Option (List ℕ)) → numbers_behind before (number_in_front (Some n) rest) ≡ numbers_behind (before ++ n ∷ []) rest
next-number before n None = refl
next-number before n (Some numbers) = ap Some (sym (append_assoc before (n ∷ []) numbers))

one-part : (word : Text) → Lacks word → parts word ≡ word ∷ []
one-part word lacks = slice_split_none (λ b. b == 44) word (λ k d within. ne_eqb (get_or word k d) 44 (λ e. lacks k within (get_or_default word k 0 d within ∙ e)))

first-part : (word part behind : Text) → word ≡ part ++ 44 ∷ behind → Lacks part → parts word ≡ part ∷ parts behind
first-part word part behind is lacks =
    ap parts is
    ∙ slice_split_at (λ b. b == 44) part 44 behind (λ k d within. ne_eqb (get_or part k d) 44 (λ e. lacks k within (get_or_default part k 0 d within ∙ e))) refl

-- a part that is a number, and one that is none
pub number-at : (before : List ℕ) (word part behind : Text) (n : ℕ) → word ≡ part ++ 44 ∷ behind → Lacks part → Some n ≡ number_between 0 63 part
    → numbers_behind before (numbers_in (parts word)) ≡ numbers_behind (before ++ n ∷ []) (numbers_in (parts behind))
unfolding numbers_in
number-at before word part behind n is lacks reads =
    ap (λ l. numbers_behind before (numbers_in l)) (first-part word part behind is lacks)
    ∙ ap (λ o. numbers_behind before (number_in_front o (numbers_in (parts behind)))) (sym reads)
    ∙ next-number before n (numbers_in (parts behind))

pub none-at : (before : List ℕ) (word part behind : Text) → word ≡ part ++ 44 ∷ behind → Lacks part → None ≡ number_between 0 63 part
    → numbers_behind before (numbers_in (parts word)) ≡ None
unfolding numbers_in
none-at before word part behind is lacks reads =
    ap (λ l. numbers_behind before (numbers_in l)) (first-part word part behind is lacks)
    ∙ ap (λ o. numbers_behind before (number_in_front o (numbers_in (parts behind)))) (sym reads)

-- the last part likewise
pub last-number : (before : List ℕ) (word : Text) (n : ℕ) → Lacks word → Some n ≡ number_between 0 63 word → numbers_behind before (numbers_in (parts word)) ≡ Some (before ++ n ∷ [])
unfolding numbers_in
last-number before word n lacks reads =
    ap (λ l. numbers_behind before (numbers_in l)) (one-part word lacks)
    ∙ ap (λ o. numbers_behind before (number_in_front o (Some []))) (sym reads)

pub last-none : (before : List ℕ) (word : Text) → Lacks word → None ≡ number_between 0 63 word → numbers_behind before (numbers_in (parts word)) ≡ None
unfolding numbers_in
last-none before word lacks reads =
    ap (λ l. numbers_behind before (numbers_in l)) (one-part word lacks)
    ∙ ap (λ o. numbers_behind before (number_in_front o (Some []))) (sym reads)
