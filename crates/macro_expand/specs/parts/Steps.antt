-- Steps of an expansion under a table: what of the pending tokens was put out, and what is to come (6.10.3).
use Rattle.std.specs.Prelude.{◌≡◌, ℕ, ◌⊎◌, true, List, [], ◌∷◌, ◌++◌, map, codes, None}
use Rattle.pp_tokens.specs.declared.token.Token.{Token}
use Rattle.pp_tokens.specs.Marks.{is_word}
use Rattle.macro_expand.specs.declared.answers.TablePlace.{TablePlace}
use Rattle.macro_expand.specs.declared.marked.Marked.{Marked as Kept}
use Rattle.macro_expand.specs.declared.marked.Role.TheVariants.{Name, Ordinary}
use Rattle.macro_expand.specs.declared.outcome.Mode.{Mode}
use Rattle.macro_expand.specs.Expansion.{Table, head_role}
use Rattle.macro_expand.specs.Replacement.{Marked}
use Rattle.macro_expand.specs.Answered.{Answerer, before, expanded_for, table_answerer}
use Rattle.macro_expand.specs.Seen.{marked_of, kept_plain, kept_token, place_of}
use Rattle.macro_expand.specs.Stream.{IsOperand}

-- a token is put out as it is: an ordinary one, or a name without a definition
abbrev pub StaysAsItIs : Table → Mode → Kept → List Kept → Type 0
StaysAsItIs table mode t rest =
    (head_role mode (marked_of t) (map marked_of rest) ≡ Ordinary)
    ⊎ ((head_role mode (marked_of t) (map marked_of rest) ≡ Name) × (table t.token.text ≡ None))

-- a token, whatever its hide set, is taken from the front of what is pending, and is put out as it is
abbrev pub TakesUntouched : Table → Mode → Token → List Kept → List Kept → Type 0
TakesUntouched table mode t old new = (m : Kept) × ((kept_token m ≡ t) × ((old ≡ m ∷ new) × StaysAsItIs table mode m new))

-- tokens are taken so one after another, until these are pending
abbrev pub TakesEach : Table → Mode → List Token → List Kept → List Kept → Type 0
TakesEach table mode [] old new = old ≡ new
TakesEach table mode (t ∷ ts) old new = (mid : List Kept) × (TakesUntouched table mode t old mid × TakesEach table mode ts mid new)

-- a `defined` and an operand with this name are taken from the front of what is pending
abbrev pub TakesDefined : Token → List Kept → List Kept → Type 0
TakesDefined name old new =
    (word : Token) × ((operand : List Token) × (((is_word (codes "defined") word ≡ true) × IsOperand name operand)
    × (old ≡ map kept_plain (word ∷ operand) ++ new)))

-- a token is put out as it is, whatever its hide set and whatever stands behind it
abbrev pub IsUntouched : Table → Mode → Token → Type 0
IsUntouched table mode t = (m : Kept) (rest : List Kept) → m.token ≡ t → StaysAsItIs table mode m rest

abbrev pub EachUntouched : Table → Mode → List Token → Type 0
EachUntouched table mode [] = Unit {0}
EachUntouched table mode (t ∷ ts) = IsUntouched table mode t × EachUntouched table mode ts

-- these pending tokens become those that were put out, before what the later ones become
abbrev pub Becomes : Table → TablePlace → Mode → ℕ → List Kept → List Kept → TablePlace → ℕ → List Kept → Type 0
Becomes table s mode units pending out u left later =
    expanded_for (table_answerer (λ _. table) (λ p. place_of p.here.now)) s mode 0 units (map marked_of pending)
    ≡ before (map marked_of out) (expanded_for (table_answerer (λ _. table) (λ p. place_of p.here.now)) u mode 0 left (map marked_of later))

-- a token is put out as it is whoever was asked before, and whatever stands behind it: it is ordinary, or a name that lacks a definition
abbrev pub StaysFor : {S : Type 0} → Answerer S → Mode → Marked → Type 0
StaysFor {S} w mode t =
    (rest : List Marked) → (head_role mode t rest ≡ Ordinary)
    ⊎ ((head_role mode t rest ≡ Name) × ((s : S) → w.definition s t.token.text ≡ record { answer = None; state = s }))

abbrev pub EachStaysFor : {S : Type 0} → Answerer S → Mode → List Marked → Type 0
EachStaysFor w mode [] = Unit {0}
EachStaysFor w mode (t ∷ ts) = StaysFor w mode t × EachStaysFor w mode ts
