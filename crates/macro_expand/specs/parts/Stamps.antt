-- What the stamp of a token says of its hide set.
use Rattle.std.specs.Prelude.{◌≡◌, ◌==◌, if◌then◌else◌, ◌⊎◌, ◌<◌, ℕ, Vec, List, [], ◌∷◌, true}
use Rattle.std.specs.declared.alloc.Global.{Global}
use Rattle.macro_expand.specs.declared.marked.Marked.{Marked as Kept}
use Rattle.macro_expand.specs.declared.call.ReadCall.{ReadCall}
use Rattle.macro_expand.specs.declared.call.Cutting.{Cutting}
use Rattle.macro_expand.specs.declared.name.ReadName.{ReadName}
use Rattle.macro_expand.specs.declared.name.ReadName.TheVariants.{Itself, Object, Lent, Call}
use Rattle.macro_expand.specs.Sets.{names_in}

-- each token of a list passes
abbrev pub All : (Kept → Type 0) → List Kept → Type 0
All P [] = Unit {0}
All P (m ∷ ms) = P m × All P ms

-- each token of each of some lists passes
abbrev pub Each : (Kept → Type 0) → List (Vec Kept Global) → Type 0
Each P [] = Unit {0}
Each P (v ∷ vs) = All P v.items × Each P vs

-- the hide sets that stamps were given to
abbrev pub Stamps : Type 0
Stamps = ℕ → List (List ℕ)

-- a token has no stamp, or one below the next, which was given to its hide set
abbrev pub Stamped : Stamps → ℕ → Kept → Type 0
Stamped sets next m = (m.stamp ≡ 0) ⊎ ((m.stamp < next) × (m.hidden ≡ sets m.stamp))

abbrev pub AllStamped : Stamps → ℕ → List Kept → Type 0
AllStamped sets next = All (Stamped sets next)

abbrev pub EachStamped : Stamps → ℕ → List (Vec Kept Global) → Type 0
EachStamped sets next = Each (Stamped sets next)

-- the stamps below this one were given to the same sets
abbrev pub KeepsStamps : Stamps → ℕ → Stamps → Type 0
KeepsStamps sets next after = (k : ℕ) → k < next → after k ≡ sets k

-- a token with the stamp of a macro's name has its hide set
abbrev pub Alike : Kept → Kept → Type 0
Alike t m = m.stamp ≡ t.stamp → (t.stamp ≡ 0 → ⊥) → m.hidden ≡ t.hidden

abbrev pub AllAlike : Kept → List Kept → Type 0
AllAlike t = All (Alike t)

abbrev pub EachAlike : Kept → List (Vec Kept Global) → Type 0
EachAlike t = Each (Alike t)

-- a replacement hides what a token with this stamp hides
abbrev pub Within : ℕ → List (List ℕ) → Kept → Type 0
Within head hidden m = m.stamp ≡ head → (head ≡ 0 → ⊥) → (n : List ℕ) → names_in m.hidden n ≡ true → names_in hidden n ≡ true

abbrev pub AllWithin : ℕ → List (List ℕ) → List Kept → Type 0
AllWithin head hidden = All (Within head hidden)

-- tokens that are put in have no stamp, or this one with this hide set
abbrev pub Fresh : ℕ → List (List ℕ) → Kept → Type 0
Fresh stamp hidden m = (m.stamp ≡ 0) ⊎ ((m.stamp ≡ stamp) × (m.hidden ≡ hidden))

abbrev pub AllFresh : ℕ → List (List ℕ) → List Kept → Type 0
AllFresh stamp hidden = All (Fresh stamp hidden)

-- tokens that a replacement put in: those with this stamp have one hide set, and the others none that is known
abbrev pub ArePutIn : ℕ → List Kept → Type 0
ArePutIn stamp ms = (hidden : List (List ℕ)) × AllFresh stamp hidden ms

-- a call that is being cut, and one that was read
abbrev pub CutStamped : Stamps → ℕ → Cutting → Type 0
CutStamped sets next c = EachStamped sets next c.pieces.items × AllStamped sets next c.piece.items

abbrev pub CallStamped : Stamps → ℕ → ReadCall → Type 0
CallStamped sets next c = EachStamped sets next c.written.items × Stamped sets next c.close

-- what was read of a name: a replacement that `##` made with this stamp, or a call
abbrev pub NameStamped : Stamps → ℕ → ℕ → ReadName → Type 0
NameStamped sets next stamp Itself = Unit {0}
NameStamped sets next stamp (Object made) = ArePutIn stamp made.items
NameStamped sets next stamp (Lent hidden body) = Unit {0}
NameStamped sets next stamp (Call written call) = EachStamped sets next written.items × Stamped sets next call.read.close

-- after a step the stamps that were given before stand for the same sets, with those that it gave
abbrev pub StampsAfter : Stamps → ℕ → ℕ → List Kept → List Kept → Type 0
StampsAfter sets next next' pending out =
    (after : Stamps) × (KeepsStamps sets next after × (AllStamped after next' pending × AllStamped after next' out))

-- the stamp that a replacement gets where so many were given
abbrev pub stamp_of : ℕ → ℕ
stamp_of stamps = if stamps == 4294967295 then 0 else stamps
