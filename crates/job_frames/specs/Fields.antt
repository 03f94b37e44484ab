-- Tokens and bodies, as they are read. A token is four capital letters and eight lower hexadecimal digits. A prefix of a
-- stream is read from its front: it may be too short yet, or be refused by a reason, or give a value and a rest.
use Rattle.std.specs.Prelude.{ℕ, zero, suc, ◌+◌, ◌-◌, ◌*◌, ◌&&◌, List, [], ◌∷◌, length, take, drop, if◌then◌else◌, nat_lt, nat_le, ◌==◌, Option, Some, None}
use Rattle.base_types.specs.Ascii as ascii

-- what reading a value from the front of a prefix gives
pub data Step (A : Type 0) : Type 0 where
  short : Step A
  refused : ℕ → Step A
  taken : A → List ℕ → Step A

-- read on, behind what was taken
infixl 10 ◌>>=◌
abbrev pub ◌>>=◌ : {A B : Type 0} → Step A → (A → List ℕ → Step B) → Step B
short >>= next = short
(refused n) >>= next = refused n
(taken a rest) >>= next = next a rest

-- the reasons 2 to 9
abbrev pub version_reason : ℕ
version_reason = 2

abbrev pub letter_reason : ℕ
letter_reason = 3

abbrev pub digit_reason : ℕ
digit_reason = 4

abbrev pub limit_reason : ℕ
limit_reason = 5

abbrev pub order_reason : ℕ
order_reason = 6

abbrev pub parent_reason : ℕ
parent_reason = 7

abbrev pub words_reason : ℕ
words_reason = 8

-- the value of a lower hexadecimal digit
unfoldable pub digit_of : ℕ → Option ℕ
digit_of b =
    if nat_le ascii.zero_digit b && nat_le b ascii.nine_digit then Some (b - ascii.zero_digit)
    else (if nat_le ascii.lower_a b && nat_le b ascii.lower_f then Some (b - 87) else None)

-- these letters stand in front
unfoldable pub letters_at : List ℕ → List ℕ → Step (Unit {0})
letters_at [] bytes = taken tt bytes
letters_at (c ∷ cs) [] = short
letters_at (c ∷ cs) (b ∷ bs) = if b == c then letters_at cs bs else refused letter_reason

-- this many digits stand in front; n is the value of those before them
unfoldable pub digits_at : ℕ → ℕ → List ℕ → Step ℕ
digits_at zero n bytes = taken n bytes
digits_at (suc k) n [] = short
digits_at (suc k) n (b ∷ bs) = elim (digit_of b) [ Some d ↦ digits_at k (16 * n + d) bs | None ↦ refused digit_reason ]

-- a token stands in front
unfoldable pub number_at : List ℕ → List ℕ → Step ℕ
number_at letters bytes = letters_at letters bytes >>= λ u after. digits_at 8 0 after

-- the judge lets a number pass, or refuses it by a reason
abbrev pub judged : Option ℕ → ℕ → List ℕ → Step ℕ
judged None n rest = taken n rest
judged (Some why) n rest = refused why

-- a token stands in front, whose number the judge lets pass
abbrev pub field_token_at : List ℕ → (ℕ → Option ℕ) → List ℕ → Step ℕ
field_token_at letters judge bytes = number_at letters bytes >>= λ n rest. judged (judge n) n rest

-- a body of this length stands in front
unfoldable pub field_body_at : ℕ → List ℕ → Step (List ℕ)
field_body_at n bytes = if nat_lt (length bytes) n then short else taken (take n bytes) (drop n bytes)

-- judges
abbrev pub within : ℕ → ℕ → ℕ → Option ℕ
within low high n = if nat_le low n && nat_le n high then None else Some limit_reason

-- a judge of a token in a room: so many bytes may follow, the twelve of the token and its body included
abbrev pub fits : ℕ → ℕ → ℕ → ℕ → Option ℕ
fits room low high n = if nat_le low n && (nat_le n high && nat_le (12 + n) room) then None else Some limit_reason

-- the same for a token without a body
abbrev pub bare : ℕ → Option ℕ → Option ℕ
bare room (Some why) = Some why
bare room None = if nat_le 12 room then None else Some limit_reason

-- what is left of a room behind a token and a body of this length
abbrev pub room_behind : ℕ → ℕ → ℕ
room_behind room n = room - (12 + n)

abbrev pub only : ℕ → ℕ → ℕ → Option ℕ
only wanted why n = if n == wanted then None else Some why
