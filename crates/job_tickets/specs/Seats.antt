-- The numbers below a limit, and the seats that draw them.
use Rattle.std.specs.Prelude.{◌≡◌, ℕ, ◌+◌, ◌==◌, ◌||◌, cond, nat_lt, Bool, true, false, List, [], ◌∷◌, ◌++◌}
use Rattle.atomic_table.specs.Seated.{TableId}

-- the table with the word that counts, and the number that all numbers are below
pub record TicketData : Type 0 where
  pub table : TableId
  pub limit : ℕ

-- A seat: its table and limit; how many seats were made, where it is the first, and else 0; how many seats it stands for, itself
-- and those joined into it; the numbers that these drew; whether one of them found that all numbers were drawn; whether it
-- itself did.
pub record SeatData : Type 0 where
  pub table : TableId
  pub limit : ℕ
  pub made : ℕ
  pub seats : ℕ
  pub drawn : List ℕ
  pub all : Bool
  pub done : Bool

-- the seat draws these numbers
abbrev pub IsOf : TicketData → SeatData → Type 0
IsOf tickets seat = (seat.table ≡ tickets.table) × (seat.limit ≡ tickets.limit)

-- the seat that is there when the numbers are made
abbrev pub first_seat : TicketData → SeatData
first_seat tickets = record { table = tickets.table; limit = tickets.limit; made = 1; seats = 1; drawn = []; all = false; done = false }

-- a seat after a draw that gave this number, and after one that gave none
abbrev pub with_drawn : ℕ → SeatData → SeatData
with_drawn n seat = record seat { drawn = seat.drawn ++ n ∷ [] }

abbrev pub without_number : SeatData → SeatData
without_number seat = record seat { all = true; done = true }

-- the first seat after a split, and the new one
abbrev pub with_one_more : SeatData → SeatData
with_one_more seat = record seat { made = seat.made + 1 }

abbrev pub other_seat : SeatData → SeatData
other_seat seat = record { table = seat.table; limit = seat.limit; made = 0; seats = 1; drawn = []; all = false; done = false }

-- a seat into which another was joined
abbrev pub with_seat : SeatData → SeatData → SeatData
with_seat seat other = record seat { seats = seat.seats + other.seats; drawn = seat.drawn ++ other.drawn; all = seat.all || other.all }

-- f of each, added up
abbrev pub total : {A : Type 0} → (A → ℕ) → List A → ℕ
total f [] = 0
total f (x ∷ xs) = f x + total f xs

-- how often a number stands in a list
abbrev pub times : ℕ → List ℕ → ℕ
times x xs = total (λ y. cond (y == x) 1 0) xs

-- 1 for a number below n, else 0
abbrev pub once_below : ℕ → ℕ → ℕ
once_below x n = cond (nat_lt x n) 1 0

-- the list has each number below n once, and no other
abbrev pub IsEachBelow : ℕ → List ℕ → Type 0
IsEachBelow n xs = (x : ℕ) → times x xs ≡ once_below x n
