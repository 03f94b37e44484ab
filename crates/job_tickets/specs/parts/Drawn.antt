-- What each seat knows, and what holds of the word that counts the draws and of all seats.
use Rattle.std.specs.Prelude.{◌≡◌, ℕ, suc, ◌+◌, ◌-◌, ◌^◌, ◌<◌, ◌≤◌, min, cond, nat_lt, ◌||◌, Bool, true, false, List, [], ◌∷◌, ◌++◌, length}
use mathlib.Core.Option.{some}
use lib.ListN.{get_elem?}
use Rattle.atomic_table.specs.Table.{State, Me, Step}
use Rattle.atomic_table.specs.Seated.{TableId}
use Rattle.job_tickets.specs.Seats.{total, times, once_below}
use Rattle.job_tickets.specs.declared.view.View.{View}

abbrev pub view_of : ℕ → ℕ → ℕ → List ℕ → ℕ → Bool → View
view_of limit made seats drawn nones all = record { limit = limit; made = made; seats = seats; drawn = drawn; nones = nones; all = all }

-- the seat that a table begins with
abbrev pub first_view : ℕ → View
first_view limit = view_of limit 1 1 [] 0 false

-- the seat that was joined into another
abbrev pub spent_view : View
spent_view = view_of 0 0 0 [] 0 false

-- the seat after a draw that found this number in the word
abbrev pub after_draw : View → ℕ → View
after_draw v found = cond (nat_lt found v.limit)
    (view_of v.limit v.made v.seats (v.drawn ++ found ∷ []) v.nones v.all)
    (view_of v.limit v.made v.seats v.drawn (v.nones + 1) true)

-- the two seats after a split
abbrev pub keeps_seat : View → View
keeps_seat v = view_of v.limit (v.made + 1) v.seats v.drawn v.nones v.all

abbrev pub new_seat : View → View
new_seat v = view_of v.limit 0 1 [] 0 false

-- a seat into which another was joined
abbrev pub seats_joined : View → View → View
seats_joined v w = view_of v.limit v.made (v.seats + w.seats) (v.drawn ++ w.drawn) (v.nones + w.nones) (v.all || w.all)

-- what holds of one seat, where the word is this
pub record IsSeat (limit word : ℕ) (v : View) : Type 0 where
  pub nones : v.nones ≤ v.seats
  pub spent : v.seats ≡ 0 → v.drawn ≡ []
  pub limited : 1 ≤ v.seats → v.limit ≡ limit
  pub all : v.all ≡ true → limit ≤ word

-- The word counts the draws. Each number below both the word and the limit was drawn once, and each other draw gave None
pub record AreDrawn (limit word : ℕ) (views : List View) : Type 0 where
  pub once : (x : ℕ) → total (λ v. times x v.drawn) views ≡ once_below x (min word limit)
  pub nones : total (λ v. v.nones) views ≡ word - limit
  pub seats : total (λ v. v.seats) views ≡ length views
  pub few : length views ≤ 64
  pub first : (v : View) → get_elem? views 0 ≡ some v → v.made ≡ length views
  pub others : (seat : ℕ) (v : View) → get_elem? views (suc seat) ≡ some v → v.made ≡ 0
  pub each : (seat : ℕ) (v : View) → get_elem? views seat ≡ some v → IsSeat limit word v

-- the rule of the table
abbrev pub AreCounted : ℕ → State (Unit {0}) View → Type 0
AreCounted limit s = (word : ℕ) × (s.words ≡ word ∷ []) × AreDrawn limit word s.views

-- what a draw tells: the seat after it, and that the number found is above all that the seat had
abbrev pub Draws : Step (Unit {0}) → Me (Unit {0}) View → ℕ → Me (Unit {0}) View → Type 0
Draws step before found after = (after.0 ≡ after_draw before.0 found) × (after.1 ≡ before.1) × ((x : ℕ) → 0 < times x before.0.drawn → x < found)

-- what a seat of this limit keeps, by what it knows and the slots that it holds
pub record SeatKeeps (limit : ℕ) (done : Bool) (v : View) (held : List (ℕ × Unit {0})) : Type 0 where
  pub knows : v.limit ≡ limit
  pub holds_none : held ≡ []
  pub may_draw : done ≡ false → v.nones < v.seats
  pub fit : v.nones ≤ v.seats
  pub some : 0 < v.seats
  pub all : done ≡ true → v.all ≡ true

-- what the table of these numbers is
pub record IsTicketTable (limit key : ℕ) (id : TableId) : Type 0 where
  pub limit_is : key ≡ limit
  pub small : limit < 2 ^ 32
  pub one_word : id.words ≡ 1
  pub no_slot : id.slots ≡ 0
