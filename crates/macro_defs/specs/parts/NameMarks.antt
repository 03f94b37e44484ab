-- The marks that tell of most names that a table never had them.
use Rattle.std.specs.Prelude.{◌≡◌, ℕ, ◌+◌, ◌-◌, ◌*◌, ◌/◌, ◌%◌, min, Bool, true, false, List, [], ◌∷◌, length, slice_index, slice_index_or}

-- the place of a name's mark, by its length and three of its bytes
unfoldable pub mark_of : List ℕ → ℕ
mark_of name =
    (7 * slice_index name 0
    + 67 * slice_index name (length name - 1)
    + 1021 * slice_index name (length name / 2)
    + 331 * min (length name) 255)
    % 8192

-- whether a name's mark is set
abbrev pub has_mark : List Bool → List ℕ → Bool
has_mark marks name = slice_index_or marks (mark_of name) false

-- each mark that was set is set still
abbrev pub KeepsMarks : List Bool → List Bool → Type 0
KeepsMarks old new = (place : ℕ) → slice_index_or old place false ≡ true → slice_index_or new place false ≡ true

-- the mark of each of the names is set
abbrev pub AreMarked : List Bool → List (List ℕ) → Type 0
AreMarked marks [] = Unit {0}
AreMarked marks (name ∷ names) = (has_mark marks name ≡ true) × AreMarked marks names
