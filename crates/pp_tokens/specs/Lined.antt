-- A text as the lexer has it after phases 1 and 2 (ISO C 5.1.1.2): its bytes one after another, and the places at which
-- lines were spliced, in rising order, which tell with its newlines on which physical line each byte stands.
use Rattle.std.specs.Prelude.{ℕ, suc, ◌+◌, ◌≤◌, List, [], ◌∷◌, length, nat_le, if◌then◌else◌, ◌==◌}
use Rattle.std.specs.List.{filter}
use Rattle.base_types.specs.Ascii as ascii
use Rattle.pp_tokens.specs.Phases.{Cell, cell}

-- how many lines were spliced at a place or before it
abbrev pub spliced_up_to : List ℕ → ℕ → ℕ
spliced_up_to splices at = length (filter (λ splice. nat_le splice at) splices)

-- the bytes of a text from a place on, with their lines: the line that the newlines before give, and one more for each splice
unfoldable pub lined : List ℕ → ℕ → ℕ → List ℕ → List Cell
lined splices at line [] = []
lined splices at line (b ∷ bs) =
    cell b (line + spliced_up_to splices at) ∷ lined splices (suc at) (if b == ascii.newline then line + 1 else line) bs

-- each place is no earlier than the one before it, and than from
unfoldable pub Rising : ℕ → List ℕ → Type 0
Rising from [] = Unit {0}
Rising from (place ∷ places) = (from ≤ place) × Rising place places
