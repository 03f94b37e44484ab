-- Names whose marks are set.
use Rattle.std.proofs.Common.{◌≡◌, ℕ, zero, suc, ◌<◌, Bool, true, false, List, [], ◌∷◌, length, get_or, Option, None, refl, sym, ap, ◌∙◌, true≢false, if◌then◌else◌, arith}
use Rattle.std.specs.Prelude.{slice_set, bytes_eq}
use Rattle.std.proofs.lemmas.Slice.Eq.{bytes_eq-Decides}
use Rattle.macro_defs.specs.MacroDefinition.{MacroDefinition}
use Rattle.macro_defs.specs.Table.{TableEntries, lookup, names_ever_defined, with_definition}
use Rattle.macro_defs.specs.parts.NameMarks.{mark_of, has_mark, KeepsMarks, AreMarked}

-- one more mark that is set
pub set_keeps : (marks : List Bool) (i : ℕ) → KeepsMarks marks (slice_set marks i true)
set_keeps [] i place is = is
set_keeps (m ∷ ms) zero zero is = refl
set_keeps (m ∷ ms) zero (suc place) is = is
set_keeps (m ∷ ms) (suc i) zero is = is
set_keeps (m ∷ ms) (suc i) (suc place) is = set_keeps ms i place is

-- a mark that is set is one of the marks
set_within : (marks : List Bool) (place : ℕ) → get_or marks place false ≡ true → place < length marks
set_within [] place is = absurd (true≢false (sym is))
set_within (m ∷ ms) zero is = omega arith
set_within (m ∷ ms) (suc place) is = let within : place < length ms = set_within ms place is in omega (arith, within)

-- more marks behind those that there are
pub grown_keeps : (old new : List Bool) (count n : ℕ) → count ≡ length old → count < n → ((k : ℕ) (d : Bool) → k < n → k < count → get_or new k d ≡ get_or old k d) → KeepsMarks old new
grown_keeps old new count n is_count longer same place is =
    let within : place < count = omega (arith, is_count, set_within old place is) in
    same place false (omega (arith, within, longer)) within ∙ is

-- names whose marks are kept
pub marked_still : (old new : List Bool) → KeepsMarks old new → (names : List (List ℕ)) → AreMarked old names → AreMarked new names
marked_still old new keeps [] marked = tt
marked_still old new keeps (name ∷ names) marked = (keeps (mark_of name) marked.0, marked_still old new keeps names marked.1)

-- marks and names that are equal to two others
pub marked_along : (marks marks_now : List Bool) (names names_now : List (List ℕ)) → marks_now ≡ marks → names_now ≡ names → AreMarked marks names → AreMarked marks_now names_now
marked_along marks marks_now names names_now same_marks same_names marked = rw (same_marks, same_names) marked

-- a table after the definition of a name whose mark is set
pub marked_after : (marks : List Bool) (es : TableEntries) (k : List ℕ) (d : Option MacroDefinition) → has_mark marks k ≡ true → AreMarked marks (names_ever_defined es) → AreMarked marks (names_ever_defined (with_definition es k d))
marked_after marks [] k d is marked = (is, tt)
marked_after marks (e ∷ es) k d is marked = by (bytes_eq k e.0) (marked_after marks es k d is marked.1)
  where
    by : (b : Bool) → AreMarked marks (names_ever_defined (with_definition es k d)) → AreMarked marks (names_ever_defined (if b then (e.0, d) ∷ es else e ∷ with_definition es k d))
    by true rest = marked
    by false rest = (marked.0, rest)

-- a name whose mark is not set
pub unmarked_absent : (marks : List Bool) (es : TableEntries) (name : List ℕ) → AreMarked marks (names_ever_defined es) → has_mark marks name ≡ false → lookup es name ≡ None
unfolding lookup
unmarked_absent marks [] name marked unset = refl
unmarked_absent marks (e ∷ es) name marked unset = by (bytes_eq name e.0) refl (unmarked_absent marks es name marked.1 unset)
  where
    by : (b : Bool) → bytes_eq name e.0 ≡ b → lookup es name ≡ None → (if b then e.1 else lookup es name) ≡ None
    by true same rest = absurd (true≢false (sym marked.0 ∙ ap (has_mark marks) (sym ((bytes_eq-Decides name e.0).0 same)) ∙ unset))
    by false apart rest = rest
