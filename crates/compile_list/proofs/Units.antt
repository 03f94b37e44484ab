-- The units of a line, one after another.
use Rattle.std.proofs.Common.{◌≡◌, ℕ, ◌-◌, ◌≤◌, ◌<◌, ◌==◌, suc, true, false, [], ◌∷◌, length, take, drop, get_or, None, Some, refl, sym, ap, ◌∙◌, arith}
use Rattle.std.proofs.lemmas.Bool.{eq-eqb, ne_eqb}
use Rattle.std.proofs.lemmas.List.{take_all}
use Rattle.tree_model.specs.Paths.{Text}
use Rattle.compile_list.specs.Listed.{units, unit_of, with_unit}

-- a line by its first byte and those behind it
pub front : (line : Text) → 1 ≤ length line → line ≡ get_or line 0 0 ∷ take (length line - 1) (drop 1 line)
front [] some = absurd (omega (arith, some))
front (b ∷ line) some = ap (λ l. b ∷ l) (sym (take_all (suc (length line) - 1) line (omega arith)))

pub empty : (line : Text) → length line < 1 → line ≡ []
empty [] none = refl
empty (b ∷ line) none = absurd (omega (arith, none))

-- a byte that is no `\`
plain : (b : ℕ) (line : Text) → (b == 92) ≡ false → units (b ∷ line) ≡ with_unit (unit_of b) (units line)
unfolding units
plain b [] other = rw (other, units) refl
plain b (c ∷ line) other = rw (other, units) refl

pub units-plain : (b : ℕ) (line : Text) → (b ≡ 92 → ⊥) → units (b ∷ line) ≡ with_unit (unit_of b) (units line)
units-plain b line other = plain b line (ne_eqb b 92 other)

escaped : (b c : ℕ) (line : Text) → (b == 92) ≡ true → units (b ∷ c ∷ line) ≡ with_unit (Some c) (units line)
unfolding units
escaped b c line escape = rw (escape, units) refl

-- a `\` and the byte behind it
pub units-escaped : (b : ℕ) (line : Text) → b ≡ 92 → 1 ≤ length line → units (b ∷ line) ≡ with_unit (Some (get_or line 0 0)) (units (take (length line - 1) (drop 1 line)))
units-escaped b line escape some = ap (λ l. units (b ∷ l)) (front line some) ∙ escaped b (get_or line 0 0) (take (length line - 1) (drop 1 line)) (eq-eqb b 92 escape)

ended : (b : ℕ) → (b == 92) ≡ true → units (b ∷ []) ≡ None
unfolding units
ended b escape = rw (escape, units) refl

-- a `\` at the end
pub units-ended : (b : ℕ) (line : Text) → b ≡ 92 → length line < 1 → units (b ∷ line) ≡ None
units-ended b line escape none = ap (λ l. units (b ∷ l)) (empty line none) ∙ ended b (eq-eqb b 92 escape)

-- nothing is left of a line
pub units-none : (line : Text) → length line < 1 → units line ≡ Some []
unfolding units
units-none [] none = refl
units-none (b ∷ line) none = absurd (omega (arith, none))
