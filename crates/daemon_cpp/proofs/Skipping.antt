-- Pieces that aren't read, one after another.
use Rattle.std.proofs.Common.{◌≡◌, ℕ, zero, suc, ◌+◌, ◌<◌, ◌≤◌, List, [], ◌∷◌, length, drop, get_or, Option, Some, None, refl, ap, sym, ◌∙◌, arith}
use Rattle.std.proofs.lemmas.List.{drop_all, drop_more}
use Rattle.directive_scan.specs.declared.Piece.{Piece}
use Rattle.directive_scan.specs.declared.Piece.TheVariants.{Run}
use Rattle.directive_scan.specs.Groups.{Role, single, opening, elif_line, else_line, endif_line, role_of}
use Rattle.daemon_cpp.specs.parts.Reading.{skipped, depth_behind}

-- a piece for where none is
pub filler : Piece
filler = Run []

some-is : (a b : ℕ) → ◌≡◌ {A = Option ℕ} (Some a) (Some b) → a ≡ b
some-is a b h = cc

step : (r : Role) (n m : ℕ) (p : Piece) (ps : List Piece) → role_of p ≡ r → depth_behind r n ≡ Some m → skipped n (p ∷ ps) ≡ skipped m ps
unfolding skipped
step single n m p ps h e = rw h (ap (λ k. skipped k ps) (some-is n m e))
step opening n m p ps h e = rw h (ap (λ k. skipped k ps) (some-is (suc n) m e))
step elif_line zero m p ps h e = absurd (cc)
step elif_line (suc n) m p ps h e = rw h (ap (λ k. skipped k ps) (some-is (suc n) m e))
step else_line zero m p ps h e = absurd (cc)
step else_line (suc n) m p ps h e = rw h (ap (λ k. skipped k ps) (some-is (suc n) m e))
step endif_line zero m p ps h e = absurd (cc)
step endif_line (suc n) m p ps h e = rw h (ap (λ k. skipped k ps) (some-is n m e))

here : (r : Role) (n : ℕ) (p : Piece) (ps : List Piece) → role_of p ≡ r → depth_behind r n ≡ None → skipped n (p ∷ ps) ≡ p ∷ ps
unfolding skipped
here single n p ps h e = absurd (cc)
here opening n p ps h e = absurd (cc)
here elif_line zero p ps h e = rw h refl
here elif_line (suc n) p ps h e = absurd (cc)
here else_line zero p ps h e = rw h refl
here else_line (suc n) p ps h e = absurd (cc)
here endif_line zero p ps h e = rw h refl
here endif_line (suc n) p ps h e = absurd (cc)

-- a piece of a list that is passed over
pub passed-over : (r : Role) (n m : ℕ) (pieces : List Piece) (i : ℕ) → i < length pieces → ((p : Piece) → r ≡ role_of (get_or pieces i p)) →
    depth_behind r n ≡ Some m → skipped n (drop i pieces) ≡ skipped m (drop (i + 1) pieces)
passed-over r n m pieces i within role e =
    ap (skipped n) (drop_more pieces i filler within) ∙ step r n m (get_or pieces i filler) (drop (i + 1) pieces) (sym (role filler)) e

-- one that isn't
pub stopped-at : (r : Role) (n : ℕ) (pieces : List Piece) (i : ℕ) → i < length pieces → ((p : Piece) → r ≡ role_of (get_or pieces i p)) →
    depth_behind r n ≡ None → drop i pieces ≡ skipped n (drop i pieces)
stopped-at r n pieces i within role e =
    let at : drop i pieces ≡ get_or pieces i filler ∷ drop (i + 1) pieces = drop_more pieces i filler within in
    at ∙ sym (ap (skipped n) at ∙ here r n (get_or pieces i filler) (drop (i + 1) pieces) (sym (role filler)) e)

-- all of them
pub skipped-all : (n : ℕ) (pieces : List Piece) (i : ℕ) → length pieces ≤ i → drop i pieces ≡ skipped n (drop i pieces)
unfolding skipped
skipped-all n pieces i past = rw (drop_all i pieces past) refl

pub no-deeper : (r : Role) (n m i : ℕ) → n ≤ i → depth_behind r n ≡ Some m → m ≤ i + 1
no-deeper single n m i h e = let same : n ≡ m = some-is n m e in omega (arith, same)
no-deeper opening n m i h e = let same : suc n ≡ m = some-is (suc n) m e in omega (arith, same)
no-deeper elif_line zero m i h e = absurd (cc)
no-deeper elif_line (suc n) m i h e = let same : suc n ≡ m = some-is (suc n) m e in omega (arith, same)
no-deeper else_line zero m i h e = absurd (cc)
no-deeper else_line (suc n) m i h e = let same : suc n ≡ m = some-is (suc n) m e in omega (arith, same)
no-deeper endif_line zero m i h e = absurd (cc)
no-deeper endif_line (suc n) m i h e = let same : n ≡ m = some-is n m e in omega (arith, same)
