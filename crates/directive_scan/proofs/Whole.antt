-- A file with nothing malformed is whole groups.
use Rattle.std.specs.Prelude.{◌≡◌, ◌↔◌, List, Some, None, refl, ◌⊎◌}
use Rattle.std.proofs.Common.{sym, ◌∙◌, ap, inl, inr}
use Rattle.directive_scan.specs.declared.conditional.BranchName.{BranchName}
use Rattle.directive_scan.specs.declared.conditional.BranchName.TheVariants as name
use Rattle.directive_scan.specs.declared.directive.Directive.{Directive}
use Rattle.directive_scan.specs.declared.directive.Directive.TheVariants as directive
use Rattle.directive_scan.specs.declared.directive.Piece.{Piece}
use Rattle.directive_scan.specs.declared.directive.Piece.TheVariants.{Run, Line}
use Rattle.directive_scan.specs.Groups.{elif_line, else_line, endif_line, directive_role, role_of, Group, Outline, whole, stray, after_else, unended, BelongsInside, HasOutline, outline, branch_name, malformed_by}
use Rattle.directive_scan.proofs.Outlines.{has_outline}
use Rattle.directive_scan.proofs.OneOutline.{only_outline}
use Rattle.directive_scan.proofs.OpenFronts.{unended_told}

-- a directive that goes on or ends a conditional has a name
named : (d : Directive) → (directive_role d ≡ elif_line) ⊎ ((directive_role d ≡ else_line) ⊎ (directive_role d ≡ endif_line)) → (n : BranchName) × (branch_name d ≡ Some n)
named (directive.Elif ts) r = (name.Elif, refl)
named directive.Else r = (name.Else, refl)
named directive.Endif r = (name.Endif, refl)
named _ (inl r) = absurd (cc)
named _ (inr (inl r)) = absurd (cc)
named _ (inr (inr r)) = absurd (cc)

stray_told : (p : Piece) → BelongsInside role_of p → malformed_by (stray p) ≡ None → ⊥
stray_told (Run tokens) (inl r) e = cc
stray_told (Run tokens) (inr (inl r)) e = cc
stray_told (Run tokens) (inr (inr r)) e = cc
stray_told (Line at what) r e = let found = named what r in let h = rw (found.1, malformed_by) at e in cc

after_else_told : (p : Piece) → (role_of p ≡ elif_line) ⊎ (role_of p ≡ else_line) → malformed_by (after_else p) ≡ None → ⊥
after_else_told (Run tokens) (inl r) e = cc
after_else_told (Run tokens) (inr r) e = cc
after_else_told (Line at what) (inl r) e = let found = named what (inl r) in let h = rw (found.1, malformed_by) at e in cc
after_else_told (Line at what) (inr r) e = let found = named what (inr (inl r)) in let h = rw (found.1, malformed_by) at e in cc

none_whole : (pieces : List Piece) (o : Outline) → HasOutline role_of pieces o → malformed_by o ≡ None → (g : Group) × HasOutline role_of pieces (whole g)
none_whole pieces (whole g) h e = (g, h)
none_whole pieces (stray p) h e = absurd (stray_told p h.4 e)
none_whole pieces (after_else p) h e = absurd (after_else_told p h.5 e)
none_whole pieces (unended p) (f, k, is, (b, inner)) e = absurd (let some = unended_told f p b k inner in let both : None ≡ Some some.0 = sym e ∙ some.1 in cc)

pub whole_told : (pieces : List Piece) → (malformed_by (outline role_of pieces) ≡ None) ↔ ((g : Group) × HasOutline role_of pieces (whole g))
whole_told pieces = (none_whole pieces (outline role_of pieces) (has_outline role_of pieces), λ w. ap malformed_by (sym (only_outline role_of pieces (whole w.0) w.1)))
