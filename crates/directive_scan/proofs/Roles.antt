-- What a directive is to the nesting, by its name.
use Rattle.std.specs.Prelude.{◌≡◌, ◌<◌, ℕ, zero, suc, length, map, drop, get_or, false, List, [], ◌∷◌, ◌++◌, refl, ◌⊎◌}
use Rattle.std.proofs.Common.{sym, ◌∙◌, ap, inr, arith, subst}
use Rattle.std.proofs.lemmas.List.{length-map}
use Rattle.pp_tokens.specs.Lines.{LexedFile}
use Rattle.directive_scan.specs.declared.directive.Directive.{Directive}
use Rattle.directive_scan.specs.declared.directive.Directive.TheVariants as directive
use Rattle.directive_scan.specs.declared.conditional.BranchName.TheVariants as name
use Rattle.directive_scan.specs.declared.conditional.Malformed.{Malformed}
use Rattle.directive_scan.specs.declared.outline.Open.{Open}
use Rattle.directive_scan.specs.declared.role.Nesting.{Nesting}
use Rattle.directive_scan.specs.declared.role.Nesting.TheVariants as nesting
use Rattle.directive_scan.specs.Groups.{Role, single, opening, elif_line, else_line, endif_line, directive_role, role_of}
use Rattle.directive_scan.specs.parts.OpenStack.{branch_step, endif_step, directive_step, nesting_step}
use Rattle.pp_tokens.specs.declared.Token.{Token}
use Rattle.directive_scan.specs.declared.directive.Piece.{Piece}
use Rattle.directive_scan.specs.declared.directive.Piece.TheVariants.{Line}
use Rattle.directive_scan.specs.declared.name.DirectiveName.{DirectiveName}
use Rattle.directive_scan.specs.Gathered.{tokens_at_line}
use Rattle.directive_scan.specs.Names.{directive_told}
use Rattle.directive_scan.specs.declared.spots.Spot.{Spot}
use Rattle.directive_scan.specs.declared.spots.Spot.TheVariants as spot
use Rattle.directive_scan.specs.Spots.{role_told, piece_at, directive_on, KnowsName, EachKnowsName}

-- the effect of a directive on the conditionals that are open, by its role alone
abbrev role_step : ℕ → Role → List Open → Malformed ⊎ List Open
role_step at single os = inr os
role_step at opening os = inr (os ++ record { at = at; else_seen = false } ∷ [])
role_step at elif_line os = branch_step name.Elif at os
role_step at else_line os = branch_step name.Else at os
role_step at endif_line os = endif_step at os

of_directive : (at : ℕ) (d : Directive) (os : List Open) → directive_step at d os ≡ role_step at (directive_role d) os
of_directive at (directive.If ts) os = refl
of_directive at (directive.Ifdef ts) os = refl
of_directive at (directive.Ifndef ts) os = refl
of_directive at (directive.Elif ts) os = refl
of_directive at directive.Else os = refl
of_directive at directive.Endif os = refl
of_directive at _ os = refl

of_nesting : (at : ℕ) (n : Nesting) (os : List Open) → nesting_step at n os ≡ role_step at (role_told n) os
of_nesting at nesting.Single os = refl
of_nesting at nesting.Opening os = refl
of_nesting at (nesting.Branch name.Elif) os = refl
of_nesting at (nesting.Branch name.Else) os = refl
of_nesting at (nesting.Branch name.Endif) os = refl

pub same_step : (at : ℕ) (n : Nesting) (d : Directive) (os : List Open) → role_told n ≡ directive_role d → nesting_step at n os ≡ directive_step at d os
same_step at n d os told = of_nesting at n os ∙ ap (λ (r : Role). role_step at r os) told ∙ sym (of_directive at d os)

-- THE SPOT WITH A NUMBER

pub role_at : (file : LexedFile) (spots : List Spot) (i : ℕ) (d : Spot) → EachKnowsName file spots → i < length spots → KnowsName file (get_or spots i d)
unfolding EachKnowsName
role_at file [] i d each below = absurd (omega arith)
role_at file (s ∷ spots) zero d each below = each.0
role_at file (s ∷ spots) (suc i) d each below = role_at file spots i d each.1 (omega arith)

pub shown_at : (file : LexedFile) (spots : List Spot) (i : ℕ) (d : Spot) → i < length spots → piece_at file (get_or spots i d) ≡ get_or (map (piece_at file) spots) i (piece_at file (get_or spots i d))
shown_at file [] i d below = absurd (omega arith)
shown_at file (s ∷ spots) zero d below = refl
shown_at file (s ∷ spots) (suc i) d below = shown_at file spots i d (omega arith)

-- a directive among the spots, by its name
pub directive_here : (file : LexedFile) (spots : List Spot) (i : ℕ) (d : Spot) (line at : ℕ) (n : DirectiveName) (p : Piece) → EachKnowsName file spots → i < length spots
    → get_or spots i d ≡ spot.Line n line at → Line at (directive_told n (drop 2 (tokens_at_line file line))) ≡ get_or (map (piece_at file) spots) i p
unfolding EachKnowsName
directive_here file [] i d line at n p each below is = absurd (omega arith)
directive_here file (s ∷ spots) zero d line at n p each below is =
    let here : directive_on file line ≡ directive_told n (drop 2 (tokens_at_line file line)) = subst (KnowsName file) is each.0 in
    ap (λ (what : Directive). Line at what) (sym here) ∙ ap (piece_at file) (sym is)
directive_here file (s ∷ spots) (suc i) d line at n p each below is = directive_here file spots i d line at n p each.1 (omega arith) is

-- what is told of a directive among the spots is its role among the pieces
pub role_here : (file : LexedFile) (spots : List Spot) (i : ℕ) (d : Spot) (line at : ℕ) (n : DirectiveName) (r : Nesting) (p : Piece) → EachKnowsName file spots → i < length spots
    → get_or spots i d ≡ spot.Line n line at → ((ts : List Token) → role_told r ≡ directive_role (directive_told n ts)) → role_told r ≡ role_of (get_or (map (piece_at file) spots) i p)
role_here file spots i d line at n r p each below is told =
    told (drop 2 (tokens_at_line file line)) ∙ ap role_of (directive_here file spots i d line at n p each below is)

pub length_shown : (file : LexedFile) (spots : List Spot) (i : ℕ) → i < length spots → i < length (map (piece_at file) spots)
length_shown file spots i below = omega (arith, below, length-map spots (piece_at file))
