-- The open conditionals of a file, the outermost first, and what a piece does to them (ISO C 6.10.1).
use Rattle.std.specs.Prelude.{◌≡◌, ℕ, Bool, true, false, List, [], ◌∷◌, ◌++◌, if◌then◌else◌, Option, Some, None, ◌⊎◌}
use Rattle.std.proofs.Common.{inl, inr}
use Rattle.directive_scan.specs.declared.directive.Directive.{Directive}
use Rattle.directive_scan.specs.declared.directive.Directive.TheVariants as directive
use Rattle.directive_scan.specs.declared.directive.Piece.{Piece}
use Rattle.directive_scan.specs.declared.directive.Piece.TheVariants.{Run, Line}
use Rattle.directive_scan.specs.declared.conditional.BranchName.{BranchName}
use Rattle.directive_scan.specs.declared.conditional.BranchName.TheVariants as name
use Rattle.directive_scan.specs.declared.conditional.Malformed.{Malformed}
use Rattle.directive_scan.specs.declared.conditional.Malformed.TheVariants.{WithoutIf, AfterElse, Unended}
use Rattle.directive_scan.specs.declared.role.Nesting.{Nesting}
use Rattle.directive_scan.specs.declared.role.Nesting.TheVariants as nesting
use Rattle.directive_scan.specs.declared.outline.Open.{Open}

-- an open conditional more around those of a result
abbrev pub around : Open → Malformed ⊎ List Open → Malformed ⊎ List Open
around o (inl m) = inl m
around o (inr os) = inr (o ∷ os)

-- a change of the conditional opened last, or what is wrong where none is open
abbrev pub at_last : Malformed → (Open → Malformed ⊎ List Open) → List Open → Malformed ⊎ List Open
at_last wrong change [] = inl wrong
at_last wrong change (o ∷ []) = change o
at_last wrong change (o ∷ p ∷ os) = around o (at_last wrong change (p ∷ os))

abbrev pub is_else : BranchName → Bool
is_else name.Elif = false
is_else name.Else = true
is_else name.Endif = false

-- a conditional behind a branch
abbrev pub branched : BranchName → ℕ → Open → Malformed ⊎ List Open
branched n at o = if o.else_seen then inl (AfterElse n at) else inr (record { at = o.at; else_seen = is_else n } ∷ [])

unfoldable pub branch_step : BranchName → ℕ → List Open → Malformed ⊎ List Open
branch_step n at os = at_last (WithoutIf n at) (branched n at) os

unfoldable pub endif_step : ℕ → List Open → Malformed ⊎ List Open
endif_step at os = at_last (WithoutIf name.Endif at) (λ o. inr []) os

-- a directive's effect
abbrev pub directive_step : ℕ → Directive → List Open → Malformed ⊎ List Open
directive_step at (directive.If ts) os = inr (os ++ record { at = at; else_seen = false } ∷ [])
directive_step at (directive.Ifdef ts) os = inr (os ++ record { at = at; else_seen = false } ∷ [])
directive_step at (directive.Ifndef ts) os = inr (os ++ record { at = at; else_seen = false } ∷ [])
directive_step at (directive.Elif ts) os = branch_step name.Elif at os
directive_step at directive.Else os = branch_step name.Else at os
directive_step at directive.Endif os = endif_step at os
directive_step at _ os = inr os

-- the same, by what a directive is to the nesting
abbrev pub nesting_step : ℕ → Nesting → List Open → Malformed ⊎ List Open
nesting_step at nesting.Single os = inr os
nesting_step at nesting.Opening os = inr (os ++ record { at = at; else_seen = false } ∷ [])
nesting_step at (nesting.Branch name.Elif) os = branch_step name.Elif at os
nesting_step at (nesting.Branch name.Else) os = branch_step name.Else at os
nesting_step at (nesting.Branch name.Endif) os = endif_step at os

-- a piece's effect
abbrev pub open_step : List Open → Piece → Malformed ⊎ List Open
open_step os (Run tokens) = inr os
open_step os (Line at what) = directive_step at what os

-- that a step found an error, or else left these conditionals open
abbrev pub Steps : Malformed ⊎ List Open → Option Malformed → List Open → Type 0
Steps r (Some m) os = r ≡ inl m
Steps r None os = r ≡ inr os

-- what is wrong where a file ends within these conditionals
unfoldable pub unended_last : List Open → Option Malformed
unended_last [] = None
unended_last (o ∷ []) = Some (Unended o.at)
unended_last (o ∷ p ∷ os) = unended_last (p ∷ os)
