-- Directives that ask nothing.
use Rattle.std.proofs.Common.{◌≡◌, refl, Bool, true, false, List, [], ◌∷◌, if◌then◌else◌, bytes_eq, codes}
use Rattle.pp_tokens.specs.declared.Token.{Token}
use Rattle.directive_scan.specs.declared.directive.Directive.{Directive}
use Rattle.directive_scan.specs.declared.directive.Directive.TheVariants as directive
use Rattle.directive_scan.specs.declared.name.DirectiveName.{DirectiveName}
use Rattle.directive_scan.specs.declared.name.DirectiveName.TheVariants as name
use Rattle.directive_scan.specs.Directives.{pragma_of}
use Rattle.directive_scan.specs.Names.{directive_told}
use Rattle.directive_scan.specs.Spots.{AsksNothing}

either_asks_nothing : (b : Bool) (x y : Directive) → AsksNothing x → AsksNothing y → AsksNothing (if b then x else y)
either_asks_nothing true x y one other = one
either_asks_nothing false x y one other = other

pragma_asks_nothing : (ts : List Token) → AsksNothing (pragma_of ts)
unfolding pragma_of
pragma_asks_nothing [] = tt
pragma_asks_nothing (t ∷ ts) = either_asks_nothing (bytes_eq t.text (codes "once")) directive.Once (directive.Pragma (t ∷ ts)) tt tt

pub asks_nothing : (n : DirectiveName) (ts : List Token) → (n ≡ name.If → ⊥) → (n ≡ name.Ifdef → ⊥) → (n ≡ name.Ifndef → ⊥) → (n ≡ name.Elif → ⊥) → (n ≡ name.Define → ⊥) → AsksNothing (directive_told n ts)
asks_nothing name.If ts a b c d e = absurd (a refl)
asks_nothing name.Ifdef ts a b c d e = absurd (b refl)
asks_nothing name.Ifndef ts a b c d e = absurd (c refl)
asks_nothing name.Elif ts a b c d e = absurd (d refl)
asks_nothing name.Include ts a b c d e = tt
asks_nothing name.Next ts a b c d e = tt
asks_nothing name.Define ts a b c d e = absurd (e refl)
asks_nothing name.Undef ts a b c d e = tt
asks_nothing name.Else ts a b c d e = tt
asks_nothing name.Endif ts a b c d e = tt
asks_nothing name.Line ts a b c d e = tt
asks_nothing name.Error ts a b c d e = tt
asks_nothing name.Warning ts a b c d e = tt
asks_nothing name.Pragma ts a b c d e = pragma_asks_nothing ts
asks_nothing name.Null ts a b c d e = tt
asks_nothing name.Unknown ts a b c d e = tt
