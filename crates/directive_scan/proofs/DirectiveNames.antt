-- The names of directives.
use Rattle.std.specs.Prelude.{◌≡◌, ◌<◌, ◌≤◌, ℕ, Bool, true, false, List, [], ◌∷◌, length, refl, codes, bytes_eq, if◌then◌else◌}
use Rattle.std.proofs.Common.{sym, ◌∙◌, ap, arith}
use Rattle.std.specs.Cmp.Lexicographic.{bytes_decides}
use Rattle.pp_tokens.specs.declared.Token.{Token}
use Rattle.directive_scan.specs.declared.directive.Directive.{Directive}
use Rattle.directive_scan.specs.declared.directive.Directive.TheVariants as directive
use Rattle.directive_scan.specs.declared.name.DirectiveName.{DirectiveName}
use Rattle.directive_scan.specs.declared.name.DirectiveName.TheVariants as name
use Rattle.directive_scan.specs.Directives.{directive_named, pragma_of}
use Rattle.directive_scan.specs.Names.{directive_told}
use Rattle.directive_scan.specs.Groups.{directive_role, single}

-- what the comparison with a literal says
pub compared : (spelling shown text : List ℕ) (b : Bool) → b ≡ bytes_eq spelling shown → shown ≡ text → bytes_eq spelling text ≡ b
compared spelling shown text b is same = sym (is ∙ ap (bytes_eq spelling) same)

pub so_named : (spelling text : List ℕ) (ts : List Token) → bytes_eq spelling text ≡ true → directive_named spelling ts ≡ directive_named text ts
so_named spelling text ts e = ap (λ (n : List ℕ). directive_named n ts) ((bytes_decides spelling text).0 e)

-- a text is no shorter one
shorter : (spelling text : List ℕ) (b : Bool) → bytes_eq spelling text ≡ b → length text < length spelling → b ≡ false
shorter spelling text false e less = refl
shorter spelling text true e less = absurd (omega (arith, less, ap length ((bytes_decides spelling text).0 e)))

no_shorter : (spelling text : List ℕ) → length text < length spelling → bytes_eq spelling text ≡ false
no_shorter spelling text less = shorter spelling text (bytes_eq spelling text) refl less

past : (b : Bool) (x y : Directive) → b ≡ false → (if b then x else y) ≡ y
past true x y e = absurd (cc)
past false x y e = refl

-- a long text that is none of six
pub no_name : (n : List ℕ) (ts : List Token) → 6 ≤ length n → bytes_eq n (codes "define") ≡ false → bytes_eq n (codes "ifndef") ≡ false → bytes_eq n (codes "include") ≡ false
    → bytes_eq n (codes "pragma") ≡ false → bytes_eq n (codes "warning") ≡ false → bytes_eq n (codes "include_next") ≡ false → directive_named n ts ≡ directive.Unknown
unfolding directive_named
no_name n ts long define ifndef include pragma warning next =
    past _ _ _ include ∙ past _ _ _ next ∙ past _ _ _ define
    ∙ past _ _ _ (no_shorter n (codes "undef") (omega (arith, long)))
    ∙ past _ _ _ (no_shorter n (codes "if") (omega (arith, long)))
    ∙ past _ _ _ (no_shorter n (codes "ifdef") (omega (arith, long)))
    ∙ past _ _ _ ifndef
    ∙ past _ _ _ (no_shorter n (codes "elif") (omega (arith, long)))
    ∙ past _ _ _ (no_shorter n (codes "else") (omega (arith, long)))
    ∙ past _ _ _ (no_shorter n (codes "endif") (omega (arith, long)))
    ∙ past _ _ _ (no_shorter n (codes "line") (omega (arith, long)))
    ∙ past _ _ _ (no_shorter n (codes "error") (omega (arith, long)))
    ∙ past _ _ _ warning ∙ past _ _ _ pragma

-- a pragma is a line by itself
pragma_single : (ts : List Token) → directive_role (pragma_of ts) ≡ single
unfolding pragma_of
pragma_single [] = refl
pragma_single (t ∷ ts) = by (bytes_eq t.text (codes "once"))
  where
    by : (b : Bool) → directive_role (if b then directive.Once else directive.Pragma (t ∷ ts)) ≡ single
    by true = refl
    by false = refl

-- any name but six is that of a line by itself
pub others_single : (n : DirectiveName) (ts : List Token) → (n ≡ name.If → ⊥) → (n ≡ name.Ifdef → ⊥) → (n ≡ name.Ifndef → ⊥) → (n ≡ name.Elif → ⊥) → (n ≡ name.Else → ⊥) → (n ≡ name.Endif → ⊥)
    → single ≡ directive_role (directive_told n ts)
others_single name.If ts a b c d e f = absurd (a refl)
others_single name.Ifdef ts a b c d e f = absurd (b refl)
others_single name.Ifndef ts a b c d e f = absurd (c refl)
others_single name.Elif ts a b c d e f = absurd (d refl)
others_single name.Else ts a b c d e f = absurd (e refl)
others_single name.Endif ts a b c d e f = absurd (f refl)
others_single name.Pragma ts a b c d e f = sym (pragma_single ts)
others_single name.Include ts a b c d e f = refl
others_single name.Next ts a b c d e f = refl
others_single name.Define ts a b c d e f = refl
others_single name.Undef ts a b c d e f = refl
others_single name.Line ts a b c d e f = refl
others_single name.Error ts a b c d e f = refl
others_single name.Warning ts a b c d e f = refl
others_single name.Null ts a b c d e f = refl
others_single name.Unknown ts a b c d e f = refl
