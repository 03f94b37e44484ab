-- When two definitions are the same (ISO C 6.10.3 paragraphs 1 and 2).
use Rattle.std.specs.Prelude.{◌≡◌, ℕ, Bool, true, false, ◌&&◌, ◌==◌, bytes_eq}
use Rattle.std.specs.Bool.{Decides, beq}
use Rattle.std.specs.Cmp.{IsEquivalence, decided, unsigned_Decides, booleans_Decides}
use Rattle.std.specs.Cmp.Lexicographic.{pointwise, pointwise_decides, bytes_decides}
use Rattle.std.proofs.Common.{refl, sym, ap, ◌∙◌, true≢false, zero, suc}
use Rattle.pp_tokens.specs.declared.Kind.{Kind}
use Rattle.pp_tokens.specs.declared.Kind.TheVariants.{Ident, Number, Char, Str, Punct, Header, Other}
use Rattle.pp_tokens.specs.declared.Token.{Token}
use Rattle.macro_defs.specs.declared.definition.Shape.{Shape}
use Rattle.macro_defs.specs.declared.definition.Shape.TheVariants.{Object, Function}
use Rattle.macro_defs.specs.MacroDefinition.{MacroDefinition}

-- a test that finds no two different values alike, and each value like itself, decides equality
by_itself : {K : Type 0} (test : K → K → Bool) → ((x y : K) → test x y ≡ true → x ≡ y) → ((x : K) → test x x ≡ true) → (x y : K) → Decides (test x y) (x ≡ y)
by_itself test sound same x y = (sound x y, λ e. ap (test x) (sym e) ∙ same x)

both_left : (p q : Bool) → (p && q) ≡ true → p ≡ true
both_left true q is = refl
both_left false q is = is

both_right : (p q : Bool) → (p && q) ≡ true → q ≡ true
both_right true q is = is
both_right false q is = absurd (true≢false (sym is))

both : (p q : Bool) → p ≡ true → q ≡ true → (p && q) ≡ true
both p q one other = ap (λ (b : Bool). b && q) one ∙ other

-- kinds, by their numbers
abbrev pub kind_number : Kind → ℕ
kind_number Ident = 0
kind_number Number = 1
kind_number Char = 2
kind_number Str = 3
kind_number Punct = 4
kind_number Header = 5
kind_number Other = 6

kind_numbered : ℕ → Kind
kind_numbered zero = Ident
kind_numbered (suc zero) = Number
kind_numbered (suc (suc zero)) = Char
kind_numbered (suc (suc (suc zero))) = Str
kind_numbered (suc (suc (suc (suc zero)))) = Punct
kind_numbered (suc (suc (suc (suc (suc zero))))) = Header
kind_numbered (suc (suc (suc (suc (suc (suc n)))))) = Other

kind_back : (k : Kind) → kind_numbered (kind_number k) ≡ k
unfolding kind_numbered
kind_back Ident = refl
kind_back Number = refl
kind_back Char = refl
kind_back Str = refl
kind_back Punct = refl
kind_back Header = refl
kind_back Other = refl

abbrev pub is_same_kind : Kind → Kind → Bool
is_same_kind a b = kind_number a == kind_number b

pub is_same_kind-Decides : (a b : Kind) → Decides (is_same_kind a b) (a ≡ b)
is_same_kind-Decides a b = (
  λ e. sym (kind_back a) ∙ ap kind_numbered ((unsigned_Decides (kind_number a) (kind_number b)).0 e) ∙ kind_back b,
  λ e. (unsigned_Decides (kind_number a) (kind_number b)).1 (ap kind_number e),
)

-- tokens of one kind, spelling, line and space
abbrev pub is_same_token : Token → Token → Bool
is_same_token a b = is_same_kind a.kind b.kind && (bytes_eq a.text b.text && (a.line == b.line && beq a.space b.space))

same_token-is : (a b : Token) → is_same_token a b ≡ true → a ≡ b
same_token-is a b is =
    let rest : (bytes_eq a.text b.text && (a.line == b.line && beq a.space b.space)) ≡ true = both_right (is_same_kind a.kind b.kind) _ is in
    let last : (a.line == b.line && beq a.space b.space) ≡ true = both_right (bytes_eq a.text b.text) _ rest in
    let k : a.kind ≡ b.kind = (is_same_kind-Decides a.kind b.kind).0 (both_left (is_same_kind a.kind b.kind) _ is) in
    let t : a.text ≡ b.text = (bytes_decides a.text b.text).0 (both_left (bytes_eq a.text b.text) _ rest) in
    let l : a.line ≡ b.line = (unsigned_Decides a.line b.line).0 (both_left (a.line == b.line) _ last) in
    let s : a.space ≡ b.space = (booleans_Decides a.space b.space).0 (both_right (a.line == b.line) _ last) in
    λ i. record { kind = k i; text = t i; line = l i; space = s i }

same_token-same : (a : Token) → is_same_token a a ≡ true
same_token-same a =
    both (is_same_kind a.kind a.kind) _ ((is_same_kind-Decides a.kind a.kind).1 refl)
    (both (bytes_eq a.text a.text) _ ((bytes_decides a.text a.text).1 refl)
    (both (a.line == a.line) _ ((unsigned_Decides a.line a.line).1 refl) ((booleans_Decides a.space a.space).1 refl)))

pub is_same_token-Decides : (a b : Token) → Decides (is_same_token a b) (a ≡ b)
is_same_token-Decides = by_itself is_same_token same_token-is same_token-same

-- forms: both object-like, or function-like with the same parameters
abbrev pub is_same_shape : Shape → Shape → Bool
is_same_shape Object Object = true
is_same_shape Object (Function q w) = false
is_same_shape (Function p v) Object = false
is_same_shape (Function p v) (Function q w) = pointwise bytes_eq p q && beq v w

same_shape-is : (a b : Shape) → is_same_shape a b ≡ true → a ≡ b
same_shape-is Object Object is = refl
same_shape-is Object (Function q w) is = absurd (true≢false (sym is))
same_shape-is (Function p v) Object is = absurd (true≢false (sym is))
same_shape-is (Function p v) (Function q w) is =
    let names : p ≡ q = (pointwise_decides bytes_decides p q).0 (both_left (pointwise bytes_eq p q) _ is) in
    let last : v ≡ w = (booleans_Decides v w).0 (both_right (pointwise bytes_eq p q) _ is) in
    λ i. Function (names i) (last i)

same_shape-same : (a : Shape) → is_same_shape a a ≡ true
same_shape-same Object = refl
same_shape-same (Function p v) = both (pointwise bytes_eq p p) _ ((pointwise_decides bytes_decides p p).1 refl) ((booleans_Decides v v).1 refl)

pub is_same_shape-Decides : (a b : Shape) → Decides (is_same_shape a b) (a ≡ b)
is_same_shape-Decides = by_itself is_same_shape same_shape-is same_shape-same

-- definitions of one form with the same tokens
abbrev pub is_same_definition : MacroDefinition → MacroDefinition → Bool
is_same_definition a b = is_same_shape a.shape b.shape && pointwise is_same_token a.body b.body

same_definition-is : (a b : MacroDefinition) → is_same_definition a b ≡ true → a ≡ b
same_definition-is a b is =
    let form : a.shape ≡ b.shape = (is_same_shape-Decides a.shape b.shape).0 (both_left (is_same_shape a.shape b.shape) _ is) in
    let tokens : a.body ≡ b.body = (pointwise_decides is_same_token-Decides a.body b.body).0 (both_right (is_same_shape a.shape b.shape) _ is) in
    λ i. record { shape = form i; body = tokens i }

same_definition-same : (a : MacroDefinition) → is_same_definition a a ≡ true
same_definition-same a = both (is_same_shape a.shape a.shape) _ ((is_same_shape-Decides a.shape a.shape).1 refl) ((pointwise_decides is_same_token-Decides a.body a.body).1 refl)

pub is_same_definition-Decides : (a b : MacroDefinition) → Decides (is_same_definition a b) (a ≡ b)
is_same_definition-Decides = by_itself is_same_definition same_definition-is same_definition-same

pub is_same_definition-laws : IsEquivalence is_same_definition
is_same_definition-laws = decided is_same_definition is_same_definition-Decides
