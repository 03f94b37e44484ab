-- Asks as keys of a table: which are the same, and what of them is hashed.
use Rattle.std.specs.Prelude.{◌≡◌, ℕ, Bool, true, nat_eq, ◌&&◌, [], ◌∷◌, ◌++◌, Option, None, Some, cond}
use Rattle.std.specs.Bool.{Decides}
use Rattle.std.specs.Cmp.{IsEquivalence, decided, first_so, second_so, unsigned_Decides}
use Rattle.std.specs.Option.{option_eq}
use Rattle.std.specs.Hash as fed
use Rattle.std.specs.Hash.{HashWrites}
use lib.Pointwise.{pointwise, bytes_decides}
use mathlib.Core.Bool.{true≢false}
use mathlib.Core.Path.{refl, sym, ap, subst, ◌∙◌}
use Rattle.search_path.specs.Keys.{is_same_visit, is_same_visit-Decides}
use Rattle.search_path.specs.contracts.asking.VisitHash.TheImpl as visit_hash
use Rattle.search_path.specs.declared.asking.Visit.{Visit}
use Rattle.search_path.specs.declared.asking.Ask.{Ask}
use Rattle.search_path.specs.declared.asking.Form.{Form}
use Rattle.search_path.specs.declared.asking.Form.TheVariants.{Source, Forced, Quote, Angle, NextQuote, NextAngle}

abbrev pub form_number : Form → ℕ
form_number Source = 0
form_number Forced = 1
form_number Quote = 2
form_number Angle = 3
form_number NextQuote = 4
form_number NextAngle = 5

-- the test whether two asks are of one form, from one visit, for one name
abbrev pub is_same_ask : Ask → Ask → Bool
is_same_ask one other = nat_eq (form_number one.form) (form_number other.form) && (option_eq is_same_visit one.from other.from && pointwise nat_eq one.name other.name)

-- what an ask hands to a hasher
abbrev pub ask_writes : Ask → HashWrites
ask_writes ask = fed.u64 (form_number ask.form) ++ (fed.option (visit_hash.ghosts).hash_input ask.from ++ ask.name ∷ [])

-- forms, back from their numbers
abbrev form_at : ℕ → Form
form_at n =
    cond (nat_eq n 0) Source (cond (nat_eq n 1) Forced (cond (nat_eq n 2) Quote (cond (nat_eq n 3) Angle (cond (nat_eq n 4) NextQuote NextAngle))))

form_back : (form : Form) → form_at (form_number form) ≡ form
form_back Source = refl
form_back Forced = refl
form_back Quote = refl
form_back Angle = refl
form_back NextQuote = refl
form_back NextAngle = refl

same_form : (one other : Form) → form_number one ≡ form_number other → one ≡ other
same_form one other same = sym (form_back one) ∙ ap form_at same ∙ form_back other

same_from : (one other : Option Visit) → option_eq is_same_visit one other ≡ true → one ≡ other
same_from None None h = refl
same_from None (Some v) h = absurd (true≢false (sym h))
same_from (Some v) None h = absurd (true≢false (sym h))
same_from (Some v) (Some w) h = ap Some ((is_same_visit-Decides v w).0 h)

own_from : (from : Option Visit) → option_eq is_same_visit from from ≡ true
own_from None = refl
own_from (Some v) = (is_same_visit-Decides v v).1 refl

same_ask_parts : (one other : Ask) (a b c : Bool) → (a ≡ true → one.form ≡ other.form) → (b ≡ true → one.from ≡ other.from) → (c ≡ true → one.name ≡ other.name)
    → (a && (b && c)) ≡ true → one ≡ other
same_ask_parts one other a b c form from name all i =
    let rest = second_so a (b && c) all in
    record { form = form (first_so a (b && c) all) i; from = from (first_so b c rest) i; name = name (second_so b c rest) i }

own_ask : (ask : Ask) → is_same_ask ask ask ≡ true
own_ask ask i = (unsigned_Decides (form_number ask.form) (form_number ask.form)).1 refl i && (own_from ask.from i && (bytes_decides ask.name ask.name).1 refl i)

pub is_same_ask-Decides : (one other : Ask) → Decides (is_same_ask one other) (one ≡ other)
is_same_ask-Decides one other = (
  same_ask_parts one other _ _ _
      (λ h. same_form one.form other.form ((unsigned_Decides (form_number one.form) (form_number other.form)).0 h))
      (same_from one.from other.from)
      (bytes_decides one.name other.name).0,
  λ e. subst (λ ask. is_same_ask one ask ≡ true) e (own_ask one),
)

pub same_ask_equiv : IsEquivalence is_same_ask
same_ask_equiv = decided is_same_ask is_same_ask-Decides
