-- Laws of trees of questions.
use Rattle.std.proofs.Common.{◌≡◌, ℕ, List, refl, ap, Result, Ok, Err, Option}
use mathlib.Core.Path.{fun_ext}
use Rattle.macro_defs.specs.MacroDefinition.{MacroDefinition}
use Rattle.macro_expand.specs.Asking.{Failure, Asking, give, fail, ask_definition, ask_file, ask_line, then_with}
use Rattle.macro_expand.specs.Expansion.{Table, Place, by_table}

-- every result at the end of some answers has this property
abbrev pub Leaves : {A : Type 0} → (A → Type 0) → Asking A → Type 0
Leaves P (give x) = P x
Leaves P (fail e) = Unit {0}
Leaves P (ask_definition name next) = (d : Option MacroDefinition) → Leaves P (next d)
Leaves P (ask_file next) = (t : List ℕ) → Leaves P (next t)
Leaves P (ask_line line next) = (t : List ℕ) → Leaves P (next t)

pub Leaves-then_with : {A B : Type 0} (P : A → Type 0) (Q : B → Type 0) (t : Asking A) (f : A → Asking B) →
    Leaves P t → ((x : A) → P x → Leaves Q (f x)) → Leaves Q (then_with t f)
unfolding then_with
Leaves-then_with P Q (give x) f h k = k x h
Leaves-then_with P Q (fail e) f h k = tt
Leaves-then_with P Q (ask_definition name next) f h k = λ d. Leaves-then_with P Q (next d) f (h d) k
Leaves-then_with P Q (ask_file next) f h k = λ d. Leaves-then_with P Q (next d) f (h d) k
Leaves-then_with P Q (ask_line line next) f h k = λ d. Leaves-then_with P Q (next d) f (h d) k

pub then_with-agree : {A B : Type 0} (P : A → Type 0) (t : Asking A) (f g : A → Asking B) →
    Leaves P t → ((x : A) → P x → f x ≡ g x) → then_with t f ≡ then_with t g
unfolding then_with
then_with-agree P (give x) f g h k = k x h
then_with-agree P (fail e) f g h k = refl
then_with-agree P (ask_definition name next) f g h k =
    ap (ask_definition name) (fun_ext (λ d. then_with-agree P (next d) f g (h d) k))
then_with-agree P (ask_file next) f g h k = ap ask_file (fun_ext (λ d. then_with-agree P (next d) f g (h d) k))
then_with-agree P (ask_line line next) f g h k = ap (ask_line line) (fun_ext (λ d. then_with-agree P (next d) f g (h d) k))

pub then_with-then_with : {A B C : Type 0} (t : Asking A) (f : A → Asking B) (g : B → Asking C) →
    then_with (then_with t f) g ≡ then_with t (λ x. then_with (f x) g)
unfolding then_with
then_with-then_with (give x) f g = refl
then_with-then_with (fail e) f g = refl
then_with-then_with (ask_definition name next) f g = ap (ask_definition name) (fun_ext (λ d. then_with-then_with (next d) f g))
then_with-then_with (ask_file next) f g = ap ask_file (fun_ext (λ d. then_with-then_with (next d) f g))
then_with-then_with (ask_line line next) f g = ap (ask_line line) (fun_ext (λ d. then_with-then_with (next d) f g))

-- what follows a result, or the error
abbrev pub on_ok : {A B : Type 0} → Result A Failure → (A → Result B Failure) → Result B Failure
on_ok (Ok x) f = f x
on_ok (Err e) f = Err e

-- a table answers the first part, and then what follows its result
pub by_table-then_with : {A B : Type 0} (table : Table) (here : Place) (t : Asking A) (f : A → Asking B) →
    by_table table here (then_with t f) ≡ on_ok (by_table table here t) (λ x. by_table table here (f x))
unfolding then_with by_table
by_table-then_with table here (give x) f = refl
by_table-then_with table here (fail e) f = refl
by_table-then_with table here (ask_definition name next) f = by_table-then_with table here (next (table name)) f
by_table-then_with table here (ask_file next) f = by_table-then_with table here (next here.name) f
by_table-then_with table here (ask_line line next) f = by_table-then_with table here (next _) f
