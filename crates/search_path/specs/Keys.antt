-- Setups and visits as keys of tables: which are the same.
use Rattle.std.specs.Prelude.{◌≡◌, Bool, true, nat_eq, List, [], ◌∷◌, ◌++◌, ◌&&◌}
use Rattle.std.specs.Bool.{Decides}
use Rattle.std.specs.Cmp.{IsEquivalence, decided, first_so, second_so, booleans_Decides, unsigned_Decides}
use Rattle.std.specs.Hash as fed
use Rattle.std.specs.Hash.{HashWrites}
use lib.Pointwise.{pointwise, pointwise_decides, bytes_decides}
use mathlib.Core.Bool.{beq, true≢false}
use mathlib.Core.Path.{refl, sym, ap, subst}
use Rattle.tree_model.specs.Paths.{Text, is_same_path, is_same_path-Decides}
use Rattle.search_path.specs.SetupOf.{SetupData, setup_of}
use Rattle.search_path.specs.declared.asking.Found.{Found}
use Rattle.search_path.specs.declared.asking.Found.TheVariants.{Primary, Absolute, Here, Chain}
use Rattle.search_path.specs.declared.asking.Visit.{Visit}
use Rattle.search_path.specs.contracts.asking.FoundPartialEq.TheImpl as found_eq
use Rattle.search_path.specs.contracts.asking.VisitPartialEq.TheImpl as visit_eq

-- ---- setups ----

abbrev pub are_same_texts : List Text → List Text → Bool
are_same_texts = pointwise (pointwise nat_eq)

-- the test whether two setups are the same
abbrev pub is_same_setup : SetupData → SetupData → Bool
is_same_setup one other =
    pointwise nat_eq one.cwd other.cwd
    && (are_same_texts one.quote other.quote && (are_same_texts one.bracket other.bracket && beq one.trigraphs other.trigraphs))

-- what a setup hands to a hasher
abbrev pub setup_writes : SetupData → HashWrites
setup_writes setup =
    (setup.cwd ∷ [])
    ++ (fed.slice (λ text. text ∷ []) setup.quote ++ (fed.slice (λ text. text ∷ []) setup.bracket ++ fed.bool setup.trigraphs))

same_setup_parts : (one other : SetupData) (a b c d : Bool) → Decides a (one.cwd ≡ other.cwd) → Decides b (one.quote ≡ other.quote) → Decides c (one.bracket ≡ other.bracket) → Decides d (one.trigraphs ≡ other.trigraphs)
    → (a && (b && (c && d))) ≡ true → one ≡ other
same_setup_parts one other a b c d cwd quote bracket trigraphs all i =
    let rest = second_so a (b && (c && d)) all in
    let last = second_so b (c && d) rest in
    setup_of (cwd.0 (first_so a (b && (c && d)) all) i) (quote.0 (first_so b (c && d) rest) i) (bracket.0 (first_so c d last) i) (trigraphs.0 (second_so c d last) i)

texts_decide : (one other : List Text) → Decides (are_same_texts one other) (one ≡ other)
texts_decide = pointwise_decides bytes_decides

is_own_setup : (setup : SetupData) → is_same_setup setup setup ≡ true
is_own_setup setup i =
    (bytes_decides setup.cwd setup.cwd).1 refl i
    && ((texts_decide setup.quote setup.quote).1 refl i && ((texts_decide setup.bracket setup.bracket).1 refl i && (booleans_Decides setup.trigraphs setup.trigraphs).1 refl i))

pub is_same_setup-Decides : (one other : SetupData) → Decides (is_same_setup one other) (one ≡ other)
is_same_setup-Decides one other = (
  same_setup_parts one other _ _ _ _ (bytes_decides one.cwd other.cwd) (texts_decide one.quote other.quote) (texts_decide one.bracket other.bracket) (booleans_Decides one.trigraphs other.trigraphs),
  λ e. subst (λ setup. is_same_setup one setup ≡ true) e (is_own_setup one),
)

pub same_setup_equiv : IsEquivalence is_same_setup
same_setup_equiv = decided is_same_setup is_same_setup-Decides

-- what `==` answers at two setups
abbrev pub SetupsDecide : Type 0
SetupsDecide = (one other : SetupData) → Decides (is_same_setup one other) (one ≡ other)

-- ---- visits ----

-- what `==` answers at two ways in which a file was found
abbrev is_same_found : Found → Found → Bool
is_same_found = (found_eq.ghosts).eq

-- and at two visits
abbrev pub is_same_visit : Visit → Visit → Bool
is_same_visit = (visit_eq.ghosts).eq

same_found : (one other : Found) → is_same_found one other ≡ true → one ≡ other
same_found Primary Primary h = refl
same_found Primary Absolute h = absurd (true≢false (sym h))
same_found Primary Here h = absurd (true≢false (sym h))
same_found Primary (Chain n) h = absurd (true≢false (sym h))
same_found Absolute Primary h = absurd (true≢false (sym h))
same_found Absolute Absolute h = refl
same_found Absolute Here h = absurd (true≢false (sym h))
same_found Absolute (Chain n) h = absurd (true≢false (sym h))
same_found Here Primary h = absurd (true≢false (sym h))
same_found Here Absolute h = absurd (true≢false (sym h))
same_found Here Here h = refl
same_found Here (Chain n) h = absurd (true≢false (sym h))
same_found (Chain k) Primary h = absurd (true≢false (sym h))
same_found (Chain k) Absolute h = absurd (true≢false (sym h))
same_found (Chain k) Here h = absurd (true≢false (sym h))
same_found (Chain k) (Chain n) h = ap Chain ((unsigned_Decides k n).0 h)

own_found : (found : Found) → is_same_found found found ≡ true
own_found Primary = refl
own_found Absolute = refl
own_found Here = refl
own_found (Chain k) = (unsigned_Decides k k).1 refl

visits_same : (one other : Visit) → is_same_visit one other ≡ true → one ≡ other
visits_same one other h i =
    let place = first_so (is_same_path one.place other.place) (is_same_found one.found other.found) h in
    let found = second_so (is_same_path one.place other.place) (is_same_found one.found other.found) h in
    record { place = (is_same_path-Decides one.place other.place).0 place i; found = same_found one.found other.found found i }

own_visit : (visit : Visit) → is_same_visit visit visit ≡ true
own_visit visit i = (is_same_path-Decides visit.place visit.place).1 refl i && own_found visit.found i

abbrev pub VisitsDecide : Type 0
VisitsDecide = (one other : Visit) → Decides (is_same_visit one other) (one ≡ other)

pub is_same_visit-Decides : VisitsDecide
is_same_visit-Decides one other = (visits_same one other, λ e. subst (λ visit. is_same_visit one visit ≡ true) e (own_visit one))
