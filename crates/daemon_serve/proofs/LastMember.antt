-- The last member of a list, changed in its place.
use Rattle.std.proofs.Common.{◌≡◌, ℕ, ◌-◌, List, [], ◌∷◌, ◌++◌, length, slice_index_or, slice_set, refl, ◌∙◌, ap, subst, arith}
use Rattle.std.specs.List.{AllByRecursion}
use Rattle.base_types.specs.Told.{on_last}
use Rattle.io_edges.specs.declared.wire.Exchange.{Exchange}
use Rattle.daemon_serve.specs.MemWire.{AtLast}

set-end : {A : Type 0} (f : A → A) (xs : List A) (x old new : A) → old ≡ slice_index_or (x ∷ xs) (length xs) old → new ≡ f old → slice_set (x ∷ xs) (length xs) new ≡ on_last f (x ∷ xs)
set-end f [] x old new is changed = ap (λ e. e ∷ []) (changed ∙ ap f is)
set-end f (y ∷ ys) x old new is changed = ap (λ l. x ∷ l) (set-end f ys y old new is changed)

-- what was stored at the last place is the last member, changed
pub set-last : {A : Type 0} (f : A → A) (xs : List A) (n : ℕ) (old new : A) → n ≡ length xs → old ≡ slice_index_or xs (n - 1) old → new ≡ f old → slice_set xs (n - 1) new ≡ on_last f xs
set-last f [] n old new count is changed = refl
set-last f (x ∷ xs) n old new count is changed =
    let at : n - 1 ≡ length xs = omega (arith, count) in
    let there : old ≡ slice_index_or (x ∷ xs) (length xs) old = rw at at is in
    rw at (set-end f xs x old new there changed)

-- a property of all members, where the last one changes
pub all-on_last : {A : Type 0} (P : A → Type 0) (f : A → A) (xs : List A) → AllByRecursion P xs → ((x : A) → P x → P (f x)) → AllByRecursion P (on_last f xs)
all-on_last P f [] all keeps = tt
all-on_last P f (x ∷ []) all keeps = (keeps x all.0, tt)
all-on_last P f (x ∷ y ∷ rest) all keeps = (all.0, all-on_last P f (y ∷ rest) all.1 keeps)

-- what the last member is like gives what the changed one is like, and what all are like
pub at_last-on_last : (P Q : Exchange → Type 0) (f : Exchange → Exchange) (xs : List Exchange) → AtLast P xs → ((x : Exchange) → P x → Q (f x)) → AtLast Q (on_last f xs)
at_last-on_last P Q f [] last gives = last
at_last-on_last P Q f (x ∷ []) last gives = gives x last
at_last-on_last P Q f (x ∷ y ∷ []) last gives = gives y last
at_last-on_last P Q f (x ∷ y ∷ z ∷ rest) last gives = at_last-on_last P Q f (y ∷ z ∷ rest) last gives

pub all-at_last : (P Q : Exchange → Type 0) (f : Exchange → Exchange) (xs : List Exchange) → AllByRecursion Q xs → AtLast P xs → ((x : Exchange) → P x → Q (f x)) → AllByRecursion Q (on_last f xs)
all-at_last P Q f [] all last gives = tt
all-at_last P Q f (x ∷ []) all last gives = (gives x last, tt)
all-at_last P Q f (x ∷ y ∷ rest) all last gives = (all.0, all-at_last P Q f (y ∷ rest) all.1 last gives)

pub at_last-end : (P : Exchange → Type 0) (xs : List Exchange) (x : Exchange) → P x → AtLast P (xs ++ x ∷ [])
at_last-end P [] x new = new
at_last-end P (y ∷ []) x new = new
at_last-end P (y ∷ z ∷ zs) x new = at_last-end P (z ∷ zs) x new

-- the member at the last place is the last one
at_end : (P : Exchange → Type 0) (xs : List Exchange) (x old : Exchange) → old ≡ slice_index_or (x ∷ xs) (length xs) old → P old → AtLast P (x ∷ xs)
at_end P [] x old is holds = subst P is holds
at_end P (y ∷ ys) x old is holds = at_end P ys y old is holds

pub at_last-from : (R P : Exchange → Type 0) (xs : List Exchange) (n : ℕ) (old : Exchange) → n ≡ length xs → old ≡ slice_index_or xs (n - 1) old → AtLast R xs → P old → AtLast P xs
at_last-from R P [] n old count is some holds = some
at_last-from R P (x ∷ xs) n old count is some holds =
    let at : n - 1 ≡ length xs = omega (arith, count) in
    let there : old ≡ slice_index_or (x ∷ xs) (length xs) old = rw at at is in
    at_end P xs x old there holds

pub at_last-both : (P Q : Exchange → Type 0) (xs : List Exchange) → AtLast P xs → AtLast Q xs → AtLast (λ e. P e × Q e) xs
at_last-both P Q [] p q = p
at_last-both P Q (x ∷ []) p q = (p, q)
at_last-both P Q (x ∷ y ∷ rest) p q = at_last-both P Q (y ∷ rest) p q
