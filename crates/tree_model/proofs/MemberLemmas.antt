-- Membership in lists.
use Rattle.std.proofs.Common.{◌≡◌, List, [], ◌∷◌, ◌++◌, refl, sym, ap, subst, ◌⊎◌, inl, inr}
use Rattle.std.proofs.Common.{Option, Some, None, Bool, true, false, cond, ◌∙◌, ◌||◌}
use Rattle.std.specs.List.{filter_map, cons_option, flat_map, filter, list_any}
use Rattle.std.specs.Prelude.{map}
use Rattle.base_types.specs.Members.{Member}

pub Member-append_left : {X : Type 0} (x : X) (xs ys : List X) → Member x xs → Member x (xs ++ ys)
Member-append_left x [] ys m = elim m [ ]
Member-append_left x (y ∷ xs) ys (inl e) = inl e
Member-append_left x (y ∷ xs) ys (inr m) = inr (Member-append_left x xs ys m)

pub Member-append_right : {X : Type 0} (x : X) (xs ys : List X) → Member x ys → Member x (xs ++ ys)
Member-append_right x [] ys m = m
Member-append_right x (y ∷ xs) ys m = inr (Member-append_right x xs ys m)

pub Member-append : {X : Type 0} (x : X) (xs ys : List X) → Member x (xs ++ ys) → Member x xs ⊎ Member x ys
Member-append x [] ys m = inr m
Member-append x (y ∷ xs) ys (inl e) = inl (inl e)
Member-append x (y ∷ xs) ys (inr m) = elim (Member-append x xs ys m) [ inl a ↦ inl (inr a) | inr b ↦ inr b ]

pub Member-filter_map : {X Y : Type 0} (f : X → Option Y) (x : X) (y : Y) (xs : List X) → Member x xs → f x ≡ Some y → Member y (filter_map f xs)
Member-filter_map f x y [] m e = elim m [ ]
Member-filter_map f x y (z ∷ xs) (inl is) e =
    let at : f z ≡ Some y = ap f is ∙ e in
    subst (λ o. Member y (cons_option o (filter_map f xs))) (sym at) (inl refl)
Member-filter_map {Y = Y} f x y (z ∷ xs) (inr m) e = more (f z) (Member-filter_map f x y xs m e)
  where
    more : (o : Option Y) → Member y (filter_map f xs) → Member y (cons_option o (filter_map f xs))
    more None h = h
    more (Some w) h = inr h

pub Member-flat_map : {X Y : Type 0} (f : X → List Y) (x : X) (y : Y) (xs : List X) → Member x xs → Member y (f x) → Member y (flat_map f xs)
Member-flat_map f x y [] m h = elim m [ ]
Member-flat_map f x y (z ∷ xs) (inl is) h = Member-append_left y (f z) (flat_map f xs) (subst (λ w. Member y (f w)) (sym is) h)
Member-flat_map f x y (z ∷ xs) (inr m) h = Member-append_right y (f z) (flat_map f xs) (Member-flat_map f x y xs m h)

pub Member-filter : {X : Type 0} (test : X → Bool) (x : X) (xs : List X) → Member x (filter test xs) → Member x xs
Member-filter test x [] m = elim m [ ]
Member-filter test x (z ∷ xs) m = go (test z) (Member-filter test x xs) m
  where
    go : (b : Bool) → (Member x (filter test xs) → Member x xs) → Member x (cond b (z ∷ filter test xs) (filter test xs)) → Member x (z ∷ xs)
    go true h (inl e) = inl e
    go true h (inr m) = inr (h m)
    go false h m = inr (h m)

pub Member-map : {X Y : Type 0} (f : X → Y) (x : X) (xs : List X) → Member x xs → Member (f x) (map f xs)
Member-map f x [] m = elim m [ ]
Member-map f x (z ∷ xs) (inl e) = inl (ap f e)
Member-map f x (z ∷ xs) (inr m) = inr (Member-map f x xs m)

-- a member that passes makes a list pass
pub list_any-true : {X : Type 0} (test : X → Bool) (x : X) (xs : List X) → Member x xs → test x ≡ true → list_any test xs ≡ true
list_any-true test x [] m e = elim m [ ]
list_any-true test x (z ∷ xs) (inl is) e = ap (λ b. b || list_any test xs) (ap test is ∙ e)
list_any-true test x (z ∷ xs) (inr m) e = or_true (test z) (list_any-true test x xs m e)
  where
    or_true : (b : Bool) {c : Bool} → c ≡ true → (b || c) ≡ true
    or_true true e = refl
    or_true false e = e
