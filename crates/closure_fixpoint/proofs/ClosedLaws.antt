-- Least closed sets: there is one, all others have the same members, and what is found step by step lies in each closed set.
use Rattle.std.proofs.Common.{◌≡◌, ◌⊎◌, ◌≤◌, ◌<◌, ◌+◌, ℕ, zero, suc, ◌∷◌, ◌++◌, [], List, length, Bool, true, false, refl, sym, ap, subst, ◌∙◌, inl, inr, arith}
use Rattle.std.specs.Bool.{Decides}
use Rattle.base_types.specs.Members.{Member, Within, EachOnce}
use Rattle.tree_model.proofs.MemberLemmas.{Member-append, Member-append_left, Member-append_right}
use Rattle.closure_fixpoint.specs.Closed.{IsClosed, IsClosure, IsMonotone}

-- LISTS WITH NO ELEMENT TWICE

without : {X : Type 0} (x : X) (ys : List X) → Member x ys → List X
without x [] m = elim m [ ]
without x (y ∷ ys) (inl same) = ys
without x (y ∷ ys) (inr m) = y ∷ without x ys m

length-without : {X : Type 0} (x : X) (ys : List X) (m : Member x ys) → length ys ≡ suc (length (without x ys m))
unfolding without
length-without x [] m = elim m [ ]
length-without x (y ∷ ys) (inl same) = refl
length-without x (y ∷ ys) (inr m) = ap suc (length-without x ys m)

Member-without : {X : Type 0} (x z : X) (ys : List X) (m : Member x ys) → Member z ys → (z ≡ x) ⊎ Member z (without x ys m)
unfolding without
Member-without x z [] m n = elim m [ ]
Member-without x z (y ∷ ys) (inl same) (inl other) = inl (sym other ∙ same)
Member-without x z (y ∷ ys) (inl same) (inr n) = inr n
Member-without x z (y ∷ ys) (inr m) (inl other) = inr (inl other)
Member-without x z (y ∷ ys) (inr m) (inr n) = later (Member-without x z ys m n)
  where
    later : (z ≡ x) ⊎ Member z (without x ys m) → (z ≡ x) ⊎ Member z (y ∷ without x ys m)
    later (inl e) = inl e
    later (inr k) = inr (inr k)

-- a list with no element twice isn't longer than one that has its members
pub few : {X : Type 0} (xs ys : List X) → EachOnce xs → Within xs ys → length xs ≤ length ys
few [] ys once within = omega arith
few (x ∷ xs) ys once within =
    let m : Member x ys = within x (inl refl) in
    let rest : length xs ≤ length (without x ys m) = few xs (without x ys m) once.1 (λ z n. other z n (Member-without x z ys m (within z (inr n)))) in
    let longer : length ys ≡ suc (length (without x ys m)) = length-without x ys m in
    omega (arith, rest, longer)
  where
    other : (z : _) → Member z xs → (z ≡ x) ⊎ Member z (without x ys (within x (inl refl))) → Member z (without x ys (within x (inl refl)))
    other z n (inl same) = absurd (once.0 (subst (λ w. Member w xs) same n))
    other z n (inr k) = k

-- SOME MEMBER THAT IS MISSING

-- all are in a set, or one is missing
pub data Looked {V : Type 0} (set xs : List V) : Type 0 where
  AllThere : Within xs set → Looked set xs
  Missing : (x : V) → Member x xs → (Member x set → ⊥) → Looked set xs

module _ {V : Type 0} (same : V → V → Bool) (decides : (a b : V) → Decides (same a b) (a ≡ b)) where
  member_or : (x : V) (set : List V) → Member x set ⊎ (Member x set → ⊥)
  member_or x [] = inr (λ m. m)
  member_or x (y ∷ set) = go (same y x) refl (member_or x set)
    where
      later : Member x set ⊎ (Member x set → ⊥) → same y x ≡ false → Member x (y ∷ set) ⊎ (Member x (y ∷ set) → ⊥)
      later (inl m) is = inl (inr m)
      later (inr none) is = inr (λ m. elim m [ inl e ↦ let yes_same : same y x ≡ true = (decides y x).1 e in absurd (cc) | inr n ↦ none n ])

      go : (b : Bool) → same y x ≡ b → Member x set ⊎ (Member x set → ⊥) → Member x (y ∷ set) ⊎ (Member x (y ∷ set) → ⊥)
      go true is rest = inl (inl ((decides y x).0 is))
      go false is rest = later rest is

  look : (set xs : List V) → Looked set xs
  look set [] = AllThere (λ x m. elim m [ ])
  look set (x ∷ xs) = go (member_or x set) (look set xs)
    where
      go : Member x set ⊎ (Member x set → ⊥) → Looked set xs → Looked set (x ∷ xs)
      go (inr none) rest = Missing x (inl refl) none
      go (inl there) (AllThere within) = AllThere (λ y m. elim m [ inl e ↦ subst (λ z. Member z set) e there | inr n ↦ within y n ])
      go (inl there) (Missing y m none) = Missing y (inr m) none

-- CLOSED SETS

module _ {V : Type 0} (first : List V) (leads : List V → V → V → Type 0) (monotone : IsMonotone leads) where
  -- what lies within every closed set
  abbrev pub IsSure : List V → Type 0
  IsSure set = (other : List V) → IsClosed first leads other → Within set other

  -- the step of a work list: what a member leads to under what is known so far is sure
  pub sure_next : (known set : List V) (v t : V) → Within known set → IsSure set → Member v set → leads known v t → (other : List V) → IsClosed first leads other → Member t other
  sure_next known set v t within sure m l other closed =
      closed.next v t (sure other closed v m) (monotone known other v t (λ x n. sure other closed x (within x n)) l)

  -- a closure has the members of each other
  pub closure_unique : (a b : List V) → IsClosure first leads a → IsClosure first leads b → Within a b
  closure_unique a b p q = p.least b q.closed

  -- all that a set leads to is listed, and there is some closed set: then there is a closure
  module _ (same : V → V → Bool) (decides : (a b : V) → Decides (same a b) (a ≡ b)) (targets : List V → List V)
      (sound : (set : List V) (t : V) → Member t (targets set) → (v : V) × Member v set × leads set v t)
      (whole : (set : List V) (v t : V) → Member v set → leads set v t → Member t (targets set))
      (bound : List V) (bounded : IsClosed first leads bound) where
    with_missing : (set : List V) (x : V) → IsSure set → Member x (first ++ targets set) → IsSure (x ∷ set)
    with_missing set x sure there other closed y (inl e) = subst (λ z. Member z other) e (in_other (Member-append x first (targets set) there))
      where
        in_other : Member x first ⊎ Member x (targets set) → Member x other
        in_other (inl begins) = closed.begins x begins
        in_other (inr led) = let s = sound set x led in sure_next set set s.0 x (λ z n. n) sure s.1 s.2 other closed
    with_missing set x sure there other closed y (inr n) = sure other closed y n

    exists_from : (fuel : ℕ) (set : List V) → IsSure set → EachOnce set → length bound < fuel + length set → (closure : List V) × IsClosure first leads closure
    exists_from zero set sure once short =
        let fits : length set ≤ length bound = few set bound once (sure bound bounded) in absurd (omega (arith, fits, short))
    exists_from (suc fuel) set sure once short = go (look same decides set (first ++ targets set)) (exists_from fuel)
      where
        go : Looked set (first ++ targets set)
            → ((more : List V) → IsSure more → EachOnce more → length bound < fuel + length more → (closure : List V) × IsClosure first leads closure)
            → (closure : List V) × IsClosure first leads closure
        go (AllThere within) next = (
          set,
          record {
            closed = record {
              begins = λ v m. within v (Member-append_left v first (targets set) m);
              next = λ v t m l. within t (Member-append_right t first (targets set) (whole set v t m l));
            };
            least = sure;
          },
        )
        go (Missing x there none) next = next (x ∷ set) (with_missing set x sure there) (none, once) (omega (arith, short))

    pub closure_exists : (closure : List V) × IsClosure first leads closure
    closure_exists = exists_from (suc (length bound)) [] (λ other closed x m. elim m [ ]) tt (omega arith)
