-- How the tokens of a replacement are put in.
use Rattle.std.proofs.Common.{◌≡◌, ℕ, Bool, true, false, refl, inr, ◌+◌, ◌-◌, ◌<◌, ◌≤◌, ◌||◌, List, [], ◌∷◌, ◌++◌, map, length, get_or, take, drop, suc, add-one, drop-cons, arith, ap, sym, ◌∙◌, subst}
use Rattle.std.proofs.Math.ListN.{set, length-set}
use Rattle.std.proofs.Math.Seq.{take-append_seam}
use Rattle.std.proofs.lemmas.List.{nil_from_length, append_assoc, length-map, length-drop, take-append-drop, map-append, take_all, take_more, take_more_set, drop-set-lt}
use mathlib.Core.Path.{fun_ext}
use Rattle.pp_tokens.specs.declared.Token.{Token}
use Rattle.macro_defs.specs.MacroDefinition.{without_line}
use Rattle.macro_expand.specs.Replacement.{Marked, Names, unmarked, put_in_for}
use Rattle.macro_expand.specs.Seen.{marked_of}
use Rattle.macro_expand.specs.parts.Stamps.{AllFresh}
use Rattle.macro_expand.specs.Sets.{names_in}
use Rattle.macro_expand.specs.parts.Placing.{placed, lent_at, with_space_of, lent_in}

pub placed-hidden : (line : ℕ) (hidden : Names) (m : Marked) (all : List (List ℕ)) →
    ((n : List ℕ) → names_in all n ≡ (m.hidden n || hidden n)) →
    (let r : Marked = record { token = record m.token { line = line }; hidden = names_in all } in r) ≡ placed line hidden m
placed-hidden line hidden m all same = ap (λ (h : Names). let r : Marked = record { token = record m.token { line = line }; hidden = h } in r) (fun_ext same)

-- the names of a replacement, where those of a token are among them
pub taken_in : (all hidden own : List (List ℕ)) → all ≡ hidden → ((n : List ℕ) → names_in own n ≡ true → names_in hidden n ≡ true) →
    (n : List ℕ) → names_in all n ≡ (names_in own n || names_in hidden n)
taken_in all hidden own same within n = ap (λ (l : List (List ℕ)). names_in l n) same ∙ go (names_in own n) (names_in hidden n) (within n)
  where
    go : (o h : Bool) → (o ≡ true → h ≡ true) → h ≡ (o || h)
    go true h is = is refl
    go false h is = refl

-- A loop over a list in place: what was placed so far, and what is left, which is as it was.
module _ {A B : Type 0} (see : A → B) (place : B → B) (xs ys : List A) (i : ℕ) where
  pub place-turn : (x x' : A) → i < length xs → length xs ≡ length ys → x ≡ get_or xs i x → see x' ≡ place (see x) →
      map see (take i xs) ≡ map place (map see (take i ys)) → drop i xs ≡ drop i ys →
      map see (take (i + 1) (set xs i x')) ≡ map place (map see (take (i + 1) ys))
  place-turn x x' below same is placed done left =
      ap (map see) (take_more_set xs i x' below)
      ∙ map-append see (take i xs) (x' ∷ [])
      ∙ ap (λ b. map see (take i xs) ++ b ∷ []) placed
      ∙ ap (λ bs. bs ++ place (see x) ∷ []) done
      ∙ sym (ap (map place) (map-append see (take i ys) (x ∷ [])) ∙ map-append place (map see (take i ys)) (see x ∷ []))
      ∙ ap (λ z. map place (map see (take i ys ++ z ∷ []))) here
      ∙ ap (λ zs. map place (map see zs)) (sym (take_more ys i x (subst (λ n. i < n) same below)))
    where
      here : x ≡ get_or ys i x
      here =
          let a : drop i xs ≡ get_or xs i x ∷ drop (suc i) xs = drop-cons xs i x below in
          let b : drop i ys ≡ get_or ys i x ∷ drop (suc i) ys = drop-cons ys i x (subst (λ n. i < n) same below) in
          cc

  pub place-left : (x' : A) → drop i xs ≡ drop i ys → i < length xs → length xs ≡ length ys → drop (i + 1) (set xs i x') ≡ drop (i + 1) ys
  place-left x' left below same =
      let lt : i < i + 1 = omega arith in
      drop-set-lt (i + 1) xs i x' lt ∙ tails
    where
      tails : drop (i + 1) xs ≡ drop (i + 1) ys
      tails =
          let a : drop i xs ≡ get_or xs i x' ∷ drop (i + 1) xs = rw add-one (drop-cons xs i x' below) in
          let b : drop i ys ≡ get_or ys i x' ∷ drop (i + 1) ys = rw add-one (drop-cons ys i x' (subst (λ n. i < n) same below)) in
          cc

  -- where the loop has come to the end
  pub place-all : (made : List A) (n : ℕ) → length xs ≡ length ys → length ys ≤ i → ys ≡ made → length ys ≡ n →
      map see (take i xs) ≡ map place (map see (take i ys)) → map see (take n (xs ++ drop (length xs) made)) ≡ map place (map see made)
  place-all made n same ends is all done =
      ap (λ k. map see (take k (xs ++ drop (length xs) made))) (sym (same ∙ all))
      ∙ ap (map see) (take-append_seam xs (drop (length xs) made))
      ∙ ap (map see) (sym (take_all i xs (subst (λ k. k ≤ i) (sym same) ends)))
      ∙ done
      ∙ ap (λ l. map place (map see l)) (take_all i ys ends ∙ is)

pub place-same : {A : Type 0} (xs ys : List A) (i : ℕ) (x : A) → length xs ≡ length ys → length (set xs i x) ≡ length ys
place-same xs ys i x same = length-set xs i x ∙ same

-- the last of a list stands behind all others
pub last-behind : {A : Type 0} (xs : List A) (n : ℕ) (x : A) (ys : List A) → length xs ≤ n + 1 → drop n xs ≡ x ∷ ys → xs ≡ take n xs ++ x ∷ []
last-behind xs n x ys few behind =
    let more : length (x ∷ ys) ≡ length xs - n = ap length (sym behind) ∙ length-drop n xs in
    let none : ys ≡ [] = nil_from_length ys (omega (arith, more, few)) in
    sym (take-append-drop n xs) ∙ ap (λ l. take n xs ++ l) (behind ∙ ap (λ l. x ∷ l) none)

pub none-behind : {A : Type 0} (xs : List A) (n : ℕ) → n ≤ length xs - 1 → drop n xs ≡ [] → xs ≡ []
none-behind xs n few behind =
    let none : 0 ≡ length xs - n = ap length (sym behind) ∙ length-drop n xs in
    nil_from_length xs (omega (arith, none, few))

-- tokens of a replacement list that stand for themselves
module _ (t : Token) (hidden : List (List ℕ)) (stamp : ℕ) where
  each-lent : (us : List Token) → map marked_of (map (lent_at t.line hidden stamp) us) ≡ map (placed t.line (names_in hidden)) (map unmarked (map without_line us))
  each-lent [] = refl
  each-lent (u ∷ us) = ap (λ (ms : List Marked). marked_of (lent_at t.line hidden stamp u) ∷ ms) (each-lent us)

  pub lent-placed : (us : List Token) → map marked_of (lent_in t hidden stamp us) ≡ put_in_for t (names_in hidden) (map unmarked (map without_line us))
  lent-placed [] = refl
  lent-placed (u ∷ us) = ap (λ (ms : List Marked). marked_of (with_space_of t.space (lent_at t.line hidden stamp u)) ∷ ms) (each-lent us)

  pub lent-length : (us : List Token) → length (lent_in t hidden stamp us) ≡ length us
  lent-length [] = refl
  lent-length (u ∷ us) = ap suc (length-map us (lent_at t.line hidden stamp))

  each-fresh : (us : List Token) → AllFresh stamp hidden (map (lent_at t.line hidden stamp) us)
  each-fresh [] = tt
  each-fresh (u ∷ us) = (inr (refl, refl), each-fresh us)

  pub lent-fresh : (us : List Token) → AllFresh stamp hidden (lent_in t hidden stamp us)
  lent-fresh [] = tt
  lent-fresh (u ∷ us) = (inr (refl, refl), each-fresh us)

-- one more is taken from the end of a list, and put before those that came behind it
pub taken-before : {A B : Type 0} (f : A → B) (xs ys : List A) (x : A) (zs : List B) → xs ≡ ys ++ x ∷ [] → map f ys ++ f x ∷ zs ≡ map f xs ++ zs
taken-before f xs ys x zs is =
    sym (append_assoc (map f ys) (f x ∷ []) zs) ∙ ap (λ l. l ++ zs) (sym (map-append f ys (x ∷ [])) ∙ ap (map f) (sym is))
