-- Searches for one byte, and the end of a comment by them.
use Rattle.std.specs.Prelude.{◌≡◌, ℕ, ◌+◌, ◌≤◌, Bool, true, false, cond, not, List, [], ◌∷◌, length, drop, get_or, take_while, Option, Some, None, option_map, unwrap_or, zero, suc, refl, ◌==◌, nat_eq}
use Rattle.std.proofs.Common.{sym, ◌∙◌, ap, subst, arith}
use Rattle.std.proofs.lemmas.Bool.{eqb-true, ne_eqb, false_from_ne_true}
use Rattle.std.proofs.Math.Numerals.{one-add}
use Rattle.std.proofs.lemmas.List.{drop-drop, drop_all}
use Rattle.memchr.specs.Find.{IsFirstByte, NoneBefore, Passes, is_byte}
use Rattle.pp_tokens.specs.parts.Text.{comment_length}

-- how many bytes stand before the first that is this one
abbrev pub before : ℕ → List ℕ → ℕ
before stop bs = length (take_while (λ b. not (b == stop)) bs)

pub before_stop : (stop b : ℕ) (bs : List ℕ) → (b == stop) ≡ true → before stop (b ∷ bs) ≡ 0
before_stop stop b bs e = rw e refl

pub before_other : (stop b : ℕ) (bs : List ℕ) → (b == stop) ≡ false → before stop (b ∷ bs) ≡ suc (before stop bs)
before_other stop b bs e = rw e (rw one-add refl)

-- the answer of a search, or the length where nothing is found
pub search_is : (stop : ℕ) (bs : List ℕ) (r : Option ℕ) → IsFirstByte (is_byte stop) bs r → unwrap_or r (length bs) ≡ before stop bs
search_is stop [] None h = refl
search_is stop [] (Some k) h = absurd (omega (arith, h.0.high))
search_is stop (b ∷ bs) None h =
    let here : (b == stop) ≡ false = false_from_ne_true (b == stop) (λ e. h 0 (omega arith) (omega arith) e) in
    let later : length bs ≡ before stop bs = search_is stop bs None (λ k low high e. h (suc k) (omega arith) (omega arith) e) in
    ap suc later ∙ sym (before_other stop b bs here)
search_is stop (b ∷ bs) (Some zero) h = sym (before_stop stop b bs h.1)
search_is stop (b ∷ bs) (Some (suc k)) h =
    let here : (b == stop) ≡ false = false_from_ne_true (b == stop) (λ e. h.0.before 0 (omega arith) (omega arith) e) in
    let range : NoneBefore (Passes (is_byte stop) bs) 0 (length bs) k = record {
      low = omega arith;
      high = omega (arith, h.0.high);
      before = λ j low high e. h.0.before (suc j) (omega arith) (omega arith) e;
    } in
    let later : k ≡ before stop bs = search_is stop bs (Some k) (range, h.1) in
    ap suc later ∙ sym (before_other stop b bs here)

-- THE END OF A COMMENT, FROM `*` TO `*`

-- what the search finds behind n bytes, where it goes on there
abbrev pub onward : ℕ → Option ℕ → Option ℕ
onward n = option_map (λ m. n + m)

pub onward_zero : (o : Option ℕ) → o ≡ onward 0 o
onward_zero None = refl
onward_zero (Some n) = let e : n ≡ 0 + n = omega arith in ap Some e

pub onward_twice : (n m : ℕ) (o : Option ℕ) → onward n (onward m o) ≡ onward (n + m) o
onward_twice n m None = refl
onward_twice n m (Some k) = let e : n + (m + k) ≡ n + m + k = omega arith in ap Some e

suc_onward : (n : ℕ) (o : Option ℕ) → option_map suc (onward n o) ≡ onward (suc n) o
suc_onward n None = refl
suc_onward n (Some k) = let e : suc (n + k) ≡ suc n + k = omega arith in ap Some e

suc_is : (o : Option ℕ) → option_map suc o ≡ onward 1 o
suc_is None = refl
suc_is (Some k) = let e : suc k ≡ 1 + k = omega arith in ap Some e

abbrev Step : List ℕ → ℕ → Type 0
Step bs n = comment_length bs ≡ cond (get_or bs (n + 1) 0 == 47) (Some (n + 2)) (onward (n + 1) (comment_length (drop (n + 1) bs)))

at_star : (bs : List ℕ) → Step (42 ∷ bs) 0
unfolding comment_length
at_star [] = refl
at_star (c ∷ cs) = by_test (c == 47) refl
  where
    by_test : (t : Bool) → (c == 47) ≡ t → Step (42 ∷ c ∷ cs) 0
    by_test true e = subst (λ (k : ℕ). Step (42 ∷ k ∷ cs) 0) (sym (eqb-true c 47 e)) refl
    by_test false e =
        let other : nat_eq 47 c ≡ false = ne_eqb 47 c (λ same. (let h : true ≡ false = ap (λ k. k == 47) same ∙ e in cc)) in
        rw (other, e) (suc_is (comment_length (c ∷ cs)))

-- one byte more in front
one_more : (t : Bool) (n : ℕ) (o : Option ℕ) → option_map suc (cond t (Some (n + 2)) (onward (n + 1) o)) ≡ cond t (Some (suc n + 2)) (onward (suc n + 1) o)
one_more true n o = let e : suc (n + 2) ≡ suc n + 2 = omega arith in ap Some e
one_more false n o = let e : suc (n + 1) ≡ suc n + 1 = omega arith in suc_onward (n + 1) o ∙ ap (λ k. onward k o) e

no_star : (b : ℕ) (bs : List ℕ) → (b == 42) ≡ false → comment_length (b ∷ bs) ≡ option_map suc (comment_length bs)
unfolding comment_length
no_star b bs e =
    let other : nat_eq 42 b ≡ false = ne_eqb 42 b (λ same. (let h : true ≡ false = ap (λ k. k == 42) same ∙ e in cc)) in
    rw other refl

step_on : (b : ℕ) (bs : List ℕ) (n : ℕ) → (b == 42) ≡ false → Step bs n → Step (b ∷ bs) (suc n)
step_on b bs n e h =
    let next : suc n + 1 ≡ suc (n + 1) = omega arith in
    let byte : get_or (b ∷ bs) (suc n + 1) 0 ≡ get_or bs (n + 1) 0 = ap (λ k. get_or (b ∷ bs) k 0) next in
    let rest : drop (suc n + 1) (b ∷ bs) ≡ drop (n + 1) bs = ap (λ k. drop k (b ∷ bs)) next in
    no_star b bs e ∙ ap (option_map suc) h ∙ one_more (get_or bs (n + 1) 0 == 47) n (comment_length (drop (n + 1) bs))
    ∙ ap (λ x. cond (x == 47) (Some (suc n + 2)) (onward (suc n + 1) (comment_length (drop (n + 1) bs)))) (sym byte)
    ∙ ap (λ (l : List ℕ). cond (get_or (b ∷ bs) (suc n + 1) 0 == 47) (Some (suc n + 2)) (onward (suc n + 1) (comment_length l))) (sym rest)

-- up to the next `*` no comment ends, and then `*/` stands there or the search goes on behind the `*`
comment_step : (bs : List ℕ) → Step bs (before 42 bs)
unfolding comment_length
comment_step [] = refl
comment_step (b ∷ bs) = by_test (b == 42) refl (comment_step bs)
  where
    by_test : (t : Bool) → (b == 42) ≡ t → Step bs (before 42 bs) → Step (b ∷ bs) (before 42 (b ∷ bs))
    by_test true e ih = subst (Step (b ∷ bs)) (sym (before_stop 42 b bs e)) (subst (λ (k : ℕ). Step (k ∷ bs) 0) (sym (eqb-true b 42 e)) (at_star bs))
    by_test false e ih = subst (Step (b ∷ bs)) (sym (before_other 42 b bs e)) (step_on b bs (before 42 bs) e ih)

-- THE LOOP

-- what is found from the place on is what the whole search finds
abbrev pub FoundFrom : List ℕ → ℕ → Type 0
FoundFrom bs at = comment_length bs ≡ onward at (comment_length (drop at bs))

pub found_start : (bs : List ℕ) → FoundFrom bs 0
found_start bs = onward_zero (comment_length bs)

pub found_here : (bs : List ℕ) (at star : ℕ) → FoundFrom bs at → star ≡ before 42 (drop at bs) → get_or (drop at bs) (star + 1) 0 ≡ 47
    → Some (at + star + 2) ≡ comment_length bs
found_here bs at star found is slash =
    let step : Step (drop at bs) star = subst (Step (drop at bs)) (sym is) (comment_step (drop at bs)) in
    let here : comment_length (drop at bs) ≡ Some (star + 2) = step ∙ rw slash refl in
    let size : at + (star + 2) ≡ at + star + 2 = omega arith in
    sym (found ∙ ap (onward at) here ∙ ap Some size)

pub found_later : (bs : List ℕ) (at star : ℕ) → FoundFrom bs at → star ≡ before 42 (drop at bs) → (get_or (drop at bs) (star + 1) 0 ≡ 47 → ⊥)
    → FoundFrom bs (at + (star + 1))
found_later bs at star found is other =
    let step : Step (drop at bs) star = subst (Step (drop at bs)) (sym is) (comment_step (drop at bs)) in
    let test : (get_or (drop at bs) (star + 1) 0 == 47) ≡ false = ne_eqb _ 47 other in
    let later : comment_length (drop at bs) ≡ onward (star + 1) (comment_length (drop (star + 1) (drop at bs))) = step ∙ rw test refl in
    let rest : drop (star + 1) (drop at bs) ≡ drop (at + (star + 1)) bs = drop-drop (star + 1) at bs in
    found ∙ ap (onward at) later ∙ onward_twice at (star + 1) (comment_length (drop (star + 1) (drop at bs)))
    ∙ ap (λ (l : List ℕ). onward (at + (star + 1)) (comment_length l)) rest

pub found_none : (bs : List ℕ) (at : ℕ) → length bs ≤ at → FoundFrom bs at → None ≡ comment_length bs
unfolding comment_length
found_none bs at past found = let none : drop at bs ≡ [] = drop_all at bs past in sym (found ∙ ap (λ (l : List ℕ). onward at (comment_length l)) none)
