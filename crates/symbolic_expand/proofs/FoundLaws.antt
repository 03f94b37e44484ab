-- The headers and the names of some runs.
use Rattle.std.proofs.Common.{◌≡◌, ℕ, Bool, true, false, List, [], ◌∷◌, ◌++◌, ◌⊎◌, inl, inr, refl, ap, sym, ◌∙◌, subst, arith, Option, Some, None}
use Rattle.std.specs.List.{Contains}
use Rattle.std.specs.Ordering.{match_ordering}
use Rattle.std.specs.declared.cmp.Ordering.{Ordering}
use Rattle.std.specs.declared.cmp.Ordering.TheVariants.{Less, Equal, Greater}
use Rattle.std.proofs.lemmas.Map.Lookups.{exact_bytes}
use Rattle.directive_scan.specs.declared.directive.HeaderName.{HeaderName}
use Rattle.directive_scan.specs.HeaderNames.{header_named}
use Rattle.macro_expand.specs.Expansion.{Expanded}
use Rattle.macro_expand.specs.Choice.{header_of_ending}
use Rattle.macro_expand.proofs.ChoiceLaws.{contains_first, contains_later}
use Rattle.symbolic_expand.specs.Texts.{text_cmp, text_inserted, all_inserted}
use Rattle.symbolic_expand.specs.parts.Enumeration.{Visit}
use Rattle.symbolic_expand.specs.parts.Search.{with_header, header_at}
use Rattle.symbolic_expand.proofs.Elements.{contains_tail, contains_none}
use Rattle.symbolic_expand.proofs.VisitLaws.{Meets}

-- Texts in order.
pub inserted_self : (t : List ℕ) (us : List (List ℕ)) → Contains (text_inserted t us) t
unfolding text_inserted
inserted_self t [] = contains_first t []
inserted_self t (u ∷ us) = go (text_cmp t u) refl (inserted_self t us)
  where
    go : (o : Ordering) → text_cmp t u ≡ o → Contains (text_inserted t us) t → Contains (match_ordering o (t ∷ u ∷ us) (u ∷ us) (u ∷ text_inserted t us)) t
    go Less e ih = contains_first t (u ∷ us)
    go Equal e ih = subst (Contains (u ∷ us)) (sym (exact_bytes t u e)) (contains_first u us)
    go Greater e ih = contains_later t u (text_inserted t us) ih

pub inserted_other : (t : List ℕ) (us : List (List ℕ)) (n : List ℕ) → Contains us n → Contains (text_inserted t us) n
unfolding text_inserted
inserted_other t [] n (k, below, is) = absurd (omega arith)
inserted_other t (u ∷ us) n h = go (text_cmp t u) (contains_tail n u us h) (inserted_other t us n)
  where
    go : (o : Ordering) → (n ≡ u) ⊎ Contains us n → (Contains us n → Contains (text_inserted t us) n) →
        Contains (match_ordering o (t ∷ u ∷ us) (u ∷ us) (u ∷ text_inserted t us)) n
    go Less c ih = contains_later n t (u ∷ us) h
    go Equal c ih = h
    go Greater (inl e) ih = subst (Contains (u ∷ text_inserted t us)) (sym e) (contains_first u (text_inserted t us))
    go Greater (inr k) ih = contains_later n u (text_inserted t us) (ih k)

pub inserted_from : (t : List ℕ) (us : List (List ℕ)) (n : List ℕ) → Contains (text_inserted t us) n → (n ≡ t) ⊎ Contains us n
unfolding text_inserted
inserted_from t [] n h = contains_tail n t [] h
inserted_from t (u ∷ us) n h = go (text_cmp t u) h (inserted_from t us n)
  where
    go : (o : Ordering) → Contains (match_ordering o (t ∷ u ∷ us) (u ∷ us) (u ∷ text_inserted t us)) n →
        (Contains (text_inserted t us) n → (n ≡ t) ⊎ Contains us n) → (n ≡ t) ⊎ Contains (u ∷ us) n
    go Less k ih = contains_tail n t (u ∷ us) k
    go Equal k ih = inr k
    go Greater k ih = later (contains_tail n u (text_inserted t us) k)
      where
        deeper : (n ≡ t) ⊎ Contains us n → (n ≡ t) ⊎ Contains (u ∷ us) n
        deeper (inl e) = inl e
        deeper (inr c) = inr (contains_later n u us c)

        later : (n ≡ u) ⊎ Contains (text_inserted t us) n → (n ≡ t) ⊎ Contains (u ∷ us) n
        later (inl e) = inr (subst (Contains (u ∷ us)) (sym e) (contains_first u us))
        later (inr c) = deeper (ih c)

-- One header more.
with_header-from : (angle : Bool) (h : Option HeaderName) (texts : List (List ℕ)) (n : List ℕ) → Contains (with_header angle h texts) n →
    Contains texts n ⊎ (h ≡ Some (header_at angle n))
with_header-from angle None texts n k = inl k
with_header-from angle (Some h) texts n k = go angle h.angle k
  where
    put : (a : Bool) → (n ≡ h.name) ⊎ Contains texts n → Contains texts n ⊎ (Some (header_at a h.name) ≡ Some (header_at a n))
    put a (inl e) = inr (ap (λ m. Some (header_at a m)) (sym e))
    put a (inr c) = inl c

    go : (a b : Bool) → Contains (with_header a (Some (header_at b h.name)) texts) n → Contains texts n ⊎ (Some (header_at b h.name) ≡ Some (header_at a n))
    go true true k = put true (inserted_from h.name texts n k)
    go true false k = inl k
    go false true k = inl k
    go false false k = put false (inserted_from h.name texts n k)

with_header-old : (angle : Bool) (h : Option HeaderName) (texts : List (List ℕ)) (n : List ℕ) → Contains texts n → Contains (with_header angle h texts) n
with_header-old angle None texts n k = k
with_header-old angle (Some h) texts n k = go angle h.angle
  where
    go : (a b : Bool) → Contains (with_header a (Some (header_at b h.name)) texts) n
    go true true = inserted_other h.name texts n k
    go true false = k
    go false true = k
    go false false = inserted_other h.name texts n k

with_header-new : (angle : Bool) (texts : List (List ℕ)) (n : List ℕ) → Contains (with_header angle (Some (header_at angle n)) texts) n
with_header-new true texts n = inserted_self n texts
with_header-new false texts n = inserted_self n texts

-- the headers of this form of some runs, after others
unfoldable pub headers_after : Bool → List (List ℕ) → List (Visit Expanded) → List (List ℕ)
headers_after angle texts [] = texts
headers_after angle texts (r ∷ rs) = headers_after angle (with_header angle (header_of_ending header_named r.ending) texts) rs

pub headers_after-last : (angle : Bool) (texts : List (List ℕ)) (rs : List (Visit Expanded)) (r : Visit Expanded) →
    headers_after angle texts (rs ++ r ∷ []) ≡ with_header angle (header_of_ending header_named r.ending) (headers_after angle texts rs)
unfolding headers_after
headers_after-last angle texts [] r = refl
headers_after-last angle texts (q ∷ rs) r = headers_after-last angle (with_header angle (header_of_ending header_named q.ending) texts) rs r

-- some run of these names this header
abbrev pub Names : Bool → List (Visit Expanded) → List ℕ → Type 0
Names angle rs n = (r : Visit Expanded) × (Contains rs r) × (header_of_ending header_named r.ending ≡ Some (header_at angle n))

headers_after-old : (angle : Bool) (texts : List (List ℕ)) (rs : List (Visit Expanded)) (n : List ℕ) → Contains texts n → Contains (headers_after angle texts rs) n
unfolding headers_after
headers_after-old angle texts [] n k = k
headers_after-old angle texts (r ∷ rs) n k =
    headers_after-old angle (with_header angle (header_of_ending header_named r.ending) texts) rs n (with_header-old angle (header_of_ending header_named r.ending) texts n k)

pub headers_after-all : (angle : Bool) (texts : List (List ℕ)) (rs : List (Visit Expanded)) (n : List ℕ) → Names angle rs n → Contains (headers_after angle texts rs) n
unfolding headers_after
headers_after-all angle texts [] n (r, (k, below, is), e) = absurd (omega arith)
headers_after-all angle texts (q ∷ rs) n (r, c, e) =
    go (contains_tail r q rs c) (λ k. headers_after-all angle (with_header angle (header_of_ending header_named q.ending) texts) rs n k)
  where
    go : (r ≡ q) ⊎ Contains rs r → (Names angle rs n → Contains (headers_after angle (with_header angle (header_of_ending header_named q.ending) texts) rs) n) →
        Contains (headers_after angle (with_header angle (header_of_ending header_named q.ending) texts) rs) n
    go (inl same) ih =
        headers_after-old angle (with_header angle (header_of_ending header_named q.ending) texts) rs n
        (subst (λ h. Contains (with_header angle h texts) n) (sym (ap (λ (w : Visit Expanded). header_of_ending header_named w.ending) (sym same) ∙ e)) (with_header-new angle texts n))
    go (inr later) ih = ih (r, later, e)

pub headers_after-may : (angle : Bool) (texts : List (List ℕ)) (rs : List (Visit Expanded)) (n : List ℕ) → Contains (headers_after angle texts rs) n →
    Contains texts n ⊎ Names angle rs n
unfolding headers_after
headers_after-may angle texts [] n k = inl k
headers_after-may angle texts (q ∷ rs) n k = go (headers_after-may angle (with_header angle (header_of_ending header_named q.ending) texts) rs n k)
  where
    first : Contains texts n ⊎ (header_of_ending header_named q.ending ≡ Some (header_at angle n)) → Contains texts n ⊎ Names angle (q ∷ rs) n
    first (inl c) = inl c
    first (inr e) = inr (q, contains_first q rs, e)

    go : Contains (with_header angle (header_of_ending header_named q.ending) texts) n ⊎ Names angle rs n → Contains texts n ⊎ Names angle (q ∷ rs) n
    go (inl c) = first (with_header-from angle (header_of_ending header_named q.ending) texts n c)
    go (inr (r, c, e)) = inr (r, contains_later r q rs c, e)

-- Names met.

inserted_old : (ts us : List (List ℕ)) (n : List ℕ) → Contains us n → Contains (all_inserted ts us) n
unfolding all_inserted
inserted_old [] us n k = k
inserted_old (t ∷ ts) us n k = inserted_old ts (text_inserted t us) n (inserted_other t us n k)

inserted_new : (ts us : List (List ℕ)) (n : List ℕ) → Contains ts n → Contains (all_inserted ts us) n
unfolding all_inserted
inserted_new [] us n k = absurd (contains_none n k)
inserted_new (t ∷ ts) us n k = go (contains_tail n t ts k) (λ h. inserted_new ts (text_inserted t us) n h)
  where
    go : (n ≡ t) ⊎ Contains ts n → (Contains ts n → Contains (all_inserted ts (text_inserted t us)) n) → Contains (all_inserted ts (text_inserted t us)) n
    go (inl is) ih = inserted_old ts (text_inserted t us) n (subst (Contains (text_inserted t us)) (sym is) (inserted_self t us))
    go (inr later) ih = ih later

inserted_all : (ts us : List (List ℕ)) (n : List ℕ) → Contains (all_inserted ts us) n → Contains us n ⊎ Contains ts n
unfolding all_inserted
inserted_all [] us n k = inl k
inserted_all (t ∷ ts) us n k = go (inserted_all ts (text_inserted t us) n k)
  where
    first : (n ≡ t) ⊎ Contains us n → Contains us n ⊎ Contains (t ∷ ts) n
    first (inl is) = inr (subst (Contains (t ∷ ts)) (sym is) (contains_first t ts))
    first (inr old) = inl old

    go : Contains (text_inserted t us) n ⊎ Contains ts n → Contains us n ⊎ Contains (t ∷ ts) n
    go (inl here) = first (inserted_from t us n here)
    go (inr later) = inr (contains_later n t ts later)

-- the names met in some runs, after others
unfoldable pub met_after : List (List ℕ) → List (Visit Expanded) → List (List ℕ)
met_after met [] = met
met_after met (r ∷ rs) = met_after (all_inserted r.met met) rs

pub met_after-last : (met : List (List ℕ)) (rs : List (Visit Expanded)) (r : Visit Expanded) →
    met_after met (rs ++ r ∷ []) ≡ all_inserted r.met (met_after met rs)
unfolding met_after
met_after-last met [] r = refl
met_after-last met (q ∷ rs) r = met_after-last (all_inserted q.met met) rs r

met_after-old : (met : List (List ℕ)) (rs : List (Visit Expanded)) (n : List ℕ) → Contains met n → Contains (met_after met rs) n
unfolding met_after
met_after-old met [] n k = k
met_after-old met (r ∷ rs) n k = met_after-old (all_inserted r.met met) rs n (inserted_old r.met met n k)

pub met_after-all : (met : List (List ℕ)) (rs : List (Visit Expanded)) (n : List ℕ) → Meets rs n → Contains (met_after met rs) n
unfolding met_after
met_after-all met [] n (r, c, m) = absurd (contains_none r c)
met_after-all met (q ∷ rs) n (r, c, m) = go (contains_tail r q rs c) (λ h. met_after-all (all_inserted q.met met) rs n h)
  where
    go : (r ≡ q) ⊎ Contains rs r → (Meets rs n → Contains (met_after (all_inserted q.met met) rs) n) → Contains (met_after (all_inserted q.met met) rs) n
    go (inl is) ih =
        met_after-old (all_inserted q.met met) rs n (inserted_new q.met met n (subst (λ (w : Visit Expanded). Contains w.met n) is m))
    go (inr later) ih = ih (r, later, m)

pub met_after-met : (met : List (List ℕ)) (rs : List (Visit Expanded)) (n : List ℕ) → Contains (met_after met rs) n → Contains met n ⊎ Meets rs n
unfolding met_after
met_after-met met [] n k = inl k
met_after-met met (q ∷ rs) n k = go (met_after-met (all_inserted q.met met) rs n k)
  where
    first : Contains met n ⊎ Contains q.met n → Contains met n ⊎ Meets (q ∷ rs) n
    first (inl old) = inl old
    first (inr m) = inr (q, contains_first q rs, m)

    go : Contains (all_inserted q.met met) n ⊎ Meets rs n → Contains met n ⊎ Meets (q ∷ rs) n
    go (inl c) = first (inserted_all q.met met n c)
    go (inr (r, c, m)) = inr (r, contains_later r q rs c, m)
