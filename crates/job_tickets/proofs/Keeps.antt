-- The steps of the tickets keep their rule.
use Rattle.std.proofs.Common.{◌≡◌, ℕ, zero, suc, ◌+◌, ◌-◌, ◌%◌, ◌<◌, ◌≤◌, ◌≢◌, ◌⊎◌, min, cond, nat_lt, ◌==◌, ◌||◌, Bool, true, false, List, [], ◌∷◌, ◌++◌, length, set, slice_index, slice_set, sym, refl, ap, ◌∙◌, subst, inl, inr, ⊎_elim, arith}
use Rattle.std.proofs.lemmas.Grind.{common_steps}
use Rattle.std.proofs.lemmas.List.{length-append}
use mathlib.Core.Option.{some, some-injective, some-ne-none}
use lib.ListN.{get_elem?}
use Rattle.atomic_table.specs.Table.{Step, keeps, Allows, Splits, Joins}
use Rattle.atomic_table.proofs.Lists.{at_set}
use Rattle.job_tickets.specs.declared.view.View.{View}
use Rattle.job_tickets.specs.Seats.{total, times, once_below, IsEachBelow}
use Rattle.job_tickets.specs.parts.Drawn.{view_of, spent_view, after_draw, keeps_seat, new_seat, seats_joined, IsSeat, AreDrawn, AreCounted, Draws}
use Rattle.job_tickets.proofs.Totals.{total-append, total-set, term_le, length-set, total-le, total-alone, once_next, below_once}

-- one seat changes, and stands for as many seats as before
changed : (limit word next : ℕ) (views : List View) (id : ℕ) (v w : View) → AreDrawn limit word views → get_elem? views id ≡ some v → word ≤ next
    → w.seats ≡ v.seats → w.made ≡ v.made → IsSeat limit next w
    → ((x : ℕ) → total (λ u. times x u.drawn) (set views id w) ≡ once_below x (min next limit))
    → total (λ u. u.nones) (set views id w) ≡ next - limit
    → AreDrawn limit next (set views id w)
changed limit word next views id v w d at later seats made is once nones = record {
  once = once;
  nones = nones;
  seats = omega (arith, total-set (λ (u : View). u.seats) views id v w at, d.seats, seats, length-set views id w);
  few = omega (arith, length-set views id w, d.few);
  first = λ u e. ⊎_elim
      (λ h. sym (ap (λ (x : View). x.made) h.1) ∙ made ∙ d.first v (subst (λ k. get_elem? views k ≡ some v) (sym h.0) at) ∙ sym (length-set views id w))
      (λ h. d.first u h.1 ∙ sym (length-set views id w))
      (at_set views id 0 w u e);
  others = λ k u e. ⊎_elim
      (λ h. sym (ap (λ (x : View). x.made) h.1) ∙ made ∙ d.others k v (subst (λ k. get_elem? views k ≡ some v) (sym h.0) at))
      (λ h. d.others k u h.1)
      (at_set views id (suc k) w u e);
  each = λ k u e. ⊎_elim
      (λ h. subst (IsSeat limit next) h.1 is)
      (λ h. let was = d.each k u h.1 in record { nones = was.nones; spent = was.spent; limited = was.limited; all = λ t. omega (arith, was.all t, later) })
      (at_set views id k w u e);
}

times_snoc : (x : ℕ) (xs : List ℕ) (y : ℕ) → times x (xs ++ y ∷ []) ≡ times x xs + cond (y == x) 1 0
times_snoc x xs y = total-append (λ (z : ℕ). cond (z == x) 1 0) xs (y ∷ []) ∙ omega arith

drawn_after : (limit word : ℕ) (views : List View) (id : ℕ) (v : View) → AreDrawn limit word views → get_elem? views id ≡ some v → v.nones < v.seats
    → AreDrawn limit (word + 1) (set views id (after_draw v word))
drawn_after limit word views id v d at may = go (nat_lt word v.limit) refl
  where
    is : IsSeat limit word v
    is = d.each id v at

    limit_is : v.limit ≡ limit
    limit_is = is.limited (omega arith)

    Goal : View → Type 0
    Goal w = AreDrawn limit (word + 1) (set views id w)

    drew : View
    drew = view_of v.limit v.made v.seats (v.drawn ++ word ∷ []) v.nones v.all

    none : View
    none = view_of v.limit v.made v.seats v.drawn (v.nones + 1) true

    go : (b : Bool) → nat_lt word v.limit ≡ b → Goal (cond (nat_lt word v.limit) drew none)
    go true e =
        let low' : word < v.limit = grind (arith, common_steps, e) in
        let less : word < limit = omega (arith, limit_is, low') in
        rw e (changed limit word (word + 1) views id v drew d at (omega arith) refl refl
        (record { nones = is.nones; spent = λ z. absurd (omega arith); limited = λ h. limit_is; all = λ t. omega (arith, is.all t) })
        (λ x. let low : min word limit ≡ word = omega arith in let next : min (word + 1) limit ≡ word + 1 = omega arith in
        let was : total (λ u. times x u.drawn) views ≡ once_below x word = d.once x ∙ ap (once_below x) low in
        let moved = total-set (λ (u : View). times x u.drawn) views id v drew at in
        omega (arith, was, moved, times_snoc x v.drawn word, once_next x word) ∙ sym (ap (once_below x) next))
        (let moved = total-set (λ (u : View). u.nones) views id v drew at in omega (arith, moved, d.nones)))
    go false e =
        let high : v.limit ≤ word = grind (arith, common_steps, e) in
        let less : limit ≤ word = omega (arith, limit_is, high) in
        rw e (changed limit word (word + 1) views id v none d at (omega arith) refl refl
        (record { nones = omega arith; spent = λ z. absurd (omega arith); limited = λ h. limit_is; all = λ t. omega arith })
        (λ x. let low : min word limit ≡ limit = omega arith in let next : min (word + 1) limit ≡ limit = omega arith in
        let moved = total-set (λ (u : View). times x u.drawn) views id v none at in
        omega (arith, moved) ∙ d.once x ∙ ap (once_below x) (low ∙ sym next))
        (let moved = total-set (λ (u : View). u.nones) views id v none at in omega (arith, moved, d.nones)))

pub draws : (limit slots id : ℕ) (st : Step (Unit {0})) (v : View) → limit < 4294967296 → v.nones < v.seats
    → Allows (AreCounted limit) slots id (v, []) 0 (λ n. (n + 1) % 18446744073709551616) (Draws st (v, []))
draws limit slots id st v small may s kept long at fits =
    let word = kept.0 in
    let d = kept.2 in
    let found : slice_index s.words 0 ≡ word = ap (λ ws. slice_index ws 0) kept.1 in
    let nones = total-le (λ (u : View). u.nones) (λ (u : View). u.seats) s.views (λ j u e. (d.each j u e).nones) in
    let near : word + 1 < 18446744073709551616 = omega (arith, nones, d.nones, d.seats, d.few) in
    let next : (word + 1) % 18446744073709551616 ≡ word + 1 = grind (arith, common_steps, near) in (
      after_draw v (slice_index s.words 0),
      keeps,
      tt,
      (word + 1, ap (λ ws. slice_set ws 0 ((slice_index ws 0 + 1) % 18446744073709551616)) kept.1 ∙ ap (λ k. k ∷ []) next, rw found (drawn_after limit word s.views id v d at may)),
      (
        refl,
        refl,
        λ x more. rw found (
            let part = term_le (λ (u : View). times x u.drawn) s.views id v at in
            let below = below_once x (min word limit) (omega (arith, part, more, d.once x)) in
            omega (arith, below)),
      ),
    )

snoc_at : {A : Type 0} (l : List A) (a b : A) (j : ℕ) → get_elem? (l ++ a ∷ []) j ≡ some b → (get_elem? l j ≡ some b) ⊎ ((j ≡ length l) × (a ≡ b))
snoc_at [] a b zero e = inr (refl, some-injective a b e)
snoc_at [] a b (suc j) e = absurd (some-ne-none b (sym e))
snoc_at (x ∷ xs) a b zero e = inl e
snoc_at (x ∷ xs) a b (suc j) e = ⊎_elim inl (λ h. inr (ap suc h.0, h.1)) (snoc_at xs a b j e)

-- the seat that counts the seats is the first
is_first : (limit word : ℕ) (views : List View) (id : ℕ) (v : View) → AreDrawn limit word views → get_elem? views id ≡ some v → 0 < v.made → id ≡ 0
is_first limit word views zero v d at made = refl
is_first limit word views (suc k) v d at made = absurd (omega (arith, d.others k v at))

split_after : (limit word : ℕ) (views : List View) (id : ℕ) (v : View) → AreDrawn limit word views → get_elem? views id ≡ some v → 0 < v.made → v.made < 64 → 0 < v.seats
    → AreDrawn limit word (set views id (keeps_seat v) ++ new_seat v ∷ [])
split_after limit word views id v d at made few some_seat =
    let l : View = keeps_seat v in
    let r : View = new_seat v in
    let vs : List View = set views id l in
    let long : length vs ≡ length views = length-set views id l in
    let zeroth : id ≡ 0 = is_first limit word views id v d at made in
    let count : v.made ≡ length views = d.first v (subst (λ k. get_elem? views k ≡ some v) zeroth at) in
    let is = d.each id v at in
    let longer = length-append vs (r ∷ []) in record {
      once = λ x. (let a = total-append (λ (u : View). times x u.drawn) vs (r ∷ []) in let b = total-set (λ (u : View). times x u.drawn) views id v l at in omega (arith, a, b)) ∙ d.once x;
      nones = (let a = total-append (λ (u : View). u.nones) vs (r ∷ []) in let b = total-set (λ (u : View). u.nones) views id v l at in omega (arith, a, b)) ∙ d.nones;
      seats = (let a = total-append (λ (u : View). u.seats) vs (r ∷ []) in let b = total-set (λ (u : View). u.seats) views id v l at in omega (arith, a, b, d.seats, longer, long));
      few = omega (arith, longer, long, count);
      first = λ u e. ⊎_elim
          (λ h. ⊎_elim (λ t. sym (ap (λ (z : View). z.made) t.1) ∙ omega (arith, count, longer, long)) (λ t. absurd (t.0 (sym zeroth))) (at_set views id 0 l u h))
          (λ h. absurd (omega (arith, h.0, long, count)))
          (snoc_at vs r u 0 e);
      others = λ k u e. ⊎_elim
          (λ h. ⊎_elim (λ t. absurd (omega (arith, t.0, zeroth))) (λ t. d.others k u t.1) (at_set views id (suc k) l u h))
          (λ h. sym (ap (λ (z : View). z.made) h.1))
          (snoc_at vs r u (suc k) e);
      each = λ k u e. ⊎_elim
          (λ h. ⊎_elim (λ t. subst (IsSeat limit word) t.1 (record { nones = is.nones; spent = is.spent; limited = is.limited; all = is.all })) (λ t. d.each k u t.1) (at_set views id k l u h))
          (λ h. subst (IsSeat limit word) h.1 (record { nones = omega arith; spent = λ z. refl; limited = λ z. is.limited (omega arith); all = λ t. absurd (grind (arith, t)) }))
          (snoc_at vs r u k e);
    }

pub splits : (limit id : ℕ) (v : View) → 0 < v.made → v.made < 64 → 0 < v.seats → Splits (AreCounted limit) id v (keeps_seat v) (new_seat v)
splits limit id v made few some_seat s kept at = (kept.0, kept.1, split_after limit kept.0 s.views id v kept.2 at made few some_seat)

either_all : (a b : Bool) (P : Type 0) → (a ≡ true → P) → (b ≡ true → P) → (a || b) ≡ true → P
either_all true b P f g e = f refl
either_all false b P f g e = g e

join_after : (limit word : ℕ) (views : List View) (id other : ℕ) (v w : View) → AreDrawn limit word views → get_elem? views id ≡ some v → other ≢ id
    → get_elem? (set views id (seats_joined v w)) other ≡ some w → 0 < v.seats → w.made ≡ 0
    → AreDrawn limit word (set (set views id (seats_joined v w)) other spent_view)
join_after limit word views id other v w d at apart them some_seat not_first =
    let b : View = seats_joined v w in
    let vs : List View = set views id b in
    let long : length (set vs other spent_view) ≡ length views = length-set vs other spent_view ∙ length-set views id b in
    let there : get_elem? views other ≡ some w = ⊎_elim (λ t. absurd (apart t.0)) (λ t. t.1) (at_set views id other b w them) in
    let is = d.each id v at in
    let it = d.each other w there in
    let both : (g : View → ℕ) → total g (set vs other spent_view) + g v + g w ≡ total g views + g b + g spent_view = λ g. omega (arith, total-set g views id v b at, total-set g vs other w spent_view them) in
    let not_zero : other ≢ 0 = λ z. absurd (omega (arith, not_first, d.first w (subst (λ k. get_elem? views k ≡ some w) z there), length_some views other w there)) in record {
      once = λ x. omega (arith, both (λ (u : View). times x u.drawn), total-append (λ (z : ℕ). cond (z == x) 1 0) v.drawn w.drawn, d.once x);
      nones = omega (arith, both (λ (u : View). u.nones), d.nones);
      seats = omega (arith, both (λ (u : View). u.seats), d.seats, long);
      few = omega (arith, long, d.few);
      first = λ u e. ⊎_elim
          (λ h. absurd (not_zero (sym h.0)))
          (λ h. ⊎_elim (λ t. sym (ap (λ (z : View). z.made) t.1) ∙ d.first v (subst (λ k. get_elem? views k ≡ some v) (sym t.0) at) ∙ sym long) (λ t. d.first u t.1 ∙ sym long) (at_set views id 0 b u h.1))
          (at_set vs other 0 spent_view u e);
      others = λ k u e. ⊎_elim
          (λ h. sym (ap (λ (z : View). z.made) h.1))
          (λ h. ⊎_elim (λ t. sym (ap (λ (z : View). z.made) t.1) ∙ d.others k v (subst (λ k. get_elem? views k ≡ some v) (sym t.0) at)) (λ t. d.others k u t.1) (at_set views id (suc k) b u h.1))
          (at_set vs other (suc k) spent_view u e);
      each = λ k u e. ⊎_elim
          (λ h. subst (IsSeat limit word) h.1 (record { nones = omega arith; spent = λ z. refl; limited = λ z. absurd (omega arith); all = λ t. absurd (grind (arith, t)) }))
          (λ h. ⊎_elim
          (λ t. subst (IsSeat limit word) t.1 (record { nones = omega (arith, is.nones, it.nones); spent = λ z. absurd (omega arith); limited = λ z. is.limited some_seat; all = either_all v.all w.all (limit ≤ word) is.all it.all }))
          (λ t. d.each k u t.1)
          (at_set views id k b u h.1))
          (at_set vs other k spent_view u e);
    }
  where
    length_some : {A : Type 0} (l : List A) (i : ℕ) (a : A) → get_elem? l i ≡ some a → 0 < length l
    length_some [] i a e = absurd (some-ne-none a (sym e))
    length_some (x ∷ xs) i a e = omega arith

pub joins : (limit id other : ℕ) (v w : View) → 0 < v.seats → w.made ≡ 0 → Joins (AreCounted limit) id v other w (seats_joined v w) spent_view
joins limit id other v w some_seat not_first s kept at apart them = (kept.0, kept.1, join_after limit kept.0 s.views id other v w kept.2 at apart them some_seat not_first)

-- the seat that stands for all seats has every number, once it was found that none is left
pub closes : (limit word : ℕ) (views : List View) (id : ℕ) (v : View) → AreDrawn limit word views → get_elem? views id ≡ some v → 0 < v.made → v.seats ≡ v.made → v.all ≡ true → IsEachBelow limit v.drawn
closes limit word views id v d at made whole all x =
    let zeroth : id ≡ 0 = is_first limit word views id v d at made in
    let count : v.made ≡ length views = d.first v (subst (λ k. get_elem? views k ≡ some v) zeroth at) in
    let alone = total-alone (λ (u : View). times x u.drawn) (λ (u : View). u.seats) views id v at (d.seats ∙ sym count ∙ sym whole) (λ k u e z. ap (times x) ((d.each k u e).spent z)) in
    let full : min word limit ≡ limit = omega (arith, (d.each id v at).all all) in
    sym alone ∙ d.once x ∙ ap (once_below x) full
