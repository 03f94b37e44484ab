-- The world of clients after a turn of one of them, and after a round.
use Rattle.std.proofs.Common.{arith, ◌≡◌, ◌⊎◌, ℕ, suc, ◌+◌, ◌*◌, ◌-◌, ◌<◌, ◌≤◌, List, [], ◌∷◌, length, map, Some, cond, nat_lt, refl, sym, ap, ◌∙◌, subst, inl, inr, slice_set, slice_index, slice_index_or, slice_get}
use Rattle.std.specs.List.{sum_by}
use Rattle.std.specs.Option.{option_map}
use Rattle.std.proofs.lemmas.List.Sums.{sum_by-set, sum_by-cons}
use Rattle.std.proofs.lemmas.List.Elements.{All-cons, All-set}
use Rattle.std.proofs.lemmas.Bool.Decides.{leb_tells}
use Rattle.std.proofs.lemmas.Option.{slice_get-map, slice_get_read}
use Rattle.std.proofs.Math.Seq.{map-set_same}
use Rattle.std.proofs.Math.Nat.{lt_trans}
use Rattle.host_slots.specs.Slots.{Leased, AllLeased}
use Rattle.client_steps.specs.declared.client.Client.{Client}
use Rattle.client_steps.specs.declared.phase.Phase.{Phase}
use Rattle.client_steps.specs.declared.phase.Phase.TheVariants.{Ended}
use Rattle.client_steps.specs.Phases.{CanWork, phase_rank, most_rank, leased_by}
use Rattle.client_steps.specs.Ledger.{HasRoom, times_drawn}
use Rattle.client_order.specs.parts.World.{ClientFits, HasAllDrawn, WorldHolds, SlotsMove, Progresses, RunMoves, IsStuck, DrawsMore, AreFree, AllEnded, distance, slots_held, one_if_same}

-- a sum over clients, where one of them changes
sum-moves : (f : Client → ℕ) (xs : List Client) (i : ℕ) (x y : Client) → i < length xs → x ≡ slice_index_or xs i x → sum_by f (slice_set xs i y) + f x ≡ sum_by f xs + f y
sum-moves f xs i x y lt is = subst (λ (z : Client). sum_by f (slice_set xs i y) + f z ≡ sum_by f xs + f y) (sym is) (sum_by-set f xs i y x lt)

later : (jobs hosts drawn after : ℕ) (c : Client) → drawn ≤ after → ClientFits jobs hosts drawn c → ClientFits jobs hosts after c
later jobs hosts drawn after c le fits = record { works = fits.works; count = fits.count; least = omega (arith, fits.least); room = fits.room; all = λ e. omega (arith, fits.all e) }

abbrev pub phases : List Client → List Phase
phases xs = map (λ (c : Client). c.phase) xs

sum-by : (f : Phase → ℕ) (xs ys : List Client) → phases ys ≡ phases xs → sum_by (λ (c : Client). f c.phase) ys ≡ sum_by (λ (c : Client). f c.phase) xs
sum-by f [] [] e = refl
sum-by f [] (y ∷ ys) e = absurd (cc)
sum-by f (x ∷ xs) [] e = absurd (cc)
sum-by f (x ∷ xs) (y ∷ ys) e =
    let head : y.phase ≡ x.phase = cc in
    let tail : phases ys ≡ phases xs = cc in
    let more = sum-by f xs ys tail in
    sum_by-cons (λ (c : Client). f c.phase) y ys ∙ ap (λ (n : ℕ). f y.phase + n) more ∙ ap (λ (p : Phase). f p + sum_by (λ (c : Client). f c.phase) xs) head ∙ sym (sum_by-cons (λ (c : Client). f c.phase) x xs)

lt-split : (j k : ℕ) → j < k + 1 → (j < k) ⊎ (j ≡ k)
lt-split j k lt = elim (leb_tells k j) [ inl above ↦ (let h = above.1 in inr (omega arith)) | inr below ↦ (let h = below.1 in inl (omega arith)) ]

-- ---- a turn ----

-- what a turn does to its client and to what clients share
pub record Turned (jobs hosts drawn after : ℕ) (s then : Leased) (x y : Client) : Type 0 where
  pub works : CanWork jobs hosts y.phase
  pub count : y.jobs ≡ x.jobs
  pub least : y.least ≤ after
  pub drawn_later : drawn ≤ after
  pub drawn_few : after ≤ jobs
  pub room : HasRoom y
  pub all : HasAllDrawn jobs after y.phase
  pub moves : SlotsMove x.phase s y.phase then
  pub progress : Progresses (jobs - drawn) x.phase s (jobs - after) y.phase then
  pub draws : DrawsMore drawn x after y

add-up : (sum now fx fy leased then : ℕ) → now + fx ≡ sum + fy → sum ≡ leased → then + fx ≡ leased + fy → now ≡ then
add-up sum now fx fy leased then a b c = omega arith

once-up : (sum now fx fy below then : ℕ) → now + fx ≡ sum + fy → sum ≡ below → fy + below ≡ fx + then → now ≡ then
once-up sum now fx fy below then a b c = omega arith

pub world-turned : (jobs hosts drawn after : ℕ) (s then : Leased) (xs : List Client) (i : ℕ) (x y : Client) → i < length xs → x ≡ slice_index_or xs i x
    → WorldHolds jobs hosts drawn s xs → Turned jobs hosts drawn after s then x y → WorldHolds jobs hosts after then (slice_set xs i y)
world-turned jobs hosts drawn after s then xs i x y lt is w t =
    let at_x = w.each i x lt in
    let count_of_x : x.jobs ≡ jobs = ap (λ (c : Client). c.jobs) is ∙ at_x.count in
    record {
      few = w.few;
      drawn_few = t.drawn_few;
      each = All-set (ClientFits jobs hosts after) xs i y
          (record { works = t.works; count = t.count ∙ count_of_x; least = t.least; room = t.room; all = t.all })
          (λ k d k_lt. later jobs hosts drawn after (slice_index_or xs k d) t.drawn_later (w.each k d k_lt));
      once = λ n. once-up (sum_by (times_drawn n) xs) (sum_by (times_drawn n) (slice_set xs i y)) (times_drawn n x) (times_drawn n y) (cond (nat_lt n drawn) 1 0) (cond (nat_lt n after) 1 0)
          (sum-moves (times_drawn n) xs i x y lt is) (w.once n) (t.draws n);
      one_each = ap length t.moves.0 ∙ w.one_each;
      some = w.some;
      limits = λ k k_lt. subst (λ (l : List ℕ). 1 ≤ slice_index l k) (sym t.moves.0) (w.limits k k_lt);
      held = λ host. add-up (slots_held host xs) (slots_held host (slice_set xs i y)) (one_if_same host (leased_by x.phase)) (one_if_same host (leased_by y.phase)) (slice_index s.leased host) (slice_index then.leased host)
          (sum-moves (λ (c : Client). one_if_same host (leased_by c.phase)) xs i x y lt is) (w.held host) (t.moves.1 host);
    }

nearer-by : (a b fx fy sum now : ℕ) → now + fx ≡ sum + fy → a + fy < b + fx → a + now < b + sum
nearer-by a b fx fy sum now e lt = omega arith

drawn-same : (jobs drawn after : ℕ) → after ≤ jobs → drawn ≤ after → jobs - after ≡ jobs - drawn → after ≡ drawn
drawn-same jobs drawn after few le e = omega arith

pub moves-turned : (jobs hosts drawn after : ℕ) (s then : Leased) (xs : List Client) (i : ℕ) (x y : Client) → i < length xs → x ≡ slice_index_or xs i x
    → Turned jobs hosts drawn after s then x y → RunMoves jobs drawn s xs i after then (slice_set xs i y)
moves-turned jobs hosts drawn after s then xs i x y lt is t = elim t.progress [
  | inl less ↦ inl (nearer-by ((jobs - after) * most_rank) ((jobs - drawn) * most_rank) (phase_rank x.phase) (phase_rank y.phase) (sum_by (λ (c : Client). phase_rank c.phase) xs) (sum_by (λ (c : Client). phase_rank c.phase) (slice_set xs i y)) (sum-moves (λ (c : Client). phase_rank c.phase) xs i x y lt is) less)
  | inr still ↦ inr (drawn-same jobs drawn after t.drawn_few t.drawn_later still.0, (still.1.1.0, (map-set_same (λ (c : Client). c.phase) xs i y x (still.1.0 ∙ ap (λ (c : Client). c.phase) is), (x.phase, (slice_get-map (λ (c : Client). c.phase) xs i ∙ ap (option_map (λ (c : Client). c.phase)) (slice_get_read xs (length xs) i x refl lt is), still.1.1.1)))))
]

-- ---- a round ----

-- the first k clients are stuck
abbrev pub StuckBelow : ℕ → List Client → Leased → Type 0
StuckBelow k xs s = (j : ℕ) (p : Phase) → j < k → slice_get (phases xs) j ≡ Some p → IsStuck p s

-- so far in a round: the run is nearer to its end than when the round began, or nothing moved and the clients before this one
-- are stuck
abbrev pub SoFar : ℕ → ℕ → Leased → List Client → ℕ → ℕ → Leased → List Client → Type 0
SoFar jobs drawn s xs k after then ys =
    (distance (jobs - after) ys < distance (jobs - drawn) xs)
    ⊎ ((after ≡ drawn) × ((then ≡ s) × ((phases ys ≡ phases xs) × StuckBelow k xs s)))

distance-by : (a : ℕ) (xs ys : List Client) → phases ys ≡ phases xs → distance a ys ≡ distance a xs
distance-by a xs ys e = ap (λ (n : ℕ). a * most_rank + n) (sum-by phase_rank xs ys e)

one-more : (k : ℕ) (xs : List Client) (s : Leased) (p : Phase) → StuckBelow k xs s → slice_get (phases xs) k ≡ Some p → IsStuck p s → StuckBelow (k + 1) xs s
one-more k xs s p below at stuck j q lt got = elim (lt-split j k lt) [
  | inl less ↦ below j q less got
  | inr same ↦ let e : Some q ≡ Some p = sym got ∙ ap (slice_get (phases xs)) same ∙ at in let f : q ≡ p = cc in subst (λ (r : Phase). IsStuck r s) (sym f) stuck
]

pub so-far-more : (jobs drawn : ℕ) (s : Leased) (xs : List Client) (k after : ℕ) (then : Leased) (ys : List Client) (last : ℕ) (end : Leased) (zs : List Client)
    → SoFar jobs drawn s xs k after then ys → RunMoves jobs after then ys k last end zs → SoFar jobs drawn s xs (k + 1) last end zs
so-far-more jobs drawn s xs k after then ys last end zs (inl less) (inl more) = inl (lt_trans {n = distance (jobs - last) zs} {m = distance (jobs - after) ys} {k = distance (jobs - drawn) xs} more less)
so-far-more jobs drawn s xs k after then ys last end zs (inl less) (inr (d, (e, (f, g)))) =
    inl (let same : distance (jobs - last) zs ≡ distance (jobs - after) ys = ap (λ (n : ℕ). distance (jobs - n) zs) d ∙ distance-by (jobs - after) ys zs f in subst (λ (n : ℕ). n < distance (jobs - drawn) xs) (sym same) less)
so-far-more jobs drawn s xs k after then ys last end zs (inr (d, (e, (f, below)))) (inl more) =
    inl (let same : distance (jobs - after) ys ≡ distance (jobs - drawn) xs = ap (λ (n : ℕ). distance (jobs - n) ys) d ∙ distance-by (jobs - drawn) xs ys f in subst (λ (n : ℕ). distance (jobs - last) zs < n) same more)
so-far-more jobs drawn s xs k after then ys last end zs (inr (d, (e, (f, below)))) (inr (d2, (e2, (f2, (p, (at, stuck)))))) =
    inr (d2 ∙ d, (e2 ∙ e, (f2 ∙ f, one-more k xs s p below (ap (λ (l : List Phase). slice_get l k) (sym f) ∙ at) (subst (λ (t : Leased). IsStuck p t) e stuck))))

none-held : (host : ℕ) (xs : List Client) → AllEnded xs → slots_held host xs ≡ 0
none-held host [] all = refl
none-held host (x ∷ xs) all =
    let e = sum_by-cons (λ (c : Client). one_if_same host (leased_by c.phase)) x xs in
    let z = ap (λ (q : Phase). one_if_same host (leased_by q)) (all 0 x (omega arith)) in
    let more = none-held host xs (λ k d lt. all (suc k) d (omega arith)) in omega arith

-- ---- a round in which nothing moved ----

-- stuck clients hold no lease
not-leased : (host : ℕ) (p : Phase) (s : Leased) → IsStuck p s → one_if_same host (leased_by p) ≡ 0
not-leased host p s (inl e) = ap (λ (q : Phase). one_if_same host (leased_by q)) e
not-leased host p s (inr (n, (bytes, e), full)) = ap (λ (q : Phase). one_if_same host (leased_by q)) e

abbrev pub EndedEach : List Client → Type 0
EndedEach [] = Unit {0}
EndedEach (x ∷ xs) = (x.phase ≡ Ended) × EndedEach xs

ended-more : (x : Client) (xs : List Client) (s : Leased) → IsStuck x.phase s → EndedEach xs ⊎ AllLeased s.limits s.leased → EndedEach (x ∷ xs) ⊎ AllLeased s.limits s.leased
ended-more x xs s stuck (inr full) = inr full
ended-more x xs s (inl e) (inl all) = inl (e, all)
ended-more x xs s (inr (n, (bytes, e), full)) (inl all) = inr full

zero-more : (host : ℕ) (x : Client) (xs : List Client) (s : Leased) → IsStuck x.phase s → slots_held host xs ≡ 0 → slots_held host (x ∷ xs) ≡ 0
zero-more host x xs s stuck none =
    let e = sum_by-cons (λ (c : Client). one_if_same host (leased_by c.phase)) x xs in
    let z = not-leased host x.phase s stuck in omega arith

-- either all have ended, or some client wants a slot and none is free; and no lease is held
stuck-cases : (xs : List Client) (s : Leased) → ((j : ℕ) (p : Phase) → j < length xs → slice_get (phases xs) j ≡ Some p → IsStuck p s)
    → (EndedEach xs ⊎ AllLeased s.limits s.leased) × ((host : ℕ) → slots_held host xs ≡ 0)
stuck-cases [] s all = (inl tt, λ host. refl)
stuck-cases (x ∷ xs) s all =
    let head = all 0 x.phase (omega arith) refl in
    let tail = stuck-cases xs s (λ j p lt got. all (suc j) p (omega arith) got) in
    (ended-more x xs s head tail.0, λ host. zero-more host x xs s head (tail.1 host))

all-ended : (xs : List Client) → EndedEach xs → AllEnded xs
all-ended [] ended = λ k d lt. absurd (omega arith)
all-ended (x ∷ xs) ended = All-cons (λ (c : Client). c.phase ≡ Ended) x xs ended.0 (all-ended xs ended.1)

-- a host at its limit has a slot leased
some-leased : (limit leased : ℕ) → 1 ≤ limit → limit ≤ leased → leased ≡ 0 → ⊥
some-leased limit leased some most none = absurd (omega arith)

-- a round in which nothing moved: all had ended
pub round-done : (jobs hosts drawn : ℕ) (s : Leased) (xs : List Client) (k after : ℕ) (then : Leased) (ys : List Client) → WorldHolds jobs hosts drawn s xs → (AllEnded xs → ⊥) → length xs ≤ k
    → SoFar jobs drawn s xs k after then ys → distance (jobs - after) ys < distance (jobs - drawn) xs
round-done jobs hosts drawn s xs k after then ys w not_all past (inl less) = less
round-done jobs hosts drawn s xs k after then ys w not_all past (inr (d, (e, (f, below)))) =
    let cases = stuck-cases xs s (λ j p lt got. below j p (omega arith) got) in
    elim cases.0 [
      | inl ended ↦ absurd (not_all (all-ended xs ended))
      | inr full ↦ absurd (some-leased (slice_index s.limits 0) (slice_index s.leased 0) (w.limits 0 w.some) (full 0 (omega (arith, w.some, w.one_each))) (sym (w.held 0) ∙ cases.1 0))
    ]

-- where all have ended, no slot is leased
pub ended-free : (jobs hosts drawn : ℕ) (s : Leased) (xs : List Client) → WorldHolds jobs hosts drawn s xs → AllEnded xs → AreFree s
ended-free jobs hosts drawn s xs w ended k lt = sym (w.held k) ∙ none-held k xs ended
