-- How a wire in memory stands after each call.
use Rattle.std.proofs.Common.{◌≡◌, ℕ, ◌+◌, ◌≤◌, List, [], ◌∷◌, ◌++◌, Bool, true, false, cond, nat_eq, append-nil, take, drop, length, ap, refl, sym, ◌∙◌, subst, inl, inr, arith}
use Rattle.std.proofs.lemmas.Bool.Decides.{eqb_tells}
use Rattle.std.proofs.Math.Seq.{take-add, take-length}
use Rattle.std.proofs.lemmas.List.{take-append-drop}
use Rattle.std.specs.List.{AllByRecursion}
use Rattle.std.proofs.lemmas.Bool.{true≢false}
use Rattle.base_types.specs.Told.{on_last}
use Rattle.base_types.proofs.Lists.{all_push}
use Rattle.io_edges.specs.declared.wire.Exchange.{Exchange}
use Rattle.io_edges.specs.declared.wire.Host.{Host}
use Rattle.io_edges.specs.declared.wire.LinkState.{LinkState}
use Rattle.io_edges.specs.declared.wire.LinkState.TheVariants.{Sending, Taking}
use Rattle.io_edges.specs.Talk.{IsAnswered, dialled, sending, finishing, taking, ending}
use Rattle.daemon_serve.specs.MemWire.{AtLast, HasReceivedNothing, IsBeingTaken, LastHolds, WireHolds}
use Rattle.daemon_serve.proofs.LastMember.{all-at_last, at_last-end, at_last-on_last, at_last-both}

-- an exchange that was sent or taken so far was answered
answered-fresh : (peer : List ℕ → List ℕ → Type 0) (e : Exchange) → HasReceivedNothing e → IsAnswered peer e
answered-fresh peer e fresh = record { so_far = inl fresh.0; whole = λ w. absurd (true≢false (sym w ∙ fresh.1)) }

answered-taken : (peer : List ℕ → List ℕ → Type 0) (answer : List ℕ) (given : ℕ) (e : Exchange) → IsBeingTaken peer answer given e → IsAnswered peer e
answered-taken peer answer given e t = record {
  so_far = inr (drop given answer, subst (λ (a : List ℕ). peer e.sent a) (sym (ap (λ r. r ++ drop given answer) t.front ∙ take-append-drop given answer)) t.from);
  whole = λ w. subst (λ (a : List ℕ). peer e.sent a) (sym (t.front ∙ ap (λ n. take n answer) (t.whole w) ∙ take-length answer)) t.from;
}

-- the last exchange, in the states in which it goes on
pub last-fresh : (peer : List ℕ → List ℕ → Type 0) (talk : List Exchange) (answer : List ℕ) (given : ℕ) (state : LinkState) → WireHolds peer talk answer given state → state ≡ Sending → AtLast HasReceivedNothing talk
last-fresh peer talk answer given state holds is = subst (λ (s : LinkState). LastHolds peer talk answer given s) is holds.last

pub last-taken : (peer : List ℕ → List ℕ → Type 0) (talk : List Exchange) (answer : List ℕ) (given : ℕ) (state : LinkState) → WireHolds peer talk answer given state → state ≡ Taking → AtLast (IsBeingTaken peer answer given) talk
last-taken peer talk answer given state holds is = subst (λ (s : LinkState). LastHolds peer talk answer given s) is holds.last

within_at : (peer : List ℕ → List ℕ → Type 0) (talk : List Exchange) (answer : List ℕ) (given : ℕ) → AtLast (IsBeingTaken peer answer given) talk → given ≤ length answer
within_at peer [] answer given last = absurd last
within_at peer (e ∷ []) answer given last = last.within
within_at peer (e ∷ next ∷ rest) answer given last = within_at peer (next ∷ rest) answer given last

pub taken-within : (peer : List ℕ → List ℕ → Type 0) (talk : List Exchange) (answer : List ℕ) (given : ℕ) (state : LinkState) → WireHolds peer talk answer given state → state ≡ Taking → given ≤ length answer
taken-within peer talk answer given state holds is = within_at peer talk answer given (last-taken peer talk answer given state holds is)

-- after a dial
pub holds-dialled : (peer : List ℕ → List ℕ → Type 0) (talk : List Exchange) (answer : List ℕ) (given : ℕ) (host : Host) → AllByRecursion (IsAnswered peer) talk → WireHolds peer (talk ++ dialled host ∷ []) answer given Sending
holds-dialled peer talk answer given host each = record {
  each = all_push (IsAnswered peer) talk (dialled host) each (answered-fresh peer (dialled host) (refl, refl));
  last = at_last-end HasReceivedNothing talk (dialled host) (refl, refl);
}

-- after a piece was sent
pub holds-sent : (peer : List ℕ → List ℕ → Type 0) (talk : List Exchange) (answer : List ℕ) (given : ℕ) (state : LinkState) (piece : List ℕ) → WireHolds peer talk answer given state → state ≡ Sending → WireHolds peer (on_last (sending piece) talk) answer given state
holds-sent peer talk answer given state piece holds is =
    let fresh = last-fresh peer talk answer given state holds is in
    let last : AtLast HasReceivedNothing (on_last (sending piece) talk) = at_last-on_last HasReceivedNothing HasReceivedNothing (sending piece) talk fresh (λ e f. f) in
    record {
      each = all-at_last HasReceivedNothing (IsAnswered peer) (sending piece) talk holds.each fresh (λ e f. answered-fresh peer (sending piece e) f);
      last = subst (λ (s : LinkState). LastHolds peer (on_last (sending piece) talk) answer given s) (sym is) last;
    }

-- nothing of a piece: the talk stays
pub sent-nothing : (talk : List Exchange) → talk ≡ on_last (sending []) talk
sent-nothing [] = refl
sent-nothing (e ∷ []) = sym (ap (λ (s : List ℕ). record e { sent = s } ∷ []) (append-nil e.sent))
sent-nothing (e ∷ next ∷ rest) = ap (λ l. e ∷ l) (sent-nothing (next ∷ rest))

-- after the last piece was sent, with the answer to all
finished_at : (peer : List ℕ → List ℕ → Type 0) (answer : List ℕ) (e : Exchange) → HasReceivedNothing e × peer e.sent answer → IsBeingTaken peer answer 0 (finishing e)
finished_at peer answer e f = record {
  from = f.1;
  front = f.0.0;
  within = (let w : 0 ≤ length answer = omega arith in w);
  whole = λ w. absurd (true≢false (sym w ∙ f.0.1));
}

pub holds-finished : (peer : List ℕ → List ℕ → Type 0) (talk : List Exchange) (answer : List ℕ) → AllByRecursion (IsAnswered peer) talk → AtLast HasReceivedNothing talk → AtLast (λ e. peer e.sent answer) talk → WireHolds peer (on_last finishing talk) answer 0 Taking
holds-finished peer talk answer each fresh may =
    let both = at_last-both HasReceivedNothing (λ e. peer e.sent answer) talk fresh may in
    record {
      each = all-at_last (λ e. HasReceivedNothing e × peer e.sent answer) (IsAnswered peer) finishing talk each both (λ e f. answered-taken peer answer 0 (finishing e) (finished_at peer answer e f));
      last = at_last-on_last (λ e. HasReceivedNothing e × peer e.sent answer) (IsBeingTaken peer answer 0) finishing talk both (λ e f. finished_at peer answer e f);
    }

-- after a piece of the answer was taken, or its end
taken_by : (peer : List ℕ → List ℕ → Type 0) (answer room : List ℕ) (given n : ℕ) (b : Bool) (e : Exchange) → (b ≡ true → n ≡ 0) → (b ≡ false → (n ≡ 0 → ⊥)) → take n room ≡ take n (drop given answer) → given + n ≤ length answer → (n ≡ 0 → given ≡ length answer) → IsBeingTaken peer answer given e → IsBeingTaken peer answer (given + n) (cond b (ending e) (taking (take n room) e))
taken_by peer answer room given n true e none more same within end t = record {
  from = t.from;
  front = t.front ∙ ap (λ k. take k answer) (let k : given ≡ given + n = omega (arith, none refl) in k);
  within = within;
  whole = λ _. omega (arith, none refl, end (none refl));
}
taken_by peer answer room given n false e none more same within end t = record {
  from = t.from;
  front = ap (λ r. r ++ take n room) t.front ∙ ap (λ r. take given answer ++ r) same ∙ sym (take-add given n answer);
  within = within;
  whole = λ w. absurd (more refl (omega (arith, t.whole w)));
}

taken_at : (peer : List ℕ → List ℕ → Type 0) (answer room : List ℕ) (given n : ℕ) (e : Exchange) → take n room ≡ take n (drop given answer) → given + n ≤ length answer → (n ≡ 0 → given ≡ length answer) → IsBeingTaken peer answer given e → IsBeingTaken peer answer (given + n) (cond (nat_eq n 0) (ending e) (taking (take n room) e))
taken_at peer answer room given n e same within end t =
    elim (eqb_tells n 0) [
      | inl both ↦ taken_by peer answer room given n (nat_eq n 0) e (λ _. both.1) (λ f. absurd (true≢false (sym both.0 ∙ f))) same within end t
      | inr both ↦ taken_by peer answer room given n (nat_eq n 0) e (λ y. absurd (true≢false (sym y ∙ both.0))) (λ _. both.1) same within end t
    ]

pub holds-taken : (peer : List ℕ → List ℕ → Type 0) (talk : List Exchange) (answer : List ℕ) (given : ℕ) (state : LinkState) (room : List ℕ) (n : ℕ) → WireHolds peer talk answer given state → state ≡ Taking → take n room ≡ take n (drop given answer) → given + n ≤ length answer → (n ≡ 0 → given ≡ length answer) → WireHolds peer (on_last (λ e. cond (nat_eq n 0) (ending e) (taking (take n room) e)) talk) answer (given + n) state
holds-taken peer talk answer given state room n holds is same within end =
    let step = λ (e : Exchange). cond (nat_eq n 0) (ending e) (taking (take n room) e) in
    let taken = last-taken peer talk answer given state holds is in
    let last : AtLast (IsBeingTaken peer answer (given + n)) (on_last step talk) = at_last-on_last (IsBeingTaken peer answer given) (IsBeingTaken peer answer (given + n)) step talk taken (λ e t. taken_at peer answer room given n e same within end t) in
    record {
      each = all-at_last (IsBeingTaken peer answer given) (IsAnswered peer) step talk holds.each taken (λ e t. answered-taken peer answer (given + n) (step e) (taken_at peer answer room given n e same within end t));
      last = subst (λ (s : LinkState). LastHolds peer (on_last step talk) answer (given + n) s) (sym is) last;
    }
