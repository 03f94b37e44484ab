-- Changes of a talk, one after another.
use Rattle.std.proofs.Common.{◌≡◌, ℕ, ◌+◌, List, [], ◌∷◌, ◌++◌, Option, None, Some, Bool, true, false, cond, refl, sym, ap, ◌∙◌, inl, inr, arith, append-nil, append_assoc, take, drop, nat_eq, min, length}
use Rattle.std.proofs.lemmas.Bool.Decides.{eqb_tells}
use Rattle.std.proofs.lemmas.List.{take-append-drop}
use Rattle.std.proofs.Math.Seq.{take-add, take-length}
use Rattle.std.proofs.lemmas.Grind.{common_steps}
use Rattle.base_types.specs.Told.{added, on_last}
use Rattle.io_edges.specs.declared.wire.Exchange.{Exchange}
use Rattle.io_edges.specs.declared.wire.Host.{Host}
use Rattle.io_edges.specs.Talk.{dialled, sending, taking, ending, finishing, on_current}
use Rattle.job_ends.specs.Exchange.{partly, ended_if, Began, replied}

on_last-on_last : {A : Type 0} (f g h : A → A) → ((x : A) → f (g x) ≡ h x) → (xs : List A) → on_last f (on_last g xs) ≡ on_last h xs
on_last-on_last f g h e [] = refl
on_last-on_last f g h e (x ∷ []) = ap (λ y. y ∷ []) (e x)
on_last-on_last f g h e (x ∷ y ∷ []) = ap (λ z. x ∷ z ∷ []) (e y)
on_last-on_last f g h e (x ∷ y ∷ z ∷ xs) = ap (λ l. x ∷ l) (on_last-on_last f g h e (y ∷ z ∷ xs))

on_last-same : {A : Type 0} (f : A → A) → ((x : A) → f x ≡ x) → (xs : List A) → on_last f xs ≡ xs
on_last-same f e [] = refl
on_last-same f e (x ∷ []) = ap (λ y. y ∷ []) (e x)
on_last-same f e (x ∷ y ∷ xs) = ap (λ l. x ∷ l) (on_last-same f e (y ∷ xs))

on_last-end : {A : Type 0} (f : A → A) (xs : List A) (x : A) → on_last f (xs ++ x ∷ []) ≡ xs ++ f x ∷ []
on_last-end f [] x = refl
on_last-end f (y ∷ []) x = refl
on_last-end f (y ∷ z ∷ ys) x = ap (λ l. y ∷ l) (on_last-end f (z ∷ ys) x)

-- two changes of the last exchange are one
pub then : (f g h : Exchange → Exchange) → ((x : Exchange) → f (g x) ≡ h x) → (talk : Option (List Exchange)) → on_current f (on_current g talk) ≡ on_current h talk
then f g h e None = refl
then f g h e (Some xs) = ap Some (on_last-on_last f g h e xs)

pub unchanged : (f : Exchange → Exchange) → ((x : Exchange) → f x ≡ x) → (talk : Option (List Exchange)) → talk ≡ on_current f talk
unchanged f e None = refl
unchanged f e (Some xs) = ap Some (sym (on_last-same f e xs))

-- a change of the exchange that was just dialled
pub at_new : (f : Exchange → Exchange) (x : Exchange) (talk : Option (List Exchange)) → on_current f (added (x ∷ []) talk) ≡ added (f x ∷ []) talk
at_new f x None = refl
at_new f x (Some xs) = ap Some (on_last-end f xs x)

pub sent-none : (talk : Option (List Exchange)) → talk ≡ on_current (sending []) talk
sent-none talk = unchanged (sending []) (λ e. ap (λ (s : List ℕ). record e { sent = s }) (append-nil e.sent)) talk

pub sent-more : (p q : List ℕ) (talk : Option (List Exchange)) → on_current (sending q) (on_current (sending p) talk) ≡ on_current (sending (p ++ q)) talk
sent-more p q talk = then (sending q) (sending p) (sending (p ++ q)) (λ e. ap (λ (s : List ℕ). record e { sent = s }) (append_assoc e.sent p q)) talk

pub taken-none : (talk : Option (List Exchange)) → talk ≡ on_current (taking []) talk
taken-none talk = unchanged (taking []) (λ e. ap (λ (s : List ℕ). record e { received = s }) (append-nil e.received)) talk

pub taken-more : (p q : List ℕ) (talk : Option (List Exchange)) → on_current (taking q) (on_current (taking p) talk) ≡ on_current (taking (p ++ q)) talk
taken-more p q talk = then (taking q) (taking p) (taking (p ++ q)) (λ e. ap (λ (s : List ℕ). record e { received = s }) (append_assoc e.received p q)) talk

-- a change that is the same at each exchange
alike-last : (f g : Exchange → Exchange) → ((x : Exchange) → f x ≡ g x) → (xs : List Exchange) → on_last f xs ≡ on_last g xs
alike-last f g e [] = refl
alike-last f g e (x ∷ []) = ap (λ y. y ∷ []) (e x)
alike-last f g e (x ∷ y ∷ xs) = ap (λ l. x ∷ l) (alike-last f g e (y ∷ xs))

pub alike : (f g : Exchange → Exchange) → ((x : Exchange) → f x ≡ g x) → (talk : Option (List Exchange)) → on_current f talk ≡ on_current g talk
alike f g e None = refl
alike f g e (Some xs) = ap Some (alike-last f g e xs)

-- what was taken by a call that didn't end
pub took : (n : ℕ) (bytes : List ℕ) → (n ≡ 0 → ⊥) → (x : Exchange) → cond (nat_eq n 0) (ending x) (taking bytes x) ≡ taking bytes x
took n bytes some x = elim (eqb_tells n 0) [
  | inl both ↦ absurd (some both.1)
  | inr both ↦ ap (λ b. cond b (ending x) (taking bytes x)) both.0
]

pub taken-call : (n : ℕ) (p q : List ℕ) (talk : Option (List Exchange)) → (n ≡ 0 → ⊥) → on_current (λ e. cond (nat_eq n 0) (ending e) (taking q e)) (on_current (taking p) talk) ≡ on_current (taking (p ++ q)) talk
taken-call n p q talk some = alike (λ e. cond (nat_eq n 0) (ending e) (taking q e)) (taking q) (took n q some) (on_current (taking p) talk) ∙ taken-more p q talk

pub ended-call : (p q : List ℕ) (n : ℕ) (talk : Option (List Exchange)) → n ≡ 0 → on_current (λ e. cond (nat_eq n 0) (ending e) (taking q e)) (on_current (taking p) talk) ≡ on_current (λ e. ended_if true (taking p e)) talk
ended-call p q n talk none = then (λ e. cond (nat_eq n 0) (ending e) (taking q e)) (taking p) (λ e. ended_if true (taking p e)) (λ e. rw none refl) talk

pub not-ended : (p : List ℕ) (talk : Option (List Exchange)) → on_current (taking p) talk ≡ on_current (λ e. ended_if false (taking p e)) talk
not-ended p talk = refl

-- a piece of the request after those that were sent
pub piece-more : (xs : List ℕ) (at k : ℕ) → take at xs ++ take k (drop at xs) ≡ take (at + k) xs
piece-more xs at k = sym (take-add at k xs)

-- the front of a piece is the front of the rest
front-of-front : (n k : ℕ) (xs : List ℕ) → take n (take k xs) ≡ take (min n k) xs
front-of-front n k xs = grind (arith, common_steps)

pub piece-part : (xs : List ℕ) (at k n : ℕ) → take at xs ++ take n (take k (drop at xs)) ≡ take (at + min n k) xs
piece-part xs at k n = ap (λ r. take at xs ++ r) (front-of-front n k (drop at xs)) ∙ piece-more xs at (min n k)

-- partly done
pub sent-partly : (s : List ℕ) (talk : Option (List Exchange)) → on_current (sending s) talk ≡ on_current (partly s [] false) talk
sent-partly s talk = alike (sending s) (partly s [] false) (λ e. ap (λ (r : List ℕ). record (sending s e) { received = r }) (sym (append-nil e.received))) talk

pub sent-whole : (s : List ℕ) (talk : Option (List Exchange)) → on_current (sending s) talk ≡ on_current (partly (take (length s) s) [] false) talk
sent-whole s talk = rw (take-length s) (sent-partly s talk)

pub taken-partly : (s r : List ℕ) (talk : Option (List Exchange)) → on_current (taking r) (on_current finishing (on_current (sending s) talk)) ≡ on_current (partly (take (length s) s) r true) talk
taken-partly s r talk =
    rw (take-length s) (ap (on_current (taking r)) (then finishing (sending s) (λ e. finishing (sending s e)) (λ _. refl) talk)
    ∙ then (taking r) (λ e. finishing (sending s e)) (partly s r true) (λ _. refl) talk)

pub whole-talk : (s r : List ℕ) (b : Bool) (talk : Option (List Exchange)) → on_current (λ e. ended_if b (taking r e)) (on_current finishing (on_current (sending s) talk)) ≡ on_current (λ e. ended_if b (taking r (finishing (sending s e)))) talk
whole-talk s r b talk =
    ap (on_current (λ e. ended_if b (taking r e))) (then finishing (sending s) (λ e. finishing (sending s e)) (λ _. refl) talk)
    ∙ then (λ e. ended_if b (taking r e)) (λ e. finishing (sending s e)) (λ e. ended_if b (taking r (finishing (sending s e)))) (λ _. refl) talk

replied-is : (host : Host) (s r : List ℕ) (b : Bool) → ended_if b (taking r (finishing (sending s (dialled host)))) ≡ replied host s r b
replied-is host s r true = refl
replied-is host s r false = refl

pub replied-talk : (host : Host) (s r : List ℕ) (b : Bool) (talk : Option (List Exchange)) → on_current (λ e. ended_if b (taking r (finishing (sending s e)))) (added (dialled host ∷ []) talk) ≡ added (replied host s r b ∷ []) talk
replied-talk host s r b talk = at_new (λ e. ended_if b (taking r (finishing (sending s e)))) (dialled host) talk ∙ ap (λ (e : Exchange). added (e ∷ []) talk) (replied-is host s r b)

pub began-talk : (host : Host) (s r : List ℕ) (n : ℕ) (b : Bool) (talk : Option (List Exchange)) → on_current (partly (take n s) r b) (added (dialled host ∷ []) talk) ≡ added (partly (take n s) r b (dialled host) ∷ []) talk
began-talk host s r n b talk = at_new (partly (take n s) r b) (dialled host) talk

pub began : (host : Host) (s r : List ℕ) (n : ℕ) (b : Bool) → Began host s (partly (take n s) r b (dialled host) ∷ [])
began host s r n b = inr (partly (take n s) r b (dialled host), refl, refl, (drop n s, take-append-drop n s))
