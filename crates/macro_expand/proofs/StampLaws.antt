-- Tokens of lists that pass, and what their stamps say.
use Rattle.std.proofs.Common.{◌≡◌, ℕ, zero, suc, ◌+◌, ◌<◌, ◌≤◌, Bool, true, false, if◌then◌else◌, ◌==◌, ◌&&◌, ◌||◌, bytes_eq, Vec, Global, List, [], ◌∷◌, ◌++◌, length, map, get_or, take, drop, refl, ap, sym, ◌∙◌, subst, inl, inr, arith}
use Rattle.std.specs.Prelude.{Result, Ok, Err, IfOk, Option, Some, None, IfSome, IsNone}
use Rattle.std.proofs.lemmas.List.{take_all}
use Rattle.std.proofs.Math.Seq.{take-append_seam}
use Rattle.std.proofs.lemmas.Bool.{ne_eqb, eq-eqb}
use Rattle.std.proofs.Math.ListN.{set}
use Rattle.std.proofs.lemmas.List.{take_more_set}
use Rattle.macro_expand.specs.declared.lent.Lent.{Lent}
use Rattle.macro_expand.specs.declared.marked.Marked.{Marked as Kept}
use Rattle.macro_expand.specs.declared.outcome.Mode.{Mode}
use Rattle.macro_expand.specs.Expansion.{Table}
use Rattle.macro_expand.specs.Stream.{lent_tokens}
use Rattle.macro_expand.specs.parts.Steps.{TakesEach, TakesDefined}
use Rattle.macro_expand.specs.Sets.{names_in}
use Rattle.macro_expand.specs.Replacement.{Marked, with_name, common_names}
use Rattle.macro_expand.specs.parts.Pieces.{spaced_from, spaced_at}
use Rattle.macro_expand.specs.parts.Stamps.{All, Each, Stamps, Stamped, AllStamped, EachStamped, KeepsStamps, StampsAfter, Alike, Within, Fresh, ArePutIn, stamp_of}
use Rattle.macro_expand.specs.Seen.{kept_plain}
use Rattle.pp_tokens.specs.declared.Token.{Token}
use Rattle.pp_tokens.specs.declared.token.TokenRef.{TokenRef}
use Rattle.pp_tokens.specs.Tokens.{token_seen}

module _ (P : Kept → Type 0) where
  pub all-append : (a b : List Kept) → All P a → All P b → All P (a ++ b)
  all-append [] b pa pb = pb
  all-append (m ∷ a) b pa pb = (pa.0, all-append a b pa.1 pb)

  pub all-front : (a b : List Kept) → All P (a ++ b) → All P a
  all-front [] b p = tt
  all-front (m ∷ a) b p = (p.0, all-front a b p.1)

  pub all-back : (a b : List Kept) → All P (a ++ b) → All P b
  all-back [] b p = p
  all-back (m ∷ a) b p = all-back a b p.1

  pub all-at : (ms : List Kept) (i : ℕ) (m : Kept) → i < length ms → All P ms → m ≡ get_or ms i m → P m
  all-at [] i m below p is = absurd (omega (arith, below))
  all-at (x ∷ ms) zero m below p is = subst P (sym is) p.0
  all-at (x ∷ ms) (suc i) m below p is = all-at ms i m (omega (arith, below)) p.1 is

  pub all-push : (a : List Kept) (m : Kept) → All P a → P m → All P (a ++ m ∷ [])
  all-push a m pa pm = all-append a (m ∷ []) pa (pm, tt)

  -- tokens that are kept or not
  pub all-if : (b : Bool) (ms kept : List Kept) → kept ≡ (if b then ms else []) → All P ms → All P kept
  all-if true ms kept is p = subst (All P) (sym is) p
  all-if false ms kept is p = subst (All P) (sym is) tt

  pub each-append : (a b : List (Vec Kept Global)) → Each P a → Each P b → Each P (a ++ b)
  each-append [] b pa pb = pb
  each-append (v ∷ a) b pa pb = (pa.0, each-append a b pa.1 pb)

  pub each-push : (a : List (Vec Kept Global)) (v : Vec Kept Global) → Each P a → All P v.items → Each P (a ++ v ∷ [])
  each-push a v pa pv = each-append a (v ∷ []) pa (pv, tt)

  pub each-at : (vs : List (Vec Kept Global)) (i : ℕ) (v : Vec Kept Global) → i < length vs → Each P vs → v ≡ get_or vs i v → All P v.items
  each-at [] i v below p is = absurd (omega (arith, below))
  each-at (x ∷ vs) zero v below p is = subst (λ (u : Vec Kept Global). All P u.items) (sym is) p.0
  each-at (x ∷ vs) (suc i) v below p is = each-at vs i v (omega (arith, below)) p.1 is

  -- one token more of a list that is gone through in place
  pub all-turn : (xs : List Kept) (i : ℕ) (x : Kept) → i < length xs → All P (take i xs) → P x → All P (take (i + 1) (set xs i x))
  all-turn xs i x below pa px = subst (All P) (sym (take_more_set xs i x below)) (all-push (take i xs) x pa px)

  -- where that loop has come to the end
  pub all-whole : (xs made : List Kept) (i n : ℕ) → length xs ≤ i → length xs ≡ n → All P (take i xs) → All P (take n (xs ++ drop (length xs) made))
  all-whole xs made i n ends all p =
      subst (All P) (take_all i xs ends ∙ sym (take-append_seam xs (drop (length xs) made)) ∙ ap (λ k. take k (xs ++ drop (length xs) made)) all) p

module _ (P Q : Kept → Type 0) (weaker : (m : Kept) → P m → Q m) where
  pub all-map : (ms : List Kept) → All P ms → All Q ms
  all-map [] p = tt
  all-map (m ∷ ms) p = (weaker m p.0, all-map ms p.1)

  pub each-map : (vs : List (Vec Kept Global)) → Each P vs → Each Q vs
  each-map [] p = tt
  each-map (v ∷ vs) p = (all-map v.items p.0, each-map vs p.1)

-- What the stamp of a macro's name says of a call.

-- its replacement hides what it hides
pub head-within : (t close hidden : List (List ℕ)) (name : List ℕ) →
    ((n : List ℕ) → names_in hidden n ≡ with_name name (common_names (names_in t) (names_in close)) n) → close ≡ t →
    (n : List ℕ) → names_in t n ≡ true → names_in hidden n ≡ true
head-within t close hidden name hides same n is =
    hides n ∙ ap (λ (l : List (List ℕ)). with_name name (common_names (names_in t) (names_in l)) n) same ∙ go (bytes_eq n name) (names_in t n) is
  where
    go : (own there : Bool) → there ≡ true → (own || (there && there)) ≡ true
    go true there e = refl
    go false there e = rw e refl

-- what both hide is what the one hides, where they hide the same
pub common-same : (t close : List (List ℕ)) → close ≡ t → (n : List ℕ) → names_in t n ≡ common_names (names_in t) (names_in close) n
common-same t close same n = twice (names_in t n) ∙ ap (λ (l : List (List ℕ)). names_in t n && names_in l n) (sym same)
  where
    twice : (b : Bool) → b ≡ (b && b)
    twice true = refl
    twice false = refl

-- nothing is known of stamps
pub none-within : (head : ℕ) (hidden : List (List ℕ)) (ms : List Kept) → head ≡ 0 → All (Within head hidden) ms
none-within head hidden [] none = tt
none-within head hidden (m ∷ ms) none = ((λ same some. absurd (some none)), none-within head hidden ms none)

-- tokens that are alike hide what the name hides
pub alike-within : (t : Kept) (head : ℕ) (hidden : List (List ℕ)) (ms : List Kept) →
    ((head ≡ 0 → ⊥) → (head ≡ t.stamp) × ((n : List ℕ) → names_in t.hidden n ≡ true → names_in hidden n ≡ true)) →
    All (Alike t) ms → All (Within head hidden) ms
alike-within t head hidden ms known =
    all-map (Alike t) (Within head hidden)
    (λ m alike same some n is.
    let is_t : m.hidden ≡ t.hidden = alike (same ∙ (known some).0) (λ none. some ((known some).0 ∙ none)) in
    (known some).1 n (ap (λ (l : List (List ℕ)). names_in l n) (sym is_t) ∙ is)) ms

-- a copy of a token is alike where the token is
pub alike-copy : (t m copy : Kept) → (copy.stamp ≡ m.stamp) × (copy.hidden ≡ m.hidden) → Alike t m → Alike t copy
alike-copy t m copy same alike stamp some = same.1 ∙ alike (sym same.0 ∙ stamp) some

-- the first token that is left of an argument, and those behind it
pub spaced-step : (first space : Bool) (m : Marked) (ms : List Marked) → spaced_from first space (m ∷ ms) ≡ spaced_at first space m ∷ ms
spaced-step true space m ms = refl
spaced-step false space m ms = refl

pub if_ok-two : {A E : Type 0} {P Q R : A → Type 0} (r : Result A E) → ((a : A) → P a → Q a → R a) → IfOk r P → IfOk r Q → IfOk r R
if_ok-two (Ok a) f p q = f a p q
if_ok-two (Err e) f p q = tt

-- Stamps that are given one after another.

pub stamped-later : (sets after : Stamps) (next next' : ℕ) → KeepsStamps sets next after → next ≤ next' → (m : Kept) → Stamped sets next m → Stamped after next' m
stamped-later sets after next next' keeps more m (inl none) = inl none
stamped-later sets after next next' keeps more m (inr given) = inr (omega (arith, given.0, more), given.1 ∙ sym (keeps m.stamp given.0))

pub keeps-both : (a b c : Stamps) (next next' : ℕ) → KeepsStamps a next b → next ≤ next' → KeepsStamps b next' c → KeepsStamps a next c
keeps-both a b c next next' first more second k below = second k (omega (arith, below, more)) ∙ first k below

-- tokens with stamps that were given to the same sets are alike
pub alike-stamped : (sets : Stamps) (next : ℕ) (t m : Kept) → Stamped sets next t → Stamped sets next m → Alike t m
alike-stamped sets next t m (inl none) of_m same some = absurd (some none)
alike-stamped sets next t m (inr of_t) (inl none) same some = absurd (some (sym same ∙ none))
alike-stamped sets next t m (inr of_t) (inr of_m) same some = of_m.1 ∙ ap sets same ∙ sym of_t.1

-- one stamp more
with_stamp : Stamps → ℕ → List (List ℕ) → Stamps
with_stamp sets stamp hidden k = if k == stamp then hidden else sets k

with_stamp-before : (sets : Stamps) (stamp : ℕ) (hidden : List (List ℕ)) → KeepsStamps sets stamp (with_stamp sets stamp hidden)
unfolding with_stamp
with_stamp-before sets stamp hidden k below = ap (λ b. if b then hidden else sets k) (ne_eqb k stamp (λ e. omega (arith, below, e)))

with_stamp-itself : (sets : Stamps) (stamp k : ℕ) (hidden : List (List ℕ)) → k ≡ stamp → hidden ≡ with_stamp sets stamp hidden k
unfolding with_stamp
with_stamp-itself sets stamp k hidden e = ap (λ b. if b then hidden else sets k) (sym (eq-eqb k stamp e))

fresh-stamped : (sets : Stamps) (stamp next : ℕ) (hidden : List (List ℕ)) → stamp < next → (m : Kept) → Fresh stamp hidden m → Stamped (with_stamp sets stamp hidden) next m
fresh-stamped sets stamp next hidden below m (inl none) = inl none
fresh-stamped sets stamp next hidden below m (inr given) =
    inr (omega (arith, given.0, below), given.1 ∙ with_stamp-itself sets stamp m.stamp hidden given.0)

fresh-none : (sets : Stamps) (next : ℕ) (hidden : List (List ℕ)) → (m : Kept) → Fresh 0 hidden m → Stamped sets next m
fresh-none sets next hidden m (inl none) = inl none
fresh-none sets next hidden m (inr given) = inl given.0

-- what is pending after a replacement
pub put-stamped : (sets : Stamps) (old new : ℕ) (made pending : List Kept) → old ≤ new → ((old == 4294967295) ≡ false → old < new) →
    ArePutIn (stamp_of old) made → AllStamped sets old pending →
    (after : Stamps) × (KeepsStamps sets old after × AllStamped after new (made ++ pending))
put-stamped sets old new made pending more next put all = go (old == 4294967295) refl
  where
    go : (full : Bool) → (old == 4294967295) ≡ full → (after : Stamps) × (KeepsStamps sets old after × AllStamped after new (made ++ pending))
    go true is = (
      sets,
      (
        (λ k below. refl),
        all-append (Stamped sets new) made pending
            (all-map (Fresh 0 put.0) (Stamped sets new) (fresh-none sets new put.0) made (subst (λ (s : ℕ). All (Fresh s put.0) made) (ap (λ b. if b then 0 else old) is) put.1))
            (all-map (Stamped sets old) (Stamped sets new) (stamped-later sets sets old new (λ k below. refl) more) pending all),
      ),
    )
    go false is = (
      with_stamp sets old put.0,
      (
        with_stamp-before sets old put.0,
        all-append (Stamped (with_stamp sets old put.0) new) made pending
            (all-map (Fresh old put.0) (Stamped (with_stamp sets old put.0) new) (fresh-stamped sets old new put.0 (next is)) made
            (subst (λ (s : ℕ). All (Fresh s put.0) made) (ap (λ b. if b then 0 else old) is) put.1))
            (all-map (Stamped sets old) (Stamped (with_stamp sets old put.0) new)
            (stamped-later sets (with_stamp sets old put.0) old new (with_stamp-before sets old put.0) more) pending all),
      ),
    )

-- Steps.

-- the first of the pending tokens, and those behind it
pub head-stamped : (sets : Stamps) (s0 s : ℕ) (t : Kept) (pending popped out : List Kept) → pending ≡ t ∷ popped → StampsAfter sets s0 s pending out →
    (now : Stamps) × (Stamped now s t × AllStamped now s popped)
head-stamped sets s0 s t pending popped out is st = (st.0, subst (AllStamped st.0 s) is st.1.1.0)

pub stamps-turn : (sets : Stamps) (s0 s s' : ℕ) (t : Kept) (pending popped out pending' out' : List Kept) → s0 ≤ s → pending ≡ t ∷ popped → StampsAfter sets s0 s pending out →
    ((now : Stamps) → Stamped now s t → AllStamped now s popped → AllStamped now s out → StampsAfter now s s' pending' out') →
    StampsAfter sets s0 s' pending' out'
stamps-turn sets s0 s s' t pending popped out pending' out' more is st step =
    let front = subst (AllStamped st.0 s) is st.1.1.0 in
    let after = step st.0 front.0 front.1 st.1.1.1 in
    (after.0, (keeps-both sets st.0 after.0 s0 s st.1.0 more after.1.0, after.1.1))

-- arguments that were expanded, and those that are left
abbrev pub ArgumentsAfter : Stamps → ℕ → ℕ → List (Vec Kept Global) → List (Vec Kept Global) → Type 0
ArgumentsAfter sets s0 s out left = (after : Stamps) × (KeepsStamps sets s0 after × (EachStamped after s out × EachStamped after s left))

pub argument-stamped : (sets : Stamps) (s0 s : ℕ) (a : Vec Kept Global) (out left rest : List (Vec Kept Global)) → left ≡ a ∷ rest → ArgumentsAfter sets s0 s out left →
    (now : Stamps) × AllStamped now s a.items
argument-stamped sets s0 s a out left rest is st = (st.0, (subst (EachStamped st.0 s) is st.1.1.1).0)

pub arguments-turn : (sets : Stamps) (s0 s s' : ℕ) (a v : Vec Kept Global) (out left rest next : List (Vec Kept Global)) → s0 ≤ s → s ≤ s' → left ≡ a ∷ rest → next ≡ out ++ v ∷ [] →
    ArgumentsAfter sets s0 s out left → ((now : Stamps) → AllStamped now s a.items → StampsAfter now s s' [] v.items) → ArgumentsAfter sets s0 s' next rest
arguments-turn sets s0 s s' a v out left rest next more later is made st step =
    let front = subst (EachStamped st.0 s) is st.1.1.1 in
    let after = step st.0 front.0 in
    let kept = stamped-later st.0 after.0 s s' after.1.0 later in (
      after.0,
      (
        keeps-both sets st.0 after.0 s0 s st.1.0 more after.1.0,
        (
          subst (EachStamped after.0 s') (sym made) (each-push (Stamped after.0 s') out v (each-map (Stamped st.0 s) (Stamped after.0 s') kept out st.1.1.0) after.1.1.1),
          each-map (Stamped st.0 s) (Stamped after.0 s') kept rest front.1,
        ),
      ),
    )

-- a call's replacement is put in after its arguments
pub call-stamped : (sets : Stamps) (s0 s1 s2 : ℕ) (pending : List Kept) → s0 ≤ s1 → (first : (after : Stamps) × KeepsStamps sets s0 after) →
    ((after : Stamps) × (KeepsStamps first.0 s1 after × AllStamped after s2 pending)) → (after : Stamps) × (KeepsStamps sets s0 after × AllStamped after s2 pending)
call-stamped sets s0 s1 s2 pending more first p = (p.0, (keeps-both sets first.0 p.0 s0 s1 first.1 more p.1.0, p.1.1))

-- what was put out keeps its stamps
pub with-out : (sets : Stamps) (s0 s : ℕ) (pending out : List Kept) → s0 ≤ s → AllStamped sets s0 out →
    ((after : Stamps) × (KeepsStamps sets s0 after × AllStamped after s pending)) → StampsAfter sets s0 s pending out
with-out sets s0 s pending out more all p =
    (p.0, (p.1.0, (p.1.1, all-map (Stamped sets s0) (Stamped p.0 s) (stamped-later sets p.0 s0 s p.1.0 more) out all)))

-- tokens of a run have no stamp
pub plain-stamped : (sets : Stamps) (next : ℕ) (ts : List Token) → AllStamped sets next (map kept_plain ts)
plain-stamped sets next [] = tt
plain-stamped sets next (t ∷ ts) = (inl refl, plain-stamped sets next ts)

-- the same of what is pending alone
pub popped-stamped : (s : ℕ) (t : Kept) (pending popped : List Kept) → pending ≡ t ∷ popped → (sets : Stamps) × AllStamped sets s pending →
    (sets : Stamps) × (Stamped sets s t × AllStamped sets s popped)
popped-stamped s t pending popped is st = (st.0, subst (AllStamped st.0 s) is st.1)

pub pending-stamped : (sets : Stamps) (s0 s : ℕ) (pending out : List Kept) → StampsAfter sets s0 s pending out → (after : Stamps) × AllStamped after s pending
pending-stamped sets s0 s pending out st = (st.0, st.1.1.0)

-- ---- what is lent ----

each-taken-stamped : (sets : Stamps) (s : ℕ) (table : Table) (mode : Mode) (ts : List Token) (old new : List Kept) → TakesEach table mode ts old new → AllStamped sets s old → AllStamped sets s new
each-taken-stamped sets s table mode [] old new same st = subst (AllStamped sets s) same st
each-taken-stamped sets s table mode (t ∷ ts) old new (mid, (first, each)) st =
    let front : AllStamped sets s (first.0 ∷ mid) = subst (AllStamped sets s) first.1.1.0 st in
    each-taken-stamped sets s table mode ts mid new each front.1

pub lent-stamped : (sets : Stamps) (s : ℕ) (table : Table) (mode : Mode) (o : Option Lent) (old new : List Kept) →
    IfSome o (λ l. TakesEach table mode (lent_tokens l) old new × (0 < length (lent_tokens l))) → (IsNone o → new ≡ old) → AllStamped sets s old → AllStamped sets s new
lent-stamped sets s table mode (Some l) old new taken none st = each-taken-stamped sets s table mode (lent_tokens l) old new taken.0 st
lent-stamped sets s table mode None old new taken none st = subst (AllStamped sets s) (sym (none (cc))) st

pub defined-stamped : (sets : Stamps) (s : ℕ) (o : Option TokenRef) (old new : List Kept) →
    IfSome o (λ name. TakesDefined (token_seen name) old new) → (IsNone o → new ≡ old) → AllStamped sets s old → AllStamped sets s new
defined-stamped sets s (Some name) old new (word, (operand, (both, is))) none st = all-back (Stamped sets s) (map kept_plain (word ∷ operand)) new (subst (AllStamped sets s) is st)
defined-stamped sets s None old new taken none st = subst (AllStamped sets s) (sym (none (cc))) st
