-- What is read where a field of a format is due, and what is read behind it.
use Rattle.std.proofs.Common.{◌≡◌, ℕ, ◌<◌, ◌≤◌, List, [], ◌∷◌, ◌++◌, length, drop, take, refl, sym, ◌∙◌, ap, subst, arith, Option, Some, None, append_assoc, length-append}
use Rattle.std.proofs.lemmas.List.{append-nil, take-append-drop}
use Rattle.std.proofs.lemmas.Bool.{lt-ltb, le-ltb}
use Rattle.std.proofs.Math.Seq.{take-append_seam, drop-append_seam}
use Rattle.job_frames.specs.declared.field.Field.TheVariants.{Token, Body, Whole}
use Rattle.job_frames.specs.Fields.{Step, short, refused, taken, ◌>>=◌, number_at, judged, field_body_at}
use Rattle.job_frames.specs.Formats.{Format, gives, refuses, due_token, due_body, due_letter, reading}
use Rattle.job_frames.specs.parts.Dues.{due_of, passed, behind_token, behind_body}
use Rattle.job_frames.proofs.FieldLemmas.{number_onward, number_refused}

-- BODIES

pub body_short : (n : ℕ) (p : List ℕ) → length p < n → field_body_at n (p ++ []) ≡ short
unfolding field_body_at
body_short n p h = rw (append-nil p) (rw (lt-ltb (length p) n h) refl)

pub body_there : (n : ℕ) (p more : List ℕ) → length p ≡ n → field_body_at n (p ++ more) ≡ taken p more
unfolding field_body_at
body_there n p more h =
    let long : n ≤ length (p ++ more) = omega (arith, length-append p more) in
    rw (le-ltb (length (p ++ more)) n long) (rw (take-all p more n h, drop-all p more n h) refl)
  where
    take-all : (p more : List ℕ) (n : ℕ) → length p ≡ n → take n (p ++ more) ≡ p
    take-all p more n h = subst (λ k. take k (p ++ more) ≡ p) h (take-append_seam p more)

    drop-all : (p more : List ℕ) (n : ℕ) → length p ≡ n → drop n (p ++ more) ≡ more
    drop-all p more n h = subst (λ k. drop k (p ++ more) ≡ more) h (drop-append_seam p more)

pub empty : (p : List ℕ) → length p ≤ 0 → p ≡ []
empty [] h = refl
empty (b ∷ p) h = absurd (omega arith)

-- bytes moved from the piece to the field stay in their place
pub same_bytes : (p rest more : List ℕ) (n : ℕ) → (p ++ take n rest) ++ (drop n rest ++ more) ≡ p ++ (rest ++ more)
same_bytes p rest more n =
    append_assoc p (take n rest) (drop n rest ++ more)
    ∙ ap (λ (b : List ℕ). p ++ b) (sym (append_assoc (take n rest) (drop n rest) more) ∙ ap (λ (b : List ℕ). b ++ more) (take-append-drop n rest))

-- what was read of a token is what stands there
pub same_number : (due letters rest bytes : List ℕ) → due ≡ letters → rest ≡ bytes → number_at letters bytes ≡ number_at due rest
same_number due letters rest bytes d r = rw (d, r) refl

-- FIELDS

by_judge : {A : Type 0} (o : Option ℕ) (n : ℕ) (rest : List ℕ) (next : ℕ → Format A) → (judged o n rest >>= λ m r. reading (next m) r) ≡ reading (passed o (next n)) rest
by_judge None n rest next = refl
by_judge (Some why) n rest next = refl

by_number : {A : Type 0} (s : Step ℕ) (judge : ℕ → Option ℕ) (next : ℕ → Format A)
    → ((s >>= λ n rest. judged (judge n) n rest) >>= λ n rest. reading (next n) rest) ≡ (s >>= λ n rest. reading (passed (judge n) (next n)) rest)
by_number short judge next = refl
by_number (refused why) judge next = refl
by_number (taken n rest) judge next = by_judge (judge n) n rest next

-- a token is read as its number, and what is due behind it
token_is : {A : Type 0} (f : Format A) (letters bytes : List ℕ) → due_of f ≡ Some (Token letters) → reading f bytes ≡ (number_at letters bytes >>= λ n rest. reading (behind_token f n) rest)
token_is (gives a) letters bytes h = absurd (cc)
token_is (refuses n) letters bytes h = absurd (cc)
token_is {A} (due_token due judge next) letters bytes h =
    let same : due ≡ letters = cc in
    by_number (number_at due bytes) judge next ∙ ap (λ (l : List ℕ). number_at l bytes >>= λ n rest. reading (passed (judge n) (next n)) rest) same
token_is (due_body n next) letters bytes h = absurd (cc)
token_is (due_letter next) letters bytes h = absurd (cc)

pub token_fails : {A : Type 0} (f : Format A) (letters p more : List ℕ) (why : ℕ) → due_of f ≡ Some (Token letters) → number_at letters p ≡ refused why → reading f (p ++ more) ≡ refused why
token_fails {A} f letters p more why due e = token_is f letters (p ++ more) due ∙ ap (λ (s : Step ℕ). s >>= λ n rest. reading (behind_token f n) rest) (number_refused letters p more why e)

pub token_passes : {A : Type 0} (f : Format A) (letters p more : List ℕ) (n : ℕ) → due_of f ≡ Some (Token letters) → number_at letters p ≡ taken n [] → reading f (p ++ more) ≡ reading (behind_token f n) more
token_passes {A} f letters p more n due e = token_is f letters (p ++ more) due ∙ ap (λ (s : Step ℕ). s >>= λ m rest. reading (behind_token f m) rest) (number_onward letters p [] more n e)

body_is : {A : Type 0} (f : Format A) (n : ℕ) (bytes : List ℕ) → due_of f ≡ Some (Body n) → reading f bytes ≡ (field_body_at n bytes >>= λ b rest. reading (behind_body f b) rest)
body_is (gives a) n bytes h = absurd (cc)
body_is (refuses m) n bytes h = absurd (cc)
body_is (due_token due judge next) n bytes h = absurd (cc)
body_is {A} (due_body m next) n bytes h =
    let same : m ≡ n = cc in
    ap (λ (k : ℕ). field_body_at k bytes >>= λ b rest. reading (next b) rest) same
body_is (due_letter next) n bytes h = absurd (cc)

pub body_waits : {A : Type 0} (f : Format A) (n : ℕ) (p : List ℕ) → due_of f ≡ Some (Body n) → length p < n → reading f (p ++ []) ≡ short
body_waits {A} f n p due h = body_is f n (p ++ []) due ∙ ap (λ (s : Step (List ℕ)). s >>= λ b rest. reading (behind_body f b) rest) (body_short n p h)

pub body_passes : {A : Type 0} (f : Format A) (n : ℕ) (p more : List ℕ) → due_of f ≡ Some (Body n) → length p ≡ n → reading f (p ++ more) ≡ reading (behind_body f p) more
body_passes {A} f n p more due h = body_is f n (p ++ more) due ∙ ap (λ (s : Step (List ℕ)). s >>= λ b rest. reading (behind_body f b) rest) (body_there n p more h)

pub whole_is : {A : Type 0} (f : Format A) → due_of f ≡ Some Whole → (a : A) × (f ≡ gives a)
whole_is (gives a) h = (a, refl)
whole_is (refuses m) h = absurd (cc)
whole_is (due_token due judge next) h = absurd (cc)
whole_is (due_body m next) h = absurd (cc)
whole_is (due_letter next) h = absurd (cc)
