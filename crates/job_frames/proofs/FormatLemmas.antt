-- Laws of all formats: a verdict on a front of a text is the verdict whatever follows; a value is read from its spelling, and what reads as a
-- value begins with its spelling; no spelling begins another.
use Rattle.std.proofs.Common.{◌≡◌, ℕ, zero, suc, ◌+◌, ◌*◌, ◌^◌, ◌<◌, ◌≤◌, append_assoc, length-take, List, [], ◌∷◌, ◌++◌, length, take, drop, refl, sym, ◌∙◌, ap, subst, arith, Option, Some, None, cond, true, false, Bool, length-append}
use Rattle.std.specs.Prelude.{◌==◌, nat_lt}
use Rattle.std.proofs.lemmas.List.{take-append-le, drop-append-le, take-append-drop}
use Rattle.std.proofs.lemmas.Bool.{le-ltb, ltb-false}
use Rattle.tree_model.specs.Paths.{Text}
use Rattle.job_frames.specs.Spelling.{token, field, digits}
use Rattle.job_frames.specs.Fields.{Step, short, refused, taken, ◌>>=◌, digit_of, letters_at, digits_at, number_at, judged, field_token_at, field_body_at}
use Rattle.job_frames.specs.Formats.{Format, gives, refuses, due_token, due_body, due_letter, reading}
use Rattle.job_frames.specs.Outcomes.{going, reason, whatever_follows}
use Rattle.job_frames.specs.parts.Dues.{due_of, is_token_due}
use Rattle.job_frames.proofs.DigitLemmas.{digits_length, number_read, number_spelled}
use Rattle.job_frames.proofs.TokenLemmas.{body_there}

-- a reason of the bytes
abbrev pub IsReason : ℕ → Type 0
IsReason n = (2 ≤ n) × (n ≤ 8)

-- a judge refuses by a reason
abbrev pub IsJudge : Option ℕ → Type 0
IsJudge None = Unit {0}
IsJudge (Some why) = IsReason why

-- a format refuses by the reasons of the bytes, and a letter chooses a token
abbrev pub Sound : {A : Type 0} → Format A → Type 0
Sound (gives a) = Unit {0}
Sound (refuses n) = IsReason n
Sound (due_token letters judge next) = (n : ℕ) → IsJudge (judge n) × Sound (next n)
Sound (due_body n next) = (body : List ℕ) → Sound (next body)
Sound (due_letter next) = (b : ℕ) → (is_token_due (due_of (next b)) ≡ true) × Sound (next b)

-- EVERY FORMAT

-- a step, and the step where more follows
abbrev pub Extends : {A : Type 0} → Text → Step A → Step A → Type 0
Extends more short after = Unit {0}
Extends more (refused n) after = IsReason n × (after ≡ refused n)
Extends more (taken a rest) after = after ≡ taken a (rest ++ more)

abbrev pub Firm : {A : Type 0} → (Text → Step A) → Type 0
Firm f = (bytes more : Text) → Extends more (f bytes) (f (bytes ++ more))

bind_firm : {A B : Type 0} (more : Text) (s t : Step A) (next : A → Text → Step B) → Extends more s t → ((a : A) → Firm (next a)) → Extends more (s >>= next) (t >>= next)
bind_firm more short t next e firm = tt
bind_firm {A} {B} more (refused n) t next e firm = (e.0, ap (λ (x : Step A). x >>= next) e.1)
bind_firm {A} {B} more (taken a rest) t next e firm = subst (λ (x : Step A). Extends more (next a rest) (x >>= next)) (sym e) (firm a rest more)

letters_firm : (letters : List ℕ) → Firm (letters_at letters)
unfolding letters_at
letters_firm [] bytes more = refl
letters_firm (c ∷ cs) [] more = tt
letters_firm (c ∷ cs) (b ∷ bs) more = by_test (b == c) (letters_firm cs bs more)
  where
    by_test : (t : Bool) → Extends more (letters_at cs bs) (letters_at cs (bs ++ more)) → Extends more (cond t (letters_at cs bs) (refused 3)) (cond t (letters_at cs (bs ++ more)) (refused 3))
    by_test true e = e
    by_test false e = ((omega arith, omega arith), refl)

digits_firm : (k n : ℕ) → Firm (digits_at k n)
unfolding digits_at
digits_firm zero n bytes more = refl
digits_firm (suc k) n [] more = tt
digits_firm (suc k) n (b ∷ bs) more = by_digit (digit_of b) (λ d. digits_firm k (16 * n + d) bs more)
  where
    by_digit : (o : Option ℕ) → ((d : ℕ) → Extends more (digits_at k (16 * n + d) bs) (digits_at k (16 * n + d) (bs ++ more)))
        → Extends more (elim o [ Some d ↦ digits_at k (16 * n + d) bs | None ↦ refused 4 ]) (elim o [ Some d ↦ digits_at k (16 * n + d) (bs ++ more) | None ↦ refused 4 ])
    by_digit None e = ((omega arith, omega arith), refl)
    by_digit (Some d) e = e d

number_firm : (letters : List ℕ) → Firm (number_at letters)
unfolding number_at
number_firm letters bytes more = bind_firm more (letters_at letters bytes) (letters_at letters (bytes ++ more)) (λ u after. digits_at 8 0 after) (letters_firm letters bytes more) (λ u. digits_firm 8 0)

judged_firm : (o : Option ℕ) (n : ℕ) → IsJudge o → Firm (judged o n)
judged_firm None n is bytes more = refl
judged_firm (Some why) n is bytes more = (is, refl)

token_firm : (letters : List ℕ) (judge : ℕ → Option ℕ) → ((n : ℕ) → IsJudge (judge n)) → Firm (field_token_at letters judge)
token_firm letters judge is bytes more = bind_firm more (number_at letters bytes) (number_at letters (bytes ++ more)) (λ n rest. judged (judge n) n rest) (number_firm letters bytes more) (λ n. judged_firm (judge n) n (is n))

body_firm : (n : ℕ) → Firm (field_body_at n)
unfolding field_body_at
body_firm n bytes more = by_test (nat_lt (length bytes) n) refl
  where
    by_test : (t : Bool) → nat_lt (length bytes) n ≡ t
        → Extends more (cond t short (taken (take n bytes) (drop n bytes))) (cond (nat_lt (length (bytes ++ more)) n) short (taken (take n (bytes ++ more)) (drop n (bytes ++ more))))
    by_test true e = tt
    by_test false e =
        let long : n ≤ length bytes = omega (arith, ltb-false (length bytes) n e) in
        let longer : n ≤ length (bytes ++ more) = omega (arith, length-append bytes more) in
        rw (le-ltb (length (bytes ++ more)) n longer, take-append-le n bytes more long, drop-append-le n bytes more long) refl

-- what a format reads from the front of a text, it reads whatever follows
pub format_firm : {A : Type 0} (f : Format A) → Sound f → Firm (reading f)
format_firm (gives a) is bytes more = refl
format_firm (refuses n) is bytes more = (is, refl)
format_firm (due_token letters judge next) is bytes more =
    bind_firm more (field_token_at letters judge bytes) (field_token_at letters judge (bytes ++ more)) (λ n rest. reading (next n) rest) (token_firm letters judge (λ n. (is n).0) bytes more) (λ n. format_firm (next n) (is n).1)
format_firm (due_body n next) is bytes more = bind_firm more (field_body_at n bytes) (field_body_at n (bytes ++ more)) (λ body rest. reading (next body) rest) (body_firm n bytes more) (λ body. format_firm (next body) (is body))
format_firm (due_letter next) is [] more = tt
format_firm (due_letter next) is (b ∷ bytes) more = format_firm (next b) (is b).1 (b ∷ bytes) more

-- THE VERDICT

pub firm_verdict : {A : Type 0} (more : Text) (s t : Step A) → Extends more s t → (whatever_follows s ≡ going → ⊥) → whatever_follows t ≡ whatever_follows s
firm_verdict more short t e due = absurd (due refl)
firm_verdict more (refused n) t e due = ap whatever_follows e.1
firm_verdict more (taken a rest) t e due = ap whatever_follows e

pub reason_verdict : {A : Type 0} (more : Text) (s t : Step A) (n : ℕ) → Extends more s t → whatever_follows s ≡ reason n → IsReason n
reason_verdict more short t n e is = absurd (cc)
reason_verdict more (refused m) t n e is = let same : m ≡ n = cc in subst IsReason same e.0
reason_verdict more (taken a rest) t n e is = absurd (cc)

-- SPELLINGS

-- a text begins with a token, with a body, and goes on as this says
pub record TokenFront (letters : List ℕ) (judge : ℕ → Option ℕ) (behind : ℕ → Text → Type 0) (text : Text) : Type 0 where
  pub n : ℕ
  pub r : Text
  pub is : text ≡ token letters n ++ r
  pub small : n < 16 ^ 8
  pub passes : judge n ≡ None
  pub then : behind n r

pub record BodyFront (n : ℕ) (behind : Text → Text → Type 0) (text : Text) : Type 0 where
  pub body : Text
  pub r : Text
  pub is : text ≡ body ++ r
  pub long : length body ≡ n
  pub then : behind body r

-- a text spells a value in a format
abbrev pub Spells : {A : Type 0} → Format A → A → Text → Type 0
Spells (gives v) a text = (v ≡ a) × (text ≡ [])
Spells (refuses n) a text = ⊥
Spells (due_token letters judge next) a text = TokenFront letters judge (λ n r. Spells (next n) a r) text
Spells (due_body n next) a text = BodyFront n (λ body r. Spells (next body) a r) text
Spells (due_letter next) a [] = ⊥
Spells (due_letter next) a (b ∷ text) = Spells (next b) a (b ∷ text)

-- a token that its judge lets pass
token_there : {A : Type 0} (letters rest : Text) (judge : ℕ → Option ℕ) (n : ℕ) (next : ℕ → Text → Step A) → n < 16 ^ 8 → judge n ≡ None
    → (field_token_at letters judge (token letters n ++ rest) >>= next) ≡ next n rest
token_there {A} letters rest judge n next h j =
    ap (λ (s : Step ℕ). (s >>= λ m r. judged (judge m) m r) >>= next) (number_read letters rest n h)
    ∙ ap (λ (o : Option ℕ). judged o n rest >>= next) j

-- a value is read from its spelling, whatever follows
pub spelling_reads : {A : Type 0} (f : Format A) (a : A) (text rest : Text) → Spells f a text → reading f (text ++ rest) ≡ taken a rest
spelling_reads {A} (gives v) a text rest s = ap (λ (x : A). taken x (text ++ rest)) s.0 ∙ ap (λ (t : Text). taken a (t ++ rest)) s.1
spelling_reads (refuses n) a text rest s = absurd s
spelling_reads (due_token letters judge next) a text rest s =
    ap (λ (b : Text). reading (due_token letters judge next) (b ++ rest)) s.is
    ∙ ap (reading (due_token letters judge next)) (append_assoc (token letters s.n) s.r rest)
    ∙ token_there letters (s.r ++ rest) judge s.n (λ n r. reading (next n) r) s.small s.passes
    ∙ spelling_reads (next s.n) a s.r rest s.then
spelling_reads (due_body n next) a text rest s =
    ap (λ (b : Text). reading (due_body n next) (b ++ rest)) s.is
    ∙ ap (reading (due_body n next)) (append_assoc s.body s.r rest)
    ∙ ap (λ (x : Step Text). x >>= λ body r. reading (next body) r) (body_there n s.body (s.r ++ rest) s.long)
    ∙ spelling_reads (next s.body) a s.r rest s.then
spelling_reads (due_letter next) a [] rest s = absurd s
spelling_reads (due_letter next) a (b ∷ text) rest s = spelling_reads (next b) a (b ∷ text) rest s

-- what a token that was read stands in front of
token_front : {A : Type 0} (letters : Text) (judge : ℕ → Option ℕ) (bytes : Text) (next : ℕ → Text → Step A) (a : A) (rest : Text)
    → (field_token_at letters judge bytes >>= next) ≡ taken a rest → TokenFront letters judge (λ n r. next n r ≡ taken a rest) bytes
token_front {A} letters judge bytes next a rest h = by_number (number_at letters bytes) refl h
  where
    by_judge : (n : ℕ) (r : Text) (o : Option ℕ) → number_at letters bytes ≡ taken n r → judge n ≡ o → (judged o n r >>= next) ≡ taken a rest → TokenFront letters judge (λ m x. next m x ≡ taken a rest) bytes
    by_judge n r None e j g = let s = number_spelled letters bytes r n e in record { n = n; r = r; is = s.0; small = s.1; passes = j; then = g }
    by_judge n r (Some why) e j g = absurd (cc)

    by_number : (s : Step ℕ) → number_at letters bytes ≡ s → ((s >>= λ m r. judged (judge m) m r) >>= next) ≡ taken a rest → TokenFront letters judge (λ m x. next m x ≡ taken a rest) bytes
    by_number short e g = absurd (cc)
    by_number (refused why) e g = absurd (cc)
    by_number (taken n r) e g = by_judge n r (judge n) e refl g

body_front : {A : Type 0} (n : ℕ) (bytes : Text) (next : Text → Text → Step A) (a : A) (rest : Text) → (field_body_at n bytes >>= next) ≡ taken a rest → BodyFront n (λ body r. next body r ≡ taken a rest) bytes
unfolding field_body_at
body_front {A} n bytes next a rest h = by_size (nat_lt (length bytes) n) refl h
  where
    by_size : (t : Bool) → nat_lt (length bytes) n ≡ t → (cond t short (taken (take n bytes) (drop n bytes)) >>= next) ≡ taken a rest → BodyFront n (λ body r. next body r ≡ taken a rest) bytes
    by_size true e g = absurd (cc)
    by_size false e g =
        let enough : n ≤ length bytes = ltb-false (length bytes) n e in
        record { body = take n bytes; r = drop n bytes; is = sym (take-append-drop n bytes); long = omega (arith, length-take n bytes, enough); then = g }

-- no token is empty
never_empty : {A : Type 0} (f : Format A) (a : A) → is_token_due (due_of f) ≡ true → Spells f a [] → ⊥
never_empty (gives v) a h s = absurd (cc)
never_empty (refuses n) a h s = s
never_empty (due_token letters judge next) a h s = absurd (omega (arith, ap length s.is, length-append (token letters s.n) s.r, length-append letters (digits 8 s.n), digits_length 8 s.n))
never_empty (due_body n next) a h s = absurd (cc)
never_empty (due_letter next) a h s = absurd (cc)

pub record Front {A : Type 0} (f : Format A) (a : A) (bytes rest : Text) : Type 0 where
  pub text : Text
  pub is : bytes ≡ text ++ rest
  pub spells : Spells f a text

at_front : {A : Type 0} (next : ℕ → Format A) (a : A) (b : ℕ) (bytes rest text : Text) → is_token_due (due_of (next b)) ≡ true → b ∷ bytes ≡ text ++ rest → Spells (next b) a text → Spells (due_letter next) a text
at_front next a b bytes rest [] token e s = absurd (never_empty (next b) a token s)
at_front next a b bytes rest (c ∷ text) token e s = let same : b ≡ c = cc in subst (λ (x : ℕ). Spells (next x) a (c ∷ text)) same s

-- what reads as a value begins with its spelling
pub reads_spelling : {A : Type 0} (f : Format A) (a : A) (bytes rest : Text) → Sound f → reading f bytes ≡ taken a rest → Front f a bytes rest
reads_spelling (gives v) a bytes rest sound h = record { text = []; is = cc; spells = (cc, refl) }
reads_spelling (refuses n) a bytes rest sound h = absurd (cc)
reads_spelling (due_token letters judge next) a bytes rest sound h =
    let t = token_front letters judge bytes (λ n r. reading (next n) r) a rest h in
    let later = reads_spelling (next t.n) a t.r rest (sound t.n).1 t.then in
    record {
      text = token letters t.n ++ later.text;
      is = t.is ∙ ap (λ (x : Text). token letters t.n ++ x) later.is ∙ sym (append_assoc (token letters t.n) later.text rest);
      spells = record { n = t.n; r = later.text; is = refl; small = t.small; passes = t.passes; then = later.spells };
    }
reads_spelling (due_body n next) a bytes rest sound h =
    let b = body_front n bytes (λ body r. reading (next body) r) a rest h in
    let later = reads_spelling (next b.body) a b.r rest (sound b.body) b.then in
    record {
      text = b.body ++ later.text;
      is = b.is ∙ ap (λ (x : Text). b.body ++ x) later.is ∙ sym (append_assoc b.body later.text rest);
      spells = record { body = b.body; r = later.text; is = refl; long = b.long; then = later.spells };
    }
reads_spelling (due_letter next) a [] rest sound h = absurd (cc)
reads_spelling (due_letter next) a (b ∷ bytes) rest sound h =
    let later = reads_spelling (next b) a (b ∷ bytes) rest (sound b).1 h in
    record { text = later.text; is = later.is; spells = at_front next a b bytes rest later.text (sound b).0 later.is later.spells }

-- no value has two spellings that one text begins with, and no spelling begins another
pub apart : {A : Type 0} (f : Format A) (a b : A) (s t x y : Text) → Spells f a s → Spells f b t → s ++ x ≡ t ++ y → (a ≡ b) × (x ≡ y)
apart {A} f a b s t x y p q e = let same : ◌≡◌ {A = Step A} (taken a x) (taken b y) = sym (spelling_reads f a s x p) ∙ ap (reading f) e ∙ spelling_reads f b t y q in (cc, cc)

-- a token with the body behind it
pub field_spells : {A : Type 0} (letters body r : Text) (judge : ℕ → Option ℕ) (next : ℕ → Text → Format A) (a : A) → length body ≤ 67108864 → judge (length body) ≡ None → Spells (next (length body) body) a r
    → Spells (due_token letters judge (λ n. due_body n (next n))) a (field letters body ++ r)
field_spells letters body r judge next a size passes s = record {
  n = length body;
  r = body ++ r;
  is = append_assoc (token letters (length body)) body r;
  small = omega (arith, size);
  passes = passes;
  then = record { body = body; r = r; is = refl; long = refl; then = s };
}

pub field_is : (letters bytes body r r' : Text) (n : ℕ) → bytes ≡ token letters n ++ r → r ≡ body ++ r' → length body ≡ n → bytes ≡ field letters body ++ r'
field_is letters bytes body r r' n e f g =
    e ∙ ap (λ (x : Text). token letters n ++ x) f ∙ ap (λ (k : ℕ). token letters k ++ (body ++ r')) (sym g) ∙ sym (append_assoc (token letters (length body)) body r')
