-- A number below 2^32 and its eight digits, both ways; and tokens.
use Rattle.std.proofs.Common.{◌≡◌, ℕ, zero, suc, ◌+◌, ◌-◌, ◌*◌, ◌/◌, ◌%◌, ◌^◌, ◌<◌, ◌≤◌, List, [], ◌∷◌, ◌++◌, refl, sym, ◌∙◌, ap, arith, Option, Some, None, cond, true, false, Bool, append_assoc, length, length-append, inl, inr}
use Rattle.std.specs.Prelude.{◌==◌, nat_le, nat_lt, ◌&&◌}
use Rattle.std.proofs.Math.Nat.{pow-suc}
use Rattle.std.proofs.lemmas.Bool.{and_parts, eq-eqb, eqb-true, leb-true, le-leb, lt-leb, lt-ltb, le-ltb}
use Rattle.std.proofs.lemmas.Bool.Decides.{nat_tests}
use Rattle.job_frames.specs.Spelling.{digit, digits, token}
use Rattle.job_frames.specs.Fields.{Step, short, refused, taken, ◌>>=◌, letters_at, digits_at, number_at, digit_of}
use Rattle.job_frames.proofs.FieldLemmas.{digit_small, chosen}

pub digits_length : (k n : ℕ) → length (digits k n) ≡ k
unfolding digits
digits_length zero n = refl
digits_length (suc k) n = omega (arith, length-append (digits k (n / 16)) (digit (n % 16) ∷ []), digits_length k (n / 16))

-- the digits but the last, and then the last
digits_last : (k acc : ℕ) (bytes : List ℕ) → digits_at (suc k) acc bytes ≡ (digits_at k acc bytes >>= λ m r. digits_at 1 m r)
unfolding digits_at
digits_last zero acc bytes = refl
digits_last (suc k) acc [] = refl
digits_last (suc k) acc (b ∷ bs) = by_digit (digit_of b) (λ d. digits_last k (16 * acc + d) bs)
  where
    by_digit : (o : Option ℕ) → ((d : ℕ) → digits_at (suc k) (16 * acc + d) bs ≡ (digits_at k (16 * acc + d) bs >>= λ m r. digits_at 1 m r)) → ◌≡◌ {A = Step ℕ} (elim o [ Some d ↦ digits_at (suc k) (16 * acc + d) bs | None ↦ refused 4 ])
        (elim o [ Some d ↦ digits_at k (16 * acc + d) bs | None ↦ refused 4 ] >>= λ m r. digits_at 1 m r)
    by_digit (Some d) ih = ih d
    by_digit None ih = refl

digit_read : (d : ℕ) → d < 16 → digit_of (digit d) ≡ Some d
unfolding digit_of
digit_read d h = by_size (nat_lt d 10) refl
  where
    by_size : (t : Bool) → nat_lt d 10 ≡ t → digit_of (cond t (48 + d) (87 + d)) ≡ Some d
    by_size true e = let k : d < 10 = grind (arith, nat_tests) in rw (le-leb 48 (48 + d) (omega (arith, k)), le-leb (48 + d) 57 (omega (arith, k))) (ap Some (omega (arith, k)))
    by_size false e =
        let k : 10 ≤ d = grind (arith, nat_tests) in
        rw (le-leb 48 (87 + d) (omega (arith, k)), lt-leb (87 + d) 57 (omega (arith, k)), le-leb 97 (87 + d) (omega (arith, k)), le-leb (87 + d) 102 (omega (arith, k))) (ap Some (omega (arith, k)))

digit_spelled : (b d : ℕ) → digit_of b ≡ Some d → digit d ≡ b
unfolding digit_of
digit_spelled b d h =
    elim (chosen (nat_le 48 b && nat_le b 57) (b - 48) (cond (nat_le 97 b && nat_le b 102) (Some (b - 87)) None) d h) [
      | inl (t, e) ↦ low (and_parts (nat_le 48 b) (nat_le b 57) t) e
      | inr o ↦ elim (chosen (nat_le 97 b && nat_le b 102) (b - 87) None d o) [
        | inl (t, e) ↦ high (and_parts (nat_le 97 b) (nat_le b 102) t) e
        | inr n ↦ absurd (cc)
      ]
    ]
  where
    low : (nat_le 48 b ≡ true) × (nat_le b 57 ≡ true) → b - 48 ≡ d → digit d ≡ b
    low t e =
        let u = leb-true 48 b t.0 in
        let v = leb-true b 57 t.1 in
        let s : nat_lt d 10 ≡ true = lt-ltb d 10 (omega (arith, e, u, v)) in
        rw s (omega (arith, e, u, v))

    high : (nat_le 97 b ≡ true) × (nat_le b 102 ≡ true) → b - 87 ≡ d → digit d ≡ b
    high t e =
        let u = leb-true 97 b t.0 in
        let v = leb-true b 102 t.1 in
        let s : nat_lt d 10 ≡ false = le-ltb d 10 (omega (arith, e, u, v)) in
        rw s (omega (arith, e, u, v))

-- a number is read from its digits
pub digits_read : (k n : ℕ) (rest : List ℕ) → n < 16 ^ k → digits_at k 0 (digits k n ++ rest) ≡ taken n rest
unfolding digits_at digits
digits_read zero n rest h = let none : n ≡ 0 = omega arith in rw none refl
digits_read (suc k) n rest h =
    let power : 16 ^ suc k ≡ 16 ^ k * 16 = pow-suc 16 k in
    let fewer : n / 16 < 16 ^ k = omega (arith, power) in
    let last : n % 16 < 16 = omega arith in
    let whole : 16 * (n / 16) + n % 16 ≡ n = omega arith in
    ap (digits_at (suc k) 0) (append_assoc (digits k (n / 16)) (digit (n % 16) ∷ []) rest)
    ∙ digits_last k 0 (digits k (n / 16) ++ (digit (n % 16) ∷ rest))
    ∙ ap (λ (s : Step ℕ). s >>= λ m r. digits_at 1 m r) (digits_read k (n / 16) (digit (n % 16) ∷ rest) fewer)
    ∙ ap (λ (o : Option ℕ). elim o [ Some d ↦ digits_at 0 (16 * (n / 16) + d) rest | None ↦ refused 4 ]) (digit_read (n % 16) last)
    ∙ ap (λ (m : ℕ). taken m rest) whole

-- digits are those of the number that is read from them
pub digits_spelled : (k n : ℕ) (bytes rest : List ℕ) → digits_at k 0 bytes ≡ taken n rest → (bytes ≡ digits k n ++ rest) × (n < 16 ^ k)
unfolding digits_at digits
digits_spelled zero n bytes rest h =
    let same : bytes ≡ rest = cc in
    let none : 0 ≡ n = cc in
    (same, omega (arith, none))
digits_spelled (suc k) n bytes rest h = by_step (λ m r e. digits_spelled k m bytes r e) (digits_at k 0 bytes) refl (sym (digits_last k 0 bytes) ∙ h)
  where
    last : ((m : ℕ) (r : List ℕ) → digits_at k 0 bytes ≡ taken m r → (bytes ≡ digits k m ++ r) × (m < 16 ^ k)) → (m b d : ℕ) (r : List ℕ) → digits_at k 0 bytes ≡ taken m (b ∷ r) → digit_of b ≡ Some d → taken (16 * m + d) r ≡ taken n rest → (bytes ≡ digits (suc k) n ++ rest) × (n < 16 ^ suc k)
    last ih m b d r e f g =
        let before = ih m (b ∷ r) e in
        let small = digit_small b d f in
        let number : 16 * m + d ≡ n = cc in
        let same : r ≡ rest = cc in
        let front : n / 16 ≡ m = omega arith in
        let back : n % 16 ≡ d = omega arith in
        let power : 16 ^ suc k ≡ 16 ^ k * 16 = pow-suc 16 k in (
          before.0
              ∙ sym (append_assoc (digits k m) (b ∷ []) r)
              ∙ ap (λ (x : ℕ). (digits k m ++ (x ∷ [])) ++ r) (sym (digit_spelled b d f))
              ∙ ap (λ (x : ℕ). (digits k m ++ (digit x ∷ [])) ++ r) (sym back)
              ∙ ap (λ (x : ℕ). (digits k x ++ (digit (n % 16) ∷ [])) ++ r) (sym front)
              ∙ ap (λ (x : List ℕ). (digits k (n / 16) ++ (digit (n % 16) ∷ [])) ++ x) same,
          omega (arith, power, before.1),
        )

    by_digit : ((m : ℕ) (r : List ℕ) → digits_at k 0 bytes ≡ taken m r → (bytes ≡ digits k m ++ r) × (m < 16 ^ k)) → (m b : ℕ) (r : List ℕ) (o : Option ℕ) → digits_at k 0 bytes ≡ taken m (b ∷ r) → digit_of b ≡ o
        → ◌≡◌ {A = Step ℕ} (elim o [ Some d ↦ digits_at 0 (16 * m + d) r | None ↦ refused 4 ]) (taken n rest) → (bytes ≡ digits (suc k) n ++ rest) × (n < 16 ^ suc k)
    by_digit ih m b r (Some d) e f g = last ih m b d r e f g
    by_digit ih m b r None e f g = absurd (cc)

    by_step : ((m : ℕ) (r : List ℕ) → digits_at k 0 bytes ≡ taken m r → (bytes ≡ digits k m ++ r) × (m < 16 ^ k)) → (s : Step ℕ) → digits_at k 0 bytes ≡ s → (s >>= λ m r. digits_at 1 m r) ≡ taken n rest → (bytes ≡ digits (suc k) n ++ rest) × (n < 16 ^ suc k)
    by_step ih short e g = absurd (cc)
    by_step ih (refused why) e g = absurd (cc)
    by_step ih (taken m []) e g = absurd (cc)
    by_step ih (taken m (b ∷ r)) e g = by_digit ih m b r (digit_of b) e refl g

letters_read : (letters rest : List ℕ) → letters_at letters (letters ++ rest) ≡ taken tt rest
unfolding letters_at
letters_read [] rest = refl
letters_read (c ∷ cs) rest = rw (eq-eqb c c refl) (letters_read cs rest)

letters_spelled : (letters bytes rest : List ℕ) → letters_at letters bytes ≡ taken tt rest → bytes ≡ letters ++ rest
unfolding letters_at
letters_spelled [] bytes rest h = cc
letters_spelled (c ∷ cs) [] rest h = absurd (cc)
letters_spelled (c ∷ cs) (b ∷ bs) rest h = by_test (λ g. letters_spelled cs bs rest g) (b == c) refl h
  where
    by_test : (letters_at cs bs ≡ taken tt rest → bs ≡ cs ++ rest) → (t : Bool) → (b == c) ≡ t → cond t (letters_at cs bs) (refused 3) ≡ taken tt rest → b ∷ bs ≡ c ∷ (cs ++ rest)
    by_test ih true e g = let same : b ≡ c = eqb-true b c e in rw (same, ih g) refl
    by_test ih false e g = absurd (cc)

-- a token is read from its spelling
pub number_read : (letters rest : List ℕ) (n : ℕ) → n < 16 ^ 8 → number_at letters (token letters n ++ rest) ≡ taken n rest
unfolding number_at
number_read letters rest n h =
    ap (λ (b : List ℕ). letters_at letters b >>= λ u r. digits_at 8 0 r) (append_assoc letters (digits 8 n) rest)
    ∙ ap (λ (s : Step (Unit {0})). s >>= λ u r. digits_at 8 0 r) (letters_read letters (digits 8 n ++ rest))
    ∙ digits_read 8 n rest h

-- what a token was read from is its spelling
pub number_spelled : (letters bytes rest : List ℕ) (n : ℕ) → number_at letters bytes ≡ taken n rest → (bytes ≡ token letters n ++ rest) × (n < 16 ^ 8)
unfolding number_at
number_spelled letters bytes rest n h = by_step (letters_at letters bytes) refl h
  where
    by_step : (s : Step (Unit {0})) → letters_at letters bytes ≡ s → (s >>= λ u r. digits_at 8 0 r) ≡ taken n rest → (bytes ≡ token letters n ++ rest) × (n < 16 ^ 8)
    by_step short e g = absurd (cc)
    by_step (refused why) e g = absurd (cc)
    by_step (taken u r) e g =
        let tail = digits_spelled 8 n r rest g in
        (letters_spelled letters bytes r e ∙ ap (λ (b : List ℕ). letters ++ b) tail.0 ∙ sym (append_assoc letters (digits 8 n) rest), tail.1)
