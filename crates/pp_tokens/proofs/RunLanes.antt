-- Bytes that are looked at all at once: at which of them a run ends.
use Rattle.std.proofs.Common.{◌≡◌, ℕ, zero, suc, ◌+◌, ◌-◌, ◌%◌, ◌^◌, ◌<◌, ◌≤◌, Bool, true, false, cond, not, eqb, ltb, bit_and, bit_or, List, [], ◌∷◌, map, length, replicate, take, drop, take_while, refl, ap, sym, subst, ◌∙◌, arith}
use Rattle.std.specs.List.{prefix_len}
use Rattle.std.specs.Int.Count.{count_trailing_zeros}
use Rattle.std.specs.Simd.Lanes.{zip2, mask_l, top, Each1}
use Rattle.std.proofs.lemmas.Simd.{first_set_mask_l, mask_l-mod}
use Rattle.std.proofs.lemmas.List.{length-map, length-take-le}
use Rattle.std.proofs.lemmas.List.Sums.{prefix_len-le-length}
use Rattle.pp_tokens.specs.Grammar.{is_identifier_byte}
use Rattle.pp_tokens.specs.parts.TextLines.{is_ordinary}
use Rattle.pp_tokens.proofs.ByteTables.{agree_below, agree_at}

-- what the operations make of a lane and of another
abbrev less : ℕ → ℕ → ℕ
less a b = cond (ltb a b) 255 0

abbrev same : ℕ → ℕ → ℕ
same a b = cond (eqb a b) 255 0

abbrev other : ℕ → ℕ → ℕ
other a b = cond (not (eqb a b)) 255 0

abbrev minus : ℕ → ℕ → ℕ
minus a b = (a + (256 - b)) % 256

-- the lanes of bytes with which no identifier goes on
abbrev word_ends : ℕ → List ℕ → List ℕ
word_ends n bs =
    zip2 bit_and
    (zip2 bit_and
    (zip2 bit_and
    (zip2 less (replicate n 25) (zip2 minus (zip2 bit_or bs (replicate n 32)) (replicate n 97)))
    (zip2 less (replicate n 9) (zip2 minus bs (replicate n 48))))
    (zip2 bit_and (zip2 other bs (replicate n 95)) (zip2 other bs (replicate n 36))))
    (zip2 less bs (replicate n 128))

abbrev word_end : ℕ → ℕ
word_end b = bit_and (bit_and (bit_and (less 25 (minus (bit_or b 32) 97)) (less 9 (minus b 48))) (bit_and (other b 95) (other b 36))) (less b 128)

word_lane : (b : ℕ) → b < 256 → top 7 (word_end b) ≡ not (is_identifier_byte b)
unfolding agree_below
word_lane b lt = agree_at (λ b. top 7 (word_end b)) (λ b. not (is_identifier_byte b)) 256 refl b lt

word_lanes : (n : ℕ) (bs : List ℕ) → length bs ≡ n → Each1 (λ b. b < 256) bs → map (top 7) (word_ends n bs) ≡ map (λ b. not (is_identifier_byte b)) bs
word_lanes zero [] long small = refl
word_lanes zero (b ∷ bs) long small = absurd (omega (arith, long))
word_lanes (suc n) [] long small = absurd (omega (arith, long))
word_lanes (suc n) (b ∷ bs) long small = λ i. word_lane b small.0 i ∷ word_lanes n bs (omega (arith, long)) small.1 i

-- those of bytes that aren't ordinary
abbrev text_ends : ℕ → List ℕ → List ℕ
text_ends n bs =
    zip2 bit_or
    (zip2 bit_or (zip2 same bs (replicate n 34)) (zip2 same bs (replicate n 39)))
    (zip2 bit_or (zip2 same bs (replicate n 10)) (zip2 same bs (replicate n 47)))

abbrev text_end : ℕ → ℕ
text_end b = bit_or (bit_or (same b 34) (same b 39)) (bit_or (same b 10) (same b 47))

text_lane : (b : ℕ) → b < 256 → top 7 (text_end b) ≡ not (is_ordinary b)
unfolding agree_below
text_lane b lt = agree_at (λ b. top 7 (text_end b)) (λ b. not (is_ordinary b)) 256 refl b lt

text_lanes : (n : ℕ) (bs : List ℕ) → length bs ≡ n → Each1 (λ b. b < 256) bs → map (top 7) (text_ends n bs) ≡ map (λ b. not (is_ordinary b)) bs
text_lanes zero [] long small = refl
text_lanes zero (b ∷ bs) long small = absurd (omega (arith, long))
text_lanes (suc n) [] long small = absurd (omega (arith, long))
text_lanes (suc n) (b ∷ bs) long small = λ i. text_lane b small.0 i ∷ text_lanes n bs (omega (arith, long)) small.1 i

-- the mask of 16 lanes
mask_of : (p : ℕ → Bool) (ms : List Bool) (bs : List ℕ) → length bs ≡ 16 → ms ≡ map p bs → mask_l ms % 2 ^ 64 ≡ mask_l (map p bs)
mask_of p ms bs long is = ap (λ (ns : List Bool). mask_l ns % 2 ^ 64) is ∙ mask_l-mod (map p bs) 64 (omega (arith, length-map bs p, long))

pub word_mask : (bs : List ℕ) → length bs ≡ 16 → Each1 (λ b. b < 256) bs → mask_l (map (top 7) (word_ends 16 bs)) % 2 ^ 64 ≡ mask_l (map (λ b. not (is_identifier_byte b)) bs)
word_mask bs long small = mask_of (λ b. not (is_identifier_byte b)) _ bs long (word_lanes 16 bs long small)

pub text_mask : (bs : List ℕ) → length bs ≡ 16 → Each1 (λ b. b < 256) bs → mask_l (map (top 7) (text_ends 16 bs)) % 2 ^ 64 ≡ mask_l (map (λ b. not (is_ordinary b)) bs)
text_mask bs long small = mask_of (λ b. not (is_ordinary b)) _ bs long (text_lanes 16 bs long small)

twice : (b : Bool) → not (not b) ≡ b
twice true = refl
twice false = refl

prefix_same : (p q : ℕ → Bool) → ((b : ℕ) → p b ≡ q b) → (bs : List ℕ) → prefix_len p bs ≡ prefix_len q bs
prefix_same p q same [] = refl
prefix_same p q same (b ∷ bs) = λ i. cond (same b i) (1 + prefix_same p q same bs i) 0

-- how many of 16 bytes pass a test, by the mask of those that don't
pub near : (p : ℕ → Bool) (bs : List ℕ) → length bs ≡ 16
    → cond (eqb (mask_l (map (λ b. not (p b)) bs)) 0) 16 (count_trailing_zeros 64 (mask_l (map (λ b. not (p b)) bs))) ≡ prefix_len p bs
near p bs long = first_set_mask_l (λ b. not (p b)) bs 16 long (omega arith) ∙ prefix_same (λ b. not (not (p b))) p (λ b. twice (p b)) bs

-- a run that ends in a front
near_end : (p : ℕ → Bool) (n : ℕ) (bs : List ℕ) → prefix_len p (take n bs) < n → prefix_len p (take n bs) ≡ prefix_len p bs
near_end p zero bs few = absurd (omega (arith, few))
near_end p (suc n) [] few = refl
near_end p (suc n) (b ∷ bs) few = by_test (p b) refl (near_end p n bs)
  where
    by_test : (t : Bool) → p b ≡ t → (prefix_len p (take n bs) < n → prefix_len p (take n bs) ≡ prefix_len p bs)
        → prefix_len p (take (suc n) (b ∷ bs)) ≡ prefix_len p (b ∷ bs)
    by_test true e ih =
        let fewer : 1 + prefix_len p (take n bs) < suc n = subst (λ (t : Bool). cond t (1 + prefix_len p (take n bs)) 0 < suc n) e few in
        rw e (omega (arith, ih (omega (arith, fewer))))
    by_test false e ih = rw e refl

pub ends_near : (p : ℕ → Bool) (n : ℕ) (bs : List ℕ) → prefix_len p (take n bs) < n → prefix_len p (take n bs) ≡ length (take_while p bs)
ends_near p n bs few = near_end p n bs few ∙ sym (length-take-le (prefix_len p bs) bs (prefix_len-le-length p bs))

-- a run that goes on behind a front
far_end : (p : ℕ → Bool) (n : ℕ) (bs : List ℕ) → n ≤ prefix_len p (take n bs) → prefix_len p bs ≡ n + prefix_len p (drop n bs)
far_end p zero bs all = omega arith
far_end p (suc n) [] all = absurd (omega (arith, all))
far_end p (suc n) (b ∷ bs) all = by_test (p b) refl (far_end p n bs)
  where
    by_test : (t : Bool) → p b ≡ t → (n ≤ prefix_len p (take n bs) → prefix_len p bs ≡ n + prefix_len p (drop n bs))
        → prefix_len p (b ∷ bs) ≡ suc n + prefix_len p (drop (suc n) (b ∷ bs))
    by_test true e ih =
        let more : suc n ≤ 1 + prefix_len p (take n bs) = subst (λ (t : Bool). suc n ≤ cond t (1 + prefix_len p (take n bs)) 0) e all in
        rw e (omega (arith, ih (omega (arith, more))))
    by_test false e ih =
        let none : suc n ≤ 0 = subst (λ (t : Bool). suc n ≤ cond t (1 + prefix_len p (take n bs)) 0) e all in
        absurd (omega (arith, none))

pub goes_far : (p : ℕ → Bool) (n : ℕ) (bs : List ℕ) → n ≤ prefix_len p (take n bs) → length (take_while p bs) ≡ n + length (take_while p (drop n bs))
goes_far p n bs all =
    length-take-le (prefix_len p bs) bs (prefix_len-le-length p bs)
    ∙ far_end p n bs all
    ∙ ap (λ (k : ℕ). n + k) (sym (length-take-le (prefix_len p (drop n bs)) (drop n bs) (prefix_len-le-length p (drop n bs))))
