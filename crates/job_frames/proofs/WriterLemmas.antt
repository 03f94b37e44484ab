-- Writing digits from the last to the first.
use Rattle.std.proofs.Common.{◌≡◌, ℕ, suc, ◌+◌, ◌-◌, ◌/◌, ◌%◌, ◌<◌, ◌≤◌, List, [], ◌∷◌, ◌++◌, length, drop, set, sym, ◌∙◌, ap, arith, append_assoc}
use Rattle.std.proofs.lemmas.Grind.{drop-set_at}
use Rattle.job_frames.specs.Spelling.{digit, digits}

-- one more digit, at the place before those that stand
pub digit_next : (bytes : List ℕ) (n i rest d : ℕ) → i < 8 → length bytes ≡ 8 → d ≡ digit (rest % 16) → digits 8 n ≡ digits (8 - i) rest ++ drop (8 - i) bytes
    → digits 8 n ≡ digits (8 - (i + 1)) (rest / 16) ++ drop (8 - (i + 1)) (set bytes (7 - i) d)
unfolding digits
digit_next bytes n i rest d h eight is same =
    let k : 8 - i ≡ suc (8 - (i + 1)) = omega arith in
    let at : 8 - (i + 1) ≡ 7 - i = omega arith in
    let past : 7 - i + 1 ≡ 8 - i = omega arith in
    same
    ∙ ap (λ (x : ℕ). digits x rest ++ drop (8 - i) bytes) k
    ∙ append_assoc (digits (8 - (i + 1)) (rest / 16)) (digit (rest % 16) ∷ []) (drop (8 - i) bytes)
    ∙ ap (λ (b : List ℕ). digits (8 - (i + 1)) (rest / 16) ++ b)
    (ap (λ (x : ℕ). x ∷ drop (8 - i) bytes) (sym is) ∙ ap (λ (x : ℕ). d ∷ drop x bytes) (sym past) ∙ sym (drop-set_at bytes (7 - i) (8 - (i + 1)) d at (omega (arith, eight))))

pub digits_done : (bytes : List ℕ) (n i rest : ℕ) → 8 ≤ i → digits 8 n ≡ digits (8 - i) rest ++ drop (8 - i) bytes → bytes ≡ digits 8 n
unfolding digits
digits_done bytes n i rest h same = let none : 8 - i ≡ 0 = omega arith in sym (same ∙ ap (λ (x : ℕ). digits x rest ++ drop x bytes) none)

-- five parts, written one after another
pub chained : (o0 o1 o2 o3 o4 d c a w i : List ℕ) → o0 ≡ [] → o1 ≡ o0 ++ d → o2 ≡ o1 ++ c → o3 ≡ o2 ++ (a ++ w) → o4 ≡ o3 ++ i → o4 ≡ d ++ (c ++ (a ++ (w ++ i)))
chained o0 o1 o2 o3 o4 d c a w i e0 e1 e2 e3 e4 =
    e4 ∙ ap (λ (x : List ℕ). x ++ i) (e3 ∙ ap (λ (x : List ℕ). x ++ (a ++ w)) (e2 ∙ ap (λ (x : List ℕ). x ++ c) (e1 ∙ ap (λ (x : List ℕ). x ++ d) e0)))
    ∙ append_assoc (d ++ c) (a ++ w) i ∙ append_assoc d c ((a ++ w) ++ i) ∙ ap (λ (x : List ℕ). d ++ (c ++ x)) (append_assoc a w i)

-- four parts, written one after another behind others
pub four : (o0 o1 o2 o3 o4 a b c d : List ℕ) → o1 ≡ o0 ++ a → o2 ≡ o1 ++ b → o3 ≡ o2 ++ c → o4 ≡ o3 ++ d → o4 ≡ o0 ++ (a ++ (b ++ (c ++ d)))
four o0 o1 o2 o3 o4 a b c d e1 e2 e3 e4 =
    e4 ∙ ap (λ (x : List ℕ). x ++ d) (e3 ∙ ap (λ (x : List ℕ). x ++ c) (e2 ∙ ap (λ (x : List ℕ). x ++ b) e1))
    ∙ append_assoc ((o0 ++ a) ++ b) c d ∙ append_assoc (o0 ++ a) b (c ++ d) ∙ append_assoc o0 a (b ++ (c ++ d))

-- four parts, written one after another, and what stands behind them
pub four_before : (o0 o1 o2 o3 o4 a b c d rest : List ℕ) → o0 ≡ [] → o1 ≡ o0 ++ a → o2 ≡ o1 ++ b → o3 ≡ o2 ++ c → o4 ≡ o3 ++ d → o4 ++ rest ≡ a ++ (b ++ (c ++ (d ++ rest)))
four_before o0 o1 o2 o3 o4 a b c d rest e0 e1 e2 e3 e4 =
    ap (λ (x : List ℕ). x ++ rest) (four o0 o1 o2 o3 o4 a b c d e1 e2 e3 e4 ∙ ap (λ (x : List ℕ). x ++ (a ++ (b ++ (c ++ d)))) e0)
    ∙ append_assoc a (b ++ (c ++ d)) rest ∙ ap (λ (x : List ℕ). a ++ x) (append_assoc b (c ++ d) rest ∙ ap (λ (x : List ℕ). b ++ x) (append_assoc c d rest))
