-- The newline that ends a body, where it stands and where it is added.
use Rattle.std.proofs.Common.{◌≡◌, ◌≢◌, if◌then◌else◌, ℕ, ◌<◌, ◌-◌, ◌+◌, ◌≤◌, ◌∷◌, ◌++◌, ◌==◌, [], List, length, get_or, take, drop, refl, sym, ◌∙◌, ap, arith, Bool, true, false}
use Rattle.std.proofs.lemmas.Bool.{ne_eqb, eqb-true}
use Rattle.std.proofs.lemmas.List.{take-append-drop, length-drop, get_or-drop, get_or_default}
use Rattle.pp_tokens.specs.Phases.{newline_ended}

-- a body that ends with a newline, and one that doesn't
pub ended_with : (front : List ℕ) → newline_ended (front ++ (10 ∷ [])) ≡ front ++ (10 ∷ [])
unfolding newline_ended
ended_with [] = refl
ended_with (b ∷ []) = refl
ended_with (b ∷ d ∷ bs) = ap (λ (l : List ℕ). b ∷ l) (ended_with (d ∷ bs))

pub unended_with : (front : List ℕ) (last : ℕ) → last ≢ 10 → newline_ended (front ++ (last ∷ [])) ≡ (front ++ (last ∷ [])) ++ (10 ∷ [])
unfolding newline_ended
unended_with [] last other = let e : (last == 10) ≡ false = ne_eqb last 10 other in rw e refl
unended_with (b ∷ []) last other = ap (λ (l : List ℕ). b ∷ l) (unended_with [] last other)
unended_with (b ∷ d ∷ bs) last other = ap (λ (l : List ℕ). b ∷ l) (unended_with (d ∷ bs) last other)

-- a list of one
lone : (xs : List ℕ) → length xs ≡ 1 → xs ≡ get_or xs 0 0 ∷ []
lone [] one = absurd (omega arith)
lone (x ∷ []) one = refl
lone (x ∷ y ∷ xs) one = absurd (omega arith)

pub cut_last : (body front last : List ℕ) (n : ℕ) → front ≡ take n body → last ≡ drop n body → length last + n ≡ length body → n ≡ length body - 1 → 0 < length body
    → body ≡ front ++ (get_or last 0 0 ∷ [])
cut_last body front last n f l size is some =
    sym (take-append-drop n body) ∙ (λ i. sym f i ++ sym l i) ∙ ap (λ (xs : List ℕ). front ++ xs) (lone last (omega arith))

-- the lines of a body that the newlines end, without the last of these
pub lines_in : List ℕ → List ℕ
lines_in [] = []
lines_in (b ∷ []) = if b == 10 then [] else b ∷ []
lines_in (b ∷ c ∷ bs) = b ∷ lines_in (c ∷ bs)

one_line : (t : Bool) (b : ℕ) → (b == 10) ≡ t → newline_ended (b ∷ []) ≡ (if b == 10 then [] else b ∷ []) ++ (10 ∷ [])
unfolding newline_ended
one_line true b is = rw is (ap (λ k. k ∷ []) (eqb-true b 10 is))
one_line false b is = rw is refl

pub ended_lines : (body : List ℕ) → 0 < length body → newline_ended body ≡ lines_in body ++ (10 ∷ [])
unfolding newline_ended lines_in
ended_lines [] some = absurd (omega arith)
ended_lines (b ∷ []) some = one_line (b == 10) b refl
ended_lines (b ∷ c ∷ bs) some = ap (λ (l : List ℕ). b ∷ l) (ended_lines (c ∷ bs) (omega arith))

pub lines_shorter : (body : List ℕ) → length (lines_in body) ≤ length body
unfolding lines_in
lines_shorter [] = omega arith
lines_shorter (b ∷ []) = one (b == 10) b
  where
    one : (t : Bool) (b : ℕ) → length (if t then [] else b ∷ []) ≤ 1
    one true b = omega arith
    one false b = omega arith
lines_shorter (b ∷ c ∷ bs) = omega (arith, lines_shorter (c ∷ bs))

-- a body and its last byte
pub last_byte : (body : List ℕ) (k b : ℕ) → k ≡ length body → b ≡ get_or body (k - 1) b → 0 < length body → body ≡ take (k - 1) body ++ (b ∷ [])
last_byte body k b size at some =
    let n = k - 1 in
    let end : n + 0 ≡ n = omega arith in
    let same : get_or (drop n body) 0 0 ≡ b = get_or-drop n body 0 0 ∙ ap (λ i. get_or body i 0) end ∙ get_or_default body n 0 b (omega (arith, size, some)) ∙ sym at in
    cut_last body (take n body) (drop n body) n refl refl (omega (arith, length-drop n body, size, some)) (omega (arith, size)) some
    ∙ ap (λ d. take n body ++ (d ∷ [])) same
