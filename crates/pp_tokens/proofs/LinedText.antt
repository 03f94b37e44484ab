-- A text with the places of its splices, with more bytes and with one more splice.
use Rattle.std.specs.Prelude.{◌≡◌, ℕ, suc, ◌+◌, ◌≤◌, ◌<◌, Bool, true, false, cond, List, [], ◌∷◌, ◌++◌, length, refl, ◌==◌, nat_le}
use Rattle.std.proofs.Common.{sym, ◌∙◌, ap, arith}
use Rattle.std.proofs.lemmas.Bool.{lt-leb, le-leb}
use Rattle.std.proofs.Math.Nat.{add-zero}
use Rattle.pp_tokens.specs.Phases.{Cell, cell, numbered}
use Rattle.pp_tokens.specs.Lined.{spliced_up_to, lined, Rising}
use Rattle.pp_tokens.specs.parts.Seen.{Ascends}
use Rattle.pp_tokens.specs.parts.Pieces.{line_behind}
use Rattle.pp_tokens.proofs.Places.{ascends_last}

-- THE LINE BEHIND A TEXT

pub line_behind-append : (line : ℕ) (xs ys : List ℕ) → line_behind line (xs ++ ys) ≡ line_behind (line_behind line xs) ys
unfolding line_behind
line_behind-append line [] ys = refl
line_behind-append line (x ∷ xs) ys = line_behind-append (cond (x == 10) (line + 1) line) xs ys

pub next_line : (t : Bool) (line k : ℕ) → cond t (line + k + 1) (line + k) ≡ cond t (line + 1) line + k
next_line true line k = omega arith
next_line false line k = refl

-- the line is further on by as many as the first line is
pub line_behind-add : (line k : ℕ) (xs : List ℕ) → line_behind (line + k) xs ≡ line_behind line xs + k
unfolding line_behind
line_behind-add line k [] = refl
line_behind-add line k (x ∷ xs) =
    ap (λ n. line_behind n xs) (next_line (x == 10) line k) ∙ line_behind-add (cond (x == 10) (line + 1) line) k xs

-- SPLICES BEFORE A PLACE, AND BEHIND IT

counted : (t : Bool) (s : ℕ) (xs ys : List ℕ) → length xs ≡ length ys → length (cond t (s ∷ xs) xs) ≡ length (cond t (s ∷ ys) ys)
counted true s xs ys same = ap suc same
counted false s xs ys same = same

-- a later splice counts for no byte before it
splice_behind : (splices : List ℕ) (place at : ℕ) → at < place → spliced_up_to (splices ++ (place ∷ [])) at ≡ spliced_up_to splices at
splice_behind [] place at before = let e : nat_le place at ≡ false = lt-leb place at before in rw e refl
splice_behind (s ∷ splices) place at before =
    let behind : spliced_up_to (splices ++ (place ∷ [])) at ≡ spliced_up_to splices at = splice_behind splices place at before in
    counted (nat_le s at) s _ _ behind

pub lined_splice : (splices : List ℕ) (place at line : ℕ) (bs : List ℕ) → at + length bs ≤ place → lined (splices ++ (place ∷ [])) at line bs ≡ lined splices at line bs
unfolding lined
lined_splice splices place at line [] fits = refl
lined_splice splices place at line (b ∷ bs) fits =
    let same : spliced_up_to (splices ++ (place ∷ [])) at ≡ spliced_up_to splices at = splice_behind splices place at (omega arith) in
    let behind = lined_splice splices place (suc at) (cond (b == 10) (line + 1) line) bs (omega arith) in
    (λ i. cell b (line + same i) ∷ behind i)

-- each of the splices counts from the last of them on
all_before : (from : ℕ) (splices : List ℕ) (last at : ℕ) → Ascends from splices last → last ≤ at → spliced_up_to splices at ≡ length splices
unfolding Ascends
all_before from [] last at h le = refl
all_before from (s ∷ splices) last at (low, h) le =
    let reached : s ≤ at = omega (arith, (ascends_last s splices last h).0, (ascends_last s splices last h).1) in
    let e : nat_le s at ≡ true = le-leb s at reached in
    rw e (ap suc (all_before s splices last at h le))

-- the bytes behind all splices
lined_past : (splices : List ℕ) (last at line : ℕ) (bs : List ℕ) → Ascends 0 splices last → last ≤ at → lined splices at line bs ≡ numbered (line + length splices) bs
unfolding lined numbered
lined_past splices last at line [] h le = refl
lined_past splices last at line (b ∷ bs) h le =
    let all : spliced_up_to splices at ≡ length splices = all_before 0 splices last at h le in
    let behind = lined_past splices last (suc at) (cond (b == 10) (line + 1) line) bs h (omega arith) in
    (λ i. cell b (line + all i) ∷ behind i)
    ∙ ap (λ n. cell b (line + length splices) ∷ numbered n bs) (sym (next_line (b == 10) line (length splices)))

lined_append : (splices : List ℕ) (at line : ℕ) (xs ys : List ℕ) → lined splices at line (xs ++ ys) ≡ lined splices at line xs ++ lined splices (at + length xs) (line_behind line xs) ys
unfolding lined line_behind
lined_append splices at line [] ys = ap (λ k. lined splices k line ys) (sym (add-zero at))
lined_append splices at line (x ∷ xs) ys =
    let move : suc at + length xs ≡ at + length (x ∷ xs) = omega arith in
    ap (λ (cs : List Cell). cell x (line + spliced_up_to splices at) ∷ cs)
    (lined_append splices (suc at) (cond (x == 10) (line + 1) line) xs ys
    ∙ ap (λ k. lined splices (suc at) (cond (x == 10) (line + 1) line) xs ++ lined splices k (line_behind (cond (x == 10) (line + 1) line) xs) ys) move)

-- a text with more bytes behind its last splice
pub lined_more : (splices text more : List ℕ) → Ascends 0 splices (length text)
    → lined splices 0 1 (text ++ more) ≡ lined splices 0 1 text ++ numbered (line_behind 1 text + length splices) more
lined_more splices text more h =
    lined_append splices 0 1 text more
    ∙ ap (λ (cs : List Cell). lined splices 0 1 text ++ cs) (lined_past splices (length text) (0 + length text) (line_behind 1 text) more h (omega arith))

pub rising : (from : ℕ) (splices : List ℕ) (last : ℕ) → Ascends from splices last → Rising from splices
unfolding Ascends Rising
rising from [] last h = tt
rising from (s ∷ splices) last (low, h) = (low, rising s splices last h)
