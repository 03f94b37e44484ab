use Rattle.std.proofs.Common.{◌≡◌, ◌≤◌, ℕ, zero, suc, ◌∷◌, ◌==◌, ◌||◌, ◌&&◌, [], List, take, not, refl, arith, true, false, Bool}
use Rattle.std.specs.List.{list_all}
use Rattle.std.specs.Cmp.Derive.{both_true}
use Rattle.std.proofs.lemmas.Bool.{and_parts}
use Rattle.pp_tokens.specs.parts.Pieces.{is_kept}
use Rattle.pp_tokens.proofs.source.long_run.Goals as goal

kept_byte : (r s q t : Bool) → not s ≡ true → not r ≡ true → (t ≡ true → not q ≡ true) → not (r || (s || (t && q))) ≡ true
kept_byte false false false true ns nr nq = refl
kept_byte false false true true ns nr nq = nq refl
kept_byte false false q false ns nr nq = refl
kept_byte false true q t ns nr nq = absurd (cc)
kept_byte true s q t ns nr nq = absurd (cc)

-- bytes without a backslash, a carriage return and, where trigraphs are read, a question mark are kept
all_kept : (trigraphs : Bool) (n lines run : ℕ) (bytes : List ℕ) → n ≤ run → run ≤ lines
    → list_all (λ b. not (b == 92)) (take lines bytes) ≡ true
    → list_all (λ b. not (b == 13)) (take run bytes) ≡ true
    → (trigraphs ≡ true → list_all (λ b. not (b == 63)) (take n bytes) ≡ true)
    → list_all (is_kept trigraphs) (take n bytes) ≡ true
all_kept trigraphs zero lines run bytes below above backslashes returns questions = refl
all_kept trigraphs (suc n) zero run bytes below above backslashes returns questions = absurd (omega (arith, below, above))
all_kept trigraphs (suc n) (suc lines) zero bytes below above backslashes returns questions = absurd (omega (arith, below))
all_kept trigraphs (suc n) (suc lines) (suc run) [] below above backslashes returns questions = refl
all_kept trigraphs (suc n) (suc lines) (suc run) (b ∷ bs) below above backslashes returns questions =
    let at = and_parts (not (b == 92)) (list_all (λ c. not (c == 92)) (take lines bs)) backslashes in
    let ret = and_parts (not (b == 13)) (list_all (λ c. not (c == 13)) (take run bs)) returns in
    both_true (kept_byte (b == 13) (b == 92) (b == 63) trigraphs at.0 ret.0
    (λ (are : trigraphs ≡ true). (and_parts (not (b == 63)) (list_all (λ c. not (c == 63)) (take n bs)) (questions are)).0))
    (all_kept trigraphs n lines run bs (omega (arith, below)) (omega (arith, above)) at.1 ret.1
    (λ (are : trigraphs ≡ true). (and_parts (not (b == 63)) (list_all (λ c. not (c == 63)) (take n bs)) (questions are)).1))

pub returns-then-trigraphs-clause-kept : goal.returns-then-trigraphs-clause-kept
returns-then-trigraphs-clause-kept c =
    all_kept c.args.trigraphs c.run_without.result c.run_without-lines.result c.run_without-run.result c.args.rest.now
    c.run_without.ensures.within c.run_without-run.ensures.within c.run_without-lines.ensures.clear c.run_without-run.ensures.clear
    (λ are. c.run_without.ensures.clear)

pub returns-else-trigraphs-clause-kept : goal.returns-else-trigraphs-clause-kept
returns-else-trigraphs-clause-kept c =
    all_kept c.args.trigraphs c.run_without-run.result c.run_without-lines.result c.run_without-run.result c.args.rest.now
    (omega arith) c.run_without-run.ensures.within c.run_without-lines.ensures.clear c.run_without-run.ensures.clear
    (λ (are : c.args.trigraphs ≡ true). absurd (cc (are, c.if-trigraphs.false)))
