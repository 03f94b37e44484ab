-- The counts of what an expansion gives, token by token.
use Rattle.std.proofs.Common.{◌≡◌, ℕ, ◌+◌, List, [], ◌∷◌, length, take, min, ◌-◌, ◌≤◌, Some, Result, Ok, Err, refl, ap, sym, ◌∙◌, arith}
use Rattle.std.proofs.lemmas.List.{length-append, length-take}
use Rattle.pp_tokens.specs.declared.token.Token.{Token}
use Rattle.macro_expand.specs.declared.outcome.ExpandError.{ExpandError}
use Rattle.macro_expand.specs.declared.outcome.ExpandError.TheVariants.{Count, Unclosed, Paste, Deep, Work, Memory}
use Rattle.macro_expand.specs.Asking.{Failure}
use Rattle.macro_expand.specs.Expansion.{Expanded}
use Rattle.macro_expand.specs.Seen.{ReportsResult}
use Rattle.macro_expand.specs.Stream.{Given, Stream, given, given_before, to_come, GivesNext}
use Rattle.bench_program.specs.declared.counts.Counts.{Counts}
use Rattle.bench_program.specs.Counting.{Counted}

-- how many tokens, and the units of work left
pub record Amount : Type 0 where
  pub tokens : ℕ
  pub units : ℕ

abbrev pub count_of : Result Given Failure → Result Amount Failure
count_of (Ok g) = Ok (record { tokens = length g.tokens; units = g.units })
count_of (Err f) = Err f

-- the count with so many tokens before
abbrev pub after_tokens : ℕ → Result Amount Failure → Result Amount Failure
after_tokens n (Ok c) = Ok (record { tokens = n + c.tokens; units = c.units })
after_tokens n (Err f) = Err f

-- a stretch has no more tokens than its numbers
pub rest_few : (end at : ℕ) (ts : List Token) → length (take (end - at) ts) ≤ end
rest_few end at ts = let e : length (take (end - at) ts) ≡ min (end - at) (length ts) = length-take (end - at) ts in omega (arith, e)

-- a count of its parts
counted : ℕ → ℕ → Result Amount Failure
counted n units = Ok (record { tokens = n; units = units })

after_none : (r : Result Amount Failure) → after_tokens 0 r ≡ r
unfolding counted
after_none (Ok c) = let e : 0 + c.tokens ≡ c.tokens = omega arith in ap (λ m. counted m c.units) e
after_none (Err f) = refl

after_both : (n k : ℕ) (r : Result Amount Failure) → after_tokens n (after_tokens k r) ≡ after_tokens (n + k) r
unfolding counted
after_both n k (Ok c) = let e : n + (k + c.tokens) ≡ n + k + c.tokens = omega arith in ap (λ m. counted m c.units) e
after_both n k (Err f) = refl

count_before : (ts : List Token) (r : Result Given Failure) → count_of (given_before ts r) ≡ after_tokens (length ts) (count_of r)
unfolding counted
count_before ts (Ok g) = ap (λ m. counted m g.units) (length-append ts g.tokens)
count_before ts (Err f) = refl

-- before the first token, all are still to come
pub count_init : (whole : Result Given Failure) → count_of whole ≡ after_tokens 0 (count_of (given_before [] whole))
count_init whole = sym (after_none (count_of whole)) ∙ ap (after_tokens 0) (sym (after_none (count_of whole)) ∙ sym (count_before [] whole))

-- one token more that was given
pub count_turn : (whole : Result Amount Failure) (n : ℕ) (old new : Stream) (units left : ℕ) (t : Token) → whole ≡ after_tokens n (count_of (to_come old units)) →
    GivesNext (Some t) old units new left → whole ≡ after_tokens (n + 1) (count_of (to_come new left))
count_turn whole n old new units left t kept gives =
    kept
    ∙ ap (λ (r : Result Given Failure). after_tokens n (count_of r)) gives
    ∙ ap (after_tokens n) (count_before (t ∷ []) (to_come new left))
    ∙ after_both n 1 (count_of (to_come new left))

-- where no token is left, the counts are those of the whole
pub count_end : (units : ℕ) (run : List Token) (whole : Result Given Failure) (n left : ℕ) (c : Counts) →
    count_of whole ≡ after_tokens n (count_of (Ok (record { tokens = []; units = left }))) →
    c.tokens ≡ length run → c.expanded ≡ n → c.work + left ≡ units → Counted units run whole c
count_end units run (Ok g) n left c kept read put spent =
    let tokens : length g.tokens ≡ n + 0 = ap count_tokens kept in
    let left_is : g.units ≡ left = ap count_units kept in
    (read, omega (arith, tokens, put), omega (arith, left_is, spent))
  where
    count_tokens : Result Amount Failure → ℕ
    count_tokens (Ok c) = c.tokens
    count_tokens (Err f) = 0

    count_units : Result Amount Failure → ℕ
    count_units (Ok c) = c.units
    count_units (Err f) = 0
count_end units run (Err f) n left c kept read put spent = absurd (cc)

failed : (r : Result Expanded Failure) (n : ℕ) (f : Failure) → count_of (given r) ≡ after_tokens n (Err f) → r ≡ Err f
failed (Ok e) n f same = absurd (cc)
failed (Err g) n f same = let inner : g ≡ f = cc in ap (λ (h : Failure). let q : Result Expanded Failure = Err h in q) inner

-- an error that what is still to come has is that of the whole
pub count_fails : (e : ExpandError) (r : Result Expanded Failure) (n : ℕ) (later : Result Given Failure) → count_of (given r) ≡ after_tokens n (count_of later) →
    ReportsResult e later → ReportsResult e r
count_fails (Count name line) r n later same h = failed r n _ (same ∙ ap (λ (q : Result Given Failure). after_tokens n (count_of q)) h)
count_fails (Unclosed name line) r n later same h = failed r n _ (same ∙ ap (λ (q : Result Given Failure). after_tokens n (count_of q)) h)
count_fails (Paste left right line) r n later same h = failed r n _ (same ∙ ap (λ (q : Result Given Failure). after_tokens n (count_of q)) h)
count_fails (Deep line) r n later same h = failed r n _ (same ∙ ap (λ (q : Result Given Failure). after_tokens n (count_of q)) h)
count_fails Work r n later same h = failed r n _ (same ∙ ap (λ (q : Result Given Failure). after_tokens n (count_of q)) h)
count_fails Memory r n later same h = tt
