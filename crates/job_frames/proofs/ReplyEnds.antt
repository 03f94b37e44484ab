-- Where replies end.
use Rattle.std.proofs.Common.{◌≡◌, ℕ, ◌+◌, ◌<◌, ◌≤◌, List, [], ◌++◌, length, refl, sym, ◌∙◌, ap, arith, Option, Some, None, length-append}
use Rattle.std.proofs.lemmas.List.{append-nil}
use Rattle.std.specs.Prelude.{codes}
use Rattle.job_frames.specs.declared.answer.Answer.{Answer}
use Rattle.job_frames.specs.declared.answer.Answer.TheVariants.{Text, Diag, Refused}
use Rattle.job_frames.specs.Spelling.{token, field, IsAnswer, reply_bytes, longest_reply}
use Rattle.job_frames.specs.Fields.{Step}
use Rattle.job_frames.specs.Outcomes.{value_of, nothing_follows}
use Rattle.job_frames.specs.Reply.{reply_at}
use Rattle.job_frames.proofs.SpellingLemmas.{token_length, field_length}
use Rattle.job_frames.proofs.ReplySpelling.{reply_read}

-- a whole spelling gives its answer
pub reply_value : (bytes : List ℕ) (a : Answer) → IsAnswer a → bytes ≡ reply_bytes a → value_of (nothing_follows (reply_at bytes)) ≡ Some a
reply_value bytes a is e =
    ap (λ (x : List ℕ). value_of (nothing_follows (reply_at x))) (e ∙ sym (append-nil (reply_bytes a)))
    ∙ ap (λ (s : Step Answer). value_of (nothing_follows s)) (reply_read a [] is)

pub no_reply : (bytes : List ℕ) (a : Answer) → value_of (nothing_follows (reply_at bytes)) ≡ None → IsAnswer a → bytes ≡ reply_bytes a → ⊥
no_reply bytes a none is e = no_some a (sym (reply_value bytes a is e) ∙ none)
  where
    no_some : (a : Answer) → ◌≡◌ {A = Option Answer} (Some a) None → ⊥
    no_some a h = cc

four_lengths : (a b c d : List ℕ) → length (a ++ (b ++ (c ++ d))) ≡ length a + (length b + (length c + length d))
four_lengths a b c d = omega (arith, length-append a (b ++ (c ++ d)), length-append b (c ++ d), length-append c d)

pub reply_length : (a : Answer) → IsAnswer a → length (reply_bytes a) ≤ longest_reply
unfolding reply_bytes
reply_length (Text text) is =
    let parts = four_lengths (token (codes "DONE") 0x103) (token (codes "STAT") 0) (token (codes "SERR") 0) (field (codes "DOTI") text) in
    omega (arith, parts, token_length (codes "DONE") 0x103 refl, token_length (codes "STAT") 0 refl, token_length (codes "SERR") 0 refl, field_length (codes "DOTI") text refl, is)
reply_length (Diag words) is =
    let parts = four_lengths (token (codes "DONE") 0x103) (token (codes "STAT") 0x100) (field (codes "SERR") words) (token (codes "DOTI") 0) in
    omega (arith, parts, token_length (codes "DONE") 0x103 refl, token_length (codes "STAT") 0x100 refl, field_length (codes "SERR") words refl, token_length (codes "DOTI") 0 refl, is.1)
reply_length (Refused n) is = omega (arith, token_length (codes "RFSE") n refl)

pub reply_ends : (received rest : List ℕ) (a : Answer) → IsAnswer a → longest_reply < length received → received ++ rest ≡ reply_bytes a → ⊥
reply_ends received rest a is longer e =
    let whole : length (received ++ rest) ≡ length (reply_bytes a) = ap length e in
    omega (arith, whole, length-append received rest, reply_length a is, longer)
