-- A reply's spelling is a spelling of its format.
use Rattle.std.proofs.Common.{◌≡◌, ℕ, ◌≤◌, List, [], ◌++◌, length, refl, sym, subst, arith, None}
use Rattle.std.specs.Prelude.{codes}
use Rattle.std.proofs.lemmas.List.{append-nil}
use Rattle.std.proofs.lemmas.Bool.{le-leb, le-ltb}
use Rattle.job_frames.specs.declared.answer.Answer.{Answer}
use Rattle.job_frames.specs.declared.answer.Answer.TheVariants.{Text, Diag, Refused}
use Rattle.job_frames.specs.Spelling.{token, field, reply_bytes, IsAnswer}
use Rattle.job_frames.specs.Fields.{taken, within}
use Rattle.job_frames.specs.Formats.{gives}
use Rattle.job_frames.specs.Reply.{reply_at, reply_from, allowed, done_from, refusal_from, status_from, no_diagnostic_from, diagnostic_from, text_from, text_body_from, diagnostic_body_from, no_text_from}
use Rattle.job_frames.proofs.FormatLemmas.{Spells, spelling_reads, apart, field_spells}

allowed_there : (limit low high n : ℕ) → n ≤ limit → low ≤ n → n ≤ high → allowed limit low high n ≡ None
allowed_there limit low high n a b c = rw (le-ltb limit n a, le-leb low n b, le-leb n high c) refl

within_there : (low high n : ℕ) → low ≤ n → n ≤ high → within low high n ≡ None
within_there low high n a b = rw (le-leb low n a, le-leb n high b) refl

text_spells : (text : List ℕ) → length text ≤ 67108864 → Spells text_from (Text text) (field (codes "DOTI") text)
unfolding text_from text_body_from
text_spells text h =
    subst (λ (t : List ℕ). Spells text_from (Text text) t) (append-nil (field (codes "DOTI") text))
    (field_spells (codes "DOTI") text [] (allowed 67108864 0 67108864) (λ n t. gives (Text t)) (Text text) h (allowed_there 67108864 0 67108864 (length text) h (omega arith) h) (refl, refl))

pub reply_spells : (a : Answer) → IsAnswer a → Spells (reply_from 0x103 9) a (reply_bytes a)
unfolding reply_from reply_bytes done_from refusal_from status_from no_diagnostic_from diagnostic_from diagnostic_body_from no_text_from
reply_spells (Text text) is =
    let tail = field (codes "DOTI") text in
    record {
      n = 0x103;
      r = token (codes "STAT") 0 ++ (token (codes "SERR") 0 ++ tail);
      is = refl;
      small = omega arith;
      passes = refl;
      then = record {
        n = 0;
        r = token (codes "SERR") 0 ++ tail;
        is = refl;
        small = omega arith;
        passes = refl;
        then = record { n = 0; r = tail; is = refl; small = omega arith; passes = refl; then = text_spells text is };
      };
    }
reply_spells (Diag words) is =
    let tail = token (codes "DOTI") 0 in
    record {
      n = 0x103;
      r = token (codes "STAT") 0x100 ++ (field (codes "SERR") words ++ tail);
      is = refl;
      small = omega arith;
      passes = refl;
      then = record {
        n = 0x100;
        r = field (codes "SERR") words ++ tail;
        is = refl;
        small = omega arith;
        passes = refl;
        then = field_spells (codes "SERR") words tail (allowed 65536 1 65536) (λ n w. no_text_from w) (Diag words) (omega (arith, is.1)) (allowed_there 65536 1 65536 (length words) is.1 is.0 is.1)
            (record { n = 0; r = []; is = sym (append-nil tail); small = omega arith; passes = refl; then = (refl, refl) });
      };
    }
reply_spells (Refused n) is = record { n = n; r = []; is = sym (append-nil (token (codes "RFSE") n)); small = omega (arith, is.1); passes = within_there 1 9 n is.0 is.1; then = (refl, refl) }

pub reply_read : (a : Answer) (rest : List ℕ) → IsAnswer a → reply_at (reply_bytes a ++ rest) ≡ taken a rest
reply_read a rest is = spelling_reads (reply_from 0x103 9) a (reply_bytes a) rest (reply_spells a is)

pub reply_one : (a b : Answer) (x y : List ℕ) → IsAnswer a → IsAnswer b → reply_bytes a ++ x ≡ reply_bytes b ++ y → (a ≡ b) × (x ≡ y)
reply_one a b x y p q e = apart (reply_from 0x103 9) a b (reply_bytes a) (reply_bytes b) x y (reply_spells a p) (reply_spells b q) e
