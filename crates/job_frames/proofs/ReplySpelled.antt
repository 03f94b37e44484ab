-- What spells an answer in the format of replies is its spelling.
use Rattle.std.proofs.Common.{◌≡◌, ℕ, ◌≤◌, List, [], ◌∷◌, ◌++◌, length, refl, ◌∙◌, ap, subst, arith, Option, Some, None, cond, true, false, Bool}
use Rattle.std.specs.Prelude.{◌==◌, nat_le, nat_lt, ◌&&◌, ◌||◌, codes}
use Rattle.std.proofs.lemmas.Bool.{leb-true, eqb-true}
use Rattle.std.proofs.lemmas.List.{append-nil}
use Rattle.job_frames.specs.declared.answer.Answer.{Answer}
use Rattle.job_frames.specs.Spelling.{token, field, reply_bytes, IsAnswer}
use Rattle.job_frames.specs.Fields.{taken, within}
use Rattle.job_frames.specs.Reply.{reply_at, reply_from, allowed, status_judge, done_from, refusal_from, status_from, no_diagnostic_from, diagnostic_from, text_from, text_body_from, diagnostic_body_from, no_text_from}
use Rattle.job_frames.specs.parts.Dues.{due_of, is_token_due}
use Rattle.job_frames.proofs.FormatLemmas.{IsJudge, Sound, Spells, reads_spelling, field_is}
use Rattle.job_frames.proofs.FirmLemmas.{within_judge, only_judge, five}
use Rattle.job_frames.proofs.SpelledLemmas.{only_passes}

allowed_passes : (limit low high n : ℕ) → allowed limit low high n ≡ None → (low ≤ n) × (n ≤ high)
allowed_passes limit low high n h = by_tests (nat_lt limit n) (nat_le low n) (nat_le n high) refl refl h
  where
    by_tests : (a b c : Bool) → nat_le low n ≡ b → nat_le n high ≡ c → cond {A = Option ℕ} a (Some 5) (cond (b && c) None (Some 6)) ≡ None → (low ≤ n) × (n ≤ high)
    by_tests true b c e f h = absurd (cc)
    by_tests false true true e f h = (leb-true low n e, leb-true n high f)
    by_tests false true false e f h = absurd (cc)
    by_tests false false c e f h = absurd (cc)

pub within_passes : (low high n : ℕ) → within low high n ≡ None → (low ≤ n) × (n ≤ high)
within_passes low high n h = by_tests (nat_le low n) (nat_le n high) refl refl h
  where
    by_tests : (b c : Bool) → nat_le low n ≡ b → nat_le n high ≡ c → cond {A = Option ℕ} (b && c) None (Some 5) ≡ None → (low ≤ n) × (n ≤ high)
    by_tests true true e f h = (leb-true low n e, leb-true n high f)
    by_tests true false e f h = absurd (cc)
    by_tests false c e f h = absurd (cc)

-- a field that nothing follows
last_field : (letters text body r r' : List ℕ) (n : ℕ) → text ≡ token letters n ++ r → r ≡ body ++ r' → length body ≡ n → r' ≡ [] → text ≡ field letters body
last_field letters text body r r' n e f g none = field_is letters text body r r' n e f g ∙ ap (λ (x : List ℕ). field letters body ++ x) none ∙ append-nil (field letters body)

text_spelled : (text : List ℕ) (a : Answer) → Spells no_diagnostic_from a text → IsAnswer a × (token (codes "DONE") 0x103 ++ (token (codes "STAT") 0 ++ text) ≡ reply_bytes a)
unfolding no_diagnostic_from text_from text_body_from reply_bytes
text_spelled text a s =
    let t = s.then in
    let b = t.then in
    let zero_is : s.n ≡ 0 = omega (arith, (allowed_passes 65536 0 0 s.n s.passes).1) in
    let limits = allowed_passes 67108864 0 67108864 t.n t.passes in
    let size = b.long in
    let small : length b.body ≤ 67108864 = omega (arith, size, limits.1) in (
      subst IsAnswer b.then.0 small,
      ap (λ (x : List ℕ). token (codes "DONE") 0x103 ++ (token (codes "STAT") 0 ++ x)) (s.is ∙ ap (λ (k : ℕ). token (codes "SERR") k ++ s.r) zero_is ∙ ap (λ (x : List ℕ). token (codes "SERR") 0 ++ x) (last_field (codes "DOTI") s.r b.body t.r b.r t.n t.is b.is b.long b.then.1))
          ∙ ap reply_bytes b.then.0,
    )

words_spelled : (text : List ℕ) (a : Answer) → Spells diagnostic_from a text → IsAnswer a × (token (codes "DONE") 0x103 ++ (token (codes "STAT") 0x100 ++ text) ≡ reply_bytes a)
unfolding diagnostic_from diagnostic_body_from no_text_from reply_bytes
words_spelled text a s =
    let b = s.then in
    let t = b.then in
    let zero_is : t.n ≡ 0 = omega (arith, (allowed_passes 67108864 0 0 t.n t.passes).1) in
    let limits = allowed_passes 65536 1 65536 s.n s.passes in
    let size = b.long in
    let low : 1 ≤ length b.body = omega (arith, size, limits.0) in
    let high : length b.body ≤ 65536 = omega (arith, size, limits.1) in (
      subst IsAnswer t.then.0 (low, high),
      ap (λ (x : List ℕ). token (codes "DONE") 0x103 ++ (token (codes "STAT") 0x100 ++ x))
          (field_is (codes "SERR") text b.body s.r b.r s.n s.is b.is b.long
          ∙ ap (λ (x : List ℕ). field (codes "SERR") b.body ++ x) (t.is ∙ ap (λ (k : ℕ). token (codes "DOTI") k ++ t.r) zero_is ∙ ap (λ (x : List ℕ). token (codes "DOTI") 0 ++ x) t.then.1 ∙ append-nil (token (codes "DOTI") 0)))
          ∙ ap reply_bytes t.then.0,
    )

status_passes : (n : ℕ) → status_judge n ≡ None → (n == 0) ≡ false → n ≡ 0x100
status_passes n h z = by_tests (n == 0) (n == 0x100) refl z h
  where
    by_tests : (a b : Bool) → (n == 0x100) ≡ b → a ≡ false → cond {A = Option ℕ} (a || b) None (Some 5) ≡ None → n ≡ 0x100
    by_tests true b e z h = absurd (cc)
    by_tests false true e z h = eqb-true n 0x100 e
    by_tests false false e z h = absurd (cc)

done_spelled : (text : List ℕ) (a : Answer) → Spells (done_from 0x103) a text → IsAnswer a × (text ≡ reply_bytes a)
unfolding done_from status_from
done_spelled text a d = by_status (d.then.n == 0) refl d.then.then
  where
    front : (n : ℕ) → d.then.n ≡ n → text ≡ token (codes "DONE") 0x103 ++ (token (codes "STAT") n ++ d.then.r)
    front n e = d.is ∙ ap (λ (k : ℕ). token (codes "DONE") k ++ d.r) (only_passes 0x103 2 d.n d.passes) ∙ ap (λ (x : List ℕ). token (codes "DONE") 0x103 ++ x) (d.then.is ∙ ap (λ (k : ℕ). token (codes "STAT") k ++ d.then.r) e)

    by_status : (b : Bool) → (d.then.n == 0) ≡ b → Spells (cond b no_diagnostic_from diagnostic_from) a d.then.r → IsAnswer a × (text ≡ reply_bytes a)
    by_status true e g = let t = text_spelled d.then.r a g in (t.0, front 0 (eqb-true d.then.n 0 e) ∙ t.1)
    by_status false e g = let t = words_spelled d.then.r a g in (t.0, front 0x100 (status_passes d.then.n d.then.passes e) ∙ t.1)

refusal_spelled : (text : List ℕ) (a : Answer) → Spells (refusal_from 9) a text → IsAnswer a × (text ≡ reply_bytes a)
unfolding refusal_from reply_bytes
refusal_spelled text a t =
    (subst IsAnswer t.then.0 (within_passes 1 9 t.n t.passes), t.is ∙ ap (λ (x : List ℕ). token (codes "RFSE") t.n ++ x) t.then.1 ∙ append-nil (token (codes "RFSE") t.n) ∙ ap reply_bytes t.then.0)

spells_answer : (text : List ℕ) (a : Answer) → Spells (reply_from 0x103 9) a text → IsAnswer a × (text ≡ reply_bytes a)
unfolding reply_from
spells_answer [] a h = absurd h
spells_answer (b ∷ text) a h = by_letter (b == 82) h
  where
    by_letter : (t : Bool) → Spells (cond t (refusal_from 9) (done_from 0x103)) a (b ∷ text) → IsAnswer a × (b ∷ text ≡ reply_bytes a)
    by_letter true g = refusal_spelled (b ∷ text) a g
    by_letter false g = done_spelled (b ∷ text) a g

-- THE FORMAT IS SOUND

allowed_judge : (limit low high n : ℕ) → IsJudge (allowed limit low high n)
allowed_judge limit low high n = by_tests (nat_lt limit n) (nat_le low n && nat_le n high)
  where
    by_tests : (a b : Bool) → IsJudge (cond a (Some 5) (cond b None (Some 6)))
    by_tests true b = five
    by_tests false true = tt
    by_tests false false = (omega arith, omega arith)

status_sound : (n : ℕ) → IsJudge (status_judge n)
status_sound n = by_test ((n == 0) || (n == 0x100))
  where
    by_test : (b : Bool) → IsJudge (cond b None (Some 5))
    by_test true = tt
    by_test false = five

reply_sound : Sound (reply_from 0x103 9)
unfolding reply_from refusal_from done_from status_from no_diagnostic_from diagnostic_from text_from text_body_from diagnostic_body_from no_text_from
reply_sound b = by_letter (b == 82)
  where
    by_status : (t : Bool) → Sound (cond t no_diagnostic_from diagnostic_from)
    by_status true = λ n. (allowed_judge 65536 0 0 n, λ k. (allowed_judge 67108864 0 67108864 k, λ text. tt))
    by_status false = λ n. (allowed_judge 65536 1 65536 n, λ words k. (allowed_judge 67108864 0 0 k, tt))

    by_letter : (t : Bool) → (is_token_due (due_of (cond t (refusal_from 9) (done_from 0x103))) ≡ true) × Sound (cond t (refusal_from 9) (done_from 0x103))
    by_letter true = (refl, λ n. (within_judge 1 9 n, tt))
    by_letter false = (refl, λ v. (only_judge 0x103 2 v (omega arith, omega arith), λ n. (status_sound n, by_status (n == 0))))

pub reply_spelled : (bytes : List ℕ) (a : Answer) (rest : List ℕ) → reply_at bytes ≡ taken a rest → IsAnswer a × (bytes ≡ reply_bytes a ++ rest)
reply_spelled bytes a rest h =
    let front = reads_spelling (reply_from 0x103 9) a bytes rest reply_sound h in
    let s = spells_answer front.text a front.spells in
    (s.0, front.is ∙ ap (λ (t : List ℕ). t ++ rest) s.1)
