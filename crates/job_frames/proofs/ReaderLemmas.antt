-- What the calls of a reader say.
use Rattle.std.proofs.Common.{◌≡◌, ℕ, ◌<◌, ◌≤◌, List, [], ◌++◌, length, drop, refl, sym, ◌∙◌, ap, subst, inl, inr, Option, Some, None, Bool, true, false}
use Rattle.std.specs.Prelude.{nat_lt}
use Rattle.std.proofs.lemmas.List.{append-nil, drop_more}
use Rattle.std.proofs.lemmas.Bool.{ltb-true, ltb-false}
use Rattle.job_frames.specs.declared.FrameError.{FrameError}
use Rattle.job_frames.specs.declared.FrameError.TheVariants as why
use Rattle.job_frames.specs.declared.Fed.{Fed}
use Rattle.job_frames.specs.declared.Fed.TheVariants as fed
use Rattle.job_frames.specs.declared.field.Field.{Field}
use Rattle.job_frames.specs.declared.machine.Machine.{Machine}
use Rattle.job_frames.specs.Fields.{short, refused, taken}
use Rattle.job_frames.specs.Formats.{Format, gives, reading}
use Rattle.job_frames.specs.Outcomes.{Verdict, going, done, reason, NotRefused, IsFed, number_of}
use Rattle.job_frames.specs.parts.Dues.{wanted}
use Rattle.job_frames.specs.parts.Machines.{MachineStands, left_to_read, IsWholeFrame, HasRunTo, verdict, rested, left_verdict, Settled, KeepsReader}
use Rattle.job_frames.proofs.FieldLemmas.{past_end}
use Rattle.job_frames.proofs.TokenLemmas.{whole_is, empty}

-- where all has come, the value is there, and behind it what follows
pub record Whole {F A : Type 0} (format : F → Format A) (m : Machine F) : Type 0 where
  pub value : A
  pub format_is : format m.frame ≡ gives value
  pub none : m.pending.items ≡ []
  pub reads : (bytes : List ℕ) → left_to_read format m bytes ≡ taken value bytes

pub whole : {F A : Type 0} (format : F → Format A) (keeps : F → Type 0) (m : Machine F) → MachineStands format keeps m → IsWholeFrame (format m.frame) → Whole format m
whole {F} {A} format keeps m stands is =
    let given = whole_is (format m.frame) is in
    let nothing : m.pending.items ≡ [] = empty m.pending.items (subst (λ (o : Option Field). length m.pending.items ≤ wanted o) is stands.fits) in
    record {
      value = given.0;
      format_is = given.1;
      none = nothing;
      reads = λ bytes. ap (λ (p : List ℕ). reading (format m.frame) (p ++ bytes)) nothing ∙ ap (λ (f : Format A). reading f bytes) given.1;
    }

verdict_done : {A : Type 0} (follows : Bool) (a : A) → verdict follows (taken a []) ≡ done a
verdict_done true a = refl
verdict_done false a = refl

verdict_going : {A : Type 0} (follows : Bool) → verdict {A = A} follows short ≡ going
verdict_going true = refl
verdict_going false = refl

verdict_reason : {A : Type 0} (follows : Bool) (n : ℕ) → verdict {A = A} follows (refused n) ≡ reason n
verdict_reason true n = refl
verdict_reason false n = refl

no_reason : {A : Type 0} (a : A) (n : ℕ) → done a ≡ reason n → ⊥
no_reason a n h = cc

not_going : {A : Type 0} (n : ℕ) → ◌≡◌ {A = Verdict A} going (reason n) → ⊥
not_going n h = cc

module _ {F A : Type 0} (format : F → Format A) (keeps : F → Type 0) (follows : Bool) where
  -- what a machine that wasn't stopped says
  abbrev pub says : Machine F → List ℕ → Verdict A
  says m more = verdict follows (left_to_read format m more)

  -- the value of a whole frame
  pub whole_says : (m : Machine F) (w : Whole format m) → says m [] ≡ done w.value
  whole_says m w = ap (verdict follows) (w.reads []) ∙ verdict_done follows w.value

  -- a machine that was left at a verdict is refused by nothing yet
  pub settled_goes : (m : Machine F) → MachineStands format keeps m → Settled format m → NotRefused (says m)
  settled_goes m stands (inl is) n refusal = let w = whole format keeps m stands is in no_reason w.value n (sym (whole_says m w) ∙ refusal)
  settled_goes m stands (inr waits) n refusal = not_going {A = A} n (sym (ap (verdict follows) waits ∙ verdict_going follows) ∙ refusal)

  all_of : (m : Machine F) (piece : List ℕ) → says m piece ≡ says m (piece ++ [])
  all_of m piece = ap (says m) (sym (append-nil piece))

  -- bytes behind the end, where none may follow
  pub over : (old new : Machine F) (piece : List ℕ) (at : ℕ) → HasRunTo format keeps old piece new at fed.Done → at < length piece → (more : List ℕ) → verdict false (left_to_read format old (piece ++ more)) ≡ reason 6
  over old new piece at ran is_left more =
      let w = whole format keeps new ran.0.2 ran.1 in
      ap (verdict false) (sym (ran.0.1 more) ∙ w.reads (drop at piece ++ more)) ∙ ap (λ (d : List ℕ). verdict false (taken w.value (d ++ more))) (drop_more piece at 0 is_left)

same_error : (e f : FrameError) → fed.Refused e ≡ fed.Refused f → e ≡ f
same_error e f h = cc

-- a piece that was refused
pub feed_refused : {F A : Type 0} (format : F → Format A) (keeps : F → Type 0) (follows : Bool) (old new : Machine F) (piece : List ℕ) (at : ℕ) (ran : Fed) (e : FrameError) → MachineStands format keeps old → Settled format old
    → HasRunTo format keeps old piece new at ran → rested ran follows (nat_lt at (length piece)) ≡ fed.Refused e → IsFed (says format keeps follows old) piece (λ more. reason (number_of e)) (fed.Refused e)
feed_refused format keeps follows old new piece at fed.More e stands settled h is = absurd (cc)
feed_refused format keeps true old new piece at fed.Done e stands settled h is = absurd (cc)
feed_refused format keeps false old new piece at fed.Done e stands settled h is = by_left (nat_lt at (length piece)) refl is
  where
    by_left : (b : Bool) → nat_lt at (length piece) ≡ b → rested fed.Done false b ≡ fed.Refused e → IsFed (says format keeps false old) piece (λ more. reason (number_of e)) (fed.Refused e)
    by_left false l g = absurd (cc)
    by_left true l g =
        let same = ap number_of (same_error why.Order e g) in
        let wrong = over format keeps false old new piece at h (ltb-true at (length piece) l) in
        inl (all_of format keeps false old piece ∙ wrong [] ∙ ap reason same, λ more. sym (wrong more ∙ ap reason same))
feed_refused format keeps follows old new piece at (fed.Refused f) e stands settled (inl memory) is =
    let same = same_error f e is in
    inr (settled_goes format keeps follows old stands settled, ap fed.Refused (sym same ∙ memory), λ more. ap (λ (x : FrameError). reason (number_of x)) (sym same ∙ memory))
feed_refused {F} {A} format keeps follows old new piece at (fed.Refused f) e stands settled (inr h) is =
    let same = ap number_of (same_error f e is) in
    let wrong = λ (more : List ℕ). ap (verdict follows) (h more) ∙ verdict_reason {A = A} follows (number_of f) ∙ ap reason same in
    inl (all_of format keeps follows old piece ∙ wrong [], λ more. sym (wrong more))

-- a piece that wasn't
pub feed_goes : {F A : Type 0} (format : F → Format A) (keeps : F → Type 0) (follows : Bool) (old new : Machine F) (piece : List ℕ) (at : ℕ) (ran : Fed) → HasRunTo format keeps old piece new at ran
    → ((e : FrameError) → rested ran follows (nat_lt at (length piece)) ≡ fed.Refused e → ⊥)
    → IsFed (says format keeps follows old) piece (says format keeps follows new) (rested ran follows (nat_lt at (length piece))) × MachineStands format keeps new × Settled format new
feed_goes {F} {A} format keeps follows old new piece at fed.More h none = (
  inl (all_of format keeps follows old piece ∙ ap (verdict follows) (sym (h.0 []) ∙ h.1) ∙ verdict_going {A = A} follows, λ more. ap (verdict follows) (h.0 more)),
  h.2,
  inr h.1,
)
feed_goes {F} {A} format keeps true old new piece at fed.Done h none =
    let w = whole format keeps new h.0.2 h.1 in
    let told = λ (more : List ℕ). ap (verdict true) (sym (h.0.1 more) ∙ w.reads (drop at piece ++ more)) in (
      inl ((w.value, all_of format keeps true old piece ∙ told []), λ more. ap (verdict true) (w.reads more) ∙ sym (told more)),
      h.0.2,
      inl h.1,
    )
feed_goes {F} {A} format keeps false old new piece at fed.Done h none = by_left (nat_lt at (length piece)) refl none
  where
    by_left : (b : Bool) → nat_lt at (length piece) ≡ b → ((e : FrameError) → rested fed.Done false b ≡ fed.Refused e → ⊥)
        → IsFed (says format keeps false old) piece (says format keeps false new) (rested fed.Done false b) × MachineStands format keeps new × Settled format new
    by_left true l g = absurd (g why.Order refl)
    by_left false l g =
        let w = whole format keeps new h.0.2 h.1 in
        let gone : drop at piece ≡ [] = past_end piece at (ltb-false at (length piece) l) in
        let reads = λ (more : List ℕ). ap (λ (d : List ℕ). left_to_read format new (d ++ more)) (sym gone) ∙ h.0.1 more in (
          inl ((w.value, all_of format keeps false old piece ∙ ap (verdict false) (sym (reads [])) ∙ whole_says format keeps false new w), λ more. ap (verdict false) (reads more)),
          h.0.2,
          inl h.1,
        )
feed_goes {F} {A} format keeps follows old new piece at (fed.Refused e) h none = absurd (none e refl)

-- the value that a reader gives in the end
pub value_is : {F A : Type 0} (format : F → Format A) (keeps : F → Type 0) (follows : Bool) (o : Option FrameError) (m : Machine F) (a : A) → KeepsReader format keeps o m → o ≡ None → IsWholeFrame (format m.frame)
    → ((v : A) → format m.frame ≡ gives v → v ≡ a) → left_verdict follows o (format m.frame) m.pending.items [] ≡ done a
value_is format keeps follows (Some e) m a kept none is same = absurd (cc)
value_is format keeps follows None m a kept none is same = let w = whole format keeps m kept.0 is in whole_says format keeps follows m w ∙ ap done (same w.value w.format_is)
