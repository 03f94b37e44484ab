-- What a machine's moves and a piece do.
use Rattle.std.proofs.Common.{◌≡◌, ℕ, ◌+◌, ◌≤◌, List, [], ◌++◌, length, drop, take, sym, ◌∙◌, ap, subst, arith, drop-drop, length-drop, inl, inr, Option, Some}
use Rattle.std.specs.Prelude.{◌⊎◌, Ok}
use Rattle.job_frames.specs.declared.field.Field.{Field}
use Rattle.job_frames.specs.declared.field.Field.TheVariants.{Token, Whole}
use Rattle.job_frames.specs.declared.machine.Machine.{Machine}
use Rattle.job_frames.specs.declared.machine.Move.TheVariants.{Rest, Go}
use Rattle.job_frames.specs.declared.Fed.{Fed}
use Rattle.job_frames.specs.declared.Fed.TheVariants as fed
use Rattle.job_frames.specs.declared.FrameError.{FrameError}
use Rattle.job_frames.specs.declared.FrameError.TheVariants as why
use Rattle.job_frames.specs.Fields.{Step, refused, short}
use Rattle.job_frames.specs.Formats.{Format, refuses, reading}
use Rattle.job_frames.specs.Outcomes.{number_of}
use Rattle.job_frames.specs.parts.Filling.{Topped}
use Rattle.job_frames.specs.parts.Dues.{due_of, size_of, wanted, Went}
use Rattle.job_frames.specs.parts.Machines.{Moves, MachineStands, left_to_read, Passed, HasRunTo}
use Rattle.job_frames.proofs.FieldLemmas.{past_end}
use Rattle.job_frames.proofs.TokenLemmas.{same_bytes}

-- the digits end the field
pub no_rest : (letters p : List ℕ) (o : Option Field) → o ≡ Some (Token letters) → length p ≤ wanted o → drop 12 p ≡ []
no_rest letters p o e h = past_end p 12 (subst (λ (x : Option Field). length p ≤ wanted x) e h)

-- what is due behind a field is refused, or want of memory tells nothing
pub refuses_all : {A : Type 0} (e : FrameError) (next : Format A) (read : List ℕ → Step A) → (e ≡ why.Memory) ⊎ (next ≡ refuses (number_of e)) → ((more : List ℕ) → read more ≡ reading next more)
    → (e ≡ why.Memory) ⊎ ((more : List ℕ) → read more ≡ refused (number_of e))
refuses_all e next read (inl memory) reads = inl memory
refuses_all e next read (inr is) reads = inr (λ more. reads more ∙ ap (λ f. reading f more) is)

-- a field was taken
pub goes : {F A : Type 0} (format : F → Format A) (rank : F → ℕ) (keeps : F → Type 0) (field : Field) (old new : Machine F) (next : Format A) → new.pending.items ≡ []
    → Went format rank keeps next (rank old.frame) new.frame (Ok tt) → ((more : List ℕ) → left_to_read format old more ≡ reading next more) → Moves format rank keeps field old new Go
goes {F} {A} format rank keeps field old new next none went reads = (
  λ more. ap (λ (p : List ℕ). reading (format new.frame) (p ++ more)) none ∙ ap (λ (f : Format A). reading f more) went.0 ∙ sym (reads more),
  went.1,
  record { fits = subst (λ (p : List ℕ). length p ≤ wanted (due_of (format new.frame))) (sym none) (omega arith); kept = went.2 },
)

-- A PIECE

pub filled_passed : {F A : Type 0} (format : F → Format A) (keeps : F → Type 0) (old m filled : Machine F) (field : Field) (piece : List ℕ) (at n : ℕ) → due_of (format m.frame) ≡ Some field → filled.frame ≡ m.frame
    → Passed format keeps old piece at m → Topped m.pending.items (size_of field) (drop at piece) filled.pending.items n → Passed format keeps old piece (at + n) filled
filled_passed {F} {A} format keeps old m filled field piece at n due same passed h = (
  omega (arith, length-drop at piece, h.within, passed.0),
  λ more.
      ap (λ (f : F). reading (format f) (filled.pending.items ++ (drop (at + n) piece ++ more))) same
      ∙ ap (λ (p : List ℕ). reading (format m.frame) (p ++ (drop (at + n) piece ++ more))) h.pending
      ∙ ap (λ (d : List ℕ). reading (format m.frame) ((m.pending.items ++ take n (drop at piece)) ++ (d ++ more))) (sym (drop-drop n at piece))
      ∙ ap (reading (format m.frame)) (same_bytes m.pending.items (drop at piece) more n)
      ∙ passed.1 more,
  record {
    fits = subst (λ (f : F). length filled.pending.items ≤ wanted (due_of (format f))) (sym same) (subst (λ (o : Option Field). length filled.pending.items ≤ wanted o) (sym due) h.fits);
    kept = subst keeps (sym same) passed.2.kept;
  },
)

pub moved_passed : {F A : Type 0} (format : F → Format A) (rank : F → ℕ) (keeps : F → Type 0) (field : Field) (old m new : Machine F) (piece : List ℕ) (at : ℕ) → Passed format keeps old piece at m → Moves format rank keeps field m new Go → Passed format keeps old piece at new
moved_passed format rank keeps field old m new piece at passed h = (passed.0, λ more. h.0 (drop at piece ++ more) ∙ passed.1 more, h.2)

-- how many bytes are wanted
pub lacks_some : {F A : Type 0} (format : F → Format A) (keeps : F → Type 0) (m : Machine F) (field : Field) → due_of (format m.frame) ≡ Some field → MachineStands format keeps m → length m.pending.items ≤ size_of field
lacks_some format keeps m field due stands = subst (λ (o : Option Field). length m.pending.items ≤ wanted o) due stands.fits

-- a machine comes to rest behind a piece
pub run_rest : {F A : Type 0} (format : F → Format A) (rank : F → ℕ) (keeps : F → Type 0) (field : Field) (old m filled new : Machine F) (piece : List ℕ) (at n : ℕ) (answer : Fed) → due_of (format m.frame) ≡ Some field → filled.frame ≡ m.frame
    → Passed format keeps old piece at m → Topped m.pending.items (size_of field) (drop at piece) filled.pending.items n → Moves format rank keeps field filled new (Rest answer) → HasRunTo format keeps old piece new (at + n) answer
run_rest {F} {A} format rank keeps field old m filled new piece at n fed.More due same passed h moves =
    let after = filled_passed format keeps old m filled field piece at n due same passed h in
    let few = moves.1 in
    let all : n ≡ length (drop at piece) = elim h.full [ inl e ↦ absurd (omega (arith, e, few)) | inr e ↦ e ] in
    let gone : drop (at + n) piece ≡ [] = past_end piece (at + n) (omega (arith, length-drop at piece, all)) in
    subst (λ (x : Machine F). ((more : List ℕ) → left_to_read format x more ≡ left_to_read format old (piece ++ more)) × (left_to_read format x [] ≡ short) × MachineStands format keeps x) (sym moves.0) (
      λ more. ap (λ (d : List ℕ). left_to_read format filled (d ++ more)) (sym gone) ∙ after.1 more,
      moves.2,
      after.2,
    )
run_rest {F} {A} format rank keeps field old m filled new piece at n fed.Done due same passed h moves =
    let after = filled_passed format keeps old m filled field piece at n due same passed h in
    let whole : due_of (format filled.frame) ≡ Some Whole = ap (λ (f : F). due_of (format f)) same ∙ due ∙ ap Some moves.1 in
    subst (λ (x : Machine F). Passed format keeps old piece (at + n) x × (due_of (format x.frame) ≡ Some Whole)) (sym moves.0) (after, whole)
run_rest {F} {A} format rank keeps field old m filled new piece at n (fed.Refused e) due same passed h (inl memory) = inl memory
run_rest {F} {A} format rank keeps field old m filled new piece at n (fed.Refused e) due same passed h (inr refuses_it) =
    let after = filled_passed format keeps old m filled field piece at n due same passed h in
    inr (λ more. sym (after.1 more) ∙ refuses_it (drop (at + n) piece ++ more))
