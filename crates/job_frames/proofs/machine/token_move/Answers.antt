use Rattle.std.proofs.Common.{◌≡◌, ℕ, List, [], drop, refl, ◌∙◌, ap, inr}
use Rattle.job_frames.specs.Fields.{number_at, taken}
use Rattle.job_frames.specs.declared.field.Field.TheVariants.{Token}
use Rattle.job_frames.specs.parts.Dues.{behind_token}
use Rattle.job_frames.specs.parts.Machines.{left_to_read}
use Rattle.job_frames.proofs.TokenLemmas.{same_number, token_fails, token_passes}
use Rattle.job_frames.proofs.MachineLemmas.{no_rest, refuses_all, goes}
use Rattle.job_frames.proofs.machine.token_move.Goals as goal

pub returns-in-Refused : goal.returns-in-Refused
returns-in-Refused g c =
    let m = c.args.m.now in
    inr (λ more. token_fails (g.F.Frame.format m.frame) c.args.letters m.pending.items more _ c.requires.due (same_number _ _ _ _ refl c.as_slice.ensures.value ∙ c.in-Refused.ensures.tells))

pub returns-in-Err : goal.returns-in-Err
returns-in-Err g c =
    let m = c.args.m.now in
    let n = c.in-Taken.n in
    let read : number_at c.args.letters m.pending.items ≡ taken n [] =
    same_number _ _ _ _ refl c.as_slice.ensures.value ∙ c.in-Taken.ensures.tells ∙ ap (λ (r : List ℕ). taken n (drop 12 r)) c.as_slice.ensures.value
    ∙ ap (taken n) (no_rest c.args.letters m.pending.items _ c.requires.due c.requires.stands.fits) in
    refuses_all c.in-Err.e (behind_token (g.F.Frame.format m.frame) n) (left_to_read g.F.Frame.format m) c.in-Err.ensures (λ more. token_passes (g.F.Frame.format m.frame) c.args.letters m.pending.items more n c.requires.due read)

pub returns-in-Ok : goal.returns-in-Ok
returns-in-Ok g c =
    let m = c.args.m.now in
    let n = c.in-Taken.n in
    let read : number_at c.args.letters m.pending.items ≡ taken n [] =
    same_number _ _ _ _ refl c.as_slice.ensures.value ∙ c.in-Taken.ensures.tells ∙ ap (λ (r : List ℕ). taken n (drop 12 r)) c.as_slice.ensures.value
    ∙ ap (taken n) (no_rest c.args.letters m.pending.items _ c.requires.due c.requires.stands.fits) in
    goes g.F.Frame.format g.F.Frame.rank g.F.Frame.Keeps (Token c.args.letters) m _ (behind_token (g.F.Frame.format m.frame) n) c.clear.ensures.items c.in-Ok.ensures
    (λ more. token_passes (g.F.Frame.format m.frame) c.args.letters m.pending.items more n c.requires.due read)
