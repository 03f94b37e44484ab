use Rattle.std.proofs.Common.{[], sym, ◌∙◌, ap, subst, Option, Some}
use Rattle.job_frames.specs.declared.FrameError.{FrameError}
use Rattle.job_frames.specs.Outcomes.{frame_ended, after_end}
use Rattle.job_frames.specs.parts.Machines.{left_of, left_verdict, KeepsReader}
use Rattle.job_frames.proofs.ReaderLemmas.{whole, whole_says}
use Rattle.job_frames.proofs.frame_reader.end.Goals as goal

pub returns-in-Whole-clause-ended : goal.returns-in-Whole-clause-ended
returns-in-Whole-clause-ended g c =
    let r = c.args.r.now in
    let m = r.machine in
    let keeps = subst (λ (o : Option FrameError). KeepsReader g.F.Frame.format g.F.Frame.Keeps o m) c.in_default.is c.requires in
    let w = whole g.F.Frame.format g.F.Frame.Keeps m keeps.0 (c.due.ensures ∙ ap Some c.in-Whole.is) in
    let is = ap (λ (o : Option FrameError). left_verdict c.args.follows o (g.F.Frame.format m.frame) m.pending.items []) c.in_default.is ∙ whole_says g.F.Frame.format g.F.Frame.Keeps c.args.follows m w in
    ((w.value, ap frame_ended is), λ more. sym (ap (λ v. after_end v (left_of g.F.Frame.format c.args.follows r more)) is))
