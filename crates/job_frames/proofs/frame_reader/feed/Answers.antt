use Rattle.std.proofs.Common.{sym, ◌∙◌, subst, Option, Some, None}
use Rattle.job_frames.specs.declared.FrameError.{FrameError}
use Rattle.job_frames.specs.declared.Fed.{Fed}
use Rattle.job_frames.specs.declared.Fed.TheVariants.{Refused}
use Rattle.job_frames.specs.Outcomes.{IsFed}
use Rattle.job_frames.specs.parts.Machines.{left_verdict, KeepsReader}
use Rattle.job_frames.proofs.ReaderLemmas.{feed_refused, feed_goes}
use Rattle.job_frames.proofs.frame_reader.feed.Goals as goal

pub returns-in-Refused-clause-fed : goal.returns-in-Refused-clause-fed
returns-in-Refused-clause-fed g c =
    let old = c.args.r.now.machine in
    let new = c.run-ran.new.m in
    let e = c.in-Refused.e in
    let keeps = subst (λ (o : Option FrameError). KeepsReader g.F.Frame.format g.F.Frame.Keeps o old) c.in_default.is c.requires in
    subst (λ (o : Option FrameError). IsFed (left_verdict c.args.follows o (g.F.Frame.format old.frame) old.pending.items) c.args.piece.now (left_verdict c.args.follows (Some e) (g.F.Frame.format new.frame) new.pending.items) (Refused e)) (sym c.in_default.is)
    (feed_refused g.F.Frame.format g.F.Frame.Keeps c.args.follows old new c.args.piece.now c.run-ran.result.at c.run-ran.result.fed e keeps.0 keeps.1 c.run-ran.ensures (sym c.rested-fed.ensures ∙ c.in-Refused.is))

pub returns-in_default-fed : goal.returns-in_default-fed
returns-in_default-fed g c =
    let old = c.args.r.now.machine in
    let new = c.run-ran.new.m in
    let went = feed_goes g.F.Frame.format g.F.Frame.Keeps c.args.follows old new c.args.piece.now c.run-ran.result.at c.run-ran.result.fed c.run-ran.ensures (λ e h. c.in_default-fed.not-Refused e (c.rested-fed.ensures ∙ h)) in
    record {
      fed = subst (λ (o : Option FrameError). IsFed (left_verdict c.args.follows o (g.F.Frame.format old.frame) old.pending.items) c.args.piece.now (left_verdict c.args.follows o (g.F.Frame.format new.frame) new.pending.items) c.rested-fed.result) (sym c.in_default.is)
          (subst (λ (answer : Fed). IsFed (left_verdict c.args.follows None (g.F.Frame.format old.frame) old.pending.items) c.args.piece.now (left_verdict c.args.follows None (g.F.Frame.format new.frame) new.pending.items) answer) (sym c.rested-fed.ensures) went.0);
      stays = λ e h more. absurd (c.in_default-fed.not-Refused e h);
      keeps = subst (λ (o : Option FrameError). KeepsReader g.F.Frame.format g.F.Frame.Keeps o new) (sym c.in_default.is) (went.1, went.2);
    }
