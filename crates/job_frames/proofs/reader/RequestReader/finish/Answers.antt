use Rattle.std.proofs.Common.{sym, ◌∙◌, ap, Option, Some, None}
use Rattle.tree_model.specs.Entries.{Entries}
use Rattle.job_words.specs.declared.job.Job.{Job}
use Rattle.job_frames.specs.declared.request_frame.RequestFrame.{RequestFrame}
use Rattle.job_frames.proofs.EndLemmas.{request_says}
use Rattle.job_frames.proofs.reader.RequestReader.finish.Goals as goal

pub returns-in-Some : goal.returns-in-Some
returns-in-Some c =
    let r = c.self.inside.reader in
    let told = c.is_whole-is_whole.ensures in
    let is_whole = c.if-not-is_whole.false in
    ap (λ (es : Entries). Some (c.in-Some.job, es)) (ap (λ (p : Option Job × Entries). p.1) c.into_parts-job.ensures ∙ ap (λ (f : RequestFrame). f.read.entries) c.into_frame.ensures)
    ∙ request_says r.stopped r.machine c.args.self (Some c.in-Some.job) c.self.view_is c.self.invariant (told.running is_whole) (told.whole is_whole)
    (ap (λ (f : RequestFrame). f.read.job) (sym c.into_frame.ensures) ∙ sym (ap (λ (p : Option Job × Entries). p.0) c.into_parts-job.ensures) ∙ c.in-Some.is)

pub returns-in-None : goal.returns-in-None
returns-in-None c =
    let r = c.self.inside.reader in
    let told = c.is_whole-is_whole.ensures in
    let is_whole = c.if-not-is_whole.false in
    request_says r.stopped r.machine c.args.self None c.self.view_is c.self.invariant (told.running is_whole) (told.whole is_whole)
    (ap (λ (f : RequestFrame). f.read.job) (sym c.into_frame.ensures) ∙ sym (ap (λ (p : Option Job × Entries). p.0) c.into_parts-job.ensures) ∙ c.in-None.is)
