use Rattle.std.proofs.Common.{◌≡◌, ℕ, List, sym, ◌∙◌, ap, Option, Some, false, inr}
use Rattle.tree_model.specs.Entries.{Entries}
use Rattle.job_words.specs.declared.job.Job.{Job}
use Rattle.job_frames.specs.Formats.{Format, reading}
use Rattle.job_frames.specs.Outcomes.{Left, Verdict, nothing_follows}
use Rattle.job_frames.specs.Request.{Got}
use Rattle.job_frames.specs.Images.{image_verdict}
use Rattle.job_frames.specs.declared.frame_reader.FrameReader.{FrameReader}
use Rattle.job_frames.specs.declared.request_frame.RequestFrame.{RequestFrame}
use Rattle.job_frames.specs.parts.Machines.{left_of}
use Rattle.job_frames.specs.parts.Stages.{format_of, Begins}
use Rattle.job_frames.specs.declared.request_due.Token.TheVariants.{Count}
use Rattle.job_frames.proofs.EndLemmas.{begins_image, waits_image, image_refused, image_more, image_done, whole_got, got}
use Rattle.job_frames.proofs.image.read_entries.Goals as goal

-- what a reader says where none may follow the end
abbrev says : FrameReader RequestFrame → Left Got
says r = left_of (λ (f : RequestFrame). format_of f.due f.read) false r

-- a reader that begins is to read an image
reads_image : (f : RequestFrame) (image : List ℕ) (v : Verdict Got) → v ≡ nothing_follows (reading (format_of f.due f.read) image) → Begins Count f → v ≡ image_verdict image
reads_image f image v is b = is ∙ ap (λ (x : Format Got). nothing_follows (reading x image)) (begins_image f b)

pub begin-reader-requires-clause-waits : goal.begin-reader-requires-clause-waits
begin-reader-requires-clause-waits c = waits_image _ (begins_image c.begin_frame.result c.begin_frame.ensures)

pub returns-in-Refused : goal.returns-in-Refused
returns-in-Refused c =
    let image = c.args.image.now in
    image_refused (says c.begin-reader.result) (says c.feed-fed.new.r) image c.in-Refused.e (image_verdict image) (reads_image c.begin_frame.result image _ (c.begin-reader.ensures.reads false image) c.begin_frame.ensures) c.in-Refused.ensures.fed

pub returns-in-More : goal.returns-in-More
returns-in-More c =
    let image = c.args.image.now in
    inr (image_more (says c.begin-reader.result) (says c.feed-fed.new.r) image (image_verdict image) (reads_image c.begin_frame.result image _ (c.begin-reader.ensures.reads false image) c.begin_frame.ensures) c.in-More.ensures.fed)

pub returns-in-Done : goal.returns-in-Done
returns-in-Done c =
    let image = c.args.image.now in
    let new = c.feed-fed.new.r in
    let told = c.is_whole-is_whole.ensures in
    image_done (says c.begin-reader.result) (says new) image (image_verdict image) c.is_whole-is_whole.result (got new.machine.frame.read) (reads_image c.begin_frame.result image _ (c.begin-reader.ensures.reads false image) c.begin_frame.ensures) c.in-Done.ensures.fed
    (λ e. told.other e false)
    (λ e. whole_got false new.stopped new.machine c.feed-fed.ensures.keeps (told.running e) (told.whole e))
    ∙ ap Some (sym (ap (λ (p : Option Job × Entries). p.1) c.into_parts-entries.ensures ∙ ap (λ (f : RequestFrame). f.read.entries) c.into_frame.ensures))
