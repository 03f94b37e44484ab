-- What a reader of requests is seen as, and what it keeps.
use Rattle.std.specs.Prelude.{ℕ, List, Option, true}
use Rattle.std.specs.Option.{option_map, option_and_then}
use Rattle.tree_model.specs.Entries.{Entries}
use Rattle.job_words.specs.declared.job.Job.{Job}
use Rattle.job_frames.specs.declared.FrameError.{FrameError}
use Rattle.job_frames.specs.declared.frame_reader.FrameReader.{FrameReader}
use Rattle.job_frames.specs.declared.request_due.Due.{Due}
use Rattle.job_frames.specs.declared.request_frame.Read.{Read}
use Rattle.job_frames.specs.declared.request_frame.RequestFrame.{RequestFrame}
use Rattle.job_frames.specs.Outcomes.{Verdict, Left, value_of}
use Rattle.job_frames.specs.Request.{Got}
use Rattle.job_frames.specs.parts.Machines.{left_verdict, KeepsReader}
use Rattle.job_frames.specs.parts.Stages.{format_of, Keeps}

-- What a reader of requests is seen as: why it stopped, if it did, the field that is due, what has come of that
-- field, and the parts read before it.
abbrev pub Standing : Type 0
Standing = Option FrameError × Due × List ℕ × Read

abbrev pub left : Standing → Left Got
left s = left_verdict true s.0 (format_of s.1 s.3) s.2

abbrev pub KeepsRequest : FrameReader RequestFrame → Type 0
KeepsRequest r = KeepsReader (λ (f : RequestFrame). format_of f.due f.read) (λ (f : RequestFrame). Keeps f.due f.read) r.stopped r.machine

-- the request that a verdict gives
abbrev pub request_of : Verdict Got → Option (Job × Entries)
request_of v = option_and_then (λ got. option_map (λ job. (job, got.entries)) got.job) (value_of v)
