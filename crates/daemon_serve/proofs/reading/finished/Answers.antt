use Rattle.std.proofs.Common.{sym, ◌∙◌, ap}
use Rattle.job_frames.specs.parts.Readers.{request_of}
use Rattle.daemon_serve.proofs.WholeRequests.{never-none}
use Rattle.daemon_serve.proofs.reading.finished.Goals as goal

pub unreachable-requires : goal.unreachable-requires
unreachable-requires c =
    let r = c.requires in
    never-none c.request_spellings.ensures.spelled r.0 r.1 r.3 (ap request_of (sym r.3) ∙ ap request_of (sym r.2) ∙ sym c.finish.ensures ∙ c.in-None.is)
