use Rattle.std.proofs.Common.{ap, sym, ◌∙◌}
use Rattle.tree_model.specs.Entries.{Entries, judged_path}
use Rattle.job_frames.proofs.StageLemmas.{judged_ready}
use Rattle.job_frames.proofs.request_frame.take_path.Goals as goal

pub go-requires-clause-ready : goal.go-requires-clause-ready
go-requires-clause-ready c =
    judged_ready c.args.f.now.read.entries c.args.text.items c.in-Ok.path (ap (λ (es : Entries). judged_path es c.args.text.items) (sym c.as_slice.ensures) ∙ c.in-Ok.ensures)
