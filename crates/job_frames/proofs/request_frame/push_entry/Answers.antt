use Rattle.std.proofs.Common.{sym, ◌∙◌, subst}
use Rattle.base_types.proofs.Results.{no-error}
use Rattle.tree_model.specs.Entries.{Entries, Increasing}
use Rattle.job_frames.specs.parts.Stages.{PathReady}
use Rattle.job_frames.proofs.StageLemmas.{increasing_push}
use Rattle.job_frames.proofs.request_frame.push_entry.Goals as goal

pub next_name-requires : goal.next_name-requires
next_name-requires c =
    let es = c.args.f.now.read.entries in
    record {
      increasing = subst (λ (x : Entries). Increasing x) (sym (no-error c.push.result c.if-is_err.ensures.value c.push.ensures.ok))
          (increasing_push es c.in-Some.path c.args.entry c.requires.increasing (subst (PathReady es) (sym c.take.ensures.value ∙ c.in-Some.is) c.requires.path));
    }
