use Rattle.std.proofs.Common.{Err, ◌∙◌, ap}
use Rattle.search_path.specs.SetupOf.{SetupData}
use Rattle.sheet_build.specs.Sheet.{sheet_of}
use Rattle.closure_fixpoint.proofs.DrivingLaws.{put_built, put_too_large}
use Rattle.closure_fixpoint.proofs.job_analysis.answer_sheet.Goals as goal

pub returns-in_ok-put-in-Ok-clause-told : goal.returns-in_ok-put-in-Ok-clause-told
returns-in_ok-put-in-Ok-clause-told g c told is budget pending of_tree calm =
    put_built told c.args.job.now budget c.args.analysis.now c.put_unweighed.new.self c.args.visit.now c.in-Ok.found.sheet of_tree (c.put_unweighed.ensures.told c.args.visit.now pending calm)
    (c.in-Ok.ensures.sheet told is ∙ ap (λ (setup : SetupData). sheet_of told setup c.args.visit.now) c.setup.ensures)

pub returns-in-Err-Large-clause-told : goal.returns-in-Err-Large-clause-told
returns-in-Err-Large-clause-told g c told is budget pending of_tree calm =
    put_too_large told c.args.job.now budget c.args.analysis.now c.put_large.new.self c.args.visit.now of_tree (c.put_large.ensures.told c.args.visit.now pending calm)
    (c.in-Err-Large.ensures.large told is (ap (λ e. Err e) c.in-Err-Large.field-0-is))
