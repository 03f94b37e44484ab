use Rattle.std.proofs.Common.{ap, ◌∙◌, ◌++◌, [], ◌∷◌, inr, Ok, Err, if◌then◌else◌}
use Rattle.compile_list.specs.declared.refused.ListWhy.TheVariants.{Output}
use Rattle.compile_list.proofs.Outputs.{output-more, taken}
use Rattle.compile_list.proofs.jobs.ReadJobs.add_job.Goals as goal

pub returns-in-Ok-false-clause-why : goal.returns-in-Ok-false-clause-why
returns-in-Ok-false-clause-why c =
    let is_taken = taken c.args.self.now.outputs c.args.self.now.jobs c.in-Ok.output c.args.job.output c.in-Ok-false.field-0 c.requires.outputs (c.in-Ok.ensures ∙ c.output.ensures) c.in-Ok-false.ensures.added c.in-Ok-false.field-0-test in
    inr (ap (λ test. if test then Err Output else Ok (c.args.self.now.jobs ++ c.args.job ∷ [])) is_taken)

pub returns-clause-outputs : goal.returns-clause-outputs
returns-clause-outputs c =
    output-more c.args.self.now.outputs c.insert.new.self c.args.job c.args.self.now.jobs c.push.new.self c.in-Ok.output
    (c.in-Ok.ensures ∙ c.output.ensures) c.in_default-push.ensures.ok c.requires.outputs c.in-Ok-true.ensures.updates.0
