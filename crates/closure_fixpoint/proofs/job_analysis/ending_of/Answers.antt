use Rattle.std.proofs.Common.{Option, ◌∙◌, subst, arith}
use Rattle.closure_fixpoint.specs.declared.job_analysis.Ending.{Ending}
use Rattle.closure_fixpoint.specs.Driving.{StepsSo}
use Rattle.closure_fixpoint.proofs.job_analysis.ending_of.Goals as goal

pub returns-in-Ok-Some-clause-ends : goal.returns-in-Ok-Some-clause-ends
returns-in-Ok-Some-clause-ends g c told is =
    subst (λ (end : Option Ending). StepsSo told c.args.job.now c.args.budget c.step.new.analysis end) c.in-Ok-Some.field-0-is
    (c.in-Ok-Some.ensures.steps told (c.loop.invariant.same ∙ is) c.args.budget (c.loop.invariant.goes told is))

pub loop-preserved : goal.loop-preserved
loop-preserved g c = record {
  same = c.in-Ok-None.ensures.same ∙ c.loop.invariant.same;
  later = omega (arith, c.loop.invariant.later, c.in-Ok-None.ensures.cause.later);
  bodies = c.in-Ok-None.ensures.bodies;
  goes = λ told is.
      subst (λ (end : Option Ending). StepsSo told c.args.job.now c.args.budget c.step.new.analysis end) c.in-Ok-None.field-0-is
      (c.in-Ok-None.ensures.steps told (c.loop.invariant.same ∙ is) c.args.budget (c.loop.invariant.goes told is));
}
