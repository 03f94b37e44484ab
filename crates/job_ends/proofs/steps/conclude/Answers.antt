use Rattle.job_ends.specs.declared.asking.Replied.TheVariants.{Text, Diag, Failed}
use Rattle.job_ends.specs.Record.{known}
use Rattle.job_ends.proofs.Deeds.{by-reply, text-concluded, diag-concluded, local-concluded}
use Rattle.job_ends.proofs.steps.conclude.Goals as goal

pub returns-in-Text-clause-did : goal.returns-in-Text-clause-did
returns-in-Text-clause-did g c = λ budget host from.
    by-reply _ _ _ _ from _ _ _ (Text c.in-Text.text) c.in-Text.is
    (λ was. text-concluded (known g.T.Of.Frozen.named budget) c.args.job.now host c.args.number c.args.client from _ _ c.in-Text.text c.put_text-outcome.result was c.put_text-outcome.ensures.puts)

pub returns-in-Diag-clause-did : goal.returns-in-Diag-clause-did
returns-in-Diag-clause-did g c = λ budget host from.
    by-reply _ _ _ _ from _ _ _ (Diag c.in-Diag.words) c.in-Diag.is
    (λ was. diag-concluded (known g.T.Of.Frozen.named budget) c.args.job.now host c.args.number c.args.client from _ c.in-Diag.words was)

pub returns-in-Failed-clause-did : goal.returns-in-Failed-clause-did
returns-in-Failed-clause-did g c = λ budget host from.
    by-reply _ _ _ _ from _ _ _ (Failed c.in-Failed.cause) c.in-Failed.is
    (λ was. local-concluded (known g.T.Of.Frozen.named budget) c.args.job.now host c.args.number c.args.client from _ _ c.in-Failed.cause c.do_locally-outcome.result was c.do_locally-outcome.ensures.does)
