use Rattle.std.proofs.Common.{rules, refl}
use Rattle.job_ends.proofs.Refusing.{refused-of}
use Rattle.job_ends.proofs.steps.prepare.Goals as goal

pub returns-in-Ok-Refused-clause-prepared : goal.returns-in-Ok-Refused-clause-prepared
returns-in-Ok-Refused-clause-prepared g c = record {
  did = search rules;
  holds = (
    refl,
    λ tree named. refused-of (g.T.Tree.told c.args.end.now.tree) c.args.job.now c.args.budget c.in-Ok-Refused.refusal c.in-Ok-Refused.field-0 tree
        c.in-Ok-Refused.field-0-is c.in-Ok-Refused.ensures.answer (g.met.T.Tree.tells c.args.end.now.tree tree named),
  );
}
