use Rattle.job_ends.specs.Record.{known}
use Rattle.client_steps.proofs.Going.{found}
use Rattle.client_steps.proofs.analysing.find.Goals as goal

pub returns-clause-keeps : goal.returns-clause-keeps
returns-clause-keeps g c = λ calls from h.
    (h.0, h.1, found (known g.T.Of.Frozen.named c.args.budget) h.0 c.args.fixpoint c.put_sheet.new.self c.args.key c.args.sheet calls from _ h.2 c.put_sheet.ensures.told)
