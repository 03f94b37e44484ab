use Rattle.std.proofs.Common.{refl, true}
use Rattle.closure_fixpoint.proofs.NamesLaws.{follows_first}
use Rattle.closure_fixpoint.proofs.naming.begin.Goals as goal

pub returns-clause-follows : goal.returns-clause-follows
returns-clause-follows c =
    follows_first c.args.naming.now
    (record { begun = true; told = c.args.naming.now.told; grown = record { sets = c.in_ok-naming.field-0; log = c.args.naming.now.grown.log }; kept = c.args.naming.now.kept; rest = c.args.naming.now.rest })
    c.args.job.now c.if-naming.false c.in_ok-naming.ensures refl refl refl refl
