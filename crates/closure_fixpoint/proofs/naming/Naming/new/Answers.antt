use Rattle.std.proofs.Common.{None, refl, false}
use Rattle.closure_fixpoint.proofs.NamesLaws.{follows_nothing}
use Rattle.closure_fixpoint.proofs.naming.Naming.new.Goals as goal

pub returns : goal.returns
returns c job =
    follows_nothing (record { begun = false; told = 0; grown = record { sets = c.new.result; log = c.new-2.result }; kept = c.new-3.result; rest = None }) refl refl c.new-3.ensures.items refl job
