use Rattle.closure_fixpoint.specs.Closure.{first_visits, answers_of, LeadsTo}
use Rattle.closure_fixpoint.proofs.Bounds.{closures_exist}
use Rattle.closure_fixpoint.proofs.ClosedLaws.{closure_unique}
use Rattle.closure_fixpoint.proofs.LeadsLaws.{leads_monotone}
use Rattle.closure_fixpoint.proofs.law.closures.Goals as goal

pub returns-clause-exist : goal.returns-clause-exist
returns-clause-exist c = closures_exist c.more_definitions.ensures.headers c.walked_law.ensures c.searches_locate.ensures

pub returns-clause-one : goal.returns-clause-one
returns-clause-one c tree job one other p q =
    closure_unique (first_visits (answers_of tree job) job) (LeadsTo (answers_of tree job) job) (leads_monotone c.more_definitions.ensures.headers (answers_of tree job) job) one other p q
