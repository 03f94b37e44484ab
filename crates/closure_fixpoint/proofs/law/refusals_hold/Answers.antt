use Rattle.closure_fixpoint.proofs.AnalysisLaws.{refusals-hold}
use Rattle.closure_fixpoint.proofs.law.refusals_hold.Goals as goal

pub returns : goal.returns
returns c = refusals-hold c.more_definitions.ensures.headers c.walked_law.ensures c.searches_locate.ensures c.places_locate.ensures c.closures.ensures.exist
