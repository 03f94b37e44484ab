use Rattle.client_order.proofs.Enough.{entries-are-enough}
use Rattle.client_order.proofs.outcomes.outcomes_agree.Goals as goal

pub returns-clause-agree : goal.returns-clause-agree
returns-clause-agree c = c.records_agree.ensures.agree (entries-are-enough c.mirror_is_enough.ensures.tree c.mirror_is_enough.ensures.enough c.mirror_is_enough.ensures.analysed)

pub returns-clause-no_peer : goal.returns-clause-no_peer
returns-clause-no_peer c = c.records_agree.ensures.no_peer (entries-are-enough c.mirror_is_enough.ensures.tree c.mirror_is_enough.ensures.enough c.mirror_is_enough.ensures.analysed)

pub returns-clause-calm : goal.returns-clause-calm
returns-clause-calm c = c.records_agree.ensures.calm (entries-are-enough c.mirror_is_enough.ensures.tree c.mirror_is_enough.ensures.enough c.mirror_is_enough.ensures.analysed)
