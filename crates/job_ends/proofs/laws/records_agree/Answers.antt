use Rattle.job_ends.proofs.Agreeing.{records-agree, no-peers, records-are-calm}
use Rattle.job_ends.proofs.laws.records_agree.Goals as goal

pub returns-clause-agree : goal.returns-clause-agree
returns-clause-agree c = λ enough. records-agree c.jobs_are_short.ensures c.request_spellings.ensures.whole c.request_trees.ensures.requests c.reply_spellings.ensures.apart enough

pub returns-clause-no_peer : goal.returns-clause-no_peer
returns-clause-no_peer c = λ enough. no-peers c.jobs_are_short.ensures c.request_spellings.ensures.whole c.request_trees.ensures.requests c.reply_spellings.ensures.apart enough

pub returns-clause-calm : goal.returns-clause-calm
returns-clause-calm c = λ enough. records-are-calm c.jobs_are_short.ensures c.request_spellings.ensures.whole c.request_trees.ensures.requests c.reply_spellings.ensures.apart enough
