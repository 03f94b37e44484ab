use Rattle.std.proofs.Common.{◌∙◌}
use Rattle.closure_memo.proofs.Keys.{number_new}
use Rattle.closure_memo.proofs.state.number_in.Goals as goal

pub returns-in-None : goal.returns-in-None
returns-in-None g c = record { number = c.len.ensures.len ∙ number_new g.K.PartialEq.eq c.args.key.now c.args.keys.now.keys c.in-None.ensures.index }
