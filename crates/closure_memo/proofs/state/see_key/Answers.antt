use Rattle.std.proofs.Common.{◌∙◌}
use Rattle.closure_memo.proofs.Keys.{inserted_is}
use Rattle.closure_memo.proofs.state.see_key.Goals as goal

pub returns-clause-keys : goal.returns-clause-keys
returns-clause-keys g c = c.in-Ok-insert.ensures.keys ∙ inserted_is g.K.PartialEq.eq c.args.key c.args.keys.now.keys
