use Rattle.closure_fixpoint.proofs.LengthLaws.{entry-length}
use Rattle.closure_fixpoint.proofs.lengths.entry_length.Goals as goal

pub returns-clause-value : goal.returns-clause-value
returns-clause-value c = entry-length c.args.entry.now c.bytes.result.now c.node_length.result c.bytes.ensures.value c.node_length.ensures.value
