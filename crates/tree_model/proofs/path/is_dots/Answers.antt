use Rattle.std.proofs.Common.{sym}
use Rattle.tree_model.proofs.PathLemmas.{long_dots}
use Rattle.tree_model.proofs.path.is_dots.Goals as goal

pub returns-then-text-gt2 : goal.returns-then-text-gt2
returns-then-text-gt2 c = sym (long_dots c.args.text.now c.if-text-gt2.true)
