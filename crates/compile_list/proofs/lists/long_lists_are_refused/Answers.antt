use Rattle.compile_list.proofs.JobLines.{long-lists}
use Rattle.compile_list.proofs.lists.long_lists_are_refused.Goals as goal

pub returns : goal.returns
returns c = long-lists
