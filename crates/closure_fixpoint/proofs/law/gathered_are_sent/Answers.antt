use Rattle.closure_fixpoint.proofs.AnalysisLaws.{are-sent}
use Rattle.closure_fixpoint.proofs.law.gathered_are_sent.Goals as goal

pub returns : goal.returns
returns c tree job nodes entries whole is_node given = are-sent c.walked_law.ensures c.searches_locate.ensures tree whole job nodes is_node entries given
