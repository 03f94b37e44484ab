use Rattle.tree_model.proofs.JudgeLemmas.{judged-spelled, judged-increase, judged-make_trees, entries-judged}
use Rattle.tree_model.proofs.laws.judging_makes_trees.Goals as goal

pub returns : goal.returns
returns c = record { spelled = judged-spelled; increase = judged-increase; made = judged-make_trees; judged = entries-judged }
