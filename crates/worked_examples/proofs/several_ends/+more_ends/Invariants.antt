use Rattle.worked_examples.proofs.several_ends.+more_ends.Given as goal

abbrev pub decreases-more_ends : goal.decreases-more_ends
decreases-more_ends g l = l.more
