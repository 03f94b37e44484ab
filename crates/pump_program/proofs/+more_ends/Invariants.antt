use Rattle.pump_program.proofs.+more_ends.Given as goal

abbrev pub decreases-more_ends : goal.decreases-more_ends
decreases-more_ends l = l.more
