use Rattle.std.proofs.Common.{◌-◌}
use Rattle.std.specs.Option.{option_copied}
use Rattle.symbolic_expand.specs.Defined.{sets_of}
use Rattle.symbolic_expand.proofs.ProgressLaws.{Progress}
use Rattle.symbolic_expand.proofs.search.find_all.Given as goal

-- the runs so far and those from the list ahead on are all runs
abbrev pub invariant-loop-count : goal.invariant-loop-count
invariant-loop-count l = Progress (sets_of l.sets) (option_copied l.file) l.tokens l.ahead.items l.count l.found.quoted l.found.angled l.met

abbrev pub decreases-loop-count : goal.decreases-loop-count
decreases-loop-count l = l.budget - l.count
