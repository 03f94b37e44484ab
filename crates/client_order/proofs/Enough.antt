-- The entries of a job are enough.
use Rattle.std.proofs.Common.{ap}
use Rattle.mirror_soundness.specs.Mirror.{EntriesMakeTree, MirrorIsEnough, NothingHoldsAnalysed}
use Rattle.job_ends.specs.Agree.{EntriesAreEnough}

pub entries-are-enough : EntriesMakeTree → MirrorIsEnough → NothingHoldsAnalysed → EntriesAreEnough
entries-are-enough make enough analysed tree job budget entries is_tree none are =
    ((make tree job entries is_tree are).0, ap (λ run. run.outcome) (enough tree job entries is_tree are (analysed tree job budget none)))
