-- Ends that stayed.
use Rattle.std.proofs.Common.{ℕ, suc, List, [], ◌∷◌}
use Rattle.std.specs.List.{AllByRecursion}
use Rattle.job_ends.specs.Outside.{EndSeen}
use Rattle.job_ends.specs.Works.{IsFresh, EachEnd}
use Rattle.job_ends.proofs.Unused.{still-end, quiet}
use Rattle.pump_run.specs.Run.{EachAnsweredBy}

pub still-ends : (client : ℕ) (ends : List EndSeen) → EachEnd client [] ends ends
still-ends client [] = tt
still-ends client (e ∷ ends) = (still-end e, still-ends (suc client) ends)

pub fresh-answered : (peer : List ℕ → List ℕ → Type 0) (ends : List EndSeen) → AllByRecursion IsFresh ends → EachAnsweredBy peer ends
fresh-answered peer [] fresh = tt
fresh-answered peer (e ∷ ends) fresh = (quiet peer e.talk fresh.0.no_talk, fresh-answered peer ends fresh.1)
