use Rattle.job_words.proofs.Jobs.{are-short}
use Rattle.job_words.proofs.laws.jobs_are_short.Goals as goal

pub returns : goal.returns
returns c = are-short
