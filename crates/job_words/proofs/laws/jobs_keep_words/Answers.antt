use Rattle.job_words.proofs.Jobs.{keeps-words}
use Rattle.job_words.proofs.laws.jobs_keep_words.Goals as goal

pub returns : goal.returns
returns c = keeps-words
