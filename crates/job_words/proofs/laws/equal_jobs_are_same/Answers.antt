use Rattle.job_words.specs.Keys.{is_same_job-Decides}
use Rattle.job_words.proofs.laws.equal_jobs_are_same.Goals as goal

pub returns : goal.returns
returns c = is_same_job-Decides
