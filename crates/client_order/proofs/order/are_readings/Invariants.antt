use Rattle.std.proofs.Common.{ℕ, ◌<◌, slice_index_or}
use Rattle.job_words.specs.declared.job.Job.{Job}
use Rattle.job_words.specs.Words.{IsJob}
use Rattle.client_order.proofs.order.are_readings.Given as goal

abbrev pub invariant-loop-job : goal.invariant-loop-job
invariant-loop-job l = (k : ℕ) (d : Job) → k < l.job-index → IsJob (slice_index_or l.jobs k d)
