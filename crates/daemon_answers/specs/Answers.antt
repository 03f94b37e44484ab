-- What a daemon answers to a job and its entries.
use Rattle.std.specs.Prelude.{◌≡◌}
use Rattle.tree_model.specs.Entries.{Entries}
use Rattle.tree_model.specs.Trees.{tree_of}
use Rattle.job_words.specs.declared.job.Job.{Job}
use Rattle.job_frames.specs.declared.answer.Answer.{Answer}
use Rattle.job_frames.specs.declared.answer.Answer.TheVariants as answer
use Rattle.daemon_cpp.specs.declared.outcome.Outcome.{Outcome}
use Rattle.daemon_cpp.specs.declared.outcome.Outcome.TheVariants as outcome
use Rattle.daemon_cpp.specs.Prep.{outcome_over}

-- a reply that isn't a refusal, with the outcome that it carries
abbrev pub carried : Outcome → Answer
carried (outcome.Text text) = answer.Text text
carried (outcome.Diag words) = answer.Diag words

-- the answer to a whole request: what preprocessing gives over the tree of its entries
abbrev pub Answers : Job → Entries → Answer → Type 0
Answers job entries a = a ≡ carried (outcome_over (tree_of entries) job)
