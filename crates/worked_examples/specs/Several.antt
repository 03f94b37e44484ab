-- The texts of several jobs, put by several clients.
use Rattle.std.specs.Prelude.{◌≡◌, ℕ, List, Option, Some}
use Rattle.std.specs.List.{AllByRecursion}
use Rattle.base_types.specs.Members.{Member}
use Rattle.tree_model.specs.Trees.{FileTree}
use Rattle.job_words.specs.declared.job.Job.{Job}
use Rattle.daemon_cpp.specs.declared.outcome.Outcome.TheVariants as outcome
use Rattle.daemon_cpp.specs.Prep.{outcome_over}

-- the text that preprocessing over the whole tree gives was put under the job's output name, on one of these outs
pub record IsPutOnOne (tree : FileTree) (kepts : List (Option (List (List ℕ × List ℕ)))) (job : Job) : Type 0 where
  pub body : List ℕ
  pub gives : outcome_over tree job ≡ outcome.Text body
  pub kept : List (List ℕ × List ℕ)
  pub one : Member (Some kept) kepts
  pub put : Member (job.output, body) kept

-- it was for each job
abbrev pub EachIsPut : FileTree → List (Option (List (List ℕ × List ℕ))) → List Job → Type 0
EachIsPut tree kepts jobs = AllByRecursion (λ (job : Job). IsPutOnOne tree kepts job) jobs
