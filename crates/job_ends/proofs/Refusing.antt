-- What a refused analysis says of the tree that is told.
use Rattle.std.proofs.Common.{◌≡◌, ℕ, Option, None, Some, IfSome, ap, subst}
use Rattle.tree_model.specs.Trees.{FileTree}
use Rattle.job_words.specs.declared.job.Job.{Job}
use Rattle.closure_fixpoint.specs.Analysis.{AnalysisHolds, Holds}
use Rattle.closure_fixpoint.specs.declared.job_analysis.Refusal.{Refusal}
use Rattle.closure_fixpoint.specs.declared.job_analysis.Analysed.{Analysed}
use Rattle.closure_fixpoint.specs.declared.job_analysis.Analysed.TheVariants.{Refused}

pub refused-of : (told : Option FileTree) (job : Job) (budget : ℕ) (refusal : Refusal) (found : Analysed) (tree : FileTree) → found ≡ Refused refusal
    → IfSome told (λ t. AnalysisHolds t job budget found) → told ≡ Some tree → Holds refusal tree job budget
refused-of None job budget refusal found tree refused holds is = absurd (cc)
refused-of (Some t) job budget refusal found tree refused holds is =
    let one : t ≡ tree = ap (λ (o : Option FileTree). elim o [ None ↦ t | Some u ↦ u ]) is in
    subst (λ u. Holds refusal u job budget) one (subst (λ a. AnalysisHolds t job budget a) refused holds)
