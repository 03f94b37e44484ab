use Rattle.std.proofs.Common.{◌∙◌, subst}
use Rattle.std.proofs.lemmas.Result.{IfOk-weaker}
use Rattle.closure_fixpoint.specs.declared.job_analysis.Analysed.TheVariants as analysed
use Rattle.closure_fixpoint.specs.declared.job_analysis.Ending.{Ending}
use Rattle.closure_fixpoint.specs.Analysis.{AnalysisHolds}
use Rattle.closure_fixpoint.specs.Driving.{EndsSo, IsDoneIn, IsRefusedIn}
use Rattle.closure_fixpoint.proofs.AnalysisLaws.{for-told, ok-for-told}
use Rattle.closure_fixpoint.proofs.job_analysis.analyse.Goals as goal

pub returns-clause-answer : goal.returns-clause-answer
returns-clause-answer g c =
    for-told (g.T.Tree.told c.args.tree.now) (λ told. AnalysisHolds told c.args.job.now c.args.budget (analysed.Refused c.in-Refused.refusal))
    (λ told is.
    let end : IsRefusedIn told c.args.job.now c.args.budget c.in-Refused.refusal =
    subst (λ (end : Ending). EndsSo told c.args.job.now c.args.budget end) c.in-Refused.is (c.in_ok-closure.ensures.ends told is) in
    c.refusals_hold.ensures told c.args.job.now c.args.budget end.heard c.in-Refused.refusal (g.met.T.Tree.whole c.args.tree.now told is) end.is_true end.means)

pub returns-in-Done-clause-answer : goal.returns-in-Done-clause-answer
returns-in-Done-clause-answer g c =
    ok-for-told (g.T.Tree.told c.args.tree.now) c.request_with.result (λ told answer. AnalysisHolds told c.args.job.now c.args.budget answer)
    (λ told is.
    let end : IsDoneIn told c.args.job.now c.args.budget c.in-Done.closure.visits c.in-Done.closure.nodes =
    subst (λ (end : Ending). EndsSo told c.args.job.now c.args.budget end) c.in-Done.is (c.in_ok-closure.ensures.ends told is) in
    IfOk-weaker c.request_with.result _ (λ answer. AnalysisHolds told c.args.job.now c.args.budget answer) (λ answer holds. holds c.args.budget end)
    (c.request_with.ensures.answer told (c.in_ok-closure.ensures.same ∙ is)))
