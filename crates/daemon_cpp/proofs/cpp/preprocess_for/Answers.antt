use Rattle.std.proofs.Common.{◌≡◌, ◌∙◌, ap}
use Rattle.tree_model.specs.Paths.{Text}
use Rattle.daemon_cpp.specs.declared.cpp.Told.{Told}
use Rattle.search_path.specs.Asks.{source_ask}
use Rattle.daemon_cpp.specs.Prep.{outcome_over}
use Rattle.daemon_cpp.proofs.Jobs.{at_told, job-found, job-not_found}
use Rattle.daemon_cpp.proofs.cpp.preprocess_for.Goals as goal

pub returns-in_ok-told-in-Ok-Some-clause-outcome : goal.returns-in_ok-told-in-Ok-Some-clause-outcome
returns-in_ok-told-in-Ok-Some-clause-outcome g c =
    at_told (g.T.Tree.told c.args.tree.now) (λ told. c.in_ok-told-in-Ok-Some.told.outcome ≡ outcome_over told c.args.job.now)
    (λ told is.
    ap (λ (t : Told). t.outcome) (c.in_ok-told-in-Ok-Some.ensures.told told (c.in-Ok-Some.ensures.same ∙ is))
    ∙ job-found told c.args.job.now c.setup.result.now c.in_ok-ask.ask c.in-Ok-Some.source (c.in-Ok-Some.ensures.found told is ∙ c.in-Ok-Some.field-0-is) c.setup.ensures (c.in_ok-ask.ensures ∙ ap (λ (name : Text). source_ask name) c.source.ensures))

pub returns-in_ok-no_source-in-Ok-None-clause-outcome : goal.returns-in_ok-no_source-in-Ok-None-clause-outcome
returns-in_ok-no_source-in-Ok-None-clause-outcome g c =
    at_told (g.T.Tree.told c.args.tree.now) (λ told. c.in_ok-no_source-in-Ok-None.field-0 ≡ outcome_over told c.args.job.now)
    (λ told is.
    c.in_ok-no_source-in-Ok-None.ensures.outcome
    ∙ job-not_found told c.args.job.now c.setup.result.now c.in_ok-ask.ask (c.in-Ok-None.ensures.found told is ∙ c.in-Ok-None.field-0-is) c.setup.ensures (c.in_ok-ask.ensures ∙ ap (λ (name : Text). source_ask name) c.source.ensures))
