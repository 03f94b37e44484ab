use Rattle.std.proofs.Common.{◌∙◌, inl, ap, subst, Some}
use Rattle.closure_fixpoint.specs.declared.fixpoint.End.{End}
use Rattle.closure_fixpoint.specs.declared.fixpoint.Next.TheVariants as next
use Rattle.closure_fixpoint.specs.Progress.{IsEnough, IsAccepted}
use Rattle.closure_fixpoint.specs.Told.{Progress, RefusalMeans}
use Rattle.closure_fixpoint.specs.parts.Seen.{ended_by}
use Rattle.closure_fixpoint.proofs.fixpoint.Fixpoint.again.Goals as goal

pub refuse-requires-clause-means : goal.refuse-requires-clause-means
refuse-requires-clause-means c =
    subst (λ (q : Progress). RefusalMeans q.job q.budget q.heard c.in-Refused.refusal) c.self.view_is
    (c.self.invariant.stands.refused c.in-Refused.refusal (ap (λ (q : Progress). q.ended) c.self.view_is ∙ c.requires.ended ∙ ap (λ (e : End). Some (ended_by e)) c.in-Refused.is))

pub refuse-requires-clause-large : goal.refuse-requires-clause-large
refuse-requires-clause-large c visit is =
    c.self.invariant.stands.too_large visit c.in-Refused.refusal (ap (λ (q : Progress). q.heard.large) c.self.view_is ∙ is)
    (ap (λ (q : Progress). q.ended) c.self.view_is ∙ c.requires.ended ∙ ap (λ (e : End). Some (ended_by e)) c.in-Refused.is)

pub finish-requires-clause-enough : goal.finish-requires-clause-enough
finish-requires-clause-enough c =
    subst (λ (q : Progress). IsEnough q.job q.heard q.found) c.self.view_is
    (c.self.invariant.stands.finished (ap (λ (q : Progress). q.ended) c.self.view_is ∙ c.requires.ended ∙ ap (λ (e : End). Some (ended_by e)) c.in-Done.is)).0

pub finish-requires-clause-accepted : goal.finish-requires-clause-accepted
finish-requires-clause-accepted c =
    subst (λ (q : Progress). IsAccepted q.job q.budget q.heard q.found) c.self.view_is
    (c.self.invariant.stands.finished (ap (λ (q : Progress). q.ended) c.self.view_is ∙ c.requires.ended ∙ ap (λ (e : End). Some (ended_by e)) c.in-Done.is)).1

pub returns-in-Refused-clause-large : goal.returns-in-Refused-clause-large
returns-in-Refused-clause-large c visit is =
    inl (c.refuse.ensures.says ∙ ap next.Refused (c.self.invariant.stands.too_large visit c.in-Refused.refusal (ap (λ (q : Progress). q.heard.large) c.self.view_is ∙ is)
    (ap (λ (q : Progress). q.ended) c.self.view_is ∙ c.requires.ended ∙ ap (λ (e : End). Some (ended_by e)) c.in-Refused.is)))
