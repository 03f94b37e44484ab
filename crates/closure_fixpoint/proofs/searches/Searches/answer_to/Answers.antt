use Rattle.std.proofs.Common.{IfSome, IfNone, subst}
use Rattle.closure_fixpoint.specs.Asked.{HasAnswer, HasNoAnswer}
use Rattle.closure_fixpoint.proofs.AskLookups.{got_told, got_none}
use Rattle.closure_fixpoint.proofs.searches.Searches.answer_to.Goals as goal

pub returns-clause-some : goal.returns-clause-some
returns-clause-some c =
    subst (λ told. IfSome c.get.result (λ got. HasAnswer told c.args.ask.now got.now)) c.self.view_is
    (got_told c.self.inside.told.entries c.args.ask.now c.get.result c.get.ensures.value)

pub returns-clause-none : goal.returns-clause-none
returns-clause-none c =
    subst (λ told. IfNone c.get.result (HasNoAnswer told c.args.ask.now)) c.self.view_is
    (got_none c.self.inside.told.entries c.args.ask.now c.get.result c.get.ensures.value)
