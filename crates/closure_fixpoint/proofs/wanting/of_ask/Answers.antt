use Rattle.std.proofs.Common.{◌∙◌, refl, subst}
use Rattle.std.proofs.lemmas.Result.{IfOk-weaker}
use Rattle.closure_fixpoint.specs.Asked.{HasAnswer, HasNoAnswer}
use Rattle.closure_fixpoint.proofs.WantingLaws.{ask_of_hit}
use Rattle.closure_fixpoint.proofs.wanting.of_ask.Goals as goal

pub returns-in-None : goal.returns-in-None
returns-in-None c = (c.into_ask.ensures ∙ c.of-key.ensures, refl, subst (HasNoAnswer c.args.searches.now) c.of-key.ensures c.in-None.ensures.none)

pub returns-in-Some : goal.returns-in-Some
returns-in-Some c =
    let told : HasAnswer c.args.searches.now c.args.ask c.in-Some.got.now =
    subst (λ ask. HasAnswer c.args.searches.now ask c.in-Some.got.now) c.of-key.ensures c.in-Some.ensures.some in
    IfOk-weaker c.of_hit.result _ _ (λ o h. ask_of_hit c.args.searches.now c.args.found.now c.args.ask c.args.include c.in-Some.got.now o told h) c.of_hit.ensures
