use Rattle.std.proofs.Common.{◌++◌, ◌∷◌, [], sym, subst, ◌∙◌}
use Rattle.indexmap.proofs.CallerLemmas.{insert_entry-new}
use Rattle.closure_fixpoint.specs.Asked.{HasNoAnswer}
use Rattle.closure_fixpoint.specs.parts.AskKeys.{is_same_ask}
use Rattle.closure_fixpoint.proofs.AskLookups.{untold_lookup}
use Rattle.closure_fixpoint.proofs.searches.Searches.tell.Goals as goal

pub returns-in-Ok-clause-ok : goal.returns-in-Ok-clause-ok
returns-in-Ok-clause-ok c =
    let map = c.self.inside.told in
    let new : HasNoAnswer map.entries c.of.result =
    subst (λ told. HasNoAnswer told c.of.result) (sym c.self.view_is) (subst (HasNoAnswer c.args.self.now) (sym c.of.ensures) c.requires) in
    c.in-Ok.ensures.entries ∙ insert_entry-new is_same_ask map c.of.result c.args.got (untold_lookup map.entries c.of.result new)
    ∙ (λ i. c.self.view_is i ++ (c.of.ensures i, c.args.got) ∷ [])
