use Rattle.std.proofs.Common.{◌∷◌, [], ◌∙◌}
use Rattle.tree_model.proofs.glance.glance_at.Goals as goal

pub returns-in-Missing-clause-tells : goal.returns-in-Missing-clause-tells
returns-in-Missing-clause-tells g c told is =
    rw c.in-Missing.is at (c.in_ok-glance_below.ensures.tells told is (c.args.from.now ∷ [] ∷ []))

pub returns-in_ok-place-in-Some-clause-tells : goal.returns-in_ok-place-in-Some-clause-tells
returns-in_ok-place-in-Some-clause-tells g c told is =
    let walked = rw c.in-Some.is at c.in_ok-walked-in-File.ensures in
    rw (c.in_ok-place-in-Some.ensures, walked told (c.in_ok-glance_below.ensures.same ∙ is))
    (rw c.in-File.is at (c.in_ok-glance_below.ensures.tells told is (c.args.from.now ∷ [] ∷ [])))
