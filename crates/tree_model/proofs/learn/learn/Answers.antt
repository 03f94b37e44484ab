use Rattle.std.proofs.Common.{◌∙◌, refl, sym}
use Rattle.tree_model.proofs.Further.{reached_front}
use Rattle.tree_model.proofs.StepLemmas.{if_each}
use Rattle.tree_model.proofs.learn.learn.Goals as goal

pub remember-requires : goal.remember-requires
remember-requires g c =
    let tells = rw c.in-Some-2.is at c.in_ok-it.ensures.tells in
    if_each (g.T.Tree.told c.look_below.new.tree) _ (λ told is.
    reached_front told c.args.text.now c.in-Some.front.now c.cut_last.result.1.now c.in_ok-copy_of.field-0 c.in-Some.front.now c.in-Some-2.it
    c.in_ok-copy_of.ensures refl (rw c.in-Some.is at c.cut_last.ensures.head) c.cut_last.ensures.name
    (tells told (sym c.in_ok-it.ensures.same ∙ is)))
