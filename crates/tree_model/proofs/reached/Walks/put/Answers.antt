use Rattle.std.proofs.Common.{nat_eq, refl, ap, ◌∙◌}
use Rattle.std.specs.HashMap.{get}
use Rattle.std.proofs.lemmas.Bool.Decides.{Decides-eqb}
use Rattle.tree_model.specs.parts.Remembered.{walks_known, number_of}
use Rattle.tree_model.proofs.RememberedLemmas.{one_more, one_text_more, walks_still_true}
use Rattle.tree_model.proofs.reached.Walks.put.Goals as goal

pub returns : goal.returns
returns c told true_of right =
    walks_still_true told (walks_known c.args.self.now) (walks_known (record { known = c.insert.new.self })) c.args.text c.args.it
    (one_text_more (get nat_eq c.args.self.now.known) (get nat_eq c.insert.new.self) c.args.text c.args.it
    (one_more nat_eq Decides-eqb c.args.self.now.known c.insert.new.self (number_of c.args.text) c.number_of-number.result (c.args.text, c.args.it) (c.args.text, c.args.it) c.insert.result
    (c.number_of-number.ensures ∙ ap number_of c.as_slice.ensures) refl c.insert.ensures.updates c.insert.ensures.err))
    true_of right
