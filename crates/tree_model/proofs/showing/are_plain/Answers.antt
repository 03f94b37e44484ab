use Rattle.tree_model.proofs.ShownLemmas.{plain_without}
use Rattle.tree_model.proofs.showing.are_plain.Goals as goal

pub returns : goal.returns
returns c =
    rw c.contains-backslash.ensures.value (rw c.contains-quote.ensures.value (rw c.contains-newline.ensures.value (plain_without c.args.text.now)))
