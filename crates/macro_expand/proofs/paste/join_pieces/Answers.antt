use Rattle.std.proofs.Common.{sym}
use Rattle.macro_expand.proofs.PasteLaws.{tokens_in_front-nothing}
use Rattle.macro_expand.proofs.paste.join_pieces.Goals as goal

pub loop-p-init : goal.loop-p-init
loop-p-init c = rw (c.in_ok-with_capacity.ensures.items, c.into_iter-p-iterator.ensures.into_iter_gives.0) (sym (tokens_in_front-nothing _), λ _. tt)
