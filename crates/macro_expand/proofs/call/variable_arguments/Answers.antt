use Rattle.std.proofs.Common.{sym, subst}
use Rattle.macro_expand.specs.parts.Stamps.{Stamped, AllStamped, EachStamped}
use Rattle.macro_expand.proofs.StampLaws.{each-push}
use Rattle.macro_expand.proofs.call.variable_arguments.Goals as goal

pub returns-then-len-count-2-clause-stamped : goal.returns-then-len-count-2-clause-stamped
returns-then-len-count-2-clause-stamped c sets next each =
    subst (EachStamped sets next) (sym c.in_ok-push.ensures.items)
    (each-push (Stamped sets next) c.args.pieces.items c.new.result each (subst (AllStamped sets next) (sym c.new.ensures.items) tt))
