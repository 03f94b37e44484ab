use Rattle.std.proofs.Common.{sym, subst}
use Rattle.macro_expand.specs.parts.Stamps.{Stamped, AllStamped}
use Rattle.macro_expand.proofs.LoopLaws.{on_ok-map}
use Rattle.macro_expand.proofs.StampLaws.{all-push}
use Rattle.macro_expand.proofs.builtin.put_in_place.Goals as goal

pub returns-clause-stamped : goal.returns-clause-stamped
returns-clause-stamped c sets next t out =
    on_ok-map c.put.result
    (λ e. subst (AllStamped sets next) (sym e) (all-push (Stamped sets next) c.args.out.now.items c.in_ok-in_place_of.field-0 out (c.in_ok-in_place_of.ensures.stamped sets next t)))
    c.put.ensures.ok
