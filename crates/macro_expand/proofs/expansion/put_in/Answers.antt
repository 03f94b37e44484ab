use Rattle.std.proofs.Common.{sym, subst, arith}
use Rattle.std.proofs.lemmas.Bool.{eqb-false}
use Rattle.macro_expand.specs.parts.Stamps.{AllStamped}
use Rattle.macro_expand.proofs.LoopLaws.{on_ok-map}
use Rattle.macro_expand.proofs.StampLaws.{put-stamped}
use Rattle.macro_expand.proofs.expansion.put_in.Goals as goal

pub returns-clause-stamped : goal.returns-clause-stamped
returns-clause-stamped c sets made pending =
    on_ok-map c.put_back.result
    (λ e. let put = put-stamped sets c.args.stamps.now c.saturating_add.result c.args.made.items c.args.pending.now (omega (arith, c.saturating_add.ensures))
    (λ room. (let other = eqb-false c.args.stamps.now 4294967295 room in omega (arith, c.saturating_add.ensures, c.saturating_add.auto, other))) made pending in
    (put.0, (put.1.0, subst (AllStamped put.0 c.saturating_add.result) (sym e) put.1.1)))
    c.put_back.ensures.ok
