use Rattle.std.proofs.Common.{sym, subst, arith}
use Rattle.std.proofs.lemmas.Bool.{eqb-false}
use Rattle.macro_defs.specs.Runs.{run_tokens}
use Rattle.macro_expand.specs.parts.Placing.{lent_in}
use Rattle.macro_expand.specs.parts.Stamps.{AllStamped, AllFresh}
use Rattle.macro_expand.proofs.LoopLaws.{on_ok-map}
use Rattle.macro_expand.proofs.PlacingLemmas.{lent-fresh}
use Rattle.macro_expand.proofs.StampLaws.{put-stamped}
use Rattle.macro_expand.proofs.expansion.put_in_lent.Goals as goal

pub returns-clause-stamped : goal.returns-clause-stamped
returns-clause-stamped c sets pending =
    on_ok-map c.put_lent.result
    (λ e. let made = lent_in c.args.t.now c.args.hidden.now c.stamp_of.result (run_tokens c.args.body) in
    let put = put-stamped sets c.args.stamps.now c.saturating_add.result made c.args.pending.now (omega (arith, c.saturating_add.ensures))
    (λ room. (let other = eqb-false c.args.stamps.now 4294967295 room in omega (arith, c.saturating_add.ensures, c.saturating_add.auto, other)))
    (c.args.hidden.now, subst (λ n. AllFresh n c.args.hidden.now made) c.stamp_of.ensures (lent-fresh c.args.t.now c.args.hidden.now c.stamp_of.result (run_tokens c.args.body))) pending in
    (put.0, (put.1.0, subst (AllStamped put.0 c.saturating_add.result) (sym e) put.1.1)))
    c.put_lent.ensures.ok
