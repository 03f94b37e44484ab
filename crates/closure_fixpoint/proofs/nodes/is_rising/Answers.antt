use Rattle.std.proofs.Common.{◌≡◌, ◌+◌, ◌-◌, List, IsTrue, false, length, take, drop, sym, ◌∙◌, ap, subst, arith, length-drop}
use Rattle.std.proofs.lemmas.List.{take_all}
use Rattle.tree_model.specs.Paths.{Path}
use Rattle.macro_defs.proofs.Fronts.{front_at}
use Rattle.closure_fixpoint.specs.Gathering.{are_rising, is_repeated}
use Rattle.closure_fixpoint.proofs.Orders.{rises-on}
use Rattle.closure_fixpoint.proofs.nodes.is_rising.Goals as goal

pub loop-i-preserved : goal.loop-i-preserved
loop-i-preserved c = λ rising.
    let paths = c.args.paths.now in
    let i = c.loop-i.i in
    let path = c.index-paths-i.result in
    let behind = drop (i + 1) paths in
    let all : take (length paths - (i + 1)) behind ≡ behind = take_all (length paths - (i + 1)) behind (omega (arith, length-drop (i + 1) paths)) in
    let before : is_repeated path behind ≡ false = ap (is_repeated path) (sym all) ∙ sym c.is_repeated.ensures ∙ c.if-is_repeated.false in
    c.loop-i.invariant
    (subst (λ (l : List Path). IsTrue (are_rising l)) (sym (front_at paths i path c.loop-i-test.true c.index-paths-i.is)) (rises-on path behind before rising))
