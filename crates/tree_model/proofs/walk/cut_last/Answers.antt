use Rattle.std.proofs.Common.{◌≡◌, ◌-◌, length, take, drop, ap, sym, subst, arith}
use Rattle.tree_model.specs.Walk.{but_last, last_of}
use Rattle.tree_model.proofs.CutLemmas.{LastCut, UnslashedFrom, last_cut, whole_name}
use Rattle.tree_model.proofs.walk.cut_last.Goals as goal

cut_here : (c : goal.After-result-1) → LastCut c.args.text.now (take (c.loop-at.at - 1) c.args.text.now) (take (length c.args.text.now - c.loop-at.at) (drop c.loop-at.at c.args.text.now))
cut_here c = last_cut c.args.text.now c.loop-at.at (c.loop-at.at - 1) (omega arith) c.loop-at.invariant.within c.if-text-at-eq47.true c.loop-at.invariant.unslashed

pub returns-then-text-at-eq47-clause-head : goal.returns-then-text-at-eq47-clause-head
returns-then-text-at-eq47-clause-head c = (cut_here c).before

pub returns-then-text-at-eq47-clause-name : goal.returns-then-text-at-eq47-clause-name
returns-then-text-at-eq47-clause-name c = (cut_here c).name_is

pub returns-then-text-at-eq47-clause-one : goal.returns-then-text-at-eq47-clause-one
returns-then-text-at-eq47-clause-one c = (cut_here c).one

pub returns-clause-head : goal.returns-clause-head
returns-clause-head c =
    let start : c.loop-at.at ≡ 0 = omega arith in
    ap but_last (sym (whole_name c.args.text.now (subst (UnslashedFrom c.args.text.now) start c.loop-at.invariant.unslashed)))

pub returns-clause-name : goal.returns-clause-name
returns-clause-name c =
    let start : c.loop-at.at ≡ 0 = omega arith in
    ap last_of (sym (whole_name c.args.text.now (subst (UnslashedFrom c.args.text.now) start c.loop-at.invariant.unslashed)))

pub returns-clause-one : goal.returns-clause-one
returns-clause-one c =
    let start : c.loop-at.at ≡ 0 = omega arith in
    whole_name c.args.text.now (subst (UnslashedFrom c.args.text.now) start c.loop-at.invariant.unslashed)
