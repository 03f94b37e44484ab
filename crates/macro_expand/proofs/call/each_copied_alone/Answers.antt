use Rattle.std.proofs.Common.{◌≡◌, ◌<◌, length, get_or, false, sym, subst, arith, if◌then◌else◌, []}
use Rattle.macro_expand.specs.parts.Stamps.{Stamped, EachStamped}
use Rattle.macro_expand.proofs.CallLaws.{given-turn}
use Rattle.macro_expand.proofs.StampLaws.{all-if, each-push, each-at}
use Rattle.macro_expand.proofs.call.each_copied_alone.Goals as goal

pub loop-i-preserved : goal.loop-i-preserved
loop-i-preserved c =
    let below : c.loop-i.i < length c.args.lists.now = omega arith in
    let copied : c.in_ok-copy.copy.items ≡ (if get_or c.args.alone.now c.loop-i.i false then c.index-lists-i.result.items else []) =
    rw c.as_slice.ensures.value at c.in_ok-copy.ensures in
    record {
      same = given-turn c.args.alone.now c.args.lists.now c.loop-i.copies.items c.push.new.self.items c.loop-i.i c.index-lists-i.result c.in_ok-copy.copy
          (omega (arith, c.requires, below)) below c.index-lists-i.is copied c.in_ok-push.ensures.items c.loop-i.invariant.same;
      stamped = λ sets next each.
          subst (EachStamped sets next) (sym c.in_ok-push.ensures.items)
          (each-push (Stamped sets next) c.loop-i.copies.items c.in_ok-copy.copy (c.loop-i.invariant.stamped sets next each)
          (all-if (Stamped sets next) (get_or c.args.alone.now c.loop-i.i false) c.index-lists-i.result.items c.in_ok-copy.copy.items copied
          (each-at (Stamped sets next) c.args.lists.now c.loop-i.i c.index-lists-i.result below each c.index-lists-i.is)));
    }
