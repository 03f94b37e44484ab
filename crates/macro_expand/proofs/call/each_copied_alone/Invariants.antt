use Rattle.std.proofs.Common.{ℕ, take}
use Rattle.macro_expand.specs.Seen.{lists_of, SameWhereAlone}
use Rattle.macro_expand.specs.parts.Stamps.{Stamps, EachStamped}
use Rattle.macro_expand.proofs.call.each_copied_alone.Given as goal

abbrev pub invariant-loop-i : goal.invariant-loop-i
invariant-loop-i l =
    record {
      same : SameWhereAlone (take l.i l.alone) (lists_of (take l.i l.lists)) (lists_of l.copies.items);
      stamped : (sets : Stamps) (next : ℕ) → EachStamped sets next l.lists → EachStamped sets next l.copies.items;
    }
