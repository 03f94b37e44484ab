use Rattle.std.proofs.Common.{◌≡◌, ◌+◌, ◌≤◌, map}
use Rattle.macro_defs.specs.Table.{lookup}
use Rattle.macro_expand.specs.declared.stream.Standing.TheVariants.{Going}
use Rattle.macro_expand.specs.Replacement.{unmarked}
use Rattle.macro_expand.specs.Expansion.{expanded_by}
use Rattle.macro_expand.specs.Seen.{place_of}
use Rattle.macro_expand.specs.Stream.{given, given_before, to_come, at_hand}
use Rattle.macro_expand.proofs.stream.expand.Given as goal

-- the tokens that were given, before those that are still to come
abbrev pub invariant-loop-out : goal.invariant-loop-out
invariant-loop-out l =
    record {
      kept : given (expanded_by (lookup l.table) (place_of l.here) l.fn.mode 0 l.initial.work.left (map unmarked l.run)) ≡ given_before l.out.items (to_come l.stream l.work.left);
      going : l.stream.standing ≡ Going;
      spends : l.work.left ≤ l.initial.work.left;
    }

abbrev pub decreases-loop-out : goal.decreases-loop-out
decreases-loop-out l = at_hand l.stream + l.work.left
