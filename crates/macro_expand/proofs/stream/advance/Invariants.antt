use Rattle.std.proofs.Common.{◌≡◌, ◌+◌, ◌≤◌, [], length}
use Rattle.macro_defs.specs.Table.{lookup}
use Rattle.macro_expand.specs.parts.Steps.{Becomes}
use Rattle.macro_expand.specs.parts.Stamps.{Stamps, AllStamped}
use Rattle.macro_expand.proofs.stream.advance.Given as goal

-- nothing was put out so far, and the pending tokens become what those at the beginning do
abbrev pub invariant-loop-t : goal.invariant-loop-t
invariant-loop-t l =
    record {
      kept : Becomes (lookup l.table) l.initial.answers l.mode l.initial.work.left l.initial.pending [] l.answers l.work.left l.pending;
      empty : l.out.items ≡ [];
      fewer : length l.pending + l.work.left ≤ length l.initial.pending + l.initial.work.left;
      spends : l.work.left ≤ l.initial.work.left;
      stamped : (sets : Stamps) × AllStamped sets l.stamps l.pending;
    }

abbrev pub decreases-loop-t : goal.decreases-loop-t
decreases-loop-t l = l.work.left + length l.pending
