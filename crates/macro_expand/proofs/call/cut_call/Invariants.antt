use Rattle.std.proofs.Common.{◌≤◌, ℕ, map, length}
use Rattle.macro_expand.specs.parts.Stamps.{Stamps, AllStamped, CutStamped}
use Rattle.macro_expand.specs.Seen.{marked_of}
use Rattle.macro_expand.proofs.CallLaws.{ReadSoFar}
use Rattle.macro_expand.proofs.call.cut_call.Given as goal

abbrev pub invariant-loop-t : goal.invariant-loop-t
invariant-loop-t l = record {
  reads : ReadSoFar l.cuts (map marked_of l.initial.pending) l.cutting (map marked_of l.pending);
  deep : l.cutting.nesting ≤ length l.cutting.piece.items;
  shorter : length l.pending ≤ length l.initial.pending;
  stamped : (sets : Stamps) (next : ℕ) → AllStamped sets next l.initial.pending → CutStamped sets next l.cutting × AllStamped sets next l.pending;
}

abbrev pub decreases-loop-t : goal.decreases-loop-t
decreases-loop-t l = length l.pending
