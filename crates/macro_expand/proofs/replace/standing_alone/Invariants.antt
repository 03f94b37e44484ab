use Rattle.std.proofs.Common.{◌≡◌, ◌<◌, ℕ, false, ◌||◌, length, get_or, drop, None, Some, if◌then◌else◌}
use Rattle.macro_expand.specs.Replacement.{stands_alone, Join}
use Rattle.macro_expand.specs.Seen.{parts_seen}
use Rattle.macro_expand.proofs.replace.standing_alone.Given as goal

-- the parts that are left mark the others
abbrev pub invariant-loop-k : goal.invariant-loop-k
invariant-loop-k l =
    record {
      same : length l.alone.items ≡ l.count;
      each : (i : ℕ) → i < l.count →
          (get_or l.alone.items i false || stands_alone i (if l.joined then Some Join else None) (parts_seen (drop l.k l.parts)))
          ≡ stands_alone i None (parts_seen l.parts);
    }
