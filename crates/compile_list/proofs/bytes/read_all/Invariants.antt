use Rattle.std.proofs.Common.{◌≤◌, ◌-◌, length}
use Rattle.std.specs.Io.KnownBytes.{Consumes}
use Rattle.compile_list.proofs.bytes.read_all.Given as goal

abbrev pub invariant-loop-room : goal.invariant-loop-room
invariant-loop-room g l =
    record {
      taken : Consumes (g.S.Source.left l.fn.source) (g.S.Source.left l.source) l.bytes;
      later : g.S.Source.faults l.fn.source ≤ g.S.Source.faults l.source;
    }

abbrev pub decreases-loop-room : goal.decreases-loop-room
decreases-loop-room g l = 16777217 - length l.bytes
