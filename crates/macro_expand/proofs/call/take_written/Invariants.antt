use Rattle.std.proofs.Common.{◌≡◌, drop}
use Rattle.std.specs.List.{list_any}
use Rattle.macro_expand.specs.parts.Parts.{takes_written}
use Rattle.macro_expand.specs.Seen.{parts_seen}
use Rattle.macro_expand.proofs.call.take_written.Given as goal

abbrev pub invariant-loop-p : goal.invariant-loop-p
invariant-loop-p l = list_any takes_written (parts_seen l.parts) ≡ list_any takes_written (parts_seen (drop l.p-index l.parts))
