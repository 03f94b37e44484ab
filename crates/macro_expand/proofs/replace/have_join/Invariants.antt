use Rattle.std.proofs.Common.{◌≡◌, drop}
use Rattle.std.specs.List.{list_any}
use Rattle.macro_expand.specs.parts.Parts.{joins}
use Rattle.macro_expand.specs.Seen.{parts_seen}
use Rattle.macro_expand.proofs.replace.have_join.Given as goal

abbrev pub invariant-loop-p : goal.invariant-loop-p
invariant-loop-p l = list_any joins (parts_seen l.parts) ≡ list_any joins (parts_seen (drop l.p-index l.parts))
