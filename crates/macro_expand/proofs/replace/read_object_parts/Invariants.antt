use Rattle.std.proofs.Common.{◌≡◌, ◌++◌, map, drop}
use Rattle.macro_defs.specs.MacroDefinition.{without_line}
use Rattle.macro_expand.specs.Replacement.{object_parts}
use Rattle.macro_expand.specs.Seen.{parts_seen}
use Rattle.macro_expand.proofs.replace.read_object_parts.Given as goal

abbrev pub invariant-loop-t : goal.invariant-loop-t
invariant-loop-t l =
    parts_seen l.parts.items ++ object_parts (map without_line (drop l.t-index l.body)) ≡ object_parts (map without_line l.body)
