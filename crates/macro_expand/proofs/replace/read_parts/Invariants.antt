use Rattle.std.proofs.Common.{◌≡◌, ◌++◌, map, drop}
use Rattle.macro_defs.specs.MacroDefinition.{without_line}
use Rattle.macro_defs.specs.Arguments.{parameters_in}
use Rattle.macro_expand.specs.Replacement.{parts_after, one_joins, body_parts}
use Rattle.macro_expand.specs.Seen.{parts_seen}
use Rattle.macro_expand.proofs.replace.read_parts.Given as goal

-- the parts so far, before what the other tokens become
abbrev pub invariant-loop-place : goal.invariant-loop-place
invariant-loop-place l =
    parts_seen l.parts.items ++ one_joins l.joined (parts_after l.hash (parameters_in l.d.shape) (map without_line (drop l.place l.body)))
    ≡ body_parts (parameters_in l.d.shape) (map without_line l.body)
