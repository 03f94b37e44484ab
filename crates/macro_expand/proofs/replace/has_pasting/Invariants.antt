use Rattle.std.proofs.Common.{◌≡◌, drop, map}
use Rattle.std.specs.List.{list_any}
use Rattle.pp_tokens.specs.Marks.{is_pasting}
use Rattle.macro_defs.specs.MacroDefinition.{without_line}
use Rattle.macro_expand.proofs.replace.has_pasting.Given as goal

abbrev pub invariant-loop-t : goal.invariant-loop-t
invariant-loop-t l = list_any is_pasting (map without_line l.body) ≡ list_any is_pasting (map without_line (drop l.t-index l.body))
