use Rattle.std.proofs.Common.{◌≡◌, take, false}
use Rattle.std.specs.List.{list_any}
use Rattle.pp_tokens.specs.Marks.{is_mark}
use Rattle.macro_defs.proofs.marks.parted.Given as goal

abbrev pub invariant-loop-i : goal.invariant-loop-i
invariant-loop-i l = list_any (is_mark l.spelling) (take l.i l.tokens) ≡ false
