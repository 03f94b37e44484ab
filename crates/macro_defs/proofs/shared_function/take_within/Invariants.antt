use Rattle.std.proofs.Common.{◌≡◌, ◌++◌, length, false}
use Rattle.std.specs.List.{list_any}
use Rattle.pp_tokens.specs.Marks.{is_close}
use Rattle.pp_tokens.specs.Tokens.{rest_of}
use Rattle.macro_defs.proofs.shared_function.take_within.Given as goal

abbrev pub invariant-loop-token : goal.invariant-loop-token
invariant-loop-token l = record {
  whole : rest_of l.fn.behind ≡ l.within.items ++ rest_of l.behind;
  none : list_any is_close l.within.items ≡ false;
}

abbrev pub decreases-loop-token : goal.decreases-loop-token
decreases-loop-token l = length (rest_of l.behind)
