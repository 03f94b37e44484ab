use Rattle.std.proofs.Common.{◌≡◌, ◌+◌, ◌≤◌, map, length}
use Rattle.pp_tokens.specs.Tokens.{rest_of}
use Rattle.macro_defs.specs.Table.{lookup}
use Rattle.macro_expand.specs.declared.outcome.Mode.TheVariants as mode
use Rattle.macro_expand.specs.declared.stream.Standing.TheVariants.{Going}
use Rattle.macro_expand.specs.Replacement.{unmarked}
use Rattle.macro_expand.specs.Expansion.{expanded_by}
use Rattle.macro_expand.specs.Seen.{place_of}
use Rattle.macro_expand.specs.Stream.{given, to_come, at_hand}
use Rattle.base_types.specs.Limits.{text_limit}
use Rattle.daemon_cpp.specs.parts.Showing.{laid_from}
use Rattle.daemon_cpp.proofs.text.lay_out.Given as goal

-- the output so far, before what is still to come
abbrev pub invariant-loop-stream : goal.invariant-loop-stream
invariant-loop-stream l = record {
  kept : laid_from l.fn.layout (given (expanded_by (lookup l.fn.macros) (place_of l.fn.here) mode.Text 0 l.fn.work.left (map unmarked (rest_of l.fn.run))))
      ≡ laid_from l.layout (to_come l.stream l.work.left);
  going : l.stream.standing ≡ Going;
  spends : l.work.left ≤ l.fn.work.left;
  within : length l.fn.layout.text ≤ text_limit → length l.layout.text ≤ text_limit;
}

abbrev pub decreases-loop-stream : goal.decreases-loop-stream
decreases-loop-stream l = at_hand l.stream + l.work.left
