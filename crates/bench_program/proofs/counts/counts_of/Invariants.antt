use Rattle.std.proofs.Common.{◌≡◌, ◌+◌, ◌≤◌, ◌^◌, map}
use Rattle.pp_tokens.specs.Tokens.{rest_of}
use Rattle.macro_defs.specs.Table.{lookup}
use Rattle.macro_expand.specs.declared.outcome.Mode.TheVariants.{Text}
use Rattle.macro_expand.specs.declared.stream.Standing.TheVariants.{Going}
use Rattle.macro_expand.specs.Replacement.{unmarked}
use Rattle.macro_expand.specs.Expansion.{expanded_by}
use Rattle.macro_expand.specs.Seen.{place_of}
use Rattle.macro_expand.specs.Stream.{given, to_come, at_hand}
use Rattle.bench_program.proofs.CountLemmas.{count_of, after_tokens}
use Rattle.bench_program.proofs.counts.counts_of.Given as goal

-- the tokens that were counted, before those that are still to come
abbrev pub invariant-loop-stream : goal.invariant-loop-stream
invariant-loop-stream l =
    record {
      kept : count_of (given (expanded_by (lookup l.fn.unit.table) (place_of l.fn.unit.here) Text 0 20000000 (map unmarked (rest_of l.fn.run))))
          ≡ after_tokens l.expanded (count_of (to_come l.stream l.work.left));
      going : l.stream.standing ≡ Going;
      spends : l.work.left ≤ 20000000;
      few : l.expanded + at_hand l.stream + l.work.left ≤ 2 ^ 64 + 20000000;
    }

abbrev pub decreases-loop-stream : goal.decreases-loop-stream
decreases-loop-stream l = at_hand l.stream + l.work.left
