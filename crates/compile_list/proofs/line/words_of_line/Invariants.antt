use Rattle.std.proofs.Common.{◌≡◌, ◌≤◌, length, take}
use Rattle.std.specs.Option.{option_map}
use Rattle.compile_list.specs.Listed.{line_words, units}
use Rattle.compile_list.specs.parts.Steps.{kept}
use Rattle.compile_list.proofs.line.words_of_line.Given as goal

abbrev pub invariant-loop-rest : goal.invariant-loop-rest
invariant-loop-rest l = record {
  whole : option_map (kept l.words) (units l.rest) ≡ option_map (take 1002) (line_words l.line);
  few : length l.words.ended ≤ 1002;
}

abbrev pub decreases-loop-rest : goal.decreases-loop-rest
decreases-loop-rest l = length l.rest
