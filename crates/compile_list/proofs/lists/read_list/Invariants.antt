use Rattle.std.proofs.Common.{◌≡◌, ◌+◌, ◌≤◌, [], length}
use Rattle.std.specs.List.{AllByRecursion}
use Rattle.base_types.specs.Limits.{list_limit, job_limit}
use Rattle.job_words.specs.Words.{IsJob}
use Rattle.compile_list.specs.Listed.{jobs_from, list_lines}
use Rattle.compile_list.specs.parts.Steps.{HasOutputs}
use Rattle.compile_list.proofs.lists.read_list.Given as goal

abbrev pub invariant-loop-line : goal.invariant-loop-line
invariant-loop-line l = record {
  whole : jobs_from (l.number + 1) l.read.jobs l.line-iterator ≡ jobs_from 1 [] (list_lines l.fn.bytes);
  numbers : l.number + length l.line-iterator ≤ list_limit;
  outputs : HasOutputs l.read.outputs l.read.jobs;
  each : AllByRecursion IsJob l.read.jobs;
  few : length l.read.jobs ≤ job_limit;
}
