use Rattle.std.proofs.Common.{◌≡◌, ◌≤◌, length, drop}
use Rattle.directive_scan.specs.Directives.{pieces}
use Rattle.directive_scan.specs.Spots.{EachKnowsName, so_far, BeginsBefore}
use Rattle.directive_scan.proofs.spots.spots.Given as goal

abbrev pub invariant-loop-line : goal.invariant-loop-line
invariant-loop-line l = record {
  shown : so_far l.file l.gathered.ended.items l.gathered.run l.line (pieces (drop l.line l.file.lines)) ≡ pieces l.file.lines;
  roles : EachKnowsName l.file l.gathered.ended.items;
  begins : BeginsBefore l.file l.gathered.run l.line;
  within : l.line ≤ length l.file.lines;
}
