use Rattle.std.proofs.Common.{◌≡◌, ◌++◌}
use Rattle.directive_scan.specs.Operands.{targets_of}
use Rattle.directive_scan.proofs.operand.targets_of.Given as goal

abbrev pub invariant-loop-part : goal.invariant-loop-part
invariant-loop-part l = l.targets ++ targets_of l.part-iterator.rest.items ≡ targets_of l.initial.part-iterator.rest.items
