use Rattle.std.proofs.Common.{◌≡◌, length, arith}
use Rattle.std.proofs.lemmas.List.{nil_from_length}
use Rattle.directive_scan.proofs.StackSteps.{endif_outside, endif_more}
use Rattle.directive_scan.proofs.outline.endif.Goals as goal

pub returns-in-Some : goal.returns-in-Some
returns-in-Some c = endif_more c.args.at c.args.stack.now.items c.pop.new.self.items c.in-Some.field-0 c.in-Some.ensures.items

pub returns-in-None : goal.returns-in-None
returns-in-None c = endif_outside c.args.at c.args.stack.now.items (nil_from_length c.args.stack.now.items (let empty : length c.args.stack.now.items ≡ 0 = omega (arith, c.in-None.ensures.cases.0) in empty))
