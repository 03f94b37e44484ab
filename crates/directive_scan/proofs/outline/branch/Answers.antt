use Rattle.std.proofs.Common.{◌≡◌, length, arith}
use Rattle.std.proofs.lemmas.List.{nil_from_length}
use Rattle.directive_scan.proofs.StackSteps.{branch_outside, branch_after_else, branch_more}
use Rattle.directive_scan.proofs.outline.branch.Goals as goal

pub returns-in_default : goal.returns-in_default
returns-in_default c = branch_outside c.args.name c.args.at c.args.stack.now.items (nil_from_length c.args.stack.now.items (let empty : length c.args.stack.now.items ≡ 0 = omega (arith, c.in_default.ensures.cases.0) in empty))

pub returns-then-open : goal.returns-then-open
returns-then-open c = branch_after_else c.args.name c.args.at c.args.stack.now.items c.pop.new.self.items c.in-Some.open c.in-Some.ensures.items c.if-open.true

pub returns : goal.returns
returns c = branch_more c.args.name c.args.at c.args.stack.now.items c.pop.new.self.items c.push.new.self.items c.in-Some.open c.names_else.result c.in-Some.ensures.items c.if-open.false c.names_else.ensures c.in_ok-push.ensures.items
