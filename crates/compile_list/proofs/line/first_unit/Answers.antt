use Rattle.std.proofs.Common.{sym, ap, ◌∙◌}
use Rattle.compile_list.specs.Listed.{units, with_unit}
use Rattle.compile_list.proofs.Units.{units-plain, units-escaped, units-ended}
use Rattle.compile_list.proofs.line.first_unit.Goals as goal

pub returns-then-first-ne92-clause-units : goal.returns-then-first-ne92-clause-units
returns-then-first-ne92-clause-units c =
    units-plain c.args.first c.args.behind.now c.if-first-ne92.true ∙ ap (λ unit. with_unit unit (units c.args.behind.now)) (sym c.unit_of.ensures)

pub returns-in-empty-clause-units : goal.returns-in-empty-clause-units
returns-in-empty-clause-units c = units-ended c.args.first c.args.behind.now c.if-first-ne92.false c.in-empty.len_below

pub returns-in-len1-up-clause-units : goal.returns-in-len1-up-clause-units
returns-in-len1-up-clause-units c = units-escaped c.args.first c.args.behind.now c.if-first-ne92.false c.in-len1-up.len_at_least
