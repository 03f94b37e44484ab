use Rattle.std.proofs.Common.{◌∙◌, sym}
use Rattle.closure_fixpoint.proofs.WantingLaws.{visit_there, visit_new}
use Rattle.closure_fixpoint.proofs.wanting.of_file.Goals as goal

pub returns-then-has : goal.returns-then-has
returns-then-has c = visit_there c.args.found.now c.args.file.now.0 (sym c.has.ensures ∙ c.if-has.true)

pub returns : goal.returns
returns c = (c.in_ok-visit.ensures, visit_new c.args.found.now c.args.file.now.0 (sym c.has.ensures ∙ c.if-has.false))
