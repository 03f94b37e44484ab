use Rattle.std.proofs.Common.{◌∷◌, [], subst}
use Rattle.sheet_build.specs.Sheet.{named_pair}
use Rattle.tree_model.specs.Paths.{Text}
use Rattle.closure_fixpoint.specs.Naming.{Grew}
use Rattle.closure_fixpoint.proofs.NamesLaws.{grew_none, grew_more, grew_all}
use Rattle.closure_fixpoint.proofs.naming.Grown.add_all.Goals as goal

pub loop-definition-init : goal.loop-definition-init
loop-definition-init c = grew_none c.args.self.now

pub loop-definition-preserved : goal.loop-definition-preserved
loop-definition-preserved c =
    grew_more c.args.self.now c.loop-definition.self c.add.new.self c.args.definitions.now c.loop-definition.definition-index c.definition-item.result c.loop-definition-test.true c.definition-item.is
    c.loop-definition.invariant
    (subst (λ (name : Text). Grew c.loop-definition.self (named_pair (name, c.definition-item.result.1) ∷ []) c.add.new.self) c.as_slice.ensures c.in_ok-add.ensures)

pub returns : goal.returns
returns c = grew_all c.args.self.now c.loop-definition.self c.args.definitions.now c.loop-definition.definition-index c.loop-definition-test.false c.loop-definition.invariant
