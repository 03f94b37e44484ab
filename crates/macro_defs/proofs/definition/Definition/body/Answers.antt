use Rattle.std.proofs.Common.{subst}
use Rattle.macro_defs.specs.MacroDefinition.{MacroDefinition}
use Rattle.macro_defs.specs.parts.Kept.{shape_kept, SharesPlain}
use Rattle.macro_defs.proofs.definition.Definition.body.Goals as goal

pub returns-clause-shared : goal.returns-clause-shared
returns-clause-shared c =
    subst (λ (d : MacroDefinition). SharesPlain d.shape c.tokens.result) c.self.view_is (c.tokens.ensures.shared (shape_kept c.self.inside.function) c.self.invariant.1.1)
