use Rattle.std.proofs.Common.{sym, ap, ◌∙◌}
use Rattle.macro_defs.specs.declared.definition.Function.{Function}
use Rattle.macro_defs.specs.parts.Kept.{body_tokens, shape_kept, operators_of}
use Rattle.macro_defs.proofs.Places.{operators_here}
use Rattle.macro_defs.proofs.definition.Definition.has_operators.Goals as goal

pub returns-in-Some : goal.returns-in-Some
returns-in-Some c =
    operators_here (shape_kept c.self.inside.function) (body_tokens c.self.inside.body) c.deref.result.now.operators c.args.self.now c.self.view_is
    (ap (λ (f : Function). f.operators) c.deref.ensures ∙ sym (ap operators_of c.in-Some.is) ∙ c.self.invariant.1.0)
