use Rattle.std.proofs.Common.{sym, ap, subst, ◌∙◌}
use Rattle.macro_defs.specs.declared.definition.Shape.{Shape}
use Rattle.macro_defs.specs.Arguments.{parameters_in}
use Rattle.macro_defs.specs.MacroDefinition.{has_operators}
use Rattle.macro_defs.specs.parts.Kept.{body_tokens, shape_kept, MayShare}
use Rattle.macro_defs.specs.parts.Stored.{numbers_kept}
use Rattle.macro_defs.proofs.definition.Definition.copy.Goals as goal

pub invariant_of-result : goal.invariant_of-result
invariant_of-result c = (
  c.in_ok-function.ensures.numbers
      ∙ c.self.invariant.0
      ∙ ap (numbers_kept (parameters_in (shape_kept c.self.inside.function))) (sym c.in_ok-body.ensures.tokens)
      ∙ ap (λ (s : Shape). numbers_kept (parameters_in s) (body_tokens c.in_ok-body.body)) (sym c.in_ok-function.ensures.shape),
  (
    c.in_ok-function.ensures.operators
        ∙ c.self.invariant.1.0
        ∙ ap (has_operators (shape_kept c.self.inside.function)) (sym c.in_ok-body.ensures.tokens)
        ∙ ap (λ (s : Shape). has_operators s (body_tokens c.in_ok-body.body)) (sym c.in_ok-function.ensures.shape),
    subst (λ (s : Shape). MayShare s c.in_ok-body.body) (sym c.in_ok-function.ensures.shape) (c.in_ok-body.ensures.shared (shape_kept c.self.inside.function) c.self.invariant.1.1),
  ),
)
