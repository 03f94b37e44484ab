use Rattle.std.proofs.Common.{ℕ, List, Option, slice_get, sym, ap, ◌∙◌}
use Rattle.std.specs.Option.{option_flatten}
use Rattle.macro_defs.specs.declared.definition.Function.{Function}
use Rattle.macro_defs.specs.parts.Kept.{body_tokens, shape_kept, numbers_of}
use Rattle.macro_defs.proofs.Places.{kept_here}
use Rattle.macro_defs.proofs.definition.Definition.parameter_at.Goals as goal

pub returns-in-Some : goal.returns-in-Some
returns-in-Some c =
    c.number_at.ensures
    ∙ ap (λ (numbers : List (Option ℕ)). option_flatten (slice_get numbers c.args.place))
    (c.deref-in-Some.ensures.value ∙ ap (λ (f : Function). f.named.items) c.deref.ensures ∙ sym (ap numbers_of c.in-Some.is))
    ∙ kept_here (shape_kept c.self.inside.function) (body_tokens c.self.inside.body) (numbers_of c.self.inside.function) c.args.self.now c.args.place c.self.view_is c.self.invariant.0
