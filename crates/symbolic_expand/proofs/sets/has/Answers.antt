use Rattle.std.proofs.lemmas.List.Elements.{contains_decides}
use Rattle.std.proofs.lemmas.List.{get_or_default}
use Rattle.std.proofs.Common.{◌∙◌}
use Rattle.macro_defs.specs.Sameness.{is_same_definition, is_same_definition-Decides}
use Rattle.symbolic_expand.proofs.sets.has.Goals as goal

pub returns : goal.returns
returns c =
    let h = contains_decides is_same_definition is_same_definition-Decides c.args.definitions.now c.args.definition.now c.contains.result c.contains.ensures.cases in (
      (λ t. let p = h.0 t in (p.0, p.1, p.2 c.args.definition.now)),
      (λ k. h.1 (k.0, k.1, λ d. get_or_default c.args.definitions.now k.0 d c.args.definition.now k.1 ∙ k.2)),
    )
