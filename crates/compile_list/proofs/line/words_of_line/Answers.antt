use Rattle.std.proofs.Common.{Some, sym, ap, ◌∙◌}
use Rattle.std.specs.Option.{option_map}
use Rattle.compile_list.specs.parts.Steps.{kept}
use Rattle.compile_list.proofs.Units.{units-none}
use Rattle.compile_list.proofs.line.words_of_line.Goals as goal

pub returns-in-Ok-clause-words : goal.returns-in-Ok-clause-words
returns-in-Ok-clause-words c =
    sym c.loop-rest.invariant.whole
    ∙ ap (λ units. option_map (kept c.loop-rest.words) units) (units-none c.loop-rest.rest.now c.in_default.len_below)
    ∙ ap Some (sym c.in-Ok.ensures.ended)
