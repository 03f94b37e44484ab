use Rattle.std.proofs.Common.{ap, sym, ◌∙◌}
use Rattle.symbolic_expand.specs.Defined.{sets_of}
use Rattle.symbolic_expand.proofs.DefinedLaws.{seen_sets, found_in}
use Rattle.symbolic_expand.proofs.sets.DefSets.get.Goals as goal

pub returns-in-Some-clause-same : goal.returns-in-Some-clause-same
returns-in-Some-clause-same c =
    c.as_slice.ensures.value ∙ ap found_in c.in-Some.ensures.value ∙ sym (seen_sets c.self.inside.names.entries c.args.name.now)
    ∙ ap (λ t. sets_of t c.args.name.now) c.self.view_is

pub returns-in-None-clause-same : goal.returns-in-None-clause-same
returns-in-None-clause-same c =
    ap found_in c.in-None.ensures.value ∙ sym (seen_sets c.self.inside.names.entries c.args.name.now)
    ∙ ap (λ t. sets_of t c.args.name.now) c.self.view_is
