use Rattle.std.proofs.Common.{ap, sym, ◌∙◌, subst, true}
use Rattle.std.specs.List.{Contains}
use Rattle.macro_expand.specs.Choice.{IsDistinct}
use Rattle.symbolic_expand.specs.Defined.{sets_of}
use Rattle.symbolic_expand.specs.parts.Stored.{seen, with_more}
use Rattle.symbolic_expand.proofs.DefinedLaws.{more_distinct, more_adds, lacks, adds_part}
use Rattle.symbolic_expand.proofs.sets.DefSets.add.Goals as goal

pub invariant_of-self : goal.invariant_of-self
invariant_of-self c =
    subst (λ es. IsDistinct (sets_of es)) (sym (c.in-Ok.ensures.ok))
    (more_distinct (seen c.self.inside.names.entries) c.args.name.now c.in_ok-copy.copy c.self.invariant
    (subst (λ es. Contains (sets_of es c.args.name.now) c.in_ok-copy.copy → ⊥) (sym c.self.view_is)
    (subst (λ d. Contains (sets_of c.args.self.now c.args.name.now) d → ⊥) (sym c.in_ok-copy.ensures)
    (lacks _ _ c.args.definition.now c.get.ensures.same c.if-has.ensures))))

pub returns-in-Ok-clause-ok : goal.returns-in-Ok-clause-ok
returns-in-Ok-clause-ok c =
    more_adds c.args.self.now c.args.name.now c.args.definition.now _
    (lacks _ _ c.args.definition.now c.get.ensures.same c.if-has.ensures)
    (c.in-Ok.ensures.ok ∙ ap (λ es. with_more es c.args.name.now c.in_ok-copy.copy) c.self.view_is
    ∙ ap (λ d. with_more c.args.self.now c.args.name.now d) c.in_ok-copy.ensures)

pub returns-in-Ok-clause-grows : goal.returns-in-Ok-clause-grows
returns-in-Ok-clause-grows c = adds_part c.args.self.now c.args.name.now c.args.definition.now true _ (returns-in-Ok-clause-ok c)
