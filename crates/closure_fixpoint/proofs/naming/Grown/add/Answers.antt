use Rattle.std.proofs.Common.{◌≡◌, ◌∙◌, ◌++◌, ◌∷◌, [], ℕ, List, Bool, true, false, refl, ap, subst, rules}
use Rattle.symbolic_expand.specs.Defined.{AddsDefinition}
use Rattle.closure_fixpoint.proofs.NamesLaws.{grew_old, grew_new}
use Rattle.closure_fixpoint.proofs.naming.Grown.add.Goals as goal

pub returns-then-not-branch : goal.returns-then-not-branch
returns-then-not-branch c =
    let had : c.in_ok-add.field-0 ≡ false = search rules in
    grew_old c.args.self.now (record { sets = c.add.new.self; log = c.args.self.now.log }) c.args.name.now c.args.definition.now
    (subst (λ (b : Bool). AddsDefinition c.args.self.now.sets c.args.name.now c.args.definition.now b c.add.new.self) had c.in_ok-add.ensures.ok) c.in_ok-add.ensures.grows refl

pub returns : goal.returns
returns c =
    let new : c.in_ok-add.field-0 ≡ true = search rules in
    grew_new c.args.self.now (record { sets = c.add.new.self; log = c.push.new.self }) c.args.name.now c.args.definition.now
    (subst (λ (b : Bool). AddsDefinition c.args.self.now.sets c.args.name.now c.args.definition.now b c.add.new.self) new c.in_ok-add.ensures.ok) c.in_ok-add.ensures.grows
    (c.in_ok-push.ensures.items ∙ ap (λ (n : List ℕ). c.args.self.now.log.items ++ n ∷ []) c.in_ok-copy.ensures)
