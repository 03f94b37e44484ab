use Rattle.std.proofs.Common.{◌≡◌, ◌++◌, ◌∷◌, [], ◌∙◌, sym, ap, append_assoc}
use Rattle.std.proofs.lemmas.List.{append-nil, nil_from_length}
use Rattle.directive_scan.specs.Operands.{targets_of}
use Rattle.directive_scan.proofs.PartSteps.{targets-append}
use Rattle.directive_scan.proofs.operand.targets_of.Goals as goal

pub loop-part-preserved : goal.loop-part-preserved
loop-part-preserved c =
    let rest = c.loop-part.part-iterator.rest.items in
    let others = c.next.new.self.rest.items in
    let front : rest ≡ c.in-Some.part ∷ others = c.in-Some.ensures.steps.0 in
    rw c.in_ok-add_target.ensures
    (append_assoc c.loop-part.targets (targets_of (c.in-Some.part ∷ [])) (targets_of others)
    ∙ ap (λ ts. c.loop-part.targets ++ ts) (sym (targets-append (c.in-Some.part ∷ []) others) ∙ ap targets_of (sym front))
    ∙ c.loop-part.invariant)

pub returns : goal.returns
unfolding targets_of
returns c =
    let rest = c.loop-part.part-iterator.rest.items in
    let none : rest ≡ [] = nil_from_length rest (sym c.loop-part.part-iterator.rest.ok.0 ∙ c.in-None.ensures.steps.0) in
    let all : c.into_iter-part-iterator.result.rest.items ≡ c.args.parts = c.into_iter-part-iterator.ensures.into_iter_gives.0 ∙ c.into_vec-part-items.ensures in
    sym (append-nil c.loop-part.targets) ∙ ap (λ ps. c.loop-part.targets ++ targets_of ps) (sym none) ∙ c.loop-part.invariant ∙ ap targets_of all
