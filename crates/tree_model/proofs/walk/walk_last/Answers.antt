use Rattle.std.proofs.Common.{◌≡◌, ◌++◌, ◌-◌, [], suc, sym, ◌∙◌, ap, subst, arith}
use Rattle.std.proofs.lemmas.Result.{IfOk-weaker}
use Rattle.std.proofs.lemmas.List.{append-nil}
use Rattle.tree_model.specs.Trees.{entry_at}
use Rattle.tree_model.specs.Walk.{components, walk}
use Rattle.tree_model.specs.parts.Steps.{GoesOn, followed, onward}
use Rattle.tree_model.specs.declared.walk.Step.{Step}
use Rattle.tree_model.proofs.StepLemmas.{goes_further, to_walk}
use Rattle.tree_model.proofs.walk.walk_last.Goals as goal

pub returns-in_ok-step-in-Link-clause-stop : goal.returns-in_ok-step-in-Link-clause-stop
returns-in_ok-step-in-Link-clause-stop g c =
    let links = c.args.links in
    let from = c.in-Link.from in
    let old = c.args.walked.now in
    let first = c.until_link.new.walked in
    let more : links ≡ suc (links - 1) = omega (arith, c.if-links-eq0.false) in
    let list : components c.in-Link.text ++ [] ≡ components c.as_slice.result.now = append-nil (components c.in-Link.text) ∙ ap components (sym c.as_slice.ensures) in
    IfOk-weaker c.to_end.result _ _
    (λ stop each told is.
    let look = entry_at told in
    let begun : GoesOn old (walk look links c.args.dir (components c.args.name.now)) first (followed look links from (components c.in-Link.text ++ [])) =
    subst (λ (s : Step). GoesOn old (walk look links c.args.dir (components c.args.name.now)) first (onward look links [] s)) c.in-Link.is (c.in_ok-step.ensures.step told is links) in
    let behind : GoesOn old (walk look links c.args.dir (components c.args.name.now)) first (walk look (links - 1) from (components c.as_slice.result.now)) =
    to_walk old first (walk look links c.args.dir (components c.args.name.now)) _ _ (λ i. followed look (more i) from (list i)) begun in
    goes_further old c.behind_link.new.walked c.to_end.new.walked _ _ _
    (goes_further old first c.behind_link.new.walked _ _ _ behind (c.in_ok-step-in-Link.ensures.step told (c.in_ok-step.ensures.same ∙ is) (links - 1)))
    (each told (c.in_ok-step-in-Link.ensures.same ∙ (c.in_ok-step.ensures.same ∙ is))))
    c.to_end.ensures.stop
