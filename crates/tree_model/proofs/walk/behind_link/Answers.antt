use Rattle.std.proofs.Common.{◌≡◌, ◌∷◌, ◌++◌, [], List, ℕ, Bor, Option, drop, sym, ◌∙◌, ap, subst}
use Rattle.std.proofs.lemmas.Result.{IfOk-weaker}
use Rattle.std.specs.Option.{option_map}
use Rattle.tree_model.specs.Paths.{Text}
use Rattle.tree_model.specs.Trees.{entry_at}
use Rattle.tree_model.specs.Walk.{components, walk, walk_ended, AtDir}
use Rattle.tree_model.specs.parts.Steps.{GoesOn, components_left, end_of, onward}
use Rattle.tree_model.specs.declared.walk.Stop.{Stop}
use Rattle.tree_model.proofs.StepLemmas.{goes_further, some_component}
use Rattle.tree_model.proofs.LinkFronts.{behind_front, last_split}
use Rattle.tree_model.proofs.walk.behind_link.Goals as goal

pub returns-then-left-eq-LINK_LIMIT-clause-step : goal.returns-then-left-eq-LINK_LIMIT-clause-step
returns-then-left-eq-LINK_LIMIT-clause-step g c =
    let text = c.args.text.now in
    let from = c.args.from in
    let last = c.in-Dir.last in
    let head = c.in-Some.head.now in
    let name = c.cut_last.result.1.now in
    let front = components c.deref.result.now in
    let before : components head ≡ _ =
    sym (ap (λ (o : Option (Bor (List ℕ))). components_left (option_map (λ t. t.now) o)) c.in-Some.is) ∙ c.cut_last.ensures.head in
    let list_is : components text ≡ components head ++ name ∷ [] =
    last_split (components text) (some_component text) ∙ (λ i. sym before i ++ sym c.cut_last.ensures.name i ∷ []) in
    let noted : c.note_behind.new.walked ≡ c.args.walked.now ++ drop _ c.in_ok-stop.nodes =
    c.in_ok-note_behind.ensures ∙ (λ i. c.args.walked.now ++ drop (c.depth.ensures.value i) (c.as_slice.ensures i)) in
    IfOk-weaker c.until_link-then-left-eq-LINK_LIMIT.result _ _
    (λ step each told is links.
    let goes : GoesOn [] (walk (entry_at told) 40 [] front) c.in_ok-stop.nodes (walk_ended (AtDir last 40)) =
    subst (λ (left : ℕ). GoesOn [] (walk (entry_at told) 40 [] front) c.in_ok-stop.nodes (walk_ended (AtDir last left))) c.if-left-eq-LINK_LIMIT.true
    (subst (λ (s : Stop). GoesOn [] (walk (entry_at told) 40 [] front) c.in_ok-stop.nodes (walk_ended (end_of s))) c.in-Dir.is (c.in_ok-stop.ensures.stop told is)) in
    goes_further c.args.walked.now c.note_behind.new.walked c.until_link-then-left-eq-LINK_LIMIT.new.walked _ _ _
    (behind_front (entry_at told) links from last front (components head) (components text) name c.in_ok-stop.nodes c.args.walked.now c.note_behind.new.walked c.depth.ensures.canonical.names
    (ap components c.deref.ensures.value ∙ c.in_ok-front.ensures) list_is goes noted)
    (subst (λ (list : List Text). GoesOn c.note_behind.new.walked (walk (entry_at told) links last list) c.until_link-then-left-eq-LINK_LIMIT.new.walked (onward (entry_at told) links [] step)) c.cut_last.ensures.one
    (each told (c.in_ok-stop.ensures.same ∙ is) links)))
    c.until_link-then-left-eq-LINK_LIMIT.ensures.step
