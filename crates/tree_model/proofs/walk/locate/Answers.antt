use Rattle.std.proofs.Common.{rules, ◌≡◌, ◌∙◌, ◌<◌, ◌⊎◌, length, [], ◌∷◌, ap, sym, subst, inl, inr}
use Rattle.std.specs.Option.{option_map}
use Rattle.std.proofs.lemmas.Bool.{eqb-true, eqb-false}
use Rattle.std.proofs.lemmas.Result.{IfOk-weaker}
use Rattle.tree_model.specs.Trees.{entry_at}
use Rattle.tree_model.specs.Walk.{components, last_of, first_nodes, walk, start, walk_ended, located_in}
use Rattle.tree_model.specs.parts.Steps.{GoesOn, components_left, end_of}
use Rattle.tree_model.proofs.StepLemmas.{if_each, refused, from_dir, from_elsewhere, below_whole, begun, none_behind}
use Rattle.tree_model.proofs.walk.locate.Goals as goal
use Rattle.tree_model.proofs.walk.locate.Goals.{then-text-gt-PATH_LIMIT-via-then-text-gt-PATH_LIMIT, then-text-gt-PATH_LIMIT-via-else-text-gt-PATH_LIMIT+then-is_empty}

pub returns-then-text-gt-PATH_LIMIT-clause-found : goal.returns-then-text-gt-PATH_LIMIT-clause-found
returns-then-text-gt-PATH_LIMIT-clause-found g c =
    let why : (4096 < length c.args.text.now) ⊎ (length (last_of (components c.args.text.now)) ≡ 0) = elim c.then-text-gt-PATH_LIMIT.branch [
      | then-text-gt-PATH_LIMIT-via-then-text-gt-PATH_LIMIT w ↦ inl w.if-text-gt-PATH_LIMIT.true
      | then-text-gt-PATH_LIMIT-via-else-text-gt-PATH_LIMIT+then-is_empty w ↦ inr (sym (ap length c.cut_last.ensures.name) ∙ eqb-true (length c.cut_last.result.1.now) 0 (sym w.if-is_empty.ensures))
    ] in
    if_each (g.T.Tree.told c.args.tree.now) _ (λ told is. refused (entry_at told) c.args.dir.now c.args.text.now why)

pub returns-then-begins_at_root-clause-found : goal.returns-then-begins_at_root-clause-found
returns-then-begins_at_root-clause-found g c =
    IfOk-weaker c.locate_below.result _ _
    (λ found h. if_each (g.T.Tree.told c.args.tree.now) _ (λ told is.
    h told is
    ∙ below_whole (entry_at told) c.args.dir.now c.args.text.now (components c.in-Some.front.now) c.cut_last.result.1.now c.if-text-gt-PATH_LIMIT.false (sym c.if-is_empty.ensures)
    (rw c.in-Some.is at c.cut_last.ensures.head) c.cut_last.ensures.name (sym c.if-begins_at_root.ensures)))
    c.locate_below.ensures.found

pub returns-in-Dir-clause-found : goal.returns-in-Dir-clause-found
returns-in-Dir-clause-found g c =
    let head = components_left (option_map (λ t. t.now) c.cut_last.result.0) in
    IfOk-weaker c.locate_last.result _ _
    (λ found h. if_each (g.T.Tree.told c.args.tree.now) _ (λ told is.
    h told (c.in_ok-last.ensures.same ∙ is)
    ∙ ap (λ before. located_in c.in-Dir.last c.cut_last.result.1.now before (walk (entry_at told) c.in-Dir.links c.in-Dir.last (c.cut_last.result.1.now ∷ [])))
    (none_behind c.walk_on.new.walked c.none.result c.none.ensures)
    ∙ from_dir (entry_at told) c.args.dir.now c.args.text.now head c.cut_last.result.1.now c.walk_on.new.walked c.in-Dir.last c.in-Dir.links
    c.if-text-gt-PATH_LIMIT.false
    (λ z. eqb-false (length c.cut_last.result.1.now) 0 (sym c.if-is_empty.ensures) (ap length c.cut_last.ensures.name ∙ z))
    c.cut_last.ensures.head c.cut_last.ensures.name
    (subst (λ s. GoesOn (first_nodes c.args.dir.now c.args.text.now) (walk (entry_at told) 40 (start c.args.dir.now c.args.text.now) head) c.walk_on.new.walked (walk_ended (end_of s))) c.in-Dir.is
    (begun (entry_at told) c.args.dir.now c.args.text.now head c.in_ok-walked.walked c.walk_on.new.walked c.in_ok-from.from (walk_ended (end_of c.in_ok-last.field-0))
    c.in_ok-walked.ensures c.in_ok-from.ensures (c.in_ok-last.ensures.stop told is)))))
    c.locate_last.ensures.found

pub returns-in_default-2 : goal.returns-in_default-2
returns-in_default-2 g c =
    let head = components_left (option_map (λ t. t.now) c.cut_last.result.0) in
    record {
      same = search rules;
      found = if_each (g.T.Tree.told c.args.tree.now) _ (λ told is.
          from_elsewhere (entry_at told) c.args.dir.now c.args.text.now head c.walk_on.new.walked c.in_ok-last.field-0 c.cut_last.ensures.head c.in_default-2.not-Dir
          (begun (entry_at told) c.args.dir.now c.args.text.now head c.in_ok-walked.walked c.walk_on.new.walked c.in_ok-from.from (walk_ended (end_of c.in_ok-last.field-0))
          c.in_ok-walked.ensures c.in_ok-from.ensures (c.in_ok-last.ensures.stop told is)));
      cause = search rules;
      never_large = search rules;
      no_read = search rules;
    }
