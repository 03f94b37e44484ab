use Rattle.std.proofs.Common.{◌≡◌, ◌++◌, [], List, ◌∙◌, ap, refl, sym, subst}
use Rattle.std.specs.Prelude.{◌↔◌}
use Rattle.base_types.specs.Members.{Member}
use Rattle.tree_model.specs.Paths.{Path}
use Rattle.closure_fixpoint.specs.Targets.{heard_of}
use Rattle.closure_fixpoint.specs.Gathering.{all_upward, searched_walked, sheets_walked}
use Rattle.closure_fixpoint.specs.parts.Walked.{with_paths, all_upward_from}
use Rattle.closure_fixpoint.proofs.NodesTold.{are-nodes, if_ok_both}
use Rattle.closure_fixpoint.proofs.WalkedLaws.{each-walked, each-above, in-two-parts}
use Rattle.closure_fixpoint.proofs.nodes.nodes_told.Goals as goal

pub returns-clause-are : goal.returns-clause-are
returns-clause-are c =
    let searched = searched_walked c.args.searches.now in
    let in_sheets = sheets_walked c.args.sheets.now in
    let walked : c.add_sheets.new.walked ≡ with_paths [] (searched ++ in_sheets) =
    in-two-parts [] c.add_searched.new.walked c.add_sheets.new.walked searched in_sheets
    (c.in_ok-add_searched.ensures ∙ ap (λ (l : List Path). with_paths l searched) c.new-walked.ensures)
    c.in_ok-add_sheets.ensures in
    if_ok_both c.sorted.result _ _ _
    (λ list rising same.
    are-nodes (heard_of c.args.searches.now c.args.sheets.now) (searched ++ in_sheets) c.add_sheets.new.walked c.add_all_upward.new.nodes.items list.items
    refl
    (λ path. subst (λ (l : List Path). Member path l ↔ Member path (searched ++ in_sheets)) (sym walked) (each-walked (searched ++ in_sheets) path))
    (λ path.
    subst (λ (l : List Path). Member path l ↔ Member path (all_upward c.add_sheets.new.walked))
    (sym (c.in_ok-add_all_upward.ensures.nodes ∙ ap (λ (l : List Path). l ++ all_upward_from c.add_sheets.new.walked c.add_sheets.new.walked) c.in_ok-nodes.ensures.items))
    (each-above c.add_sheets.new.walked path))
    rising same)
    c.sorted.ensures.rising c.sorted.ensures.same
