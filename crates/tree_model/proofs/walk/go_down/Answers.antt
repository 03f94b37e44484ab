use Rattle.std.proofs.Common.{◌≡◌, ◌∙◌, Some, ap, sym}
use Rattle.tree_model.specs.Paths.{child_of}
use Rattle.tree_model.specs.Trees.{entry_at}
use Rattle.tree_model.specs.Walk.{start}
use Rattle.tree_model.specs.declared.entry.Node.TheVariants as node
use Rattle.tree_model.proofs.StepLemmas.{node_told, none_else, not_child, no_entry, some_entry, from_start}
use Rattle.tree_model.proofs.walk.go_down.Goals as goal

pub returns-in_default-clause-step : goal.returns-in_default-clause-step
returns-in_default-clause-step g c told is links rest =
    not_child told links rest c.args.dir c.args.name.now c.args.walked.now (g.met.T.Tree.whole c.args.tree.now told is)
    (none_else c.in_ok-path.field-0 c.in_default.not-Some ∙ c.in_ok-path.ensures)

pub returns-in_default-2-clause-step : goal.returns-in_default-2-clause-step
returns-in_default-2-clause-step g c told is links rest =
    no_entry told links rest c.args.dir c.args.name.now c.args.walked.now c.in-Some.path (sym c.in-Some.is ∙ c.in_ok-path.ensures)
    (none_else c.in_ok-node.field-0 c.in_default-2.not-Some ∙ node_told _ told _ _ is c.in_ok-node.ensures.answer)

pub returns-in-Dir-clause-step : goal.returns-in-Dir-clause-step
returns-in-Dir-clause-step g c told is links rest =
    some_entry told links rest c.args.dir c.args.name.now c.args.walked.now c.note.new.walked node.Dir c.in-Some.path (sym c.in-Some.is ∙ c.in_ok-path.ensures)
    (sym (c.in-Some-2.is ∙ ap Some c.in-Dir.is) ∙ node_told _ told _ _ is c.in_ok-node.ensures.answer) c.in_ok-note.ensures

pub returns-in-File-clause-step : goal.returns-in-File-clause-step
returns-in-File-clause-step g c told is links rest =
    some_entry told links rest c.args.dir c.args.name.now c.args.walked.now c.note.new.walked node.File c.in-Some.path (sym c.in-Some.is ∙ c.in_ok-path.ensures)
    (sym (c.in-Some-2.is ∙ ap Some c.in-File.is) ∙ node_told _ told _ _ is c.in_ok-node.ensures.answer) c.in_ok-note.ensures

pub returns-in_ok-from-in-Link-clause-step : goal.returns-in_ok-from-in-Link-clause-step
returns-in_ok-from-in-Link-clause-step g c told is links rest =
    let text_is : c.as_slice.result.now ≡ c.in-Link.text = c.as_slice.ensures in
    let child : Some c.in-Some.path ≡ child_of c.args.dir c.args.name.now = sym c.in-Some.is ∙ c.in_ok-path.ensures in
    from_start (entry_at told) links rest c.args.walked.now c.note.new.walked _ c.args.dir c.in_ok-from-in-Link.from c.in-Link.text
    (c.in_ok-from-in-Link.ensures ∙ ap (start c.args.dir) text_is)
    (some_entry told links rest c.args.dir c.args.name.now c.args.walked.now c.note.new.walked (node.Link c.in-Link.text) c.in-Some.path child
    (sym (c.in-Some-2.is ∙ ap Some c.in-Link.is) ∙ node_told _ told _ _ is c.in_ok-node.ensures.answer) c.in_ok-note.ensures)
