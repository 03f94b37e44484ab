use Rattle.std.proofs.Common.{◌++◌, ◌∙◌, sym, subst}
use Rattle.tree_model.specs.Trees.{entry_at}
use Rattle.tree_model.specs.Walk.{components, walk, walk_ended, AtFile}
use Rattle.tree_model.specs.parts.Steps.{GoesOn, end_of}
use Rattle.tree_model.proofs.StepLemmas.{located_file, not_located, none_else}
use Rattle.tree_model.proofs.walk.locate_last.Goals as goal

pub returns-in_default-clause-found : goal.returns-in_default-clause-found
returns-in_default-clause-found g c told is =
    not_located told (g.met.T.Tree.whole c.args.tree.now told is) c.args.links c.args.dir c.args.name.now (c.args.before ++ c.args.shared)
    (none_else c.in_ok-place.field-0 c.in_default.not-Some ∙ c.in_ok-place.ensures)

pub returns-in-File-clause-found : goal.returns-in-File-clause-found
returns-in-File-clause-found g c told is =
    rw (c.around.ensures, c.len-front.ensures)
    (located_file (entry_at told) c.args.links c.args.dir c.args.name.now c.args.before c.args.shared c.walk_last.new.walked c.in-Some.place c.in-File.real
    (sym c.in-Some.is ∙ c.in_ok-place.ensures)
    (subst (λ list. GoesOn c.args.before (walk (entry_at told) c.args.links c.args.dir list) c.walk_last.new.walked (walk_ended (AtFile c.in-File.real))) c.requires
    (subst (λ s. GoesOn c.args.before (walk (entry_at told) c.args.links c.args.dir (components c.args.name.now)) c.walk_last.new.walked (walk_ended (end_of s))) c.in-File.is
    (c.in_ok-real.ensures.stop told is))))
