use Rattle.std.proofs.Common.{subst, sym, ◌+◌, ◌≤◌, Option}
use Rattle.tree_model.specs.Paths.{Text}
use Rattle.closure_fixpoint.specs.Gathering.{unknown_there}
use Rattle.closure_fixpoint.proofs.GatherLaws.{reads-added}
use Rattle.closure_fixpoint.proofs.entries.add_entry.Goals as goal

pub returns-in_ok-push_entry-in-Some-clause-reads : goal.returns-in_ok-push_entry-in-Some-clause-reads
returns-in_ok-push_entry-in-Some-clause-reads g c = λ known here.
    reads-added known (g.T.Tree.reads c.args.tree.now) (g.T.Tree.reads c.entry_at.new.tree) c.args.entries.now.items c.push_entry.new.entries.items c.args.path.now c.in-Some.entry c.in_ok-entry_at.field-0
    (subst (λ (k : Option Text). g.T.Tree.reads c.entry_at.new.tree ≤ g.T.Tree.reads c.args.tree.now + unknown_there k c.in_ok-entry_at.field-0) (sym here) c.in_ok-entry_at.ensures.reads)
    c.in-Some.is c.in_ok-push_entry-in-Some.ensures
