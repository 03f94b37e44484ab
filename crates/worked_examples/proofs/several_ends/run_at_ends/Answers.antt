use Rattle.std.proofs.Common.{refl}
use Rattle.std.proofs.lemmas.List.Elements.{recursion_from_All}
use Rattle.tree_model.specs.Trees.{tree_of}
use Rattle.job_ends.proofs.Unused.{all-seen}
use Rattle.worked_examples.proofs.SeveralRan.{texts_put}
use Rattle.worked_examples.proofs.several_ends.run_at_ends.Goals as goal

pub pump-status-requires-clause-fresh : goal.pump-status-requires-clause-fresh
pump-status-requires-clause-fresh g c κs within = all-seen _ c.in_ok-ends.ends.items c.in_ok-ends.ensures.fresh

pub returns : goal.returns
returns g c = record {
  texts = λ zero_is jobs listed.
      texts_put _ (λ end. end.outs) _ c.in_ok-ends.ends.items _ _ _ _ _ _ c.pump-status.result c.pump-status.ensures.run refl refl (tree_of c.args.entries.now) c.args.list jobs c.in_ok-outs.outs.items
      c.requires.named c.served_by_daemon.ensures (λ sent received may. may) (λ end. refl) (λ end. refl) (recursion_from_All _ c.in_ok-ends.ends.items c.in_ok-ends.ensures.kept) c.new-source.ensures.told zero_is listed c.in_ok-outs.ensures;
}
