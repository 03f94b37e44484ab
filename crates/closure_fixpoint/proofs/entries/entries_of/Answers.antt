use Rattle.std.proofs.Common.{◌<◌, [], length, ◌∙◌, arith}
use Rattle.tree_model.specs.declared.tree.TreeError.TheVariants.{Large}
use Rattle.closure_fixpoint.specs.Gathering.{gathered_from}
use Rattle.closure_fixpoint.specs.parts.Bodies.{bodies_known}
use Rattle.closure_fixpoint.proofs.Steps.{other-error}
use Rattle.closure_fixpoint.proofs.GatherLaws.{adds-kept, adds-spellable, gathered-next, large-at}
use Rattle.closure_fixpoint.proofs.BodyLemmas.{still_bodies, bodies_told, left_next, left_here}
use Rattle.closure_fixpoint.proofs.entries.entries_of.Goals as goal

pub returns-in-Err-clause-large : goal.returns-in-Err-clause-large
returns-in-Err-clause-large g c told is large =
    let below : c.loop-path.path-index < length c.args.nodes.now = omega arith in
    let at = c.in-Err.ensures.large told (c.loop-path.invariant.same ∙ is) (other-error c.in-Err.error Large large) in
    large-at told c.args.nodes.now c.loop-path.path-index c.path-item.result c.loop-path.entries.items (gathered_from told [] c.args.nodes.now) below c.path-item.is
    (c.loop-path.invariant.entries told is) at.0 at.1

pub loop-path-preserved : goal.loop-path-preserved
loop-path-preserved g c =
    let below : c.loop-path.path-index < length c.args.nodes.now = omega arith in
    record {
      same = c.in-Ok.ensures.same ∙ c.loop-path.invariant.same;
      later = omega (arith, c.loop-path.invariant.later, c.in-Ok.ensures.cause.later);
      bodies = bodies_told (g.T.Tree.told c.add_entry.new.tree) (g.T.Tree.told c.loop-path.tree) (bodies_known c.add_entry.new.bodies) c.in-Ok.ensures.same
          (still_bodies (g.T.Tree.told c.loop-path.tree) c.path-item.result (bodies_known c.loop-path.bodies) (bodies_known c.add_entry.new.bodies) c.in-Ok.ensures.takes c.loop-path.invariant.bodies);
      left = left_next c.args.nodes.now c.loop-path.path-index c.path-item.result (bodies_known c.args.bodies.now) (bodies_known c.loop-path.bodies) (bodies_known c.add_entry.new.bodies) below
          c.path-item.is c.in-Ok.ensures.takes c.loop-path.invariant.left;
      reads = omega (
        arith,
        c.loop-path.invariant.reads,
        c.in-Ok.ensures.reads (bodies_known c.args.bodies.now)
            (left_here c.args.nodes.now c.loop-path.path-index c.path-item.result (bodies_known c.args.bodies.now) (bodies_known c.loop-path.bodies) below c.path-item.is c.requires.rising
            c.loop-path.invariant.left),
      );
      kept = adds-kept c.args.nodes.now c.loop-path.path-index c.path-item.result c.loop-path.entries.items c.add_entry.new.entries.items below c.path-item.is c.requires.rising
          c.loop-path.invariant.kept c.in-Ok.ensures.adds;
      spellable = adds-spellable c.path-item.result c.loop-path.entries.items c.add_entry.new.entries.items c.in-Ok.ensures.adds c.loop-path.invariant.spellable;
      entries = λ told is.
          gathered-next told c.args.nodes.now c.loop-path.path-index c.path-item.result c.loop-path.entries.items c.add_entry.new.entries.items (gathered_from told [] c.args.nodes.now) below c.path-item.is
          (c.loop-path.invariant.entries told is) (c.in-Ok.ensures.entries told (c.loop-path.invariant.same ∙ is));
    }
