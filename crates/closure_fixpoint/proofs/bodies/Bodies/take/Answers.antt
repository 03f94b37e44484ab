use Rattle.std.specs.HashMap.{get}
use Rattle.tree_model.specs.Paths.{is_same_path}
use Rattle.closure_fixpoint.specs.parts.Bodies.{bodies_known}
use Rattle.closure_fixpoint.proofs.BodyLemmas.{removed}
use Rattle.closure_fixpoint.proofs.bodies.Bodies.take.Goals as goal

pub returns-clause-takes : goal.returns-clause-takes
returns-clause-takes c = removed c.args.path.now (bodies_known c.args.self.now) (get is_same_path c.remove.new.self) c.remove.ensures.updates.0
