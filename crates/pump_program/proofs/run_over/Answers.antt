use Rattle.job_ends.specs.Outside.{seen_end}
use Rattle.job_ends.proofs.Unused.{all-seen}
use Rattle.pump_program.proofs.run_over.Goals as goal

pub pump_watched-requires-clause-fresh : goal.pump_watched-requires-clause-fresh
pump_watched-requires-clause-fresh g c κs within =
    all-seen (seen_end {F = g.row.T-Of.Denot} g.T.Tree.told g.T.Tree.faults g.T.Tree.reads g.W.Wire.talk g.W.Wire.state g.W.Wire.faults g.O.Outs.kept g.O.Outs.faults) c.args.ends.now.items c.requires.fresh
