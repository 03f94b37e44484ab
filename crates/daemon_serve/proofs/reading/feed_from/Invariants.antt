use Rattle.job_frames.specs.parts.Readers.{left}
use Rattle.daemon_serve.specs.parts.Parts.{IsReading}
use Rattle.daemon_serve.proofs.reading.feed_from.Given as goal

abbrev pub invariant-loop : goal.invariant-loop
invariant-loop g l = IsReading (g.S.Source.left l.fn.source) (g.S.Source.left l.source) (g.S.Source.faults l.fn.source) (g.S.Source.faults l.source) (left l.reader)
