use Rattle.std.proofs.Common.{inl, inr, refl}
use Rattle.pump_run.proofs.Lines.{put-whole}
use Rattle.pump_run.proofs.ending.put_report.Goals as goal

pub returns-in-Ok : goal.returns-in-Ok
returns-in-Ok g c = record {
  text_is = put-whole c.args.text.now (g.K.Sink.held c.args.report.now) (g.K.Sink.held c.put.new.self) (g.K.Sink.faults c.args.report.now) (g.K.Sink.faults c.put.new.self) c.args.status c.in-Ok.ensures.bytes;
  status_is = inr (inl refl);
  no_memory = λ five. five;
}
