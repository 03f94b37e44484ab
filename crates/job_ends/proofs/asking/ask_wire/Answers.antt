use Rattle.std.proofs.Common.{refl, inl}
use Rattle.job_ends.proofs.asking.ask_wire.Goals as goal

pub returns-in-Ok-clause-asked : goal.returns-in-Ok-clause-asked
returns-in-Ok-clause-asked g c = record {
  exchanges = _;
  talk = c.in-Ok.ensures.ok;
  later = c.in-Ok.ensures.cause.later;
  came_to = inl (c.in-Ok.reply.bytes, c.in-Ok.reply.ended, refl, c.judge.ensures);
}
