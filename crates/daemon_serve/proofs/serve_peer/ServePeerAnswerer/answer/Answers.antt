use Rattle.daemon_serve.proofs.PeerAnswers.{peer-replied, peer-refused}
use Rattle.daemon_serve.proofs.serve_peer.ServePeerAnswerer.answer.Goals as goal

pub returns-in-Replied : goal.returns-in-Replied
returns-in-Replied c = peer-replied c.serve.ensures c.args.sent.now c.into_bytes.result c.new-source.ensures.told c.new-sink.ensures c.into_bytes.ensures c.in-Replied.is

pub returns-in-Refused : goal.returns-in-Refused
returns-in-Refused c = peer-refused c.serve.ensures c.args.sent.now c.into_bytes-in-Refused.result c.new-source.ensures.told c.new-sink.ensures c.into_bytes-in-Refused.ensures c.in-Refused.field-0 c.in-Refused.is
