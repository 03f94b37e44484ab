use Rattle.std.proofs.Common.{◌≡◌, take, drop, ap, Some}
use Rattle.io_edges.proofs.Parts.{front-then-rest}
use Rattle.io_edges.proofs.source.MemSourceSource.take.Goals as goal

pub returns-clause-bytes : goal.returns-clause-bytes
returns-clause-bytes c =
    let same : take c.fill-n.result c.fill-n.new.room ≡ take c.fill-n.result (drop c.args.self.now.at c.args.self.now.bytes) = rw (c.split_at.ensures.back, c.as_slice.ensures) at c.fill-n.ensures.bytes in
    ap Some (front-then-rest c.args.self.now.at c.fill-n.result c.args.self.now.bytes c.fill-n.new.room same)
