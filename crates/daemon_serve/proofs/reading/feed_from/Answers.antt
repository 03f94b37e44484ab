use Rattle.std.proofs.Common.{◌≡◌, ℕ, ◌≤◌, length, take, arith, ap, subst, Err}
use Rattle.std.specs.Io.KnownBytes.{prepend_known}
use Rattle.std.proofs.lemmas.List.{length-take}
use Rattle.job_frames.specs.parts.Readers.{left}
use Rattle.daemon_serve.proofs.RequestReads.{begun, only-fault, read-fault, read-end, read-on, read-refused, read-whole, read-out}
use Rattle.daemon_serve.proofs.reading.feed_from.Goals as goal

pub loop-init : goal.loop-init
loop-init g c = begun (g.S.Source.left c.args.source.now) (g.S.Source.faults c.args.source.now) (left c.args.reader.now) c.requires

pub returns-in-Err : goal.returns-in-Err
returns-in-Err g c =
    read-fault c.loop.invariant (g.S.Source.left c.take.new.self) (g.S.Source.faults c.take.new.self) c.in-Err.ensures.cause.later c.in-Err.ensures.bytes (c.in-Err.ensures.cause.rose (ap Err (only-fault c.in-Err.field-0)))

pub returns-then-n-eq0 : goal.returns-then-n-eq0
returns-then-n-eq0 g c =
    read-end c.loop.invariant (g.S.Source.left c.take.new.self) (g.S.Source.faults c.take.new.self) c.in-Ok.ensures.cause.later
    (subst (λ (n : ℕ). g.S.Source.left c.loop.source ≡ prepend_known (take n c.take.new.room) (g.S.Source.left c.take.new.self)) c.if-n-eq0.true c.in-Ok.ensures.bytes) (c.in-Ok.ensures.end c.if-n-eq0.true)

pub returns-in-Done : goal.returns-in-Done
returns-in-Done g c =
    let short : length (take c.in-Ok.n c.take.new.room) ≤ 65536 = omega (arith, length-take c.in-Ok.n c.take.new.room, c.in-Ok.ensures.bound) in
    read-whole c.loop.invariant (g.S.Source.left c.take.new.self) (g.S.Source.faults c.take.new.self) c.in-Ok.ensures.cause.later
    (take c.in-Ok.n c.take.new.room) (left c.feed.new.self) c.feed.result _ short c.in-Ok.ensures.bytes c.feed.ensures.fed c.in-Done.is

pub returns-in-Refused : goal.returns-in-Refused
returns-in-Refused g c =
    let short : length (take c.in-Ok.n c.take.new.room) ≤ 65536 = omega (arith, length-take c.in-Ok.n c.take.new.room, c.in-Ok.ensures.bound) in
    read-refused c.loop.invariant (g.S.Source.left c.take.new.self) (g.S.Source.faults c.take.new.self) c.in-Ok.ensures.cause.later c.request_spellings.ensures.reasons (take c.in-Ok.n c.take.new.room) (left c.feed.new.self) c.feed.result c.in-Refused.why short
    c.in-Ok.ensures.bytes c.feed.ensures.fed c.in-Refused.is

pub loop-preserved : goal.loop-preserved
loop-preserved g c =
    read-on c.loop.invariant (g.S.Source.left c.take.new.self) (g.S.Source.faults c.take.new.self) c.in-Ok.ensures.cause.later (take c.in-Ok.n c.take.new.room) (left c.feed.new.self) c.feed.result c.in-Ok.ensures.bytes c.feed.ensures.fed c.in-More.is

pub returns : goal.returns
returns g c = read-out c.loop.invariant
