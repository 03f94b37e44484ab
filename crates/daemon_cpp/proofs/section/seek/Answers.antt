use Rattle.std.proofs.Common.{Bool, true, if◌then◌else◌, ◌+◌, ◌∙◌, ap, subst, drop, length, arith}
use Rattle.daemon_cpp.specs.Prep.{world_of}
use Rattle.daemon_cpp.specs.parts.Reading.{ReadingStage, run_flat, seeking, stage_of}
use Rattle.daemon_cpp.specs.parts.Showing.{GoesOnAt, IsBetween, here_seen}
use Rattle.daemon_cpp.proofs.Sections.{line-on, line-stops}
use Rattle.daemon_cpp.proofs.section.seek.Goals as goal

pub returns-then-sought-clause-seeks : goal.returns-then-sought-clause-seeks
returns-then-sought-clause-seeks g c = λ told is.
    line-on (world_of told c.args.places.setup.now) c.args.pieces.now c.args.places.source.now (here_seen c.args.places) c.args.kept.now c.loop-sought.kept c.seek_line.new.kept
    (λ entering state. run_flat (world_of told c.args.places.setup.now) entering (seeking 0) (drop c.args.from c.args.pieces.now) state) c.loop-sought.next (c.loop-sought.invariant.seeks told is)
    (stage_of true) c.in-Ok.sought.next
    (subst (λ (stage : ReadingStage). GoesOnAt c.loop-sought.kept c.seek_line.new.kept c.args.places.source.now (here_seen c.args.places) (world_of told c.args.places.setup.now) c.args.pieces.now
    (λ entering state. run_flat (world_of told c.args.places.setup.now) entering (seeking 0) (drop c.loop-sought.next c.args.pieces.now) state) stage c.in-Ok.sought.next)
    (ap stage_of c.if-sought.true) (c.in-Ok.ensures.seeks told (c.loop-sought.invariant.same ∙ is)))

pub loop-sought-preserved : goal.loop-sought-preserved
loop-sought-preserved g c =
    let behind : IsBetween (c.loop-sought.next + 1) (length c.args.pieces.now) c.in-Ok.sought.next =
    subst (λ (b : Bool). IsBetween (if b then c.loop-sought.next else c.loop-sought.next + 1) (length c.args.pieces.now) c.in-Ok.sought.next) c.if-sought.false c.in-Ok.ensures.later in
    record {
      same = c.in-Ok.ensures.same ∙ c.loop-sought.invariant.same;
      seeks = λ told is.
          line-on (world_of told c.args.places.setup.now) c.args.pieces.now c.args.places.source.now (here_seen c.args.places) c.args.kept.now c.loop-sought.kept c.seek_line.new.kept
          (λ entering state. run_flat (world_of told c.args.places.setup.now) entering (seeking 0) (drop c.args.from c.args.pieces.now) state) c.loop-sought.next (c.loop-sought.invariant.seeks told is)
          (seeking 0) c.in-Ok.sought.next
          (subst (λ (stage : ReadingStage). GoesOnAt c.loop-sought.kept c.seek_line.new.kept c.args.places.source.now (here_seen c.args.places) (world_of told c.args.places.setup.now) c.args.pieces.now
          (λ entering state. run_flat (world_of told c.args.places.setup.now) entering (seeking 0) (drop c.loop-sought.next c.args.pieces.now) state) stage c.in-Ok.sought.next)
          (ap stage_of c.if-sought.false) (c.in-Ok.ensures.seeks told (c.loop-sought.invariant.same ∙ is)));
      later = omega (arith, c.loop-sought.invariant.later, behind.0);
      within = behind.1;
      spends = omega (arith, c.loop-sought.invariant.spends, c.in-Ok.ensures.spends);
      faults = omega (arith, c.loop-sought.invariant.faults, c.in-Ok.ensures.cause.later);
    }

pub returns-in-Err-clause-seeks : goal.returns-in-Err-clause-seeks
returns-in-Err-clause-seeks g c = λ told is.
    line-stops (world_of told c.args.places.setup.now) c.args.pieces.now c.args.places.source.now (here_seen c.args.places) c.args.kept.now c.loop-sought.kept c.seek_line.new.kept
    (λ entering state. run_flat (world_of told c.args.places.setup.now) entering (seeking 0) (drop c.args.from c.args.pieces.now) state) c.loop-sought.next (c.loop-sought.invariant.seeks told is)
    c.in-Err.stop (c.in-Err.ensures.seeks told (c.loop-sought.invariant.same ∙ is))
