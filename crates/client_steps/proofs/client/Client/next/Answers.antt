use Rattle.std.proofs.Common.{refl, sym, ap, ◌∙◌}
use Rattle.std.specs.Vec.{vec_len, vec_capacity}
use Rattle.job_ends.specs.Outside.{seen_end}
use Rattle.job_ends.specs.Record.{known}
use Rattle.client_steps.specs.declared.phase.Advanced.TheVariants as adv
use Rattle.client_steps.specs.declared.phase.Phase.TheVariants.{Rests}
use Rattle.client_steps.specs.Phases.{job_in_work}
use Rattle.client_steps.proofs.Ends.{at-most-same}
use Rattle.client_steps.proofs.Worked.{current-by, steps-by, Adds, next-on, next-adds, drew-on, drew-adds, nearer-goes, nearer-records, room-goes, room-records}
use Rattle.client_steps.proofs.client.Client.next.Goals as goal

pub loop-next-preserved-in-Goes : goal.loop-next-preserved-in-Goes
loop-next-preserved-in-Goes g c =
    let K = known g.T.Of.Frozen.named c.args.self.now.budget in
    let jobs = c.args.jobs.now in
    let hosts = c.args.hosts.now in
    let seen = seen_end {F = g.row.T-Of.Denot} g.T.Tree.told g.T.Tree.faults g.T.Tree.reads g.W.Wire.talk g.W.Wire.state g.W.Wire.faults g.O.Outs.kept g.O.Outs.faults in
    let old = c.args.self.now in
    let was = record c.loop-next.self { phase = c.loop-next.phase } in
    let now = record c.loop-next.self { phase = c.in-Goes.next } in
    let so_far = c.loop-next.invariant in
    let moves = c.in-Goes.ensures.advances in
    let step = steps-by g.T.Of.Frozen.named jobs hosts c.loop-next.self.number c.loop-next.self.budget c.args.self.now.budget c.loop-next.phase (seen c.loop-next.end) (seen c.advance.new.end) (adv.Goes c.in-Goes.next) so_far.budget c.in-Goes.ensures.keeps in
    record {
      works = moves.0;
      enough = room-goes c.loop-next.phase c.in-Goes.next (vec_len c.loop-next.self.records) c.loop-next.self.least moves.1.1.0 so_far.enough;
      below = so_far.below;
      room = so_far.room;
      ended = so_far.ended;
      jobs_same = so_far.jobs_same;
      number = so_far.number;
      budget = so_far.budget;
      least = so_far.least;
      closed = c.advance.ensures.closed;
      answered = c.advance.ensures.answered;
      lease = moves.1.1.1 ∙ so_far.lease;
      nearer = nearer-goes _ old.phase c.loop-next.phase c.in-Goes.next moves.1.0 c.in-Goes.ensures.wants so_far.nearer;
      keeps = next-on K jobs hosts old was now (seen c.args.end.now) (seen c.loop-next.end) (seen c.advance.new.end) (record { number = refl; least = refl; records = refl }) moves.1.1.0 step so_far.keeps;
      numbers = drew-on old was now refl moves.1.1.0 so_far.numbers;
      none = λ e. so_far.none (c.in-Goes.ensures.ended e);
    }

pub loop-next-preserved : goal.loop-next-preserved
loop-next-preserved g c =
    let K = known g.T.Of.Frozen.named c.args.self.now.budget in
    let jobs = c.args.jobs.now in
    let hosts = c.args.hosts.now in
    let seen = seen_end {F = g.row.T-Of.Denot} g.T.Tree.told g.T.Tree.faults g.T.Tree.reads g.W.Wire.talk g.W.Wire.state g.W.Wire.faults g.O.Outs.kept g.O.Outs.faults in
    let old = c.args.self.now in
    let was = record c.loop-next.self { phase = c.loop-next.phase } in
    let now = record c.loop-next.self { records = c.push_reserved.new.self; phase = Rests } in
    let so_far = c.loop-next.invariant in
    let done = c.in-Records.done in
    let moves = c.in-Records.ensures.advances in
    let step = steps-by g.T.Of.Frozen.named jobs hosts c.loop-next.self.number c.loop-next.self.budget c.args.self.now.budget c.loop-next.phase (seen c.loop-next.end) (seen c.advance.new.end) (adv.Records done) so_far.budget c.in-Records.ensures.keeps in
    let adds : Adds was now done = record { number = refl; least = refl; records = c.push_reserved.ensures.items; in_work = moves.1.0; rests = refl } in
    record {
      works = tt;
      enough = room-records c.loop-next.phase done.job (vec_len c.loop-next.self.records) (vec_len c.push_reserved.new.self) c.loop-next.self.least moves.1.0 c.push_reserved.ensures.len so_far.enough;
      below = so_far.below;
      room = at-most-same c.loop-next.self.jobs (vec_capacity c.loop-next.self.records) (vec_capacity c.push_reserved.new.self) so_far.room c.push_reserved.ensures.capacity;
      ended = so_far.ended;
      jobs_same = so_far.jobs_same;
      number = so_far.number;
      budget = so_far.budget;
      least = so_far.least;
      closed = c.advance.ensures.closed;
      answered = c.advance.ensures.answered;
      lease = sym moves.1.1 ∙ so_far.lease;
      nearer = nearer-records _ old.phase c.loop-next.phase done moves.0 c.in-Records.ensures.wants so_far.nearer;
      keeps = next-adds K jobs hosts old was now done (seen c.args.end.now) (seen c.loop-next.end) (seen c.advance.new.end) adds step so_far.keeps;
      numbers = drew-adds old was now done adds so_far.numbers;
      none = λ e. absurd (cc);
    }

pub returns-in-Waits-clause-keeps : goal.returns-in-Waits-clause-keeps
returns-in-Waits-clause-keeps g c =
    let K = known g.T.Of.Frozen.named c.args.self.now.budget in
    let jobs = c.args.jobs.now in
    let hosts = c.args.hosts.now in
    let seen = seen_end {F = g.row.T-Of.Denot} g.T.Tree.told g.T.Tree.faults g.T.Tree.reads g.W.Wire.talk g.W.Wire.state g.W.Wire.faults g.O.Outs.kept g.O.Outs.faults in
    let was = record c.loop-next.self { phase = c.loop-next.phase } in
    let now = record c.loop-next.self { phase = c.put_back.new.slot } in
    let so_far = c.loop-next.invariant in
    let moves = c.in-Waits.ensures.advances in
    let step = steps-by g.T.Of.Frozen.named jobs hosts c.loop-next.self.number c.loop-next.self.budget c.args.self.now.budget c.loop-next.phase (seen c.loop-next.end) (seen c.advance.new.end) (adv.Waits c.in-Waits.next c.in-Waits.need) so_far.budget c.in-Waits.ensures.keeps in
    next-on K jobs hosts c.args.self.now was now (seen c.args.end.now) (seen c.loop-next.end) (seen c.advance.new.end) (record { number = refl; least = refl; records = refl }) (ap job_in_work c.put_back.ensures ∙ moves.1.1.0)
    (λ calls from h. current-by K jobs hosts c.in-Waits.next c.put_back.new.slot calls from (seen c.advance.new.end) (sym c.put_back.ensures) (step calls from h)) so_far.keeps
