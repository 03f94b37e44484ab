use Rattle.std.proofs.Common.{◌≡◌, ◌≤◌, ◌<◌, ◌+◌, ◌⊎◌, ℕ, List, length}
use Rattle.std.specs.Vec.{vec_len, vec_capacity}
use Rattle.io_edges.specs.declared.wire.LinkState.TheVariants.{Closed}
use Rattle.io_edges.specs.Talk.{EachAnswered}
use Rattle.job_ends.specs.Outside.{seen_end}
use Rattle.job_ends.specs.Record.{known}
use Rattle.client_steps.specs.declared.phase.Phase.TheVariants.{Wants, Ended}
use Rattle.client_steps.specs.Phases.{CanWork, phase_rank, leased_by, job_in_work}
use Rattle.client_steps.specs.Ledger.{one_if_some, NextKeeps, DrewTheSame}
use Rattle.client_steps.proofs.client.Client.next.Given as goal

abbrev pub invariant-loop-next : goal.invariant-loop-next
invariant-loop-next g l = record {
  works : CanWork (length l.jobs) (length l.hosts) l.phase;
  enough : one_if_some (job_in_work l.phase) + vec_len l.self.records ≤ l.self.least;
  below : l.self.least ≤ l.self.jobs;
  room : l.self.jobs ≤ vec_capacity l.self.records;
  ended : l.self.phase ≡ Ended;
  jobs_same : l.self.jobs ≡ l.fn.self.jobs;
  number : l.self.number ≡ l.fn.self.number;
  budget : l.self.budget ≡ l.fn.self.budget;
  least : l.self.least ≡ l.fn.self.least;
  closed : g.W.Wire.state l.end.wire ≡ Closed;
  answered : EachAnswered g.W.Wire.peer (g.W.Wire.talk l.end.wire);
  lease : leased_by l.phase ≡ leased_by l.fn.self.phase;
  nearer : (l.phase ≡ l.fn.self.phase) ⊎ ((phase_rank l.phase < phase_rank l.fn.self.phase) × ((n : ℕ) (bytes : List ℕ) → l.fn.self.phase ≡ Wants n bytes → ⊥));
  keeps : NextKeeps (known g.T.Of.Frozen.named l.fn.self.budget) l.jobs l.hosts l.fn.self (record l.self { phase = l.phase })
      (seen_end {F = g.row.T-Of.Denot} g.T.Tree.told g.T.Tree.faults g.T.Tree.reads g.W.Wire.talk g.W.Wire.state g.W.Wire.faults g.O.Outs.kept g.O.Outs.faults l.fn.end)
      (seen_end {F = g.row.T-Of.Denot} g.T.Tree.told g.T.Tree.faults g.T.Tree.reads g.W.Wire.talk g.W.Wire.state g.W.Wire.faults g.O.Outs.kept g.O.Outs.faults l.end);
  numbers : DrewTheSame l.fn.self (record l.self { phase = l.phase });
  none : l.phase ≡ Ended → l.fn.self.phase ≡ Ended;
}

abbrev pub decreases-loop-next : goal.decreases-loop-next
decreases-loop-next g l = phase_rank l.phase
