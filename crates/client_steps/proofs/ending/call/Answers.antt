use Rattle.std.proofs.Common.{arith, sym, ap, subst, ℕ, List, length, ◌<◌}
use Rattle.job_ends.specs.Record.{known, IsRequestForJob}
use Rattle.client_steps.proofs.Ends.{read-at}
use Rattle.client_steps.proofs.Judged.{called}
use Rattle.client_steps.proofs.ending.call.Goals as goal

pub returns-clause-keeps : goal.returns-clause-keeps
returns-clause-keeps g c = λ calls from h.
    let K = known g.T.Of.Frozen.named c.args.budget in
    let request = subst (λ (b : List ℕ). IsRequestForJob K h.0 b) (sym c.as_slice.ensures) h.2.request in
    let lt : c.host-host.result < length c.args.hosts.now = omega arith in
    let listed = read-at c.args.hosts.now c.host-host.result c.index-hosts-host.result lt c.index-hosts-host.is in (
      h.0,
      h.1,
      called K h.0 c.args.hosts.now c.host-host.result c.index-hosts-host.result c.args.request calls from _ _ c.ask_host-replied.result listed h.2 (c.ask_host-replied.ensures.asked K h.0 request h.2.none) (ap g.T.Tree.reads c.ask_host-replied.ensures.tree),
    )
