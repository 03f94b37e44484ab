use Rattle.daemon_cpp.proofs.Readers.{goes-on-at}
use Rattle.daemon_cpp.proofs.cpp.Reader.leave_group.Goals as goal

pub returns-clause-leads : goal.returns-clause-leads
returns-clause-leads c = λ world behind whole left.
    goes-on-at world behind c.args.self.now c.behind_group-self.result (λ entering state. c.behind_group-self.ensures.leads world entering state) whole left
