use Rattle.daemon_cpp.specs.parts.Showing.{here_seen}
use Rattle.daemon_cpp.proofs.Lines.{expanded-told}
use Rattle.daemon_cpp.proofs.line.read_expanded.Goals as goal

pub returns-in-Ok-clause-leads : goal.returns-in-Ok-clause-leads
returns-in-Ok-clause-leads c =
    expanded-told c.args.kept.now c.expand_line.new.kept c.args.places.source.now (here_seen c.args.places) c.args.at c.args.tokens.now c.in-Ok.expanded c.told.result
    c.in-Ok.ensures.leads (rw c.as_slice.ensures at c.told.ensures.tells)
