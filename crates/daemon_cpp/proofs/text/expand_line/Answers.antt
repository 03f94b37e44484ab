use Rattle.daemon_cpp.proofs.Texts.{line-leads}
use Rattle.daemon_cpp.proofs.text.expand_line.Goals as goal

pub returns-in-Ok-clause-leads : goal.returns-in-Ok-clause-leads
returns-in-Ok-clause-leads c =
    line-leads c.args.kept.now c.expand.new.work c.args.places c.args.at c.args.mode c.args.tokens.now c.in-Ok.expanded c.in-Ok.ensures.ok
