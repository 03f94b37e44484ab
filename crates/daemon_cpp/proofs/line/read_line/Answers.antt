use Rattle.std.proofs.Common.{sym, ◌∙◌}
use Rattle.daemon_cpp.specs.parts.Showing.{here_seen}
use Rattle.daemon_cpp.proofs.Lines.{line-unwritten}
use Rattle.daemon_cpp.proofs.line.read_line.Goals as goal

pub returns-in-Ok-None-clause-leads : goal.returns-in-Ok-None-clause-leads
returns-in-Ok-None-clause-leads c =
    line-unwritten c.args.kept.now c.read_expanded.new.kept c.args.places.source.now (here_seen c.args.places) c.args.at c.args.tokens.now c.read_expanded.result
    (sym c.in-Ok-None.ensures.is ∙ c.in-Ok-None.field-0-is) c.read_expanded.ensures.leads
