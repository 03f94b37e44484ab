use Rattle.std.proofs.Common.{◌-◌, take, drop}
use Rattle.std.specs.Arc.{arc_value}
use Rattle.pp_tokens.specs.Lines.{all_tokens}
use Rattle.daemon_cpp.specs.parts.Showing.{here_seen}
use Rattle.daemon_cpp.proofs.Defines.{define-sets}
use Rattle.daemon_cpp.proofs.define.define.Goals as goal

pub returns-in-Ok-clause-goes : goal.returns-in-Ok-clause-goes
returns-in-Ok-clause-goes c =
    define-sets c.args.kept.now c.set.new.macros c.args.places.source.now (here_seen c.args.places) c.args.at (take (c.args.end - c.args.from) (drop c.args.from (all_tokens (arc_value c.args.file.now)))) c.in-Ok.name c.in-Ok.definition c.set.result
    c.in-Ok.ensures.ok c.set.ensures.sets c.set.ensures.memory
