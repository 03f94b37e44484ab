use Rattle.std.proofs.Common.{sym, ◌∙◌}
use Rattle.std.specs.Prelude.{bytes_eq}
use Rattle.macro_defs.proofs.Names.{spelled_any}
use Rattle.macro_defs.proofs.params.holds.Goals as goal

pub returns : goal.returns
returns c = c.contains.ensures ∙ sym (spelled_any (bytes_eq c.args.name.now) c.args.known.now.keys)
