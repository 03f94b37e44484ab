use Rattle.std.proofs.Common.{◌∙◌}
use Rattle.macro_defs.specs.parts.Stored.{names_held}
use Rattle.macro_defs.proofs.Names.{hashes_alike}
use Rattle.macro_defs.proofs.replacement.hashes_parameters.Goals as goal

pub returns : goal.returns
returns c = c.hashes_known.ensures ∙ hashes_alike (names_held c.in_ok-known.known) c.args.names.now c.args.body.now c.in_ok-known.ensures
