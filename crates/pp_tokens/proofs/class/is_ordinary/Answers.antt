use Rattle.std.proofs.Common.{refl, arith}
use Rattle.pp_tokens.specs.declared.class.TheConstants.{CLASS}
use Rattle.pp_tokens.specs.parts.TextLines.{is_ordinary}
use Rattle.pp_tokens.proofs.ByteTables.{agree_below, from_table}
use Rattle.pp_tokens.proofs.class.is_ordinary.Goals as goal

pub returns : goal.returns
unfolding agree_below
returns c = from_table CLASS 32 is_ordinary c.args.b (omega arith) refl
