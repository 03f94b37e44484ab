use Rattle.std.proofs.Common.{refl, arith}
use Rattle.pp_tokens.specs.declared.class.TheConstants.{CLASS}
use Rattle.pp_tokens.specs.Grammar.{is_identifier_byte}
use Rattle.pp_tokens.proofs.ByteTables.{agree_below, from_table}
use Rattle.pp_tokens.proofs.class.is_identifier_byte.Goals as goal

pub returns : goal.returns
unfolding agree_below
returns c = from_table CLASS 2 is_identifier_byte c.args.b (omega arith) refl
