use Rattle.std.proofs.Common.{◌≡◌, ◌++◌}
use Rattle.pp_tokens.specs.Tokens.{rest_of}
use Rattle.pp_tokens.proofs.tokens.Tokens.to_list.Given as goal

abbrev pub invariant-loop-token : goal.invariant-loop-token
invariant-loop-token l = l.tokens.items ++ rest_of l.token-iterator ≡ rest_of l.fn.self
