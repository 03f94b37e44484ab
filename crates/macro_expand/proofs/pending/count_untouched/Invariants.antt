use Rattle.std.proofs.Common.{◌≡◌, ◌+◌, take, drop, length}
use Rattle.pp_tokens.specs.Tokens.{rest_of}
use Rattle.macro_defs.specs.Table.{lookup}
use Rattle.macro_expand.specs.parts.Steps.{EachUntouched}
use Rattle.macro_expand.proofs.pending.count_untouched.Given as goal

-- those that were counted, and those that are left
abbrev pub invariant-loop-token : goal.invariant-loop-token
invariant-loop-token l = record {
  untouched : EachUntouched (lookup l.table) l.mode (take l.count (rest_of l.tokens));
  behind : rest_of l.token-iterator ≡ drop l.count (rest_of l.tokens);
  few : l.count + length (rest_of l.token-iterator) ≡ length (rest_of l.tokens);
}
