use Rattle.std.proofs.Common.{◌≡◌, ◌++◌, map, reverse, vec_len}
use Rattle.macro_expand.specs.Seen.{kept_token}
use Rattle.macro_expand.proofs.expansion.keep_tokens.Given as goal

-- the tokens that were moved, before those that are left, the last first
abbrev pub invariant-loop-m : goal.invariant-loop-m
invariant-loop-m l = l.out.items ++ map kept_token (reverse l.list.items) ≡ l.fn.out.items ++ map kept_token l.fn.list.items

abbrev pub decreases-loop-m : goal.decreases-loop-m
decreases-loop-m l = vec_len l.list
