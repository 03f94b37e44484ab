use Rattle.std.proofs.Common.{◌≡◌}
use Rattle.std.specs.List.{list_any}
use Rattle.pp_tokens.specs.Marks.{is_hash}
use Rattle.pp_tokens.specs.Tokens.{rest_of}
use Rattle.sheet_build.proofs.definitions.has_hash.Given as goal

-- none among the tokens so far
abbrev pub invariant-loop-token : goal.invariant-loop-token
invariant-loop-token l = list_any is_hash (rest_of l.token-iterator) ≡ list_any is_hash (rest_of l.tokens)
