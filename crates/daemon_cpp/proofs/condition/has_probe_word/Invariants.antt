use Rattle.std.proofs.Common.{◌≡◌, codes}
use Rattle.std.specs.List.{list_any}
use Rattle.pp_tokens.specs.Marks.{is_word}
use Rattle.pp_tokens.specs.Tokens.{rest_of}
use Rattle.daemon_cpp.proofs.condition.has_probe_word.Given as goal

-- none among the tokens so far
abbrev pub invariant-loop-token : goal.invariant-loop-token
invariant-loop-token l = list_any (is_word (codes "__has_include")) (rest_of l.token-iterator) ≡ list_any (is_word (codes "__has_include")) (rest_of l.tokens)
