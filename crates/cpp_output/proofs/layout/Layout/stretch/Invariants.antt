-- What is laid out, with what was taken and the tokens that are left, is the same at each turn.
use Rattle.std.proofs.Common.{◌≡◌, length, map}
use Rattle.pp_tokens.specs.Tokens.{rest_of}
use Rattle.cpp_output.specs.Layout.{put}
use Rattle.cpp_output.specs.Laid.{after_events}
use Rattle.cpp_output.specs.Excerpts.{with_excerpt}
use Rattle.cpp_output.proofs.layout.Layout.stretch.Given as goal

abbrev pub invariant-loop-token : goal.invariant-loop-token
invariant-loop-token l = after_events (with_excerpt l.self l.excerpt) (map put l.excerpt.rest) ≡ after_events l.initial.self (map put (rest_of l.tokens))

abbrev pub decreases-loop-token : goal.decreases-loop-token
decreases-loop-token l = length l.excerpt.rest
