-- Each turn adds a whole block.
use Rattle.std.proofs.Common.{◌≡◌, ◌++◌, ◌*◌}
use Rattle.std.specs.Prelude.{replicate}
use Rattle.cpp_output.proofs.text.Text.append_newlines.Given as goal

abbrev pub invariant-loop-block : goal.invariant-loop-block
invariant-loop-block l = l.self ≡ l.initial.self ++ replicate (64 * l._block) 10
