use Rattle.std.proofs.Common.{◌≡◌, ◌++◌, take}
use Rattle.std.specs.Prelude.{codes}
use Rattle.std.specs.List.{flat_map}
use Rattle.daemon_cpp.specs.Diagnostics.{error_token}
use Rattle.daemon_cpp.proofs.diagnostic.add_error_line.Given as goal

abbrev pub invariant-loop-token : goal.invariant-loop-token
invariant-loop-token l =
    l.text.items ≡ l.fn.text.items ++ (codes "#error" ++ flat_map error_token (take l.token-index l.tokens))
