-- The text, with that of the tokens that are left, is the same at each turn.
use Rattle.std.proofs.Common.{◌≡◌, ◌++◌, drop}
use Rattle.cpp_output.specs.Layout.{on_line}
use Rattle.cpp_output.proofs.layout.Layout.append_line.Given as goal

abbrev pub invariant-loop-token : goal.invariant-loop-token
invariant-loop-token l =
    l.self.text ++ on_line l.self.last (drop l.token-index l.tokens) ≡ l.initial.self.text ++ on_line l.initial.self.last l.tokens
