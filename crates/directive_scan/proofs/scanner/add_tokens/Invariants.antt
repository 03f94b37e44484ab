use Rattle.std.proofs.Common.{◌≡◌, ◌++◌, drop}
use Rattle.directive_scan.specs.Gathered.{tokens_at_line}
use Rattle.directive_scan.proofs.scanner.add_tokens.Given as goal

abbrev pub invariant-loop-at : goal.invariant-loop-at
invariant-loop-at l = l.tokens.items ++ drop l.at (tokens_at_line l.lexed l.line) ≡ l.fn.tokens.items ++ drop l.fn.place (tokens_at_line l.lexed l.line)
