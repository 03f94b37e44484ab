use Rattle.std.proofs.Common.{◌≡◌, drop, codes}
use Rattle.std.specs.List.{list_any}
use Rattle.pp_tokens.specs.Marks.{is_word}
use Rattle.directive_scan.specs.Gathered.{tokens_at_line}
use Rattle.directive_scan.proofs.pieces.probes_from.Given as goal

abbrev pub invariant-loop-at : goal.invariant-loop-at
invariant-loop-at l =
    list_any (is_word (codes "__has_include")) (drop l.place (tokens_at_line l.lexed l.line)) ≡ list_any (is_word (codes "__has_include")) (drop l.at (tokens_at_line l.lexed l.line))
