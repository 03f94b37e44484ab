use Rattle.std.proofs.Common.{◌≡◌, ◌+◌, ◌++◌, map, length}
use Rattle.macro_defs.specs.MacroDefinition.{without_line}
use Rattle.macro_defs.specs.Runs.{run_tokens}
use Rattle.macro_expand.specs.parts.Parts.{parts_from, token_parts}
use Rattle.macro_expand.specs.parts.Pieces.{arguments_seen, tokens_of_parts}
use Rattle.macro_expand.specs.declared.marked.Marked.{Marked as Kept}
use Rattle.macro_expand.specs.parts.Stamps.{AllAlike, EachAlike}
use Rattle.macro_expand.specs.Seen.{marked_of}
use Rattle.macro_expand.proofs.token_parts.TokenParts.made.Given as goal

abbrev pub invariant-loop-t : goal.invariant-loop-t
invariant-loop-t l = record {
  made : map marked_of l.out.items
      ++ tokens_of_parts (arguments_seen l.arguments) (parts_from l.self.definition.now l.place (map without_line (run_tokens l.tokens)))
      ≡ tokens_of_parts (arguments_seen l.arguments) (token_parts l.self);
  alike : (t : Kept) → EachAlike t l.arguments.expanded.now → AllAlike t l.out.items;
  passed : l.place + length (run_tokens l.tokens) ≡ length (run_tokens l.self.tokens);
}

abbrev pub decreases-loop-t : goal.decreases-loop-t
decreases-loop-t l = length (run_tokens l.tokens)
