use Rattle.std.proofs.Common.{◌≡◌, ◌<◌, ℕ, false, ◌||◌, map, length, get_or, drop, None}
use Rattle.macro_defs.specs.MacroDefinition.{without_line}
use Rattle.macro_defs.specs.Runs.{run_tokens}
use Rattle.macro_expand.specs.Replacement.{stands_alone}
use Rattle.macro_expand.specs.parts.Parts.{parts_from, token_parts}
use Rattle.macro_expand.proofs.token_parts.TokenParts.standing_alone.Given as goal

-- the tokens that are left name the others
abbrev pub invariant-loop-place : goal.invariant-loop-place
invariant-loop-place l =
    record {
      same : length l.alone.items ≡ l.count;
      each : (i : ℕ) → i < l.count →
          (get_or l.alone.items i false || stands_alone i None (parts_from l.self.definition.now l.place (map without_line (drop l.place (run_tokens l.self.tokens)))))
          ≡ stands_alone i None (token_parts l.self);
    }
