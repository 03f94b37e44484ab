use Rattle.std.proofs.Common.{◌<◌, ◌≤◌, ◌∙◌, length, None, arith}
use Rattle.macro_defs.specs.Runs.{run_tokens}
use Rattle.macro_expand.specs.Replacement.{stands_alone}
use Rattle.macro_expand.specs.parts.Parts.{token_parts}
use Rattle.macro_expand.proofs.TokenPartLemmas.{named-turn, named-done}
use Rattle.macro_expand.proofs.token_parts.TokenParts.standing_alone.Goals as goal

pub loop-place-preserved : goal.loop-place-preserved
loop-place-preserved c =
    let below : c.loop-place.place < length (run_tokens c.args.self.now.tokens) = omega arith in
    record {
      same = c.mark_named.ensures.0 ∙ c.loop-place.invariant.same;
      each = named-turn c.args.count c.args.self.now.definition.now (run_tokens c.args.self.now.tokens) c.loop-place.place (λ i. stands_alone i None (token_parts c.args.self.now))
          c.loop-place.alone.items c.mark_named.new.alone.items below c.loop-place.invariant.same (rw c.parameter_at.ensures at c.mark_named.ensures) c.loop-place.invariant.each;
    }

pub returns-clause-each : goal.returns-clause-each
returns-clause-each c =
    let past : length (run_tokens c.args.self.now.tokens) ≤ c.loop-place.place = omega arith in
    named-done c.args.count c.args.self.now.definition.now (run_tokens c.args.self.now.tokens) c.loop-place.place (λ i. stands_alone i None (token_parts c.args.self.now))
    c.loop-place.alone.items past c.loop-place.invariant.each
