use Rattle.std.proofs.Common.{length, map, ap, arith}
use Rattle.pp_tokens.specs.Tokens.{token_seen}
use Rattle.macro_defs.specs.Runs.{run_tokens}
use Rattle.macro_expand.specs.parts.Parts.{token_parts}
use Rattle.macro_expand.specs.parts.Pieces.{arguments_seen, tokens_of_parts}
use Rattle.macro_expand.specs.Seen.{marked_of}
use Rattle.macro_expand.proofs.TokenPartLemmas.{made-turn, made-done}
use Rattle.macro_expand.proofs.token_parts.TokenParts.made.Goals as goal

pub loop-t-preserved : goal.loop-t-preserved
loop-t-preserved c = record {
  made = made-turn (arguments_seen c.args.arguments.now) c.args.self.now.definition.now c.loop-t.place (run_tokens c.loop-t.tokens) (run_tokens c.next.new.self)
      (token_seen c.in-Some.t) (map marked_of c.loop-t.out.items) (map marked_of c.put_token.new.out.items)
      (tokens_of_parts (arguments_seen c.args.arguments.now) (token_parts c.args.self.now)) c.in-Some.ensures
      (rw c.parameter_at.ensures at c.in_ok-put_token.ensures.put) c.loop-t.invariant.made;
  alike = λ t each. c.in_ok-put_token.ensures.alike t (c.loop-t.invariant.alike t each) each;
  passed = omega (arith, c.loop-t.invariant.passed, ap length c.in-Some.ensures);
}

pub returns-clause-tokens : goal.returns-clause-tokens
returns-clause-tokens c =
    made-done (arguments_seen c.args.arguments.now) c.args.self.now.definition.now c.loop-t.place (run_tokens c.loop-t.tokens) (map marked_of c.loop-t.out.items)
    (tokens_of_parts (arguments_seen c.args.arguments.now) (token_parts c.args.self.now)) c.in_default.ensures.0 c.loop-t.invariant.made
