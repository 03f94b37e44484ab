use Rattle.std.proofs.Common.{sym, ◌∙◌, ap, length, arith}
use Rattle.pp_tokens.specs.Tokens.{rest_of, token_seen}
use Rattle.macro_defs.specs.Table.{lookup}
use Rattle.macro_expand.proofs.PendingLemmas.{dropped_first, untouched_more}
use Rattle.macro_expand.proofs.pending.count_untouched.Goals as goal

pub loop-token-preserved : goal.loop-token-preserved
loop-token-preserved c =
    let xs = rest_of c.args.tokens in
    let later = rest_of c.next.new.self in
    let t = token_seen c.in-Some.token in
    let first = sym c.loop-token.invariant.behind ∙ c.in-Some.ensures.steps in
    record {
      untouched = untouched_more (lookup c.args.table.now) c.args.mode xs later c.loop-token.count t c.loop-token.invariant.untouched first (c.is_untouched.ensures c.if-not-is_untouched.false);
      behind = sym (dropped_first xs c.loop-token.count t later first).1;
      few = omega (arith, c.loop-token.invariant.few, ap length c.in-Some.ensures.steps);
    }
