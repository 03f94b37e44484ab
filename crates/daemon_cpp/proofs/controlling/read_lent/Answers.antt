use Rattle.std.proofs.Common.{◌∙◌, sym, ap, arith, refl}
use Rattle.pp_tokens.specs.Tokens.{token_seen}
use Rattle.macro_defs.specs.Table.{lookup}
use Rattle.macro_expand.specs.Stream.{Stream, to_come}
use Rattle.daemon_cpp.specs.Prep.{is_defined}
use Rattle.daemon_cpp.specs.parts.Controlling.{read_from}
use Rattle.daemon_cpp.proofs.Controlled.{reads-turn}
use Rattle.daemon_cpp.proofs.controlling.read_lent.Goals as goal

pub loop-token-preserved : goal.loop-token-preserved
loop-token-preserved c = record {
  kept = λ units. c.loop-token.invariant.kept units
      ∙ rw c.in_ok-put.ensures (reads-turn (is_defined (lookup c.args.macros.now)) c.loop-token.line c.loop-token.stream c.lend.new.self units units (token_seen c.in-Some.token)
      (c.in-Some.ensures.lends.given units));
  going = c.in-Some.ensures.same ∙ c.loop-token.invariant.going;
  few = omega (arith, c.in-Some.ensures.lends.fewer, c.loop-token.invariant.few);
}

pub returns-clause-kept : goal.returns-clause-kept
returns-clause-kept c units =
    c.loop-token.invariant.kept units
    ∙ ap (λ (s : Stream). read_from (is_defined (lookup c.args.macros.now)) c.loop-token.line (to_come s units)) (sym (c.in_default.ensures.none refl))
