use Rattle.std.proofs.Common.{ap, sym, arith, ◌∙◌}
use Rattle.pp_tokens.specs.Tokens.{rest_of}
use Rattle.macro_expand.specs.declared.outcome.Mode.TheVariants as mode
use Rattle.macro_expand.specs.Stream.{Stream, to_come}
use Rattle.daemon_cpp.specs.parts.Showing.{laid_from}
use Rattle.daemon_cpp.proofs.Texts.{lays-init}
use Rattle.daemon_cpp.proofs.text.lay_out.Goals as goal

pub loop-stream-init : goal.loop-stream-init
loop-stream-init c = record {
  kept = lays-init c.args.layout.now c.args.macros.now c.args.here.now mode.Text c.args.work.now.left (rest_of c.args.run)
      ∙ ap (λ (s : Stream). laid_from c.args.layout.now (to_come s c.args.work.now.left)) (sym c.over-stream.ensures);
  going = ap (λ (s : Stream). s.standing) c.over-stream.ensures;
  spends = omega arith;
  within = λ fits. fits;
}
