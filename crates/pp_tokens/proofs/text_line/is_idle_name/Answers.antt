use Rattle.std.proofs.Common.{get_or, sym, ◌∙◌, ap, arith}
use Rattle.std.proofs.lemmas.Bool.{not-true}
use Rattle.pp_tokens.specs.declared.token.Kind.TheVariants.{Ident}
use Rattle.pp_tokens.specs.DirectiveLines.{may_tell}
use Rattle.pp_tokens.specs.parts.TextLines.{begins_idle}
use Rattle.pp_tokens.proofs.FirstTokens.{idle_begun}
use Rattle.pp_tokens.proofs.text_line.is_idle_name.Goals as goal

pub returns-then-begins_idle : goal.returns-then-begins_idle
returns-then-begins_idle c = λ h.
    idle_begun c.args.text.now c.args.at (omega (arith, c.if-at-text.false)) (sym c.is_identifier_start.ensures ∙ c.if-not-is_identifier_start.false)
    (ap (begins_idle (get_or c.args.text.now c.args.at 0)) (sym c.byte_at.ensures) ∙ sym c.begins_idle.ensures ∙ c.if-begins_idle.true)

pub returns-then-size-gt0 : goal.returns-then-size-gt0
returns-then-size-gt0 c = λ h. (
  record {
    kind = Ident;
    size = c.plain_word-size.result;
    within = omega (arith, c.if-at-text.false);
    first = c.plain_word-size.ensures.part c.if-size-gt0.true;
  },
  ap may_tell (sym c.stretch.ensures) ∙ not-true (may_tell c.stretch.result.now) (sym c.is_idle.ensures ∙ h),
)
