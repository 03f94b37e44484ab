use Rattle.std.proofs.Common.{ap, sym, ◌∙◌, false, Option}
use Rattle.std.specs.Option.{option_map_or}
use Rattle.pp_tokens.specs.declared.token.Token.{Token}
use Rattle.pp_tokens.specs.Marks.{is_mark}
use Rattle.macro_expand.proofs.PendingLemmas.{holds_at-seen}
use Rattle.macro_expand.proofs.operand.is_mark_at.Goals as goal

pub returns-in-None : goal.returns-in-None
returns-in-None c = sym (holds_at-seen (is_mark c.args.spelling.now) c.args.place c.args.rest.now ∙ ap (λ (o : Option Token). option_map_or (is_mark c.args.spelling.now) o false) (sym c.in-None.ensures))

pub returns-in-Some : goal.returns-in-Some
returns-in-Some c = c.is_mark.ensures ∙ sym (holds_at-seen (is_mark c.args.spelling.now) c.args.place c.args.rest.now ∙ ap (λ (o : Option Token). option_map_or (is_mark c.args.spelling.now) o false) (sym c.in-Some.ensures))
