use Rattle.std.proofs.Common.{map, sym, ◌∙◌}
use Rattle.macro_expand.specs.parts.Pieces.{arguments_seen}
use Rattle.macro_expand.specs.Seen.{parts_seen, marked_of}
use Rattle.macro_expand.proofs.PieceLemmas.{tokens-made}
use Rattle.macro_expand.proofs.replace.made_of_list.Goals as goal

pub returns-clause-ok : goal.returns-clause-ok
returns-clause-ok c =
    tokens-made (arguments_seen c.args.arguments.now) (parts_seen c.args.parts.now) (map marked_of c.in_ok-made.made.items)
    (sym c.requires ∙ c.if-joined.false) c.in_ok-made.ensures.tokens

pub returns-clause-alike : goal.returns-clause-alike
returns-clause-alike c apart each = c.in_ok-made.ensures.alike c.args.t.now each
