use Rattle.std.proofs.Common.{sym, ◌∙◌, ap}
use Rattle.std.proofs.lemmas.Bool.{not-true}
use Rattle.pp_tokens.specs.parts.Text.{is_second}
use Rattle.pp_tokens.proofs.TextMarks.{hash_at, hash_spelled}
use Rattle.pp_tokens.proofs.text_line.is_lone_hash.Goals as goal

pub returns-then-text-at-eq35-clause-part : goal.returns-then-text-at-eq35-clause-part
returns-then-text-at-eq35-clause-part c = λ h.
    hash_at c.args.text.now c.args.at c.requires c.if-text-at-eq35.true
    (ap is_second (sym c.byte_at.ensures) ∙ sym c.is_second.ensures ∙ not-true c.is_second.result h)

pub returns-then-text-at-eq35-clause-hash : goal.returns-then-text-at-eq35-clause-hash
returns-then-text-at-eq35-clause-hash c = λ h. hash_spelled c.args.text.now c.args.at c.requires c.if-text-at-eq35.true
