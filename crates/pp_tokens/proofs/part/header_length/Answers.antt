use Rattle.std.proofs.Common.{sym, ◌∙◌, ap, drop}
use Rattle.pp_tokens.specs.Lines.{first_part}
use Rattle.pp_tokens.proofs.TextLemmas.{no_delimiter}
use Rattle.pp_tokens.proofs.part.header_length.Goals as goal
use Rattle.pp_tokens.proofs.part.header_length.Goals.{else-due-via-then-due+else-opens_header, else-due-via-else-due}

pub returns-else-due-clause-other : goal.returns-else-due-clause-other
returns-else-due-clause-other c =
    let rest = drop c.args.at c.args.text.now in
    elim c.else-due.branch [
      | else-due-via-then-due+else-opens_header w ↦ λ _.
          ap (λ d. first_part d rest) w.if-due.true ∙ no_delimiter c.args.text.now c.args.at c.requires.at (sym w.opens_header.ensures ∙ w.if-opens_header.false)
      | else-due-via-else-due w ↦ λ _. ap (λ d. first_part d rest) w.if-due.false
    ]
