use Rattle.std.proofs.Common.{sym, ◌∙◌, ap, ◌+◌}
use Rattle.pp_tokens.specs.Lines.{comment}
use Rattle.pp_tokens.specs.parts.Text.{comment_length}
use Rattle.pp_tokens.proofs.ByteRuns.{before}
use Rattle.pp_tokens.proofs.Comments.{block_closed, block_open, line_comment}
use Rattle.pp_tokens.proofs.comment.slash_part.Goals as goal

pub returns-in-Some : goal.returns-in-Some
returns-in-Some c =
    let second = sym c.byte_at-second.ensures ∙ c.if-second-eq42.true in
    let found = ap comment_length (sym c.split_at.ensures.back) ∙ sym c.in-Some.ensures.length in
    sym (block_closed c.args.rest.now c.in-Some.n c.requires.slash second found)

pub returns-in-None : goal.returns-in-None
returns-in-None c =
    let second = sym c.byte_at-second.ensures ∙ c.if-second-eq42.true in
    let none = ap comment_length (sym c.split_at.ensures.back) ∙ sym c.in-None.ensures.length in
    sym (block_open c.args.rest.now c.requires.slash second none)

pub returns-then-second-eq47 : goal.returns-then-second-eq47
returns-then-second-eq47 c =
    let second = sym c.byte_at-second.ensures ∙ c.if-second-eq47.true in
    let run = c.line_length.ensures.run ∙ ap (before 10) c.split_at-then-second-eq47.ensures.back in
    ap (λ n. (comment, n + 2)) run ∙ sym (line_comment c.args.rest.now c.requires.slash second)
