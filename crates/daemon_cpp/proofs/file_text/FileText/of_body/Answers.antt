use Rattle.daemon_cpp.proofs.Fewer.{text_few}
use Rattle.daemon_cpp.proofs.file_text.FileText.of_body.Goals as goal

pub returns-clause-judged : goal.returns-clause-judged
returns-clause-judged c = (
  c.in_ok-malformed.ensures,
  text_few c.in_ok-lexed.lexed
      (record { pieces = c.in_ok-pieces.pieces; tokens = c.count_tokens-tokens.result; open_comment = c.open_comment-open_comment.result; malformed = c.in_ok-malformed.malformed })
      (record { pieces = c.in_ok-pieces.ensures; tokens = c.count_tokens-tokens.ensures; open_comment = c.open_comment-open_comment.ensures; malformed = c.in_ok-malformed.ensures }),
)
