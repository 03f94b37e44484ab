use Rattle.std.proofs.Common.{◌++◌, drop}
use Rattle.pp_tokens.specs.Tokens.{token_seen}
use Rattle.base_types.proofs.Lists.{copied_more, copied_all}
use Rattle.directive_scan.specs.Gathered.{tokens_at_line}
use Rattle.directive_scan.proofs.scanner.add_tokens.Goals as goal
use Rattle.directive_scan.proofs.scanner.add_tokens.Goals.{in-Some+in_ok-to_token+in_ok-push, in_default}

pub loop-at-preserved : goal.loop-at-preserved
loop-at-preserved c =
    elim c.match-token.branch [
      | in-Some+in_ok-to_token+in_ok-push w ↦
          rw (w.tokens-is, w.in_ok-push.ensures.items, w.in_ok-to_token.ensures) (
          copied_more c.args.lexed.now.lines c.args.line c.loop-at.at (token_seen w.in-Some.token) c.loop-at.tokens.items (c.args.tokens.now.items ++ drop c.args.place (tokens_at_line c.args.lexed.now c.args.line)) w.in-Some.ensures c.loop-at.invariant
          )
      | in_default w ↦ rw w.tokens-is (copied_all c.args.lexed.now.lines c.args.line c.loop-at.at c.loop-at.tokens.items (c.args.tokens.now.items ++ drop c.args.place (tokens_at_line c.args.lexed.now c.args.line)) w.in_default.ensures c.loop-at.invariant)
    ]
