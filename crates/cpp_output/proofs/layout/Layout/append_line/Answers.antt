-- One token more on the line.
use Rattle.std.proofs.Common.{◌≤◌, ◌++◌, length, arith}
use Rattle.pp_tokens.specs.Tokens.{token_seen}
use Rattle.cpp_output.specs.Layout.{on_line}
use Rattle.cpp_output.proofs.Lines.{with_token, line_turn, line_longer, line_done}
use Rattle.cpp_output.proofs.layout.Layout.append_line.Goals as goal

pub loop-token-preserved : goal.loop-token-preserved
loop-token-preserved c =
    line_turn
    c.args.tokens.now
    c.loop-token.token-index
    c.token-item.result
    (token_seen c.as_ref.result)
    c.loop-token.self
    c.append_token.new.self
    (c.args.self.now.text ++ on_line c.args.self.now.last c.args.tokens.now)
    (omega arith)
    c.token-item.is
    c.as_ref.ensures
    c.in_ok-append_token.ensures.ok
    c.loop-token.invariant

pub returns-in_err-append_token-clause-full : goal.returns-in_err-append_token-clause-full
returns-in_err-append_token-clause-full c =
    let longer : length (with_token c.loop-token.self (token_seen c.as_ref.result)).text ≤ length (c.args.self.now.text ++ on_line c.args.self.now.last c.args.tokens.now) =
    line_longer
    c.args.tokens.now
    c.loop-token.token-index
    c.token-item.result
    (token_seen c.as_ref.result)
    c.loop-token.self
    (c.args.self.now.text ++ on_line c.args.self.now.last c.args.tokens.now)
    (omega arith)
    c.token-item.is
    c.as_ref.ensures
    c.loop-token.invariant in
    grind arith

pub returns-clause-ok : goal.returns-clause-ok
returns-clause-ok c =
    line_done
    c.args.tokens.now
    c.loop-token.token-index
    c.loop-token.self
    (c.args.self.now.text ++ on_line c.args.self.now.last c.args.tokens.now)
    c.loop-token-test.false
    c.loop-token.invariant
