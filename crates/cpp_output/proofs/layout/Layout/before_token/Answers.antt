use Rattle.std.proofs.Common.{sym, ap, arith}
use Rattle.pp_tokens.specs.Tokens.{token_seen}
use Rattle.cpp_output.specs.Laid.{Laid}
use Rattle.cpp_output.proofs.Taken.{next_line}
use Rattle.cpp_output.proofs.layout.Layout.before_token.Goals as goal

pub returns-then-line-self-eq1 : goal.returns-then-line-self-eq1
returns-then-line-self-eq1 c =
    let at = ap (λ (s : Laid). s.at) c.self.view_is in
    sym (next_line c.args.self.now (token_seen c.args.token.now) (omega (arith, c.if-line-self-eq1.true, c.from-line.ensures, at)))
