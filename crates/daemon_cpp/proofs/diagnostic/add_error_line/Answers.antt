use Rattle.std.proofs.Common.{◌++◌, ℕ, List, ◌∙◌, ap}
use Rattle.std.specs.Prelude.{codes}
use Rattle.daemon_cpp.specs.Diagnostics.{error_token}
use Rattle.daemon_cpp.proofs.Shown.{one-more-behind}
use Rattle.daemon_cpp.proofs.diagnostic.add_error_line.Goals as goal

pub loop-token-preserved : goal.loop-token-preserved
loop-token-preserved c =
    c.in_ok-add_error_token.ensures
    ∙ ap (λ (bytes : List ℕ). bytes ++ error_token c.token-item.result) c.loop-token.invariant
    ∙ one-more-behind error_token c.args.text.now.items (codes "#error") c.args.tokens.now c.loop-token.token-index c.token-item.result c.token-item.result c.loop-token-test.true c.token-item.is
