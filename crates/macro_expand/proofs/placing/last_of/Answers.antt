use Rattle.std.proofs.Common.{arith, ap, sym, ◌∙◌}
use Rattle.pp_tokens.specs.Tokens.{rest_of}
use Rattle.macro_defs.specs.Runs.{run_tokens}
use Rattle.macro_expand.proofs.PlacingLemmas.{none-behind}
use Rattle.macro_expand.proofs.placing.last_of.Goals as goal

pub returns-in-None : goal.returns-in-None
returns-in-None c =
    ap run_tokens c.in-Lexed.is
    ∙ none-behind (rest_of c.in-Lexed.tokens) c.saturating_sub.result (omega (arith, c.saturating_sub.ensures, c.len.ensures))
    (sym c.split_at.ensures.behind ∙ c.in-None.ensures.steps.0)
