use Rattle.macro_defs.specs.Runs.{run_tokens}
use Rattle.macro_expand.proofs.TokenPartLemmas.{tokens_are-parts}
use Rattle.macro_expand.proofs.token_parts.TokenParts.of.Goals as goal

pub returns : goal.returns
returns c = tokens_are-parts c.args.d.now (run_tokens c.body.result) c.body.ensures.tokens c.requires.function c.requires.plain
