use Rattle.std.proofs.Common.{◌∙◌}
use Rattle.macro_defs.specs.MacroDefinition.{shape_lent}
use Rattle.macro_defs.specs.Runs.{run_tokens}
use Rattle.macro_defs.proofs.SameLemmas.{by_tokens, by_shape, equal_so}
use Rattle.macro_defs.proofs.definition.DefinitionPartialEq.eq.Goals as goal

pub returns-then-same_params-clause-computed : goal.returns-then-same_params-clause-computed
returns-then-same_params-clause-computed c =
    by_tokens (shape_lent c.params.result) (shape_lent c.params-2.result) (run_tokens c.body.result) (run_tokens c.body-then-same_params.result) c.args.self.now c.args.other.now c.same_tokens.result
    c.params.ensures c.params-2.ensures c.body.ensures.tokens c.body-then-same_params.ensures.tokens c.if-same_params.ensures c.same_tokens.ensures

pub returns-then-same_params-clause-same : goal.returns-then-same_params-clause-same
returns-then-same_params-clause-same c = equal_so c.args.self.now c.args.other.now c.same_tokens.result
    (by_tokens (shape_lent c.params.result) (shape_lent c.params-2.result) (run_tokens c.body.result) (run_tokens c.body-then-same_params.result) c.args.self.now c.args.other.now c.same_tokens.result
    c.params.ensures c.params-2.ensures c.body.ensures.tokens c.body-then-same_params.ensures.tokens c.if-same_params.ensures c.same_tokens.ensures)

pub returns-else-same_params-clause-same : goal.returns-else-same_params-clause-same
returns-else-same_params-clause-same c = equal_so c.args.self.now c.args.other.now c.same_params.result
    (c.if-same_params.false ∙ by_shape (shape_lent c.params.result) (shape_lent c.params-2.result) c.args.self.now c.args.other.now c.params.ensures c.params-2.ensures c.if-same_params.ensures)
