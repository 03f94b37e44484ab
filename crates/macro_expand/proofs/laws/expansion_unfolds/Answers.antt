use Rattle.macro_expand.proofs.StepLaws.{expansion-unfolds}
use Rattle.macro_expand.proofs.TableLaws.{tables_compose, expands_by_table, arguments_expand_by_table}
use Rattle.macro_expand.proofs.laws.expansion_unfolds.Goals as goal

pub returns : goal.returns
returns c = record {
  unfolds = expansion-unfolds;
  composes = tables_compose;
  expands = expands_by_table;
  arguments = arguments_expand_by_table;
}
