use Rattle.macro_expand.proofs.TableLaws.{units_never_rise, units_never_rise_by_table}
use Rattle.macro_expand.proofs.laws.expansion_is_frugal.Goals as goal

pub returns : goal.returns
returns c = record { frugal = units_never_rise; by_table = units_never_rise_by_table }
