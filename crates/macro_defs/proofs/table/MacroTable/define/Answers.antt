use Rattle.std.proofs.Common.{Some}
use Rattle.macro_defs.proofs.TableLemmas.{put_sets_ok}
use Rattle.macro_defs.proofs.table.MacroTable.define.Goals as goal

pub returns-clause-ok : goal.returns-clause-ok
returns-clause-ok c = put_sets_ok c.put.result c.args.self.now c.put.new.self c.args.name (Some c.args.definition) c.put.ensures.ok
