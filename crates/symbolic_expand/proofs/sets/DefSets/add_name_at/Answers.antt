use Rattle.std.specs.Option.{option_copied}
use Rattle.symbolic_expand.proofs.TableLaws.{has_one, has_none}
use Rattle.symbolic_expand.proofs.sets.DefSets.add_name_at.Goals as goal

pub returns-in-Ok : goal.returns-in-Ok
returns-in-Ok c =
    has_one c.args.table.now c.args.place (c.in-Some.name.now, option_copied c.in-Some.field-0-1) c.in-Some-get.definition.now c.args.self.now c.add.new.self c.in-Ok.field-0
    c.in-Some.ensures c.in-Some-get.ensures c.in-Ok.ensures.ok c.requires

pub returns : goal.returns
returns c =
    has_none c.args.table.now c.args.place (c.in-Some.name.now, option_copied c.in-Some.field-0-1) c.args.self.now
    c.in-Some.ensures c.in_default-get.ensures c.requires
