use Rattle.std.proofs.Common.{◌≡◌, rules}
use Rattle.macro_defs.proofs.Places.{number_more}
use Rattle.macro_defs.proofs.numbers.put_number.Goals as goal

pub returns-in-Ok-insert : goal.returns-in-Ok-insert
returns-in-Ok-insert c =
    let same : c.in-Ok.number ≡ c.args.number = search rules in
    number_more c.args.numbers.now c.insert.new.self c.args.name c.in-Ok.number c.args.number same c.in-Ok-insert.ensures.updates.0
