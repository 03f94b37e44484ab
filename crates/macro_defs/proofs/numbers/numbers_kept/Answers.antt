use Rattle.std.proofs.Common.{◌<◌, length, arith}
use Rattle.macro_defs.proofs.Places.{kept-told}
use Rattle.macro_defs.proofs.numbers.numbers_kept.Goals as goal

pub returns : goal.returns
returns c =
    let some : 0 < length c.args.params.now = omega arith in
    kept-told c.in_ok-numbers.numbers c.args.params.now c.args.body.now some c.in_ok-numbers.ensures c.each_looked_up.result c.each_looked_up.ensures
