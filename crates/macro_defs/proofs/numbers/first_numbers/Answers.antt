use Rattle.std.proofs.Common.{◌≡◌, ◌∙◌, arith}
use Rattle.macro_defs.proofs.Places.{from_first}
use Rattle.macro_defs.proofs.numbers.first_numbers.Goals as goal

pub returns : goal.returns
returns c name =
    let first : c.loop-place.place ≡ 0 = omega arith in
    c.loop-place.invariant name ∙ from_first name c.args.params.now c.loop-place.place first
