use Rattle.std.proofs.Common.{◌<◌, length, arith}
use Rattle.std.proofs.lemmas.Bool.Decides.{nat_tests}
use Rattle.job_words.proofs.Steps.{operand-read}
use Rattle.job_words.proofs.reading.read_by_itself.Goals as goal

pub returns-else-is_empty : goal.returns-else-is_empty
returns-else-is_empty c =
    let some : 0 < length c.in-Takes.text.now = grind (arith, nat_tests) in
    rw c.in-Takes.is (operand-read c.in-Takes.taker c.in-Takes.text.now c.args.given.now c.read_operand.new.given c.read_operand.result some c.read_operand.ensures)
