-- The law at the output that has just begun.
use Rattle.cpp_output.specs.Layout.{laid_out}
use Rattle.cpp_output.specs.Laid.{begun}
use Rattle.cpp_output.proofs.Growth.{finished-after}
use Rattle.cpp_output.proofs.law.layout_law.Goals as goal

pub returns : goal.returns
unfolding laid_out begun
returns c = λ name es. finished-after es (begun name)
