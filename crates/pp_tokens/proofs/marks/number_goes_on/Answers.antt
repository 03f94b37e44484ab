use Rattle.std.proofs.Common.{ap, length, ◌∙◌}
use Rattle.std.proofs.Math.Dec.{eqb}
use Rattle.pp_tokens.proofs.Numbers.{number_goes_on-length}
use Rattle.pp_tokens.proofs.marks.number_goes_on.Goals as goal

pub returns : goal.returns
returns c = ap (λ n. eqb n (length c.args.bytes.now)) c.number_length.ensures.run ∙ number_goes_on-length c.args.last c.args.bytes.now
