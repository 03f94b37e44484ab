use Rattle.std.proofs.Common.{◌≡◌, length}
use Rattle.pp_tokens.specs.Plain.{is_plain_body}
use Rattle.pp_tokens.proofs.plain.is_plain.Given as goal

abbrev pub invariant-loop-rest : goal.invariant-loop-rest
invariant-loop-rest l = is_plain_body l.body ≡ is_plain_body l.rest

abbrev pub decreases-loop-rest : goal.decreases-loop-rest
decreases-loop-rest l = length l.rest
