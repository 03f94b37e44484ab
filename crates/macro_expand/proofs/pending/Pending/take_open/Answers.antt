use Rattle.std.proofs.Common.{refl, sym, ◌∙◌}
use Rattle.pp_tokens.specs.Tokens.{token_seen}
use Rattle.macro_expand.proofs.PendingLemmas.{begins_otherwise}
use Rattle.macro_expand.proofs.pending.Pending.take_open.Goals as goal

pub returns-then-not-is_mark-clause-not_opened : goal.returns-then-not-is_mark-clause-not_opened
returns-then-not-is_mark-clause-not_opened c = λ _. (
  begins_otherwise c.args.self.now (token_seen c.in-Some.t) c.in-Some.ensures
      (sym (rw c.as_slice.ensures at c.is_mark.ensures) ∙ c.if-not-is_mark.true),
  refl,
)
