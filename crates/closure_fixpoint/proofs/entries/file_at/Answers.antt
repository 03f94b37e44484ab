use Rattle.std.proofs.Common.{sym, ◌∙◌}
use Rattle.closure_fixpoint.proofs.BodyLemmas.{body_entry}
use Rattle.closure_fixpoint.proofs.entries.file_at.Goals as goal

pub returns-in-Some-clause-entry : goal.returns-in-Some-clause-entry
returns-in-Some-clause-entry g c = λ told is there.
    body_entry told c.args.path.now c.in_ok-into_bytes.field-0 there
    (c.in_ok-into_bytes.ensures ∙ c.requires.bodies.same c.args.path.now c.in-Some.body (sym c.take.ensures.value ∙ c.in-Some.is) told is)
