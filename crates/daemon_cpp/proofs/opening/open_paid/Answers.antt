use Rattle.std.proofs.Common.{ℕ, suc, sym, ◌∙◌, ap}
use Rattle.daemon_cpp.specs.parts.Reading.{front_events, work_after}
use Rattle.daemon_cpp.proofs.Openings.{begins-paid}
use Rattle.daemon_cpp.proofs.opening.open_paid.Goals as goal

pub returns-in-Some-clause-begins : goal.returns-in-Some-clause-begins
returns-in-Some-clause-begins c = λ world file lexed place is.
    begins-paid c.args.kept.now c.open_text.new.kept c.in-Some.left c.args.source.now file world (front_events c.args.included c.args.place.now) lexed c.open_text.result
    (λ entering. sym c.in-Some.is ∙ (c.pay.ensures ∙ ap (λ (n : ℕ). work_after (suc n) c.args.kept.now.work.left) is.tokens))
    (c.open_text.ensures.begins world file lexed place is)
