use Rattle.std.proofs.lemmas.Result.{IfOk-weaker}
use Rattle.tree_model.specs.Trees.{entry_at}
use Rattle.tree_model.proofs.StepLemmas.{stays, goes_up, goes_down}
use Rattle.tree_model.proofs.walk.take_step.Goals as goal

pub returns-in-Stay-clause-step : goal.returns-in-Stay-clause-step
returns-in-Stay-clause-step g c told is links rest = stays (entry_at told) links rest c.args.dir c.args.name.now c.args.walked.now c.in-Stay.ensures

pub returns-in_ok-note-in-Up-clause-step : goal.returns-in_ok-note-in-Up-clause-step
returns-in_ok-note-in-Up-clause-step g c told is links rest =
    goes_up (entry_at told) links rest c.args.dir c.args.name.now c.args.walked.now c.note.new.walked c.in_ok-up-in-Up.up c.in-Up.ensures c.in_ok-up-in-Up.ensures c.in_ok-note-in-Up.ensures

pub returns-in-Down-clause-step : goal.returns-in-Down-clause-step
returns-in-Down-clause-step g c =
    IfOk-weaker c.go_down.result _ _ (λ step h told is links rest. goes_down (entry_at told) links rest c.args.dir c.args.name.now c.args.walked.now _ _ c.in-Down.ensures (h told is links rest)) c.go_down.ensures.step
