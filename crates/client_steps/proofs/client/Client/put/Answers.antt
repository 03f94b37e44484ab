use Rattle.std.proofs.Common.{ap, ◌∙◌}
use Rattle.client_steps.specs.declared.phase.Phase.{Phase}
use Rattle.client_steps.specs.Phases.{phase_after}
use Rattle.client_steps.proofs.Puts.{put-has-room, put-holds}
use Rattle.client_steps.proofs.client.Client.put.Goals as goal

pub returns-clause-room : goal.returns-clause-room
returns-clause-room c =
    let is = c.put_back.ensures ∙ c.after.ensures ∙ ap (λ (p : Phase). phase_after p c.args.reply) c.replace-phase.ensures.value in
    put-has-room c.args.self.now c.args.reply c.least_next-self.result c.put_back.new.slot c.least_next-self.ensures is c.requires.fits c.requires.above c.requires.room

pub returns-clause-keeps : goal.returns-clause-keeps
returns-clause-keeps c = λ known jobs hosts first now ledger right some many was.
    let is = c.put_back.ensures ∙ c.after.ensures ∙ ap (λ (p : Phase). phase_after p c.args.reply) c.replace-phase.ensures.value in
    put-holds known jobs hosts c.args.self.now c.args.reply c.least_next-self.result c.put_back.new.slot ledger first now c.least_next-self.ensures is c.requires.fits c.requires.above many right some was
