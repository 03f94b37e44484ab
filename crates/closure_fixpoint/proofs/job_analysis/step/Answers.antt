use Rattle.closure_fixpoint.proofs.DrivingLaws.{asks_search, asks_sheet}
use Rattle.closure_fixpoint.proofs.job_analysis.step.Goals as goal

pub returns-in-Ok-clause-steps : goal.returns-in-Ok-clause-steps
returns-in-Ok-clause-steps g c told is budget goes =
    let asks = asks_search told c.args.job.now budget c.args.analysis.now c.next.new.self c.next.result c.in-Search.ask c.in-Search.is c.next.ensures.broken c.in-Search.ensures.means goes in
    c.in-Ok.ensures.told told is budget asks.0 asks.1 asks.2

pub returns-in-Ok-answer_sheet-clause-steps : goal.returns-in-Ok-answer_sheet-clause-steps
returns-in-Ok-answer_sheet-clause-steps g c told is budget goes =
    let asks = asks_sheet told c.args.job.now budget c.args.analysis.now c.next.new.self c.next.result c.in-Sheet.visit c.in-Sheet.is c.next.ensures.broken c.in-Sheet.ensures.means goes in
    c.in-Ok-answer_sheet.ensures.told told is budget asks.0 asks.1
