use Rattle.std.proofs.Common.{sym, ◌∙◌, ap, subst}
use Rattle.macro_defs.specs.Table.{lookup}
use Rattle.macro_expand.specs.declared.outcome.Mode.TheVariants.{Condition}
use Rattle.macro_defs.specs.Runs.{run_tokens}
use Rattle.macro_expand.specs.Seen.{ReportsResult}
use Rattle.macro_expand.specs.Stream.{Stream, to_come}
use Rattle.daemon_cpp.specs.Prep.{is_defined}
use Rattle.daemon_cpp.specs.parts.Controlling.{at_first, read_from}
use Rattle.daemon_cpp.proofs.Controlled.{come-init}
use Rattle.daemon_cpp.proofs.Conditions.{read-leads, error-leads}
use Rattle.daemon_cpp.proofs.condition.answered_condition.Goals as goal

pub returns-in-Ok-clause-leads : goal.returns-in-Ok-clause-leads
returns-in-Ok-clause-leads c =
    let defined = is_defined (lookup c.args.kept.now.macros) in
    read-leads c.args.kept.now c.read_expanded.new.work c.args.places c.args.at (run_tokens c.args.run) c.in-Ok.line c.judged.result
    (ap (read_from defined at_first) (sym (come-init c.args.kept.now.macros c.args.places.presumed.now Condition c.args.kept.now.work.left (run_tokens c.args.run)))
    ∙ ap (λ (s : Stream). read_from defined at_first (to_come s c.args.kept.now.work.left)) (sym c.over-stream.ensures)
    ∙ c.in-Ok.ensures.ok)
    c.judged.ensures.leads

pub returns-in-Err-clause-leads : goal.returns-in-Err-clause-leads
returns-in-Err-clause-leads c =
    error-leads c.args.kept.now c.read_expanded.new.work c.args.places c.args.at (run_tokens c.args.run) c.in-Err.error c.expansion_stop.result
    (subst (λ r. ReportsResult c.in-Err.error r)
    (ap (λ (s : Stream). to_come s c.args.kept.now.work.left) c.over-stream.ensures
    ∙ come-init c.args.kept.now.macros c.args.places.presumed.now Condition c.args.kept.now.work.left (run_tokens c.args.run))
    c.in-Err.ensures.err)
    c.expansion_stop.ensures
