use Rattle.std.proofs.Common.{◌≡◌, ◌++◌, take}
use Rattle.std.specs.List.{flat_map}
use Rattle.pump_run.specs.Report.{job_text}
use Rattle.pump_run.proofs.report.add_jobs.Given as goal

abbrev pub invariant-loop-done : goal.invariant-loop-done
invariant-loop-done l = l.text.items ≡ l.fn.text.items ++ flat_map job_text (take l.done-index l.records)
