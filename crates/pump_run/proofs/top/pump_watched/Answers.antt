use Rattle.std.proofs.Common.{ℕ, List, map, Bor, ◌∙◌, ap, refl}
use Rattle.job_ends.specs.Outside.{seen_end}
use Rattle.run_words.specs.parts.Flagged.{settings_by_asked}
use Rattle.compile_list.specs.declared.refused.ListError.{ListError}
use Rattle.pump_run.specs.parts.Steps.{refusal_text_of}
use Rattle.pump_run.specs.Run.{outside, pump_given}
use Rattle.pump_run.proofs.Counted.{nothing-asked, asked-seen, few-seen}
use Rattle.pump_run.proofs.FirstEnds.{written-back}
use Rattle.pump_run.proofs.Refused.{usage-run, list-refused-run, fault-run, starved-run, stayed-run}
use Rattle.pump_run.proofs.Ran.{whole-run}
use Rattle.pump_run.proofs.top.pump_watched.Goals as goal

pub returns-in-Ok-None : goal.returns-in-Ok-None
returns-in-Ok-None g c =
    let asked_words : Bor (List ℕ) → List ℕ = λ w. w.now in
    let the_given = pump_given g.T.Of.Frozen.named g.W.Wire.peer (map asked_words c.args.words.now) in
    let seen = seen_end {F = g.row.T-Of.Denot} g.T.Tree.told g.T.Tree.faults g.T.Tree.reads g.W.Wire.talk g.W.Wire.state g.W.Wire.faults g.O.Outs.kept g.O.Outs.faults in
    let before = outside (map seen c.args.ends.now.items) (g.S.Source.left c.args.list.now) (g.S.Source.faults c.args.list.now) (g.P.Spawner.begun c.args.spawner.now) (g.P.Spawner.running c.args.spawner.now) (g.P.Spawner.asked c.args.spawner.now) (g.P.Spawner.faults c.args.spawner.now) (g.K.Sink.held c.args.report.now) (g.K.Sink.faults c.args.report.now) in
    record {
      run = usage-run the_given before c.requires.fresh (g.S.Source.left c.args.list.now) (g.K.Sink.held c.refuse.new.report) (g.S.Source.faults c.args.list.now) (g.K.Sink.faults c.refuse.new.report) c.refuse.result c.as_slice.result.now
          (nothing-asked seen c.args.ends.now.items (map asked_words c.args.words.now) c.number_of.result c.number_of.ensures c.in-Ok-None.field-0 c.in-Ok-None.field-0-is c.in-Ok-None.ensures.asked) c.as_slice.ensures c.refuse.ensures;
    }

pub returns-in-Err : goal.returns-in-Err
returns-in-Err g c =
    let asked_words : Bor (List ℕ) → List ℕ = λ w. w.now in
    let the_given = pump_given g.T.Of.Frozen.named g.W.Wire.peer (map asked_words c.args.words.now) in
    let seen = seen_end {F = g.row.T-Of.Denot} g.T.Tree.told g.T.Tree.faults g.T.Tree.reads g.W.Wire.talk g.W.Wire.state g.W.Wire.faults g.O.Outs.kept g.O.Outs.faults in
    let before = outside (map seen c.args.ends.now.items) (g.S.Source.left c.args.list.now) (g.S.Source.faults c.args.list.now) (g.P.Spawner.begun c.args.spawner.now) (g.P.Spawner.running c.args.spawner.now) (g.P.Spawner.asked c.args.spawner.now) (g.P.Spawner.faults c.args.spawner.now) (g.K.Sink.held c.args.report.now) (g.K.Sink.faults c.args.report.now) in
    record {
      run = starved-run the_given before c.requires.fresh (g.S.Source.left c.args.list.now) (g.K.Sink.held c.refuse-in-Err.new.report) (g.S.Source.faults c.args.list.now) (g.K.Sink.faults c.refuse-in-Err.new.report) c.refuse-in-Err.result c.as_slice-in-Err.result.now
          c.as_slice-in-Err.ensures c.refuse-in-Err.ensures;
    }

pub returns-in_default : goal.returns-in_default
returns-in_default g c =
    let asked_words : Bor (List ℕ) → List ℕ = λ w. w.now in
    let the_given = pump_given g.T.Of.Frozen.named g.W.Wire.peer (map asked_words c.args.words.now) in
    let seen = seen_end {F = g.row.T-Of.Denot} g.T.Tree.told g.T.Tree.faults g.T.Tree.reads g.W.Wire.talk g.W.Wire.state g.W.Wire.faults g.O.Outs.kept g.O.Outs.faults in
    let before = outside (map seen c.args.ends.now.items) (g.S.Source.left c.args.list.now) (g.S.Source.faults c.args.list.now) (g.P.Spawner.begun c.args.spawner.now) (g.P.Spawner.running c.args.spawner.now) (g.P.Spawner.asked c.args.spawner.now) (g.P.Spawner.faults c.args.spawner.now) (g.K.Sink.held c.args.report.now) (g.K.Sink.faults c.args.report.now) in
    record {
      run = starved-run the_given before c.requires.fresh (g.S.Source.left c.listed_jobs.new.list) (g.K.Sink.held c.refuse-in_default.new.report) (g.S.Source.faults c.listed_jobs.new.list) (g.K.Sink.faults c.refuse-in_default.new.report) c.refuse-in_default.result c.as_slice-in_default.result.now
          c.as_slice-in_default.ensures c.refuse-in_default.ensures;
    }

pub returns-in-Err-Refused : goal.returns-in-Err-Refused
returns-in-Err-Refused g c =
    let asked_words : Bor (List ℕ) → List ℕ = λ w. w.now in
    let the_given = pump_given g.T.Of.Frozen.named g.W.Wire.peer (map asked_words c.args.words.now) in
    let seen = seen_end {F = g.row.T-Of.Denot} g.T.Tree.told g.T.Tree.faults g.T.Tree.reads g.W.Wire.talk g.W.Wire.state g.W.Wire.faults g.O.Outs.kept g.O.Outs.faults in
    let before = outside (map seen c.args.ends.now.items) (g.S.Source.left c.args.list.now) (g.S.Source.faults c.args.list.now) (g.P.Spawner.begun c.args.spawner.now) (g.P.Spawner.running c.args.spawner.now) (g.P.Spawner.asked c.args.spawner.now) (g.P.Spawner.faults c.args.spawner.now) (g.K.Sink.held c.args.report.now) (g.K.Sink.faults c.args.report.now) in
    let settings = settings_by_asked c.in-Ok-Some.asked in
    let asked = asked-seen seen c.args.ends.now.items (map asked_words c.args.words.now) c.number_of.result c.number_of.ensures c.in-Ok-Some.field-0 c.in-Ok-Some.asked c.in-Ok-Some.field-0-is c.in-Ok-Some.ensures.asked in
    record {
      run = list-refused-run the_given before c.requires.fresh (g.S.Source.left c.listed_jobs.new.list) (g.K.Sink.held c.refuse-in-Err-Refused.new.report) (g.S.Source.faults c.listed_jobs.new.list) (g.K.Sink.faults c.refuse-in-Err-Refused.new.report) c.refuse-in-Err-Refused.result c.as_slice-in-Err-Refused.result.now
          c.in-Err-Refused.error (settings, asked) (rw c.in-Err-Refused.field-0-is at c.in-Err-Refused.ensures) (c.as_slice-in-Err-Refused.ensures ∙ c.in-Ok-refusal_line.ensures ∙ ap (λ (error : ListError). refusal_text_of error) c.in-Err-Refused.error-is) c.refuse-in-Err-Refused.ensures;
    }

pub returns-in-Err-Fault : goal.returns-in-Err-Fault
returns-in-Err-Fault g c =
    let asked_words : Bor (List ℕ) → List ℕ = λ w. w.now in
    let the_given = pump_given g.T.Of.Frozen.named g.W.Wire.peer (map asked_words c.args.words.now) in
    let seen = seen_end {F = g.row.T-Of.Denot} g.T.Tree.told g.T.Tree.faults g.T.Tree.reads g.W.Wire.talk g.W.Wire.state g.W.Wire.faults g.O.Outs.kept g.O.Outs.faults in
    let before = outside (map seen c.args.ends.now.items) (g.S.Source.left c.args.list.now) (g.S.Source.faults c.args.list.now) (g.P.Spawner.begun c.args.spawner.now) (g.P.Spawner.running c.args.spawner.now) (g.P.Spawner.asked c.args.spawner.now) (g.P.Spawner.faults c.args.spawner.now) (g.K.Sink.held c.args.report.now) (g.K.Sink.faults c.args.report.now) in
    let settings = settings_by_asked c.in-Ok-Some.asked in
    let asked = asked-seen seen c.args.ends.now.items (map asked_words c.args.words.now) c.number_of.result c.number_of.ensures c.in-Ok-Some.field-0 c.in-Ok-Some.asked c.in-Ok-Some.field-0-is c.in-Ok-Some.ensures.asked in
    record {
      run = fault-run the_given before c.requires.fresh (g.S.Source.left c.listed_jobs.new.list) (g.K.Sink.held c.refuse-in-Err-Fault.new.report) (g.S.Source.faults c.listed_jobs.new.list) (g.K.Sink.faults c.refuse-in-Err-Fault.new.report) c.refuse-in-Err-Fault.result c.as_slice-in-Err-Fault.result.now
          (settings, asked) (rw c.in-Err-Fault.field-0-is at c.in-Err-Fault.ensures) c.as_slice-in-Err-Fault.ensures c.refuse-in-Err-Fault.ensures;
    }

pub returns-in-Err-Memory : goal.returns-in-Err-Memory
returns-in-Err-Memory g c =
    let asked_words : Bor (List ℕ) → List ℕ = λ w. w.now in
    let the_given = pump_given g.T.Of.Frozen.named g.W.Wire.peer (map asked_words c.args.words.now) in
    let seen = seen_end {F = g.row.T-Of.Denot} g.T.Tree.told g.T.Tree.faults g.T.Tree.reads g.W.Wire.talk g.W.Wire.state g.W.Wire.faults g.O.Outs.kept g.O.Outs.faults in
    let before = outside (map seen c.args.ends.now.items) (g.S.Source.left c.args.list.now) (g.S.Source.faults c.args.list.now) (g.P.Spawner.begun c.args.spawner.now) (g.P.Spawner.running c.args.spawner.now) (g.P.Spawner.asked c.args.spawner.now) (g.P.Spawner.faults c.args.spawner.now) (g.K.Sink.held c.args.report.now) (g.K.Sink.faults c.args.report.now) in
    record {
      run = starved-run the_given before c.requires.fresh (g.S.Source.left c.listed_jobs.new.list) (g.K.Sink.held c.refuse-in-Err-Memory.new.report) (g.S.Source.faults c.listed_jobs.new.list) (g.K.Sink.faults c.refuse-in-Err-Memory.new.report) c.refuse-in-Err-Memory.result c.as_slice-in-Err-Memory.result.now
          c.as_slice-in-Err-Memory.ensures c.refuse-in-Err-Memory.ensures;
    }

pub returns-in_default-run_clients : goal.returns-in_default-run_clients
returns-in_default-run_clients g c =
    let asked_words : Bor (List ℕ) → List ℕ = λ w. w.now in
    let the_given = pump_given g.T.Of.Frozen.named g.W.Wire.peer (map asked_words c.args.words.now) in
    let seen = seen_end {F = g.row.T-Of.Denot} g.T.Tree.told g.T.Tree.faults g.T.Tree.reads g.W.Wire.talk g.W.Wire.state g.W.Wire.faults g.O.Outs.kept g.O.Outs.faults in
    let before = outside (map seen c.args.ends.now.items) (g.S.Source.left c.args.list.now) (g.S.Source.faults c.args.list.now) (g.P.Spawner.begun c.args.spawner.now) (g.P.Spawner.running c.args.spawner.now) (g.P.Spawner.asked c.args.spawner.now) (g.P.Spawner.faults c.args.spawner.now) (g.K.Sink.held c.args.report.now) (g.K.Sink.faults c.args.report.now) in
    record {
      run = stayed-run the_given before _
          (ap (λ (es : List _). map seen es) (written-back c.args.ends.now.len c.args.ends.now.items c.as_mut_slice.result.now c.run_clients.new.ends c.as_mut_slice.ensures.value c.as_mut_slice.ensures.len c.run_clients.ensures.each) ∙ c.in_default-run_clients.ensures.stayed ∙ ap (λ (es : List _). map seen es) c.as_mut_slice.ensures.value) c.requires.fresh
          (g.S.Source.left c.listed_jobs.new.list) (g.K.Sink.held c.refuse-in_default-run_clients.new.report) (g.S.Source.faults c.listed_jobs.new.list) (g.K.Sink.faults c.refuse-in_default-run_clients.new.report) c.refuse-in_default-run_clients.result
          c.as_slice-in_default-run_clients.result.now c.as_slice-in_default-run_clients.ensures c.refuse-in_default-run_clients.ensures;
    }

pub returns : goal.returns
returns g c =
    let asked_words : Bor (List ℕ) → List ℕ = λ w. w.now in
    let the_given = pump_given g.T.Of.Frozen.named g.W.Wire.peer (map asked_words c.args.words.now) in
    let seen = seen_end {F = g.row.T-Of.Denot} g.T.Tree.told g.T.Tree.faults g.T.Tree.reads g.W.Wire.talk g.W.Wire.state g.W.Wire.faults g.O.Outs.kept g.O.Outs.faults in
    let before = outside (map seen c.args.ends.now.items) (g.S.Source.left c.args.list.now) (g.S.Source.faults c.args.list.now) (g.P.Spawner.begun c.args.spawner.now) (g.P.Spawner.running c.args.spawner.now) (g.P.Spawner.asked c.args.spawner.now) (g.P.Spawner.faults c.args.spawner.now) (g.K.Sink.held c.args.report.now) (g.K.Sink.faults c.args.report.now) in
    let settings = settings_by_asked c.in-Ok-Some.asked in
    let asked = asked-seen seen c.args.ends.now.items (map asked_words c.args.words.now) c.number_of.result c.number_of.ensures c.in-Ok-Some.field-0 c.in-Ok-Some.asked c.in-Ok-Some.field-0-is c.in-Ok-Some.ensures.asked in
    record {
      run = whole-run seen c.args.ends.now.items c.as_mut_slice.result.now c.run_clients.new.ends _ the_given before
          (g.S.Source.left c.listed_jobs.new.list) (g.K.Sink.held c.tell.new.report) (g.S.Source.faults c.listed_jobs.new.list) (g.K.Sink.faults c.tell.new.report) c.tell.result
          settings c.as_slice-2.result.now c.in-Ok.jobs c.as_slice-3.result.now c.in-Ok-run_clients.records.items c.in-Ok-run_clients.totals
          refl c.as_mut_slice.ensures.value (written-back c.args.ends.now.len c.args.ends.now.items c.as_mut_slice.result.now c.run_clients.new.ends c.as_mut_slice.ensures.value c.as_mut_slice.ensures.len c.run_clients.ensures.each) c.as_slice-2.ensures c.as_slice-3.ensures.value
          c.in-Ok-run_clients.ensures.did asked (few-seen seen c.args.ends.now.items (map asked_words c.args.words.now) c.number_of.result c.number_of.ensures c.in-Ok-Some.asked.clients (rw c.in-Ok-Some.field-0-is at c.in-Ok-Some.ensures.clients).1) c.in-Ok.ensures c.tell.ensures;
    }
