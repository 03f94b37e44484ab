use Rattle.std.proofs.Common.{◌+◌, List, ℕ, drop, refl, subst}
use Rattle.job_frames.specs.declared.machine.Machine.{Machine}
use Rattle.job_frames.specs.parts.Filling.{Topped}
use Rattle.job_frames.specs.parts.Dues.{size_of}
use Rattle.job_frames.proofs.MachineLemmas.{run_rest, moved_passed, filled_passed}
use Rattle.job_frames.proofs.machine.run.Goals as goal

pub returns-in-Rest : goal.returns-in-Rest
returns-in-Rest g c =
    let m = c.loop-n.m in
    let filled : Machine g.row.F.Denot = record { alloc = m.alloc; pending = c.top_up.new.pending; frame = m.frame } in
    let topped : Topped m.pending.items (size_of c.due-field.result) (drop c.loop-n.at c.args.piece.now) c.top_up.new.pending.items c.in-Ok.n =
    subst (λ k. Topped m.pending.items k (drop c.loop-n.at c.args.piece.now) c.top_up.new.pending.items c.in-Ok.n) c.size.ensures
    (subst (λ (r : List ℕ). Topped m.pending.items c.size.result r c.top_up.new.pending.items c.in-Ok.n) c.split_at.ensures.back c.in-Ok.ensures) in
    run_rest g.F.Frame.format g.F.Frame.rank g.F.Frame.Keeps c.due-field.result c.args.m.now m filled c.step.new.m c.args.piece.now c.loop-n.at c.in-Ok.n c.in-Rest.fed c.due-field.ensures refl c.loop-n.invariant topped c.in-Rest.ensures

pub loop-n-preserved : goal.loop-n-preserved
loop-n-preserved g c =
    let m = c.loop-n.m in
    let filled : Machine g.row.F.Denot = record { alloc = m.alloc; pending = c.top_up.new.pending; frame = m.frame } in
    let topped : Topped m.pending.items (size_of c.due-field.result) (drop c.loop-n.at c.args.piece.now) c.top_up.new.pending.items c.in-Ok.n =
    subst (λ k. Topped m.pending.items k (drop c.loop-n.at c.args.piece.now) c.top_up.new.pending.items c.in-Ok.n) c.size.ensures
    (subst (λ (r : List ℕ). Topped m.pending.items c.size.result r c.top_up.new.pending.items c.in-Ok.n) c.split_at.ensures.back c.in-Ok.ensures) in
    moved_passed g.F.Frame.format g.F.Frame.rank g.F.Frame.Keeps c.due-field.result c.args.m.now filled c.step.new.m c.args.piece.now (c.loop-n.at + c.in-Ok.n)
    (filled_passed g.F.Frame.format g.F.Frame.Keeps c.args.m.now m filled c.due-field.result c.args.piece.now c.loop-n.at c.in-Ok.n c.due-field.ensures refl c.loop-n.invariant topped) c.in-Go.ensures
