use Rattle.std.proofs.Common.{◌≡◌, ◌<◌, ℕ, List, length, refl, sym, ◌∙◌, ap, arith}
use Rattle.std.proofs.lemmas.Bool.{ltb-true, ltb-false}
use Rattle.job_frames.specs.declared.field.Field.TheVariants.{Body}
use Rattle.job_frames.specs.Formats.{reading}
use Rattle.job_frames.specs.parts.Dues.{behind_body}
use Rattle.job_frames.specs.parts.Machines.{left_to_read}
use Rattle.job_frames.proofs.TokenLemmas.{body_waits, body_passes}
use Rattle.job_frames.proofs.MachineLemmas.{lacks_some, refuses_all, goes}
use Rattle.job_frames.proofs.machine.body_move.Goals as goal

pub returns-then-lacks : goal.returns-then-lacks
returns-then-lacks g c =
    let m = c.args.m.now in
    let few : length m.pending.items < c.args.n = omega (arith, ltb-true _ _ (sym c.if-lacks.ensures), c.len.ensures) in
    (refl, few, body_waits (g.F.Frame.format m.frame) c.args.n m.pending.items c.requires.due few)

pub returns-in-Err : goal.returns-in-Err
returns-in-Err g c =
    let m = c.args.m.now in
    let whole : length m.pending.items ≡ c.args.n = omega (arith, ltb-false _ _ (sym c.if-lacks.ensures), c.len.ensures, lacks_some g.F.Frame.format g.F.Frame.Keeps m (Body c.args.n) c.requires.due c.requires.stands) in
    refuses_all c.in-Err.e (behind_body (g.F.Frame.format m.frame) c.in-Ok.body.items) (left_to_read g.F.Frame.format m) c.in-Err.ensures
    (λ more. body_passes (g.F.Frame.format m.frame) c.args.n m.pending.items more c.requires.due whole ∙ ap (λ (b : List ℕ). reading (behind_body (g.F.Frame.format m.frame) b) more) (sym c.in-Ok.ensures.body))

pub returns-in-Ok-take_body : goal.returns-in-Ok-take_body
returns-in-Ok-take_body g c =
    let m = c.args.m.now in
    let whole : length m.pending.items ≡ c.args.n = omega (arith, ltb-false _ _ (sym c.if-lacks.ensures), c.len.ensures, lacks_some g.F.Frame.format g.F.Frame.Keeps m (Body c.args.n) c.requires.due c.requires.stands) in
    goes g.F.Frame.format g.F.Frame.rank g.F.Frame.Keeps (Body c.args.n) m _ (behind_body (g.F.Frame.format m.frame) c.in-Ok.body.items) (c.in-Ok.ensures.none_left) c.in-Ok-take_body.ensures
    (λ more. body_passes (g.F.Frame.format m.frame) c.args.n m.pending.items more c.requires.due whole ∙ ap (λ (b : List ℕ). reading (behind_body (g.F.Frame.format m.frame) b) more) (sym c.in-Ok.ensures.body))
