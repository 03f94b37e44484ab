use Rattle.std.proofs.Common.{◌≡◌, ℕ, length, refl, ap, ◌∙◌, sym}
use Rattle.closure_memo.specs.Memo.{look_of}
use Rattle.client_steps.specs.declared.need.Need.TheVariants.{Look}
use Rattle.client_steps.specs.declared.need.Reply.TheVariants.{Looked, Refused}
use Rattle.client_order.specs.parts.World.{seen_memo}
use Rattle.client_order.proofs.Histories.{with_call}
use Rattle.client_order.proofs.TurnLaws.{look-says, look-frees, look-right, look-refused, look-seen, answers-still, call-keeps, call-others, refused-keeps}
use Rattle.client_order.proofs.turns.answer_look.Goals as goal

pub returns-in-Ok-clause-answers : goal.returns-in-Ok-clause-answers
returns-in-Ok-clause-answers g c =
    let old = c.args.client.now in
    let s = c.args.shared.now.slots in
    let e = c.put.ensures in
    answers-still (Look c.args.key) c.args.shared.now.drawn s old c.put.new.self (Looked c.in-Ok.got) _ c.requires.can (record { room = e.room; least = e.least; same = e.same; phase = e.phase })
    (look-says old.jobs (length s.limits) old.phase c.args.key c.in-Ok.got c.requires.can.waits) (look-frees old.jobs (length s.limits) old.phase c.args.key c.in-Ok.got c.requires.can.waits) refl refl

pub returns-in-Ok-clause-others : goal.returns-in-Ok-clause-others
returns-in-Ok-clause-others g c =
    let memo = c.args.shared.now.memo in
    let seen : seen_memo c.look.new.self ≡ with_call c.number.result c.args.key (look_of c.in-Ok.got) 0 (seen_memo memo) = look-seen memo c.look.new.self c.number.result c.args.key c.in-Ok.got c.in-Ok.ensures.value c.in-Ok.ensures.step in
    call-others (seen_memo memo) (seen_memo c.look.new.self) c.args.client.now.number c.args.key (look_of c.in-Ok.got) 0 c.keys-keys.ensures.numbered.listed
    (seen ∙ ap (λ (n : ℕ). with_call n c.args.key (look_of c.in-Ok.got) 0 (seen_memo memo)) c.number.ensures)

pub returns-in-Ok-clause-keeps : goal.returns-in-Ok-clause-keeps
returns-in-Ok-clause-keeps g c =
    let old = c.args.client.now in
    let memo = c.args.shared.now.memo in
    let hosts = length c.args.shared.now.slots.limits in
    let seen : seen_memo c.look.new.self ≡ with_call c.number.result c.args.key (look_of c.in-Ok.got) 0 (seen_memo memo) = look-seen memo c.look.new.self c.number.result c.args.key c.in-Ok.got c.in-Ok.ensures.value c.in-Ok.ensures.step in
    call-keeps g.F.Frozen.named (seen_memo memo) (seen_memo c.look.new.self) old c.put.new.self (Looked c.in-Ok.got) c.args.key (look_of c.in-Ok.got) 0 c.keys-keys.ensures.numbered.listed
    (seen ∙ ap (λ (n : ℕ). with_call n c.args.key (look_of c.in-Ok.got) 0 (seen_memo memo)) c.number.ensures)
    c.put.ensures.keeps c.put.ensures.same.1.0 (look-says old.jobs hosts old.phase c.args.key c.in-Ok.got c.requires.can.waits).called
    (λ of is. look-right old.jobs hosts of old.phase c.args.key c.in-Ok.got c.requires.can.waits (λ sheet e tree named. c.in-Ok.ensures.right sheet e tree (sym is ∙ named)))

pub returns-clause-keeps : goal.returns-clause-keeps
returns-clause-keeps g c =
    let old = c.args.client.now in
    let says = look-refused old.jobs (length c.args.shared.now.slots.limits) old.phase c.args.key c.requires.can.waits in
    refused-keeps g.F.Frozen.named c.args.shared.now.memo c.look.new.self old c.put-in-Err.new.self c.in-Err.ensures.err c.put-in-Err.ensures.keeps c.put-in-Err.ensures.same.1.0 says.0.called says.2

pub returns-clause-answers : goal.returns-clause-answers
returns-clause-answers g c =
    let old = c.args.client.now in
    let e = c.put-in-Err.ensures in
    let says = look-refused old.jobs (length c.args.shared.now.slots.limits) old.phase c.args.key c.requires.can.waits in
    answers-still (Look c.args.key) c.args.shared.now.drawn c.args.shared.now.slots old c.put-in-Err.new.self Refused _ c.requires.can (record { room = e.room; least = e.least; same = e.same; phase = e.phase }) says.0 says.1 refl refl
