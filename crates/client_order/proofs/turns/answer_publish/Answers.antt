use Rattle.std.proofs.Common.{◌≡◌, ℕ, length, refl, ap, ◌∙◌}
use Rattle.closure_memo.specs.Memo.{what_of}
use Rattle.sheet_build.specs.Weights.{sheet_weight}
use Rattle.client_steps.specs.declared.need.Need.TheVariants.{Publish}
use Rattle.client_steps.specs.declared.need.Reply.TheVariants.{Kept, Refused}
use Rattle.client_order.specs.parts.World.{seen_memo}
use Rattle.client_order.proofs.Histories.{with_call}
use Rattle.client_order.proofs.TurnLaws.{answers-still, publish-says, publish-refused, publish-seen, call-keeps, call-others, refused-keeps}
use Rattle.client_order.proofs.turns.answer_publish.Goals as goal

pub returns-in-Ok-clause-others : goal.returns-in-Ok-clause-others
returns-in-Ok-clause-others g c =
    let memo = c.args.shared.now.memo in
    let weight = sheet_weight c.args.sheet in
    let seen : seen_memo c.publish.new.self ≡ with_call c.number.result c.args.key (what_of c.in-Ok.kept) weight (seen_memo memo) = publish-seen memo c.publish.new.self c.number.result c.args.key c.args.sheet weight c.in-Ok.kept c.in-Ok.ensures.kept c.in-Ok.ensures.step in
    call-others (seen_memo memo) (seen_memo c.publish.new.self) c.args.client.now.number c.args.key (what_of c.in-Ok.kept) weight c.keys-keys.ensures.numbered.listed
    (seen ∙ ap (λ (n : ℕ). with_call n c.args.key (what_of c.in-Ok.kept) weight (seen_memo memo)) c.number.ensures)

pub returns-in-Ok-clause-keeps : goal.returns-in-Ok-clause-keeps
returns-in-Ok-clause-keeps g c =
    let old = c.args.client.now in
    let memo = c.args.shared.now.memo in
    let weight = sheet_weight c.args.sheet in
    let says = publish-says old.jobs (length c.args.shared.now.slots.limits) old.phase c.args.key c.args.sheet c.in-Ok.kept c.requires.can.waits in
    let seen : seen_memo c.publish.new.self ≡ with_call c.number.result c.args.key (what_of c.in-Ok.kept) weight (seen_memo memo) = publish-seen memo c.publish.new.self c.number.result c.args.key c.args.sheet weight c.in-Ok.kept c.in-Ok.ensures.kept c.in-Ok.ensures.step in
    call-keeps g.F.Frozen.named (seen_memo memo) (seen_memo c.publish.new.self) old c.put.new.self (Kept c.in-Ok.kept) c.args.key (what_of c.in-Ok.kept) weight c.keys-keys.ensures.numbered.listed
    (seen ∙ ap (λ (n : ℕ). with_call n c.args.key (what_of c.in-Ok.kept) weight (seen_memo memo)) c.number.ensures)
    c.put.ensures.keeps c.put.ensures.same.1.0 says.0.called (λ of is. says.2 of)

pub returns-in-Err-clause-keeps : goal.returns-in-Err-clause-keeps
returns-in-Err-clause-keeps g c =
    let old = c.args.client.now in
    let says = publish-refused old.jobs (length c.args.shared.now.slots.limits) old.phase c.args.key c.args.sheet c.requires.can.waits in
    refused-keeps g.F.Frozen.named c.args.shared.now.memo c.publish.new.self old c.put-in-Err.new.self c.in-Err.ensures.err c.put-in-Err.ensures.keeps c.put-in-Err.ensures.same.1.0 says.0.called says.2

pub returns-in-Ok-clause-answers : goal.returns-in-Ok-clause-answers
returns-in-Ok-clause-answers g c =
    let old = c.args.client.now in
    let e = c.put.ensures in
    let says = publish-says old.jobs (length c.args.shared.now.slots.limits) old.phase c.args.key c.args.sheet c.in-Ok.kept c.requires.can.waits in
    answers-still (Publish c.args.key c.args.sheet) c.args.shared.now.drawn c.args.shared.now.slots old c.put.new.self (Kept c.in-Ok.kept) _ c.requires.can (record { room = e.room; least = e.least; same = e.same; phase = e.phase }) says.0 says.1 refl refl

pub returns-in-Err-clause-answers : goal.returns-in-Err-clause-answers
returns-in-Err-clause-answers g c =
    let old = c.args.client.now in
    let e = c.put-in-Err.ensures in
    let says = publish-refused old.jobs (length c.args.shared.now.slots.limits) old.phase c.args.key c.args.sheet c.requires.can.waits in
    answers-still (Publish c.args.key c.args.sheet) c.args.shared.now.drawn c.args.shared.now.slots old c.put-in-Err.new.self Refused _ c.requires.can (record { room = e.room; least = e.least; same = e.same; phase = e.phase }) says.0 says.1 refl refl
