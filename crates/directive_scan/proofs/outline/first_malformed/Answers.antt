use Rattle.std.proofs.Common.{◌<◌, ◌≤◌, length, map, ◌∙◌, ap, arith}
use Rattle.std.proofs.lemmas.List.{length-map}
use Rattle.directive_scan.specs.parts.OpenStack.{unended_last}
use Rattle.directive_scan.specs.Spots.{piece_at}
use Rattle.directive_scan.proofs.OpenFronts.{read_none, read_more, read_wrong, read_all}
use Rattle.directive_scan.proofs.Roles.{role_at, shown_at, length_shown}
use Rattle.directive_scan.proofs.outline.first_malformed.Goals as goal

pub loop-spot-init : goal.loop-spot-init
loop-spot-init c file each = read_none (map (piece_at file) c.args.spots.now) c.new-stack.result.items c.new-stack.ensures.items

pub returns-in-Some : goal.returns-in-Some
returns-in-Some c file each =
    let spots = c.args.spots.now in
    let i = c.loop-spot.spot-index in
    let below : i < length spots = omega arith in
    read_wrong (map (piece_at file) spots) i c.loop-spot.stack.items c.step.new.stack.items _ c.in-Some.wrong
    (c.loop-spot.invariant file each) (length_shown file spots i below) (shown_at file spots i _ below) (rw c.in-Some.is at (c.in_ok-wrong.ensures file (role_at file spots i _ each below)))

pub loop-spot-preserved : goal.loop-spot-preserved
loop-spot-preserved c file each =
    let spots = c.args.spots.now in
    let i = c.loop-spot.spot-index in
    let below : i < length spots = omega arith in
    read_more (map (piece_at file) spots) i c.loop-spot.stack.items c.step.new.stack.items _
    (c.loop-spot.invariant file each) (length_shown file spots i below) (shown_at file spots i _ below) (rw c.in_default.is at (c.in_ok-wrong.ensures file (role_at file spots i _ each below)))

pub returns : goal.returns
returns c file each =
    let spots = c.args.spots.now in
    let past : length (map (piece_at file) spots) ≤ c.loop-spot.spot-index = omega (arith, c.loop-spot-test.false, length-map spots (piece_at file)) in
    c.last_unended.ensures ∙ ap unended_last c.deref.ensures.value
    ∙ read_all (map (piece_at file) spots) c.loop-spot.spot-index c.loop-spot.stack.items (c.loop-spot.invariant file each) past
