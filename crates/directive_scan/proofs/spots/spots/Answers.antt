use Rattle.std.proofs.Common.{◌≡◌, ◌<◌, ◌≤◌, ◌+◌, [], length, drop, ◌∙◌, sym, ap, arith, refl}
use Rattle.std.proofs.lemmas.Result.{IfOk-weaker}
use Rattle.directive_scan.specs.Directives.{pieces}
use Rattle.directive_scan.specs.Spots.{so_far}
use Rattle.directive_scan.proofs.Steps.{pieces-from, pieces-past}
use Rattle.directive_scan.proofs.Spotted.{no_role}
use Rattle.directive_scan.proofs.spots.spots.Goals as goal

pub loop-line-init : goal.loop-line-init
loop-line-init c = record { shown = rw c.in_ok-with_capacity.ensures.items refl; roles = rw c.in_ok-with_capacity.ensures.items (no_role c.args.file.now); begins = tt; within = omega arith }

pub loop-line-preserved : goal.loop-line-preserved
loop-line-preserved c =
    let below : c.loop-line.line < length c.args.file.now.lines = omega arith in
    let before = c.loop-line.gathered in
    record {
      shown = c.in_ok-gathered.ensures.shown (pieces (drop (c.loop-line.line + 1) c.args.file.now.lines))
          ∙ ap (so_far c.args.file.now before.ended.items before.run c.loop-line.line) (sym (pieces-from c.args.file.now c.loop-line.line below))
          ∙ c.loop-line.invariant.shown;
      roles = c.in_ok-gathered.ensures.names c.loop-line.invariant.roles;
      begins = c.in_ok-gathered.ensures.begins;
      within = omega (arith, below);
    }

pub returns-clause-shown : goal.returns-clause-shown
returns-clause-shown c =
    let file = c.args.file.now in
    let before = c.loop-line.gathered in
    let past : length file.lines ≤ c.loop-line.line = omega arith in
    let end : c.line_count-count.result ≡ c.loop-line.line = omega (arith, past, c.loop-line.invariant.within, c.line_count-count.ensures) in
    IfOk-weaker c.all_ended.result _ _
    (λ s same.
    same
    ∙ ap (λ n. so_far file before.ended.items before.run n []) end
    ∙ ap (so_far file before.ended.items before.run c.loop-line.line) (sym (pieces-past file c.loop-line.line past))
    ∙ c.loop-line.invariant.shown)
    c.all_ended.ensures.shown
