use Rattle.std.proofs.Common.{true, false, sym, ◌∙◌}
use Rattle.std.specs.Prelude.{codes}
use Rattle.pp_tokens.specs.Marks.{is_word}
use Rattle.pp_tokens.specs.Tokens.{token_seen}
use Rattle.directive_scan.proofs.Probed.{any_here, any_past}
use Rattle.directive_scan.proofs.pieces.probes_from.Goals as goal
use Rattle.directive_scan.proofs.pieces.probes_from.Goals.{in-Some+else-is_probe, in_default}

pub returns-then-is_probe : goal.returns-then-is_probe
returns-then-is_probe c =
    sym (c.loop-at.invariant
    ∙ any_here (is_word (codes "__has_include")) c.args.lexed.now.lines c.args.line c.loop-at.at (token_seen c.in-Some.token) true c.in-Some.ensures c.if-is_probe.ensures)

pub loop-at-preserved : goal.loop-at-preserved
loop-at-preserved c =
    elim c.match-token.branch [
      | in-Some+else-is_probe w ↦
          c.loop-at.invariant
          ∙ any_here (is_word (codes "__has_include")) c.args.lexed.now.lines c.args.line c.loop-at.at (token_seen w.in-Some.token) false w.in-Some.ensures w.if-is_probe.ensures
      | in_default w ↦ c.loop-at.invariant ∙ any_past (is_word (codes "__has_include")) c.args.lexed.now.lines c.args.line c.loop-at.at w.in_default.ensures
    ]
