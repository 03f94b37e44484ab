use Rattle.std.proofs.Common.{sym, ◌∙◌, ap, arith, ◌≤◌, ◌&&◌, length}
use Rattle.pp_tokens.specs.Plain.{is_simple_name}
use Rattle.pp_tokens.proofs.PlainTests.{short_line, long_line}
use Rattle.pp_tokens.proofs.plain.is_include_line.Goals as goal

pub returns-then-line-lt12 : goal.returns-then-line-lt12
returns-then-line-lt12 c = sym (short_line c.args.line.now c.if-line-lt12.true)

pub returns-then-frames_name : goal.returns-then-frames_name
returns-then-frames_name c =
    let line = c.args.line.now in
    let name = c.split_at-2.result.0.now in
    let long : 12 ≤ length line = omega arith in
    let whole = long_line line c.split_at.result.0.now c.split_at.result.1.now name c.split_at-2.result.1.now long c.split_at.ensures.front c.split_at.ensures.back c.split_at-2.ensures.front c.split_at-2.ensures.back in
    c.is_simple_name-simple.ensures ∙ ap (λ t. t && is_simple_name name) (sym c.if-frames_name.true ∙ c.frames_name.ensures) ∙ whole

pub returns-else-frames_name : goal.returns-else-frames_name
returns-else-frames_name c =
    let line = c.args.line.now in
    let name = c.split_at-2.result.0.now in
    let long : 12 ≤ length line = omega arith in
    let whole = long_line line c.split_at.result.0.now c.split_at.result.1.now name c.split_at-2.result.1.now long c.split_at.ensures.front c.split_at.ensures.back c.split_at-2.ensures.front c.split_at-2.ensures.back in
    c.if-frames_name.false ∙ ap (λ t. t && is_simple_name name) (sym c.if-frames_name.false ∙ c.frames_name.ensures) ∙ whole
