use Rattle.std.proofs.Common.{List, ℕ, ◌+◌, ◌-◌, length, take, drop, sym, ap, ◌∙◌, true, false}
use Rattle.std.specs.Prelude.{bytes_eq}
use Rattle.std.specs.List.{list_any}
use Rattle.macro_defs.proofs.Names.{distinct_turn, distinct_end}
use Rattle.macro_defs.proofs.params.few_distinct.Goals as goal

pub returns-then-is_among : goal.returns-then-is_among
returns-then-is_among c =
    let names = c.args.names.now in
    let i = c.loop-i.i in
    sym (c.loop-i.invariant ∙ distinct_turn names i c.index-names-i.result true c.loop-i-test.true c.index-names-i.is
    (c.if-is_among.ensures ∙ ap (λ (n : List ℕ). list_any (bytes_eq n) (take (length names - (i + 1)) (drop (i + 1) names))) c.as_slice.ensures))

pub loop-i-preserved : goal.loop-i-preserved
loop-i-preserved c =
    let names = c.args.names.now in
    let i = c.loop-i.i in
    c.loop-i.invariant ∙ distinct_turn names i c.index-names-i.result false c.loop-i-test.true c.index-names-i.is
    (c.if-is_among.ensures ∙ ap (λ (n : List ℕ). list_any (bytes_eq n) (take (length names - (i + 1)) (drop (i + 1) names))) c.as_slice.ensures)

pub returns : goal.returns
returns c = sym (c.loop-i.invariant ∙ distinct_end c.args.names.now c.loop-i.i c.loop-i-test.false)
