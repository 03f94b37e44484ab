use Rattle.std.proofs.Common.{sym, ◌∙◌, ap, arith, ℕ, ◌+◌, drop}
use Rattle.pp_tokens.specs.parts.Unpaired.{closing_length}
use Rattle.pp_tokens.proofs.Closing.{further, closing_here, closing_line, closing_more, closing_end}
use Rattle.pp_tokens.proofs.quoted.closing_length.Goals as goal

pub returns-then-stands_free : goal.returns-then-stands_free
returns-then-stands_free c =
    sym (c.loop-i.invariant ∙ closing_here c.args.quote c.loop-i.escaped c.args.bytes.now c.loop-i.i (omega arith) (sym c.stands_free.ensures ∙ c.if-stands_free.true))

pub returns-then-b-eq10 : goal.returns-then-b-eq10
returns-then-b-eq10 c =
    sym (c.loop-i.invariant ∙ closing_line c.args.quote c.loop-i.escaped c.args.bytes.now c.loop-i.i (omega arith) (sym c.stands_free.ensures ∙ c.if-stands_free.false) c.if-b-eq10.true)

pub loop-i-preserved : goal.loop-i-preserved
loop-i-preserved c =
    let next : ℕ = c.loop-i.i + 1 in
    c.loop-i.invariant
    ∙ closing_more c.args.quote c.loop-i.escaped c.args.bytes.now c.loop-i.i (omega arith) (sym c.stands_free.ensures ∙ c.if-stands_free.false) c.if-b-eq10.false
    ∙ ap (λ e. further next (closing_length c.args.quote e (drop next c.args.bytes.now))) (sym c.stands_free-escaped.ensures)

pub returns : goal.returns
returns c = sym (c.loop-i.invariant ∙ closing_end c.args.quote c.loop-i.escaped c.args.bytes.now c.loop-i.i (omega arith))
