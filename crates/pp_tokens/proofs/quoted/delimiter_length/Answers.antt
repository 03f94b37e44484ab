use Rattle.std.proofs.Common.{sym, ◌∙◌, arith}
use Rattle.pp_tokens.proofs.Closing.{delimiter_here, delimiter_line, delimiter_more, delimiter_end}
use Rattle.pp_tokens.proofs.quoted.delimiter_length.Goals as goal

pub returns-then-b-delimiter : goal.returns-then-b-delimiter
returns-then-b-delimiter c =
    sym (c.loop-i.invariant ∙ delimiter_here c.args.delimiter c.args.bytes.now c.loop-i.i (omega arith) c.if-b-delimiter.true)

pub returns-then-b-eq10 : goal.returns-then-b-eq10
returns-then-b-eq10 c =
    sym (c.loop-i.invariant ∙ delimiter_line c.args.delimiter c.args.bytes.now c.loop-i.i (omega arith) c.if-b-delimiter.false c.if-b-eq10.true)

pub loop-i-preserved : goal.loop-i-preserved
loop-i-preserved c =
    c.loop-i.invariant ∙ delimiter_more c.args.delimiter c.args.bytes.now c.loop-i.i (omega arith) c.if-b-delimiter.false c.if-b-eq10.false

pub returns : goal.returns
returns c = sym (c.loop-i.invariant ∙ delimiter_end c.args.delimiter c.args.bytes.now c.loop-i.i (omega arith))
