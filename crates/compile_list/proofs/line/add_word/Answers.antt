use Rattle.std.proofs.Common.{sym, ◌∙◌, ◌++◌}
use Rattle.compile_list.specs.parts.Steps.{word_in}
use Rattle.compile_list.proofs.LineWords.{full}
use Rattle.compile_list.proofs.line.add_word.Goals as goal

pub returns-then-len-eq-KEPT-clause-kept : goal.returns-then-len-eq-KEPT-clause-kept
returns-then-len-eq-KEPT-clause-kept c more = full 1002 c.args.words.now more (word_in c.args.word.now ++ more) (sym c.if-len-eq-KEPT.true ∙ c.len.ensures)
