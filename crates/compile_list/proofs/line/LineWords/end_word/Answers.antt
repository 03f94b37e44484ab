use Rattle.std.proofs.Common.{List, [], ◌++◌, take, sym, ap, ◌∙◌, append-nil}
use Rattle.tree_model.specs.Paths.{Text}
use Rattle.compile_list.specs.Listed.{unit_words}
use Rattle.compile_list.specs.parts.Steps.{word_in}
use Rattle.compile_list.proofs.LineWords.{of_word, words-at, words-last, all-kept}
use Rattle.compile_list.proofs.line.LineWords.end_word.Goals as goal

pub returns-clause-kept : goal.returns-clause-kept
returns-clause-kept c more =
    ap (λ (word : Text). take 1002 (c.add_word.new.words ++ unit_words (of_word word ++ more))) c.clear.ensures.items
    ∙ c.in_ok-add_word.ensures.kept (unit_words more)
    ∙ ap (λ (word : Text). take 1002 (c.args.self.now.ended ++ (word_in word ++ unit_words more))) c.deref.ensures.value
    ∙ ap (λ (words : List Text). take 1002 (c.args.self.now.ended ++ words)) (sym (words-at c.args.self.now.word.items more))

pub returns-clause-ended : goal.returns-clause-ended
returns-clause-ended c =
    all-kept 1002 c.add_word.new.words c.in_ok-add_word.ensures.few
    ∙ c.in_ok-add_word.ensures.kept []
    ∙ ap (λ (word : Text). take 1002 (c.args.self.now.ended ++ (word_in word ++ []))) c.deref.ensures.value
    ∙ ap (λ (words : List Text). take 1002 (c.args.self.now.ended ++ words)) (append-nil (word_in c.args.self.now.word.items) ∙ sym (words-last c.args.self.now.word.items))
