use Rattle.std.proofs.Common.{◌∙◌, ◌++◌, sym, ap, subst, append-nil, List}
use Rattle.std.specs.List.{filter_map}
use Rattle.std.specs.Option.{option_to_list}
use Rattle.macro_defs.specs.Table.{initial_entries, lookup}
use Rattle.job_words.specs.declared.MacroWord.{MacroWord}
use Rattle.closure_fixpoint.specs.Closure.{initial_definition, word_definition}
use Rattle.closure_fixpoint.specs.Naming.{HasJust}
use Rattle.closure_fixpoint.proofs.SetsLaws.{initial_just, words_more, words_all}
use Rattle.closure_fixpoint.proofs.naming.first_sets.Goals as goal

pub loop-word-init : goal.loop-word-init
loop-word-init c =
    subst (HasJust c.in_ok-sets.sets) (sym (append-nil (filter_map initial_definition initial_entries)))
    (initial_just c.in_ok-sets.sets (λ name. c.in_ok-sets.ensures name ∙ ap (λ t. option_to_list (lookup t name)) c.in_ok-table.ensures))

pub loop-word-preserved : goal.loop-word-preserved
loop-word-preserved c =
    words_more (filter_map initial_definition initial_entries) c.loop-word.sets c.add_word.new.sets c.macros-words.result.now c.loop-word.word-index c.word-item.result c.loop-word-test.true c.word-item.is
    c.loop-word.invariant c.in_ok-add_word.ensures

pub returns : goal.returns
returns c =
    subst (λ (ws : List MacroWord). HasJust c.loop-word.sets (filter_map initial_definition initial_entries ++ filter_map word_definition ws)) c.macros-words.ensures
    (words_all (filter_map initial_definition initial_entries) c.loop-word.sets c.macros-words.result.now c.loop-word.word-index c.loop-word-test.false c.loop-word.invariant)
