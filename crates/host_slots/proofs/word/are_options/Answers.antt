use Rattle.std.proofs.Common.{rules, tests, ◌∙◌, ◌==◌}
use Rattle.std.proofs.lemmas.Iterator.Search.{all_from_yields_List}
use Rattle.std.proofs.lemmas.Iterator.Splits.{YieldsList-from_slice_split}
use Rattle.host_slots.specs.Hosts.{is_option}
use Rattle.host_slots.proofs.Options.{behind_comma}
use Rattle.host_slots.proofs.word.are_options.Goals as goal

pub returns-in-len1-up : goal.returns-in-len1-up
returns-in-len1-up c =
    all_from_yields_List is_option _ _ c.all.result c.all.ensures.ran (YieldsList-from_slice_split _ (λ b. b == 44) _ c.split.ensures.rest c.split.ensures.done c.split.ensures.closure (λ x r q k. search (rules, tests))) (λ x b q k. search (rules, tests))
    ∙ behind_comma c.args.text.now c.in-len1-up.len_at_least
