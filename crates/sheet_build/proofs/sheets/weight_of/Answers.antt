use Rattle.std.proofs.Common.{◌-◌, ◌^◌, List, length, ap, ◌∙◌}
use Rattle.std.specs.Prelude.{min, sum_by}
use Rattle.tree_model.specs.declared.walk.Located.{Located}
use Rattle.search_path.specs.Search.{Hit}
use Rattle.sheet_build.specs.Sheet.{ComputedAsk}
use Rattle.sheet_build.specs.Weights.{sheet_weight}
use Rattle.sheet_build.proofs.Capped.{capped_four}
use Rattle.sheet_build.proofs.sheets.weight_of.Goals as goal

pub returns : goal.returns
unfolding sheet_weight
returns c defs is =
    capped_four (2 ^ 64 - 1) _ _ _ _
    is
    (c.computed_tokens.ensures ∙ ap (λ (asks : List ComputedAsk). min (2 ^ 64 - 1) (sum_by (λ (ask : ComputedAsk). length ask.tokens) asks)) c.as_slice.ensures)
    (c.plain_nodes-plain.ensures ∙ ap (λ (hits : List Hit). min (2 ^ 64 - 1) (sum_by (λ (hit : Hit). length hit.1.walked) hits)) c.as_slice-2.ensures)
    (c.probe_nodes.ensures ∙ ap (λ (files : List Located). min (2 ^ 64 - 1) (sum_by (λ (file : Located). length file.walked) files)) c.as_slice-3.ensures)
    c.saturating_add-tokens.ensures
    c.saturating_add-nodes.ensures
    c.saturating_add.ensures
    c.saturating_add-2.ensures
