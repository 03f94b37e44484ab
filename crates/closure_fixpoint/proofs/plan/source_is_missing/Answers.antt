use Rattle.std.proofs.Common.{◌≡◌, ◌∙◌, sym, ap, subst, Option}
use Rattle.base_types.specs.Members.{Member}
use Rattle.search_path.specs.Search.{Hit}
use Rattle.search_path.specs.Asks.{source_ask}
use Rattle.search_path.specs.declared.asking.Ask.{Ask}
use Rattle.closure_fixpoint.proofs.plan.source_is_missing.Goals as goal

pub unreachable-requires : goal.unreachable-requires
unreachable-requires c =
    let same : c.of-source.result ≡ source_ask c.args.job.now.source = c.of-source.ensures ∙ ap source_ask (c.in_ok-copy_of.ensures ∙ c.source.ensures) in
    c.in-None.ensures.none c.requires.0 (subst (λ (a : Ask). Member {X = Ask × Option Hit} (a, c.requires.0) c.args.searches.now) (sym same) c.requires.1)
