use Rattle.std.proofs.Common.{◌∙◌, inl, refl, ap, Some, true}
use Rattle.search_path.specs.Asks.{source_ask}
use Rattle.closure_fixpoint.proofs.WantingLaws.{wanted_as}
use Rattle.closure_fixpoint.proofs.wanting.of_first.Goals as goal

pub returns-in-Some : goal.returns-in-Some
returns-in-Some c = (
  source_ask c.args.job.now.source,
  inl refl,
  wanted_as c.args.searches.now c.args.found.now (source_ask c.in_ok-copy_of.field-0) (source_ask c.args.job.now.source) true c.in_ok-want.field-0 (Some c.in-Some.want)
      (ap source_ask (c.in_ok-copy_of.ensures ∙ c.source.ensures)) c.in-Some.is c.in_ok-want.ensures,
)
