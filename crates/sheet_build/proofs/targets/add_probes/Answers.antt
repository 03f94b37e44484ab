use Rattle.std.proofs.Common.{sym}
use Rattle.search_path.specs.Search.{search}
use Rattle.sheet_build.specs.parts.Stored.{sheet_of_parts}
use Rattle.sheet_build.proofs.Adding.{probeless-adds}
use Rattle.sheet_build.proofs.targets.add_probes.Goals as goal

pub returns-then-not-has_probe-clause-adds : goal.returns-then-not-has_probe-clause-adds
returns-then-not-has_probe-clause-adds g c = λ told is.
    probeless-adds (search told c.args.setup.now) c.args.visit.now c.args.tokens.now (sheet_of_parts c.args.parts.now) (c.parts_without_probe.ensures c.args.tokens.now (sym c.if-not-has_probe.ensures))
