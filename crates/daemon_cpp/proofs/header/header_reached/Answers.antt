use Rattle.std.proofs.Common.{◌≡◌, ◌∙◌, sym, ap}
use Rattle.directive_scan.specs.declared.Target.{Target}
use Rattle.directive_scan.specs.declared.Target.TheVariants.{Computed}
use Rattle.directive_scan.specs.HeaderNames.{header_named}
use Rattle.macro_expand.specs.declared.Mode.TheVariants.{Text}
use Rattle.daemon_cpp.specs.Prep.{Gives, reach, expand_line, header_reached}
use Rattle.daemon_cpp.specs.parts.Showing.{here_seen}
use Rattle.daemon_cpp.proofs.Steps.{leads-same}
use Rattle.daemon_cpp.proofs.header.header_reached.Goals as goal

pub returns-in-Computed-clause-leads : goal.returns-in-Computed-clause-leads
returns-in-Computed-clause-leads c =
    let target : c.args.target.now ≡ Computed c.as_slice.result.now = c.in-Computed.is ∙ ap Computed (sym c.as_slice.ensures) in
    leads-same c.args.kept.now c.computed.new.kept c.args.places.source.now (here_seen c.args.places)
    (λ state. reach (λ ts after. Gives (header_named ts) after) (expand_line c.args.at Text c.as_slice.result.now state))
    (λ state. header_reached c.args.at c.args.target.now state) c.computed.result
    (λ state shows. ap (λ (t : Target). header_reached c.args.at t state) target)
    c.computed.ensures.leads
