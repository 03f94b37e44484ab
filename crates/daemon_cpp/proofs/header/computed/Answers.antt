use Rattle.std.proofs.Common.{◌≡◌, Ok, Option, sym, ◌∙◌, ap}
use Rattle.directive_scan.specs.declared.HeaderName.{HeaderName}
use Rattle.directive_scan.specs.HeaderNames.{header_named}
use Rattle.macro_expand.specs.declared.Mode.TheVariants.{Text}
use Rattle.daemon_cpp.specs.Prep.{Gives, expand_line}
use Rattle.daemon_cpp.specs.parts.Showing.{here_seen}
use Rattle.daemon_cpp.proofs.Steps.{leads-gives, leads-then}
use Rattle.daemon_cpp.proofs.header.computed.Goals as goal

pub returns-in_ok-header_of-in-Ok-clause-leads : goal.returns-in_ok-header_of-in-Ok-clause-leads
returns-in_ok-header_of-in-Ok-clause-leads c =
    let named : c.in_ok-header_of-in-Ok.field-0 ≡ header_named c.in-Ok.expanded = c.in_ok-header_of-in-Ok.ensures ∙ ap header_named c.as_slice.ensures in
    leads-then c.args.kept.now c.expand_line.new.kept c.expand_line.new.kept c.args.places.source.now (here_seen c.args.places)
    (λ state. expand_line c.args.at Text c.args.tokens.now state) (λ ts after. Gives (header_named ts) after) c.in-Ok.expanded (Ok c.in_ok-header_of-in-Ok.field-0)
    c.in-Ok.ensures.leads
    (leads-gives c.expand_line.new.kept c.args.places.source.now (here_seen c.args.places) (λ after. Gives (header_named c.in-Ok.expanded) after) c.in_ok-header_of-in-Ok.field-0
    (λ state shows. ap (λ (h : Option HeaderName). Gives h state) (sym named)))
