use Rattle.std.proofs.Common.{sym, ap, ◌∙◌}
use Rattle.std.proofs.lemmas.Result.{on_ok_weaker}
use Rattle.directive_scan.specs.declared.Directive.TheVariants.{If, Elif, Include, Next}
use Rattle.search_path.specs.Search.{search}
use Rattle.sheet_build.specs.parts.Stored.{sheet_of_parts}
use Rattle.sheet_build.proofs.Adding.{on-line, include-adds, next-adds, if-adds, elif-adds}
use Rattle.sheet_build.proofs.directives.add_directive.Goals as goal

pub returns-in-Include-clause-adds : goal.returns-in-Include-clause-adds
returns-in-Include-clause-adds g c = λ told is.
    on_ok_weaker c.add_include.result
    (λ added at. added ∙ on-line (search told c.args.setup.now) c.args.visit.now at c.args.what (Include c.in-Include.target) (sheet_of_parts c.args.parts.now) c.in-Include.is (include-adds (search told c.args.setup.now) c.args.visit.now at c.in-Include.target (sheet_of_parts c.args.parts.now)))
    (c.add_include.ensures.adds told is)

pub returns-in-Next-clause-adds : goal.returns-in-Next-clause-adds
returns-in-Next-clause-adds g c = λ told is.
    on_ok_weaker c.add_include-in-Next.result
    (λ added at. added ∙ on-line (search told c.args.setup.now) c.args.visit.now at c.args.what (Next c.in-Next.target) (sheet_of_parts c.args.parts.now) c.in-Next.is (next-adds (search told c.args.setup.now) c.args.visit.now at c.in-Next.target (sheet_of_parts c.args.parts.now)))
    (c.add_include-in-Next.ensures.adds told is)

pub returns-in-If-clause-adds : goal.returns-in-If-clause-adds
returns-in-If-clause-adds g c = λ told is.
    on_ok_weaker c.add_probes.result
    (λ added at. added ∙ on-line (search told c.args.setup.now) c.args.visit.now at c.args.what (If c.as_slice.result.now) (sheet_of_parts c.args.parts.now) (c.in-If.is ∙ ap If (sym c.as_slice.ensures)) (if-adds (search told c.args.setup.now) c.args.visit.now at c.as_slice.result.now (sheet_of_parts c.args.parts.now)))
    (c.add_probes.ensures.adds told is)

pub returns-in-Elif-clause-adds : goal.returns-in-Elif-clause-adds
returns-in-Elif-clause-adds g c = λ told is.
    on_ok_weaker c.add_probes-in-Elif.result
    (λ added at. added ∙ on-line (search told c.args.setup.now) c.args.visit.now at c.args.what (Elif c.as_slice-in-Elif.result.now) (sheet_of_parts c.args.parts.now) (c.in-Elif.is ∙ ap Elif (sym c.as_slice-in-Elif.ensures)) (elif-adds (search told c.args.setup.now) c.args.visit.now at c.as_slice-in-Elif.result.now (sheet_of_parts c.args.parts.now)))
    (c.add_probes-in-Elif.ensures.adds told is)
