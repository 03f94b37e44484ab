use Rattle.std.proofs.Common.{true, false}
use Rattle.std.specs.Prelude.{codes}
use Rattle.directive_scan.specs.Directives.{directive_named}
use Rattle.directive_scan.proofs.DirectiveNames.{compared, so_named, no_name}
use Rattle.directive_scan.proofs.name.long_name.Goals as goal

pub returns-then-eq : goal.returns-then-eq
unfolding directive_named
returns-then-eq c ts = so_named c.args.spelling.now (codes "define") ts (compared c.args.spelling.now c.as_slice.result.now (codes "define") true c.if-eq.ensures c.as_slice.ensures)

pub returns-then-eq-2 : goal.returns-then-eq-2
unfolding directive_named
returns-then-eq-2 c ts = so_named c.args.spelling.now (codes "ifndef") ts (compared c.args.spelling.now c.as_slice-else-eq.result.now (codes "ifndef") true c.if-eq-2.ensures c.as_slice-else-eq.ensures)

pub returns-then-eq-3 : goal.returns-then-eq-3
unfolding directive_named
returns-then-eq-3 c ts = so_named c.args.spelling.now (codes "include") ts (compared c.args.spelling.now c.as_slice-else-eq-2.result.now (codes "include") true c.if-eq-3.ensures c.as_slice-else-eq-2.ensures)

pub returns-then-eq-4 : goal.returns-then-eq-4
unfolding directive_named
returns-then-eq-4 c ts = so_named c.args.spelling.now (codes "pragma") ts (compared c.args.spelling.now c.as_slice-else-eq-3.result.now (codes "pragma") true c.if-eq-4.ensures c.as_slice-else-eq-3.ensures)

pub returns-then-eq-5 : goal.returns-then-eq-5
unfolding directive_named
returns-then-eq-5 c ts = so_named c.args.spelling.now (codes "warning") ts (compared c.args.spelling.now c.as_slice-else-eq-4.result.now (codes "warning") true c.if-eq-5.ensures c.as_slice-else-eq-4.ensures)

pub returns-then-eq-6 : goal.returns-then-eq-6
unfolding directive_named
returns-then-eq-6 c ts = so_named c.args.spelling.now (codes "include_next") ts (compared c.args.spelling.now c.as_slice-else-eq-5.result.now (codes "include_next") true c.if-eq-6.ensures c.as_slice-else-eq-5.ensures)

pub returns-else-eq-6 : goal.returns-else-eq-6
returns-else-eq-6 c ts =
    no_name c.args.spelling.now ts c.requires
    (compared c.args.spelling.now c.as_slice.result.now (codes "define") false c.if-eq.ensures c.as_slice.ensures)
    (compared c.args.spelling.now c.as_slice-else-eq.result.now (codes "ifndef") false c.if-eq-2.ensures c.as_slice-else-eq.ensures)
    (compared c.args.spelling.now c.as_slice-else-eq-2.result.now (codes "include") false c.if-eq-3.ensures c.as_slice-else-eq-2.ensures)
    (compared c.args.spelling.now c.as_slice-else-eq-3.result.now (codes "pragma") false c.if-eq-4.ensures c.as_slice-else-eq-3.ensures)
    (compared c.args.spelling.now c.as_slice-else-eq-4.result.now (codes "warning") false c.if-eq-5.ensures c.as_slice-else-eq-4.ensures)
    (compared c.args.spelling.now c.as_slice-else-eq-5.result.now (codes "include_next") false c.if-eq-6.ensures c.as_slice-else-eq-5.ensures)
