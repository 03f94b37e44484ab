use Rattle.std.proofs.Common.{sym, ap, ◌∙◌}
use Rattle.directive_scan.specs.declared.Directive.TheVariants as named
use Rattle.daemon_cpp.specs.Prep.{world_of, undef_step}
use Rattle.daemon_cpp.specs.parts.Showing.{here_seen}
use Rattle.daemon_cpp.proofs.Moving.{moves-onward, directive-moves}
use Rattle.daemon_cpp.proofs.pieces.run_directive.Goals as goal

pub returns-in-Include-clause-moves : goal.returns-in-Include-clause-moves
returns-in-Include-clause-moves g c =
    λ told is.
    directive-moves (world_of told c.args.places.setup.now) c.args.kept.now c.run_include.new.kept c.args.places.source.now (here_seen c.args.places) c.args.at c.args.what (named.Include c.in-Include.target) c.run_include.result
    (c.in-Include.is)
    (c.run_include.ensures.moves told is)

pub returns-in-Next-clause-moves : goal.returns-in-Next-clause-moves
returns-in-Next-clause-moves g c =
    λ told is.
    directive-moves (world_of told c.args.places.setup.now) c.args.kept.now c.run_include-in-Next.new.kept c.args.places.source.now (here_seen c.args.places) c.args.at c.args.what (named.Next c.in-Next.target) c.run_include-in-Next.result
    (c.in-Next.is)
    (c.run_include-in-Next.ensures.moves told is)

pub returns-in-Undef-clause-moves : goal.returns-in-Undef-clause-moves
returns-in-Undef-clause-moves g c =
    λ told is.
    directive-moves (world_of told c.args.places.setup.now) c.args.kept.now c.undefine.new.kept c.args.places.source.now (here_seen c.args.places) c.args.at c.args.what (named.Undef c.as_slice.result.now) c.onward.result
    (c.in-Undef.is ∙ ap named.Undef (sym c.as_slice.ensures))
    (moves-onward c.args.kept.now c.undefine.new.kept c.args.places.source.now (here_seen c.args.places) (λ state. undef_step c.args.at c.as_slice.result.now state) c.undefine.result c.onward.result c.onward.ensures c.undefine.ensures.goes)

pub returns-in-Line-clause-moves : goal.returns-in-Line-clause-moves
returns-in-Line-clause-moves g c =
    λ told is.
    directive-moves (world_of told c.args.places.setup.now) c.args.kept.now c.renumber.new.kept c.args.places.source.now (here_seen c.args.places) c.args.at c.args.what (named.Line c.as_slice-in-Line.result.now) c.renumber.result
    (c.in-Line.is ∙ ap named.Line (sym c.as_slice-in-Line.ensures))
    (c.renumber.ensures.moves)

pub returns-in-Once-clause-moves : goal.returns-in-Once-clause-moves
returns-in-Once-clause-moves g c =
    λ told is.
    directive-moves (world_of told c.args.places.setup.now) c.args.kept.now c.mark_once.new.kept c.args.places.source.now (here_seen c.args.places) c.args.at c.args.what (named.Once) c.mark_once.result
    (c.in-Once.is)
    (c.mark_once.ensures.moves)

pub returns-in-Pragma-clause-moves : goal.returns-in-Pragma-clause-moves
returns-in-Pragma-clause-moves g c =
    λ told is.
    directive-moves (world_of told c.args.places.setup.now) c.args.kept.now c.lay_pragma.new.kept c.args.places.source.now (here_seen c.args.places) c.args.at c.args.what (named.Pragma c.as_slice-in-Pragma.result.now) c.lay_pragma.result
    (c.in-Pragma.is ∙ ap named.Pragma (sym c.as_slice-in-Pragma.ensures))
    (c.lay_pragma.ensures.moves)
