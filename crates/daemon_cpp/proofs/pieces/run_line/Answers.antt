use Rattle.std.proofs.Common.{sym, subst}
use Rattle.std.specs.Arc.{arc_value}
use Rattle.directive_scan.specs.declared.Directive.TheVariants as named
use Rattle.directive_scan.specs.Spots.{AsksNothing, directive_seen, tokens_between}
use Rattle.macro_defs.specs.Defining.{defined_by}
use Rattle.daemon_cpp.specs.Prep.{world_of, define_step}
use Rattle.daemon_cpp.specs.parts.Showing.{here_seen}
use Rattle.daemon_cpp.proofs.Moving.{moves-onward, directive-moves}
use Rattle.daemon_cpp.proofs.pieces.run_line.Goals as goal

pub returns-in-Define-clause-moves : goal.returns-in-Define-clause-moves
returns-in-Define-clause-moves g c =
    λ told is.
    directive-moves (world_of told c.args.places.setup.now) c.args.kept.now c.define.new.kept c.args.places.source.now (here_seen c.args.places) c.args.at (directive_seen c.args.line) (named.Define (tokens_between (arc_value c.in-Define.file.now) c.in-Define.from c.in-Define.end)) c.onward.result
    c.in-Define.ensures
    (moves-onward c.args.kept.now c.define.new.kept c.args.places.source.now (here_seen c.args.places) (λ state. define_step c.args.at (defined_by (tokens_between (arc_value c.in-Define.file.now) c.in-Define.from c.in-Define.end)) state) c.define.result c.onward.result c.onward.ensures c.define.ensures.goes)

pub run_directive-requires : goal.run_directive-requires
run_directive-requires g c = subst AsksNothing (sym c.in_ok-what-in-Nothing.ensures) c.in-Nothing.ensures

pub returns-in_ok-what-in-Nothing-clause-moves : goal.returns-in_ok-what-in-Nothing-clause-moves
returns-in_ok-what-in-Nothing-clause-moves g c =
    λ told is.
    directive-moves (world_of told c.args.places.setup.now) c.args.kept.now c.run_directive.new.kept c.args.places.source.now (here_seen c.args.places) c.args.at (directive_seen c.args.line) c.in_ok-what-in-Nothing.what c.run_directive.result
    (sym c.in_ok-what-in-Nothing.ensures)
    (c.run_directive.ensures.moves told is)
