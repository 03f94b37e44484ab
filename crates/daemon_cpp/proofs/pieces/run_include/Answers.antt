use Rattle.std.proofs.Common.{Ok, Option, subst}
use Rattle.search_path.specs.Search.{Hit}
use Rattle.daemon_cpp.specs.Prep.{world_of, include}
use Rattle.daemon_cpp.specs.parts.Showing.{Includes, here_seen}
use Rattle.daemon_cpp.proofs.pieces.run_include.Goals as goal

pub returns-in_ok-file-in-Ok-Some-clause-moves : goal.returns-in_ok-file-in-Ok-Some-clause-moves
returns-in_ok-file-in-Ok-Some-clause-moves g c =
    λ told is.
    rw c.in_ok-file-in-Ok-Some.ensures
    (subst (λ (o : Option Hit). Includes c.args.kept.now c.include.new.kept c.args.places.source.now (here_seen c.args.places) c.args.at
    (λ entering state. include (world_of told c.args.places.setup.now) entering c.args.next c.args.at c.args.target.now state) (Ok o)) c.in-Ok-Some.field-0-is
    (c.in-Ok-Some.ensures.includes told is))

pub returns-in-Ok-None-clause-moves : goal.returns-in-Ok-None-clause-moves
returns-in-Ok-None-clause-moves g c =
    λ told is.
    subst (λ (o : Option Hit). Includes c.args.kept.now c.include.new.kept c.args.places.source.now (here_seen c.args.places) c.args.at
    (λ entering state. include (world_of told c.args.places.setup.now) entering c.args.next c.args.at c.args.target.now state) (Ok o)) c.in-Ok-None.field-0-is
    (c.in-Ok-None.ensures.includes told is)
