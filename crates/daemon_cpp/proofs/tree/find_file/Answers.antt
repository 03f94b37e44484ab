use Rattle.daemon_cpp.proofs.Searches.{searched}
use Rattle.daemon_cpp.proofs.tree.find_file.Goals as goal

pub returns-in-Ok-clause-found : goal.returns-in-Ok-clause-found
returns-in-Ok-clause-found g c =
    λ told is.
    searched (g.T.Tree.told c.args.tree.now) told c.args.setup.now c.args.ask c.in-Ok.found c.in-Ok.ensures.found is
