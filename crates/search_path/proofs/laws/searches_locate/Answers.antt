use Rattle.search_path.proofs.FirstLocated.{locates}
use Rattle.search_path.proofs.laws.searches_locate.Goals as goal

pub returns : goal.returns
returns c = locates
