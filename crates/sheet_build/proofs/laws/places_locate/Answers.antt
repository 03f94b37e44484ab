use Rattle.sheet_build.proofs.PlaceLaws.{places_locate}
use Rattle.sheet_build.proofs.laws.places_locate.Goals as goal

pub returns : goal.returns
returns c = places_locate c.walked_law.ensures
