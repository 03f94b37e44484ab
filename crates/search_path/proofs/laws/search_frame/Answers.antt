use Rattle.search_path.proofs.FirstLocated.{found_in_part, found_in_no_part}
use Rattle.search_path.proofs.laws.search_frame.Goals as goal

pub returns-clause-found : goal.returns-clause-found
returns-clause-found c = found_in_part c.frame_law.ensures.found c.frame_law.ensures.not_found

pub returns-clause-not_found : goal.returns-clause-not_found
returns-clause-not_found c = found_in_no_part c.frame_law.ensures.not_found
