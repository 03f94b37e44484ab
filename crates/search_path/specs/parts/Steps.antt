-- How the search goes on, in the words of the code.
use Rattle.std.specs.Prelude.{ℕ, List, Option, Some, None}
use Rattle.tree_model.specs.Paths.{Text}
use Rattle.search_path.specs.SetupOf.{SetupData}
use Rattle.search_path.specs.Search.{Candidate, chain_from}

-- the candidates of a name from the chain's directory of this number on, or else the whole list
abbrev pub resumed : SetupData → Text → List Candidate → Option ℕ → List Candidate
resumed setup name whole None = whole
resumed setup name whole (Some k) = chain_from setup k name
