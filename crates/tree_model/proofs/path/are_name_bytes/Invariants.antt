use Rattle.std.proofs.Common.{◌≡◌, take, true}
use Rattle.std.specs.List.{list_all}
use Rattle.tree_model.specs.Paths.{is_file_name_byte}
use Rattle.tree_model.proofs.path.are_name_bytes.Given as goal

abbrev pub invariant-loop-b : goal.invariant-loop-b
invariant-loop-b l = list_all is_file_name_byte (take l.b-index l.text) ≡ true
