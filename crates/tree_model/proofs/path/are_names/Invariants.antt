use Rattle.std.proofs.Common.{◌≡◌, ◌≤◌, ◌-◌, take, drop, true}
use Rattle.std.specs.List.{list_all}
use Rattle.tree_model.specs.Paths.{is_name, is_file_name_byte}
use Rattle.tree_model.proofs.PathLemmas.{parts_of}
use Rattle.tree_model.proofs.path.are_names.Given as goal

abbrev pub invariant-loop-i : goal.invariant-loop-i
invariant-loop-i l = record {
  within : l.start ≤ l.i;
  plain : list_all is_file_name_byte (take (l.i - l.start) (drop l.start l.text)) ≡ true;
  left : list_all is_name (parts_of l.text) ≡ list_all is_name (parts_of (drop l.start l.text));
}
