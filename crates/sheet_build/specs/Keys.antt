-- Keys of sheets: when two are the same, and when a sheet is right for one.
use Rattle.std.specs.Prelude.{◌≡◌, Bool, true}
use Rattle.std.specs.Cmp.{first_so, second_so}
use Rattle.search_path.specs.Keys.{is_same_setup, is_same_setup-Decides, is_same_visit, is_same_visit-Decides}
use Rattle.tree_model.specs.Trees.{FileTree}
use Rattle.search_path.specs.SetupOf.{SetupData}
use Rattle.search_path.specs.declared.asking.Visit.{Visit}
use Rattle.sheet_build.specs.Sheet.{SheetData, sheet_of}
use Rattle.sheet_build.specs.declared.keys.SheetKey.{SheetKey}
use Rattle.sheet_build.specs.contracts.keys.SheetKeyPartialEq.TheImpl as key_eq

-- the key of a visit's sheet under a setup
abbrev pub key_of : SetupData → Visit → SheetKey
key_of setup visit = record { setup = setup; visit = visit }

-- over this tree the sheet is that of the key's visit
abbrev pub IsRightFor : FileTree → SheetKey → SheetData → Type 0
IsRightFor tree key sheet = sheet_of tree key.setup key.visit ≡ sheet

-- what `==` answers at two keys
abbrev pub is_same_key : SheetKey → SheetKey → Bool
is_same_key = (key_eq.ghosts).eq

-- equal keys are the same
pub exact_keys : (one other : SheetKey) → is_same_key one other ≡ true → one ≡ other
exact_keys one other h i =
    let setup = first_so (is_same_setup one.setup other.setup) (is_same_visit one.visit other.visit) h in
    let visit = second_so (is_same_setup one.setup other.setup) (is_same_visit one.visit other.visit) h in
    record { setup = (is_same_setup-Decides one.setup other.setup).0 setup i; visit = (is_same_visit-Decides one.visit other.visit).0 visit i }
