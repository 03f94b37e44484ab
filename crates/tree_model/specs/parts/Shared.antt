-- The nodes that walks share.
use Rattle.std.specs.Prelude.{List, [], Option, Some, None}
use Rattle.std.specs.Arc.{arc_value}
use Rattle.std.specs.declared.sync.Arc.{Arc}

-- the values that are shared, if some are
abbrev pub values_shared : {A B : Type 0} → Option (Arc (List A) B) → List A
values_shared None = []
values_shared (Some values) = arc_value values
