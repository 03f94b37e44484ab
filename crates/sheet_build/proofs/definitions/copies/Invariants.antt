use Rattle.std.proofs.Common.{◌≡◌, take}
use Rattle.sheet_build.proofs.definitions.copies.Given as goal

-- the definitions so far were copied
abbrev pub invariant-loop-name : goal.invariant-loop-name
invariant-loop-name l = l.copies ≡ take l.name-index l.defs
