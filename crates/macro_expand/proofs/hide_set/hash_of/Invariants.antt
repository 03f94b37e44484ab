use Rattle.std.proofs.Common.{◌≡◌, take, fold}
use Rattle.macro_expand.specs.parts.Tries.{fnv_step}
use Rattle.macro_expand.proofs.hide_set.hash_of.Given as goal

abbrev pub invariant-loop-b : goal.invariant-loop-b
invariant-loop-b l = l.hash ≡ fold fnv_step 0xcbf29ce484222325 (take l.b-index l.name)
