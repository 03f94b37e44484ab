use Rattle.std.proofs.Common.{◌≡◌, map, length, take, drop}
use Rattle.macro_expand.specs.Sets.{names_in}
use Rattle.macro_expand.specs.parts.Placing.{placed, KnowsUnion}
use Rattle.macro_expand.specs.parts.Stamps.{AllFresh}
use Rattle.macro_expand.specs.Seen.{marked_of}
use Rattle.macro_expand.proofs.placing.put_in_for.Given as goal

abbrev pub invariant-loop-m : goal.invariant-loop-m
invariant-loop-m l =
    record {
      same : length l.m-items ≡ length l.initial.m-items;
      done : map marked_of (take l.m-index l.m-items) ≡ map (placed l.line (names_in l.hidden)) (map marked_of (take l.m-index l.initial.m-items));
      left : drop l.m-index l.m-items ≡ drop l.m-index l.initial.m-items;
      known : KnowsUnion l.hidden l.last;
      fresh : AllFresh l.stamping.made l.hidden (take l.m-index l.m-items);
    }
