use Rattle.std.proofs.Common.{◌<◌, ◌∙◌, map, length, arith, ap, sym}
use Rattle.macro_expand.specs.Replacement.{with_space}
use Rattle.macro_expand.specs.Sets.{names_in}
use Rattle.macro_expand.specs.parts.Placing.{placed}
use Rattle.macro_expand.specs.Seen.{marked_of}
use Rattle.macro_expand.specs.parts.Stamps.{Fresh}
use Rattle.macro_expand.proofs.StampLaws.{all-turn, all-whole}
use Rattle.macro_expand.proofs.PlacingLemmas.{place-turn, place-left, place-all, place-same}
use Rattle.macro_expand.proofs.placing.put_in_for.Goals as goal

pub loop-m-preserved : goal.loop-m-preserved
loop-m-preserved c =
    let below : c.loop-m.m-index < length c.loop-m.m-items = omega (arith, c.loop-m.invariant.same) in
    record {
      same = place-same c.loop-m.m-items c.deref_mut-m-items.result.now c.loop-m.m-index c.place.new.m c.loop-m.invariant.same;
      done = place-turn marked_of (placed c.line-line.result (names_in c.args.hidden.now)) c.loop-m.m-items c.deref_mut-m-items.result.now c.loop-m.m-index
          c.m-item.result c.place.new.m below c.loop-m.invariant.same c.m-item.is
          (c.in_ok-place.ensures.placed ∙ ap (λ m. placed c.line-line.result (names_in c.args.hidden.now) (marked_of m)) (sym c.m-item.is)) c.loop-m.invariant.done c.loop-m.invariant.left;
      left = place-left marked_of (placed c.line-line.result (names_in c.args.hidden.now)) c.loop-m.m-items c.deref_mut-m-items.result.now c.loop-m.m-index
          c.place.new.m c.loop-m.invariant.left below c.loop-m.invariant.same;
      known = c.in_ok-place.ensures.known;
      fresh = all-turn (Fresh c.args.stamping.made c.args.hidden.now) c.loop-m.m-items c.loop-m.m-index c.place.new.m below c.loop-m.invariant.fresh c.in_ok-place.ensures.fresh;
    }

pub returns-clause-placed : goal.returns-clause-placed
returns-clause-placed c =
    c.spaced.ensures.spaced
    ∙ ap (with_space c.space.result) (place-all marked_of (placed c.line-line.result (names_in c.args.hidden.now)) c.loop-m.m-items c.deref_mut-m-items.result.now
    c.loop-m.m-index c.args.made.items c.args.made.len c.loop-m.invariant.same c.loop-m-test.false c.deref_mut-m-items.ensures.value c.deref_mut-m-items.ensures.len
    c.loop-m.invariant.done)
    ∙ ap (λ space. with_space space (map (placed c.line-line.result (names_in c.args.hidden.now)) (map marked_of c.args.made.items))) c.space.ensures
    ∙ ap (λ line. with_space c.args.t.now.space (map (placed line (names_in c.args.hidden.now)) (map marked_of c.args.made.items))) c.line-line.ensures

pub returns-clause-fresh : goal.returns-clause-fresh
returns-clause-fresh c =
    c.spaced.ensures.fresh c.args.stamping.made c.args.hidden.now
    (all-whole (Fresh c.args.stamping.made c.args.hidden.now) c.loop-m.m-items c.args.made.items c.loop-m.m-index c.args.made.len
    (omega (arith, c.loop-m.invariant.same, c.loop-m-test.false)) (c.loop-m.invariant.same ∙ c.deref_mut-m-items.ensures.len) c.loop-m.invariant.fresh)
