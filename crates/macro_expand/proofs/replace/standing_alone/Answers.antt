use Rattle.std.proofs.Common.{◌∙◌, None}
use Rattle.macro_expand.specs.Replacement.{stands_alone}
use Rattle.macro_expand.specs.Seen.{parts_seen}
use Rattle.macro_expand.proofs.PartLemmas.{alone-turn, alone-done, part_before}
use Rattle.macro_expand.proofs.replace.standing_alone.Goals as goal

pub loop-k-preserved : goal.loop-k-preserved
loop-k-preserved c =
    record {
      same = c.mark_alone.ensures.0 ∙ c.loop-k.invariant.same;
      each = alone-turn c.loop-k.alone.items c.mark_alone.new.alone.items c.args.count c.loop-k.joined c.is_join-joined.result c.args.parts.now
          c.split_at.result.1.now c.loop-k.k c.index-parts-k.result (λ i. stands_alone i None (parts_seen c.args.parts.now)) c.loop-k-test.true
          c.index-parts-k.is c.split_at.ensures.back c.is_join-joined.ensures c.loop-k.invariant.same c.mark_alone.ensures c.loop-k.invariant.each;
    }

pub returns-clause-each : goal.returns-clause-each
returns-clause-each c =
    alone-done c.loop-k.alone.items c.args.count (part_before c.loop-k.joined) c.args.parts.now c.loop-k.k
    (λ i. stands_alone i None (parts_seen c.args.parts.now)) c.loop-k-test.false c.loop-k.invariant.each
