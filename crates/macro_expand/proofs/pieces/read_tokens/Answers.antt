use Rattle.std.proofs.Common.{◌++◌, ◌∙◌, List, ap, sym, map, drop, append_assoc, ◌+◌}
use Rattle.macro_defs.proofs.Fronts.{front_at}
use Rattle.macro_expand.specs.declared.replace.Part.{Part as KeptPart}
use Rattle.macro_expand.specs.Replacement.{Marked}
use Rattle.macro_expand.specs.parts.Pieces.{arguments_seen, tokens_of_part, tokens_of_parts}
use Rattle.macro_expand.specs.Seen.{marked_of, part_seen, parts_seen}
use Rattle.macro_expand.proofs.pieces.read_tokens.Goals as goal

pub loop-p-preserved : goal.loop-p-preserved
loop-p-preserved c =
    let args = arguments_seen c.args.arguments.now in
    let old = map marked_of c.loop-p.out.items in
    let rest = tokens_of_parts args (parts_seen (drop (c.loop-p.p-index + 1) c.args.parts.now)) in (
      ap (λ (l : List Marked). l ++ rest) c.in_ok-put_tokens_of.ensures.put
          ∙ append_assoc old (tokens_of_part args (part_seen c.p-item.result)) rest
          ∙ ap (λ (ps : List KeptPart). old ++ tokens_of_parts args (parts_seen ps)) (sym (front_at c.args.parts.now c.loop-p.p-index c.p-item.result c.loop-p-test.true c.p-item.is))
          ∙ c.loop-p.invariant.0,
      λ t each. c.in_ok-put_tokens_of.ensures.alike t (c.loop-p.invariant.1 t each) each,
    )
