use Rattle.std.proofs.Common.{List, slice_get, sym, ap, ◌∙◌, map}
use Rattle.std.specs.Option.{option_and_then}
use Rattle.pp_tokens.specs.declared.Token.{Token}
use Rattle.macro_defs.specs.MacroDefinition.{without_line}
use Rattle.macro_defs.specs.Arguments.{argument_named, parameters_in}
use Rattle.macro_expand.specs.Replacement.{body_parts}
use Rattle.macro_expand.specs.parts.Parts.{body_part}
use Rattle.macro_expand.specs.Seen.{parts_seen}
use Rattle.macro_expand.proofs.PartLemmas.{named-at, read-hash, read-part, read-done}
use Rattle.macro_expand.proofs.replace.read_parts.Goals as goal
use Rattle.macro_expand.proofs.replace.read_parts.Goals.{then-begins_spelling, else-begins_spelling+in_ok-put_part}

pub loop-place-preserved : goal.loop-place-preserved
loop-place-preserved c =
    let names = parameters_in c.args.d.now.shape in
    elim c.if-begins_spelling.branch [
      | then-begins_spelling w ↦
          rw (w.parts-is, w.hash-is, w.joined-is) (read-hash names c.in-Listed.body.now c.loop-place.place c.index-body-place.result c.loop-place-test.true
          c.index-body-place.is c.loop-place.hash c.loop-place.joined c.loop-place.parts.items (body_parts names (map without_line c.in-Listed.body.now))
          c.loop-place.invariant (sym c.begins_spelling.ensures ∙ w.if-begins_spelling.true))
      | else-begins_spelling+in_ok-put_part w ↦
          rw (w.parts-is, w.hash-is, w.joined-is) (read-part names c.in-Listed.body.now c.loop-place.place c.index-body-place.result c.loop-place-test.true
          c.index-body-place.is c.loop-place.hash c.loop-place.joined c.loop-place.parts.items (body_parts names (map without_line c.in-Listed.body.now))
          c.loop-place.invariant w.part_at-p.result w.put_part.new.parts.items w.is_join-joined.result
          (sym c.begins_spelling.ensures ∙ w.if-begins_spelling.false)
          (w.part_at-p.ensures ∙ ap (body_part c.loop-place.hash (without_line c.index-body-place.result))
          (w.parameter_at.ensures ∙ ap (λ (ts : List Token). option_and_then (argument_named names) (slice_get ts c.loop-place.place)) (sym c.in-Listed.ensures.tokens)
          ∙ named-at names c.in-Listed.body.now c.loop-place.place c.index-body-place.result c.loop-place-test.true c.index-body-place.is))
          w.in_ok-put_part.ensures w.is_join-joined.ensures)
    ]

pub returns : goal.returns
returns c =
    read-done (parameters_in c.args.d.now.shape) c.in-Listed.body.now c.loop-place.place c.loop-place.hash c.loop-place.joined (parts_seen c.loop-place.parts.items)
    (body_parts (parameters_in c.args.d.now.shape) (map without_line c.in-Listed.body.now)) c.loop-place-test.false c.loop-place.invariant
    ∙ ap (body_parts (parameters_in c.args.d.now.shape)) c.in-Listed.ensures.tokens
