use Rattle.std.proofs.Common.{reverse, sym, ap, ◌∙◌, arith}
use Rattle.std.proofs.lemmas.Option.{IfSome_then}
use Rattle.pp_tokens.specs.Tokens.{token_seen}
use Rattle.macro_expand.specs.Stream.{Stream}
use Rattle.macro_expand.proofs.StampLaws.{defined-stamped}
use Rattle.macro_expand.proofs.StreamLemmas.{defined_first, defined_length}
use Rattle.macro_expand.proofs.stream.Expander.lend_defined.Goals as goal

pub invariant_of-self : goal.invariant_of-self
invariant_of-self c going =
    let i = c.self.inside in
    let stamped = c.self.invariant going in
    (stamped.0, defined-stamped stamped.0 i.stamps c.take_defined.result i.pending c.take_defined.new.self c.take_defined.ensures.taken c.take_defined.ensures.none stamped.1)

pub returns-clause-lends : goal.returns-clause-lends
returns-clause-lends c =
    let stands = c.has_none_ready.ensures (cc) in
    let i = c.self.inside in
    IfSome_then c.take_defined.result c.take_defined.ensures.taken
    (λ name taken.
    rw (sym c.self.view_is)
    (record {
      word = taken.0;
      operand = taken.1.0;
      is_defined = taken.1.1.0.0;
      is_operand = taken.1.1.0.1;
      ready = record {
        given = defined_first _ i.answers i.mode (reverse i.ready.items) i.pending c.take_defined.new.self (token_seen name) (c.is_condition.ensures (cc))
            (ap (λ (s : Stream). s.ready) c.self.view_is ∙ stands.1) taken;
        fewer = (let less = defined_length (token_seen name) i.pending c.take_defined.new.self taken in omega (arith, less));
        some = omega arith;
      };
    }))
