use Rattle.std.proofs.Common.{reverse, sym, ap, ◌∙◌, arith}
use Rattle.std.proofs.lemmas.Option.{IfSome_then}
use Rattle.macro_defs.specs.Table.{lookup}
use Rattle.macro_expand.specs.Stream.{Stream, lent_tokens}
use Rattle.macro_expand.proofs.StampLaws.{lent-stamped}
use Rattle.macro_expand.proofs.StreamLemmas.{lent_each, taken_length}
use Rattle.macro_expand.proofs.stream.Expander.lend_more.Goals as goal

pub invariant_of-self : goal.invariant_of-self
invariant_of-self c going =
    let i = c.self.inside in
    let stamped = c.self.invariant going in
    (stamped.0, lent-stamped stamped.0 i.stamps (lookup i.table.now) i.mode c.lend.result i.pending c.lend.new.self c.lend.ensures.taken c.lend.ensures.none stamped.1)

pub returns-clause-lends : goal.returns-clause-lends
returns-clause-lends c =
    let stands = c.has_none_ready.ensures (cc) in
    let i = c.self.inside in
    IfSome_then c.lend.result c.lend.ensures.taken
    (λ l taken.
    rw (sym c.self.view_is)
    (record {
      given = lent_each _ i.answers i.mode (reverse i.ready.items) i.pending c.lend.new.self (lent_tokens l) (ap (λ (s : Stream). s.ready) c.self.view_is ∙ stands.1) taken.0;
      fewer = (let less = taken_length (lookup i.table.now) i.mode (lent_tokens l) i.pending c.lend.new.self taken.0 in omega (arith, less));
      some = taken.1;
    }))
