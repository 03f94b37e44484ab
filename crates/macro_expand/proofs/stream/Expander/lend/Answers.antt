use Rattle.std.proofs.Common.{length, reverse, sym, ap, ◌∙◌, arith}
use Rattle.std.proofs.lemmas.Option.{IfSome_then}
use Rattle.macro_expand.specs.Stream.{Stream}
use Rattle.macro_expand.proofs.StreamLemmas.{lent_first}
use Rattle.macro_expand.proofs.stream.Expander.lend.Goals as goal

pub returns-clause-lends : goal.returns-clause-lends
returns-clause-lends c =
    let stands = c.has_none_ready.ensures (cc) in
    IfSome_then c.take_untouched.result c.take_untouched.ensures.taken
    (λ t taken.
    rw (sym c.self.view_is)
    (record {
      given = lent_first _ c.self.inside.answers c.self.inside.mode (reverse c.self.inside.ready.items) c.self.inside.pending c.take_untouched.new.self _
          (ap (λ (s : Stream). s.ready) c.self.view_is ∙ stands.1) taken;
      fewer = omega (arith, ap length taken.1.1.0);
      some = omega arith;
    }))
