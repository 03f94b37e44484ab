use Rattle.std.proofs.Common.{ap, ◌∙◌}
use Rattle.pp_tokens.specs.declared.token.Token.{Token}
use Rattle.macro_expand.specs.Replacement.{Marked}
use Rattle.macro_expand.specs.Sets.{names_in}
use Rattle.macro_expand.specs.Seen.{marked_of}
use Rattle.macro_expand.proofs.PlacingLemmas.{placed-hidden, taken_in}
use Rattle.macro_expand.proofs.placing.place.Goals as goal

pub returns-then-hides_all-clause-placed : goal.returns-then-hides_all-clause-placed
returns-then-hides_all-clause-placed c =
    ap (λ (t : Token). let m : Marked = record { token = t; hidden = names_in c.in_ok-m.field-0 } in m) c.set_line.ensures
    ∙ placed-hidden c.args.line (names_in c.args.hidden.now) (marked_of c.args.m.now) c.in_ok-m.field-0
    (taken_in c.in_ok-m.field-0 c.args.hidden.now c.args.m.now.hidden c.in_ok-m.ensures (c.hides_all.ensures c.if-hides_all.true c.args.hidden.now c.requires.within))

pub returns-clause-placed : goal.returns-clause-placed
returns-clause-placed c =
    ap (λ (t : Token). let m : Marked = record { token = t; hidden = names_in c.in_ok-all.all } in m) c.set_line.ensures
    ∙ placed-hidden c.args.line (names_in c.args.hidden.now) (marked_of c.args.m.now) c.in_ok-all.all c.in_ok-all.ensures.ok
