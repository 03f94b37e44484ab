use Rattle.std.proofs.Common.{refl}
use Rattle.pp_tokens.specs.Tokens.{token_seen}
use Rattle.cpp_output.specs.Laid.{Laid}
use Rattle.cpp_output.proofs.Taken.{takes}
use Rattle.cpp_output.proofs.layout.Layout.joins.Goals as goal

pub returns-clause-joined : goal.returns-clause-joined
returns-clause-joined c _ =
    let after : Laid = record { text = c.self.inside.text; at = c.max-self-inside.result; last = c.of_spelling-next.result } in
    takes c.args.self.now after c.args.excerpt.now c.join.new.self (token_seen c.args.token.now) c.in-Some.between.now c.requires.first
    (c.join.ensures.joined c.if-not-join.false)
    (rw (← c.self.view_is, c.max-self-inside.ensures, c.into.ensures, c.of_spelling-next.ensures) refl)
    c.in-Some.ensures
