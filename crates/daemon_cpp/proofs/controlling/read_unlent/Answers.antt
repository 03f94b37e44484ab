use Rattle.std.proofs.Common.{Bool, Ok, ap, ◌∙◌}
use Rattle.pp_tokens.specs.Tokens.{token_seen}
use Rattle.macro_defs.specs.Table.{lookup}
use Rattle.daemon_cpp.specs.Prep.{is_defined}
use Rattle.daemon_cpp.specs.parts.Controlling.{answer, with_lexeme}
use Rattle.daemon_cpp.proofs.Controlled.{defined-turn}
use Rattle.daemon_cpp.proofs.controlling.read_unlent.Goals as goal

pub returns-in-Ok-clause-ok : goal.returns-in-Ok-clause-ok
returns-in-Ok-clause-ok c =
    let line = c.args.line.now in (
      defined-turn (is_defined (lookup c.args.macros.now)) line _ c.args.stream.now c.next_defined.new.stream c.args.work.now.left (token_seen c.in-Some.name)
          c.in-Some.ensures.lends.1 c.in-Some.ensures.lends.0 (c.in-Ok.ensures ∙ ap (λ (yes : Bool). with_lexeme (Ok (answer yes)) line) c.is_defined.ensures),
      c.in-Some.ensures.same ∙ c.requires,
    )
