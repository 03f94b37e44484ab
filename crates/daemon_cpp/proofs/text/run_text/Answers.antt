use Rattle.pp_tokens.specs.Tokens.{rest_of}
use Rattle.daemon_cpp.proofs.Texts.{run-goes}
use Rattle.daemon_cpp.proofs.text.run_text.Goals as goal

pub returns-in-Ok-clause-goes : goal.returns-in-Ok-clause-goes
returns-in-Ok-clause-goes c =
    run-goes c.args.kept.now c.lay_out.new.layout c.lay_out.new.work c.args.places (rest_of c.args.tokens) c.in-Ok.ensures.ok c.in-Ok.ensures.within
