use Rattle.pp_tokens.specs.Tokens.{token_seen, rest_of}
use Rattle.daemon_cpp.specs.parts.Showing.{here_seen}
use Rattle.daemon_cpp.proofs.Conditions.{first-leads}
use Rattle.daemon_cpp.proofs.condition.name_condition.Goals as goal

pub returns-in-Some-clause-leads : goal.returns-in-Some-clause-leads
returns-in-Some-clause-leads c =
    first-leads c.args.kept.now c.args.places.source.now (here_seen c.args.places) c.args.at c.args.wanted (rest_of c.args.tokens) (rest_of c.next.new.self) (token_seen c.in-Some.name) c.is_as_wanted.result
    c.in-Some.ensures.steps c.is_as_wanted.ensures.leads
