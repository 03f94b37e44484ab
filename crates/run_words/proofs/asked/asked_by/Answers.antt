use Rattle.std.proofs.Common.{refl, ap}
use Rattle.std.specs.Option.{option_map}
use Rattle.run_words.specs.parts.Flagged.{given_by}
use Rattle.run_words.proofs.AllWords.{missing, asked}
use Rattle.run_words.proofs.asked.asked_by.Goals as goal

pub returns-then-not-has_clients-clause-asked : goal.returns-then-not-has_clients-clause-asked
returns-then-not-has_clients-clause-asked c =
    missing c.args.ends c.args.order.items (given_by c.args.flags) c.in-Some.hosts.items c.unwrap_or-clients.result _ (ap (λ o. option_map (λ hosts. hosts.items) o) c.in-Some.is)
    c.unwrap_or-clients.ensures refl _ c.deref.ensures.value c.has_clients.result c.has_clients.ensures c.if-not-has_clients.true

pub returns-clause-asked : goal.returns-clause-asked
returns-clause-asked c =
    asked c.args.ends c.args.order.items (given_by c.args.flags) c.in-Some.hosts.items c.unwrap_or-clients.result c.unwrap_or.result (ap (λ o. option_map (λ hosts. hosts.items) o) c.in-Some.is)
    c.unwrap_or-clients.ensures c.unwrap_or.ensures _ c.deref.ensures.value c.has_clients.result c.has_clients.ensures c.if-not-has_clients.false
