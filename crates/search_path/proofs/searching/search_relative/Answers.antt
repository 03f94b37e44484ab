use Rattle.std.proofs.Common.{◌∙◌, ap}
use Rattle.std.proofs.lemmas.Result.{IfOk-weaker}
use Rattle.search_path.specs.Search.{first_located}
use Rattle.search_path.proofs.Searches.{next-quote}
use Rattle.search_path.proofs.searching.search_relative.Goals as goal

pub returns-in-Some-from-clause-found : goal.returns-in-Some-from-clause-found
returns-in-Some-from-clause-found g c =
    λ told is.
    IfOk-weaker c.search_next_quote.result _ _
    (λ hit found.
    found
    ∙ ap (first_located told)
    (next-quote c.args.setup.now c.args.ask.now.form c.args.ask.now.from c.in-Some-from.from c.as_slice-name.result.now c.args.ask.now.name c.in-NextQuote.is c.in-Some-from.is c.as_slice-name.ensures))
    (c.search_next_quote.ensures.found told is)
