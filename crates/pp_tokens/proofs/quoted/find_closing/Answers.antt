use Rattle.std.proofs.Common.{sym, ◌∙◌, get_or, false, ℕ}
use Rattle.pp_tokens.specs.Grammar.{closes}
use Rattle.pp_tokens.specs.parts.Unpaired.{closing_length}
use Rattle.pp_tokens.proofs.Closing.{closing_cut, found_within, line_unpaired, quotes_passed}
use Rattle.pp_tokens.proofs.quoted.find_closing.Goals as goal

pub returns-in-Some-clause-within : goal.returns-in-Some-clause-within
returns-in-Some-clause-within c =
    let quote : ℕ = get_or c.args.text.now c.args.at 0 in
    let behind = c.split_at.result.1.now in
    found_within (closes quote false) c.args.text.now behind c.args.at c.in-Some.length c.requires.at c.split_at.ensures.back
    (closing_cut quote false behind c.in-Some.length (sym c.closing_length.ensures ∙ c.in-Some.is))

pub returns-clause-known : goal.returns-clause-known
returns-clause-known c =
    let quote : ℕ = get_or c.args.text.now c.args.at 0 in
    let behind = c.split_at.result.1.now in
    line_unpaired (closing_length quote false) quote c.args.text.now behind c.args.at c.line_length.result (quotes_passed quote) c.split_at.ensures.back
    c.line_length.ensures.within c.line_length.ensures.run (sym c.closing_length.ensures ∙ c.in_default.is)
