use Rattle.std.proofs.Common.{sym, ◌∙◌, get_or}
use Rattle.pp_tokens.specs.Grammar.{closes_header}
use Rattle.pp_tokens.specs.parts.Unpaired.{delimiter_length}
use Rattle.pp_tokens.proofs.Closing.{delimiter_cut, found_within, line_unpaired, delimiters_passed}
use Rattle.pp_tokens.proofs.quoted.delimiter_at.Goals as goal

pub returns-in-Some-clause-within : goal.returns-in-Some-clause-within
returns-in-Some-clause-within c =
    let behind = c.split_at.result.1.now in
    found_within (closes_header c.args.delimiter) c.args.text.now behind c.args.at c.in-Some.length c.requires.at c.split_at.ensures.back
    (delimiter_cut c.args.delimiter behind c.in-Some.length (sym c.delimiter_length.ensures ∙ c.in-Some.is))

pub returns-clause-known : goal.returns-clause-known
returns-clause-known c =
    let byte = get_or c.args.text.now c.args.at 0 in
    let behind = c.split_at.result.1.now in
    line_unpaired (delimiter_length c.args.delimiter) byte c.args.text.now behind c.args.at c.line_length.result (delimiters_passed c.args.delimiter byte)
    c.split_at.ensures.back c.line_length.ensures.within c.line_length.ensures.run (sym c.delimiter_length.ensures ∙ c.in_default.is)
