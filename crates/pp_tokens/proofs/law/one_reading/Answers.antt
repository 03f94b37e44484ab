use Rattle.pp_tokens.proofs.Reading.{is_lexed, lexed_is}
use Rattle.pp_tokens.proofs.law.one_reading.Goals as goal

pub returns : goal.returns
returns c = λ trigraphs body. (is_lexed trigraphs body, lexed_is trigraphs body)
