-- What a run of tokens still has.
use Rattle.std.specs.Prelude.{List}
use Rattle.pp_tokens.specs.declared.token.Token.{Token}
use Rattle.pp_tokens.specs.Tokens.{rest_of}
use Rattle.macro_defs.specs.declared.run.Run.{Run}
use Rattle.macro_defs.specs.declared.run.Run.TheVariants.{Listed, Lexed}

-- the tokens of a run that are still to come
abbrev pub run_tokens : Run → List Token
run_tokens (Listed tokens) = tokens.now
run_tokens (Lexed tokens) = rest_of tokens
