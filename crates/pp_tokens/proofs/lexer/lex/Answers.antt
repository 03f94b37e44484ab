use Rattle.std.proofs.Common.{◌≡◌, List, ℕ, subst, IfOk}
use Rattle.pp_tokens.specs.Lines.{LexedFile, lexed}
use Rattle.pp_tokens.proofs.lexer.lex.Goals as goal

pub returns : goal.returns
returns c = subst (λ (body : List ℕ). IfOk c.lex_body.result (λ (l : LexedFile). l ≡ lexed c.args.trigraphs body)) c.in_ok-copy.ensures c.lex_body.ensures
