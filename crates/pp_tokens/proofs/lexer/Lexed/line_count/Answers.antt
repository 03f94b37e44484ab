use Rattle.std.proofs.Common.{sym, ◌∙◌, ap, length}
use Rattle.pp_tokens.specs.Lines.{LexedFile}
use Rattle.pp_tokens.proofs.Places.{lines_length}
use Rattle.pp_tokens.proofs.lexer.Lexed.line_count.Goals as goal

pub returns : goal.returns
returns c =
    let seen = lines_length c.self.inside.text.items c.self.inside.places.items 0 c.self.inside.ends.items in
    c.len.ensures ∙ c.self.inside.ends.ok.0 ∙ sym seen ∙ ap (λ (f : LexedFile). length f.lines) c.self.view_is
