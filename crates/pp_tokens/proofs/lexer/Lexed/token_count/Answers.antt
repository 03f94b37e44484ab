use Rattle.std.proofs.Common.{sym, ◌∙◌, ap, arith, length, ◌≡◌, ◌≤◌, ◌<◌, ◌∷◌, get_or, List, ℕ, slice_get}
use Rattle.std.specs.Option.{option_map_or}
use Rattle.pp_tokens.specs.declared.token.Token.{Token}
use Rattle.pp_tokens.specs.Lines.{LexedFile}
use Rattle.pp_tokens.proofs.Places.{range_is, tokens_at, stretch_length, line_past}
use Rattle.pp_tokens.proofs.lexer.Lexed.token_count.Goals as goal

pub overflow_sub-result : goal.overflow_sub-result
overflow_sub-result c =
    let ends = c.self.inside.ends.items in
    let below : c.args.line < length ends = omega (arith, c.if-line-len.true, c.len.ensures, c.self.inside.ends.ok.0) in
    let start : c.line_start.result ≡ get_or (0 ∷ ends) c.args.line 0 = c.line_start.ensures ∙ ap (λ (l : List ℕ). get_or (0 ∷ l) c.args.line 0) c.deref.ensures.value in
    (range_is c.self.inside.places.items ends c.args.line c.line_start.result c.index.result.now c.self.invariant.0 below c.index.ensures start).0

pub returns-then-line-len : goal.returns-then-line-len
returns-then-line-len c =
    let text = c.self.inside.text.items in
    let places = c.self.inside.places.items in
    let ends = c.self.inside.ends.items in
    let below : c.args.line < length ends = omega (arith, c.if-line-len.true, c.len.ensures, c.self.inside.ends.ok.0) in
    let start : c.line_start.result ≡ get_or (0 ∷ ends) c.args.line 0 = c.line_start.ensures ∙ ap (λ (l : List ℕ). get_or (0 ∷ l) c.args.line 0) c.deref.ensures.value in
    let range = range_is places ends c.args.line c.line_start.result c.index.result.now c.self.invariant.0 below c.index.ensures start in
    sym (stretch_length text places c.line_start.result c.index.result.now range.0 range.1)
    ∙ sym (ap (λ o. option_map_or (length {A = Token}) o 0) (tokens_at text places ends c.args.line c.line_start.result c.index.result.now below range.2 start))
    ∙ ap (λ (f : LexedFile). option_map_or (length {A = Token}) (slice_get f.lines c.args.line) 0) c.self.view_is

pub returns-else-line-len : goal.returns-else-line-len
returns-else-line-len c =
    let ends = c.self.inside.ends.items in
    let past : length ends ≤ c.args.line = omega (arith, c.if-line-len.false, c.len.ensures, c.self.inside.ends.ok.0) in
    sym (ap (λ o. option_map_or (length {A = Token}) o 0) (line_past c.self.inside.text.items c.self.inside.places.items 0 ends c.args.line past))
    ∙ ap (λ (f : LexedFile). option_map_or (length {A = Token}) (slice_get f.lines c.args.line) 0) c.self.view_is
