use Rattle.std.proofs.Common.{sym, ◌∙◌, ap, arith, length, ◌≡◌, ◌≤◌, ◌<◌, ◌+◌, ◌∷◌, get_or, List, ℕ, slice_get, Some, refl}
use Rattle.std.specs.Option.{option_and_then}
use Rattle.std.proofs.lemmas.Option.{slice_get_read}
use Rattle.pp_tokens.specs.declared.token.Token.{Token}
use Rattle.pp_tokens.specs.Lines.{LexedFile}
use Rattle.pp_tokens.specs.parts.Seen.{token_of_place}
use Rattle.pp_tokens.proofs.Places.{range_is, tokens_at, line_past, within_at, token_within, token_past}
use Rattle.pp_tokens.proofs.lexer.Lexed.token.Goals as goal

pub returns-then-len-line : goal.returns-then-len-line
returns-then-len-line c =
    let ends = c.self.inside.ends.items in
    let past : length ends ≤ c.args.line = omega (arith, c.if-len-line.true, c.len.ensures, c.self.inside.ends.ok.0) in
    sym (ap (option_and_then (λ (ts : List Token). slice_get ts c.args.place)) (line_past c.self.inside.text.items c.self.inside.places.items 0 ends c.args.line past))
    ∙ ap (λ (f : LexedFile). option_and_then (λ (ts : List Token). slice_get ts c.args.place) (slice_get f.lines c.args.line)) c.self.view_is

pub overflow_sub-index : goal.overflow_sub-index
overflow_sub-index c =
    let text = c.self.inside.text.items in
    let places = c.self.inside.places.items in
    let ends = c.self.inside.ends.items in
    let below : c.args.line < length ends = omega (arith, c.if-len-line.false, c.len.ensures, c.self.inside.ends.ok.0) in
    let start : c.line_start-start.result ≡ get_or (0 ∷ ends) c.args.line 0 = c.line_start-start.ensures ∙ ap (λ (l : List ℕ). get_or (0 ∷ l) c.args.line 0) c.deref.ensures.value in
    let range = range_is places ends c.args.line c.line_start-start.result c.index.result.now c.self.invariant.0 below c.index.ensures start in
    range.0

pub returns-then-index-start : goal.returns-then-index-start
returns-then-index-start c =
    let text = c.self.inside.text.items in
    let places = c.self.inside.places.items in
    let ends = c.self.inside.ends.items in
    let below : c.args.line < length ends = omega (arith, c.if-len-line.false, c.len.ensures, c.self.inside.ends.ok.0) in
    let start : c.line_start-start.result ≡ get_or (0 ∷ ends) c.args.line 0 = c.line_start-start.ensures ∙ ap (λ (l : List ℕ). get_or (0 ∷ l) c.args.line 0) c.deref.ensures.value in
    let range = range_is places ends c.args.line c.line_start-start.result c.index.result.now c.self.invariant.0 below c.index.ensures start in
    sym (ap (option_and_then (λ (ts : List Token). slice_get ts c.args.place)) (tokens_at text places ends c.args.line c.line_start-start.result c.index.result.now below range.2 start)
    ∙ token_past text places c.line_start-start.result c.index.result.now c.args.place range.0 range.1 c.if-index-start.true)
    ∙ ap (λ (f : LexedFile). option_and_then (λ (ts : List Token). slice_get ts c.args.place) (slice_get f.lines c.args.line)) c.self.view_is

pub index-requires-2 : goal.index-requires-2
index-requires-2 c =
    let text = c.self.inside.text.items in
    let places = c.self.inside.places.items in
    let ends = c.self.inside.ends.items in
    let below : c.args.line < length ends = omega (arith, c.if-len-line.false, c.len.ensures, c.self.inside.ends.ok.0) in
    let start : c.line_start-start.result ≡ get_or (0 ∷ ends) c.args.line 0 = c.line_start-start.ensures ∙ ap (λ (l : List ℕ). get_or (0 ∷ l) c.args.line 0) c.deref.ensures.value in
    let range = range_is places ends c.args.line c.line_start-start.result c.index.result.now c.self.invariant.0 below c.index.ensures start in
    omega (arith, range.0, range.1, c.if-index-start.false, c.self.inside.places.ok.0)

pub token_of-requires : goal.token_of-requires
token_of-requires c =
    let text = c.self.inside.text.items in
    let places = c.self.inside.places.items in
    let ends = c.self.inside.ends.items in
    let below : c.args.line < length ends = omega (arith, c.if-len-line.false, c.len.ensures, c.self.inside.ends.ok.0) in
    let start : c.line_start-start.result ≡ get_or (0 ∷ ends) c.args.line 0 = c.line_start-start.ensures ∙ ap (λ (l : List ℕ). get_or (0 ∷ l) c.args.line 0) c.deref.ensures.value in
    let range = range_is places ends c.args.line c.line_start-start.result c.index.result.now c.self.invariant.0 below c.index.ensures start in
    let place_below : c.line_start-start.result + c.args.place < length places = omega (arith, range.0, range.1, c.if-index-start.false) in
    let found = slice_get_read places (length places) (c.line_start-start.result + c.args.place) c.index-2.result.now refl place_below c.index-2.ensures in
    rw c.deref-2.ensures.value (within_at text places (c.line_start-start.result + c.args.place) c.index-2.result.now c.self.invariant.1 found)

pub returns : goal.returns
returns c =
    let text = c.self.inside.text.items in
    let places = c.self.inside.places.items in
    let ends = c.self.inside.ends.items in
    let below : c.args.line < length ends = omega (arith, c.if-len-line.false, c.len.ensures, c.self.inside.ends.ok.0) in
    let start : c.line_start-start.result ≡ get_or (0 ∷ ends) c.args.line 0 = c.line_start-start.ensures ∙ ap (λ (l : List ℕ). get_or (0 ∷ l) c.args.line 0) c.deref.ensures.value in
    let range = range_is places ends c.args.line c.line_start-start.result c.index.result.now c.self.invariant.0 below c.index.ensures start in
    let place_below : c.line_start-start.result + c.args.place < length places = omega (arith, range.0, range.1, c.if-index-start.false) in
    let p = c.index-2.result.now in
    let found : slice_get places (c.line_start-start.result + c.args.place) ≡ Some p =
    slice_get_read places (length places) (c.line_start-start.result + c.args.place) p refl place_below c.index-2.ensures in
    ap (λ (t : Token). Some t) (c.token_of.ensures ∙ ap (λ (l : List ℕ). token_of_place l p) c.deref-2.ensures.value)
    ∙ sym (ap (option_and_then (λ (ts : List Token). slice_get ts c.args.place)) (tokens_at text places ends c.args.line c.line_start-start.result c.index.result.now below range.2 start)
    ∙ token_within text places c.line_start-start.result c.index.result.now c.args.place p c.if-index-start.false found)
    ∙ ap (λ (f : LexedFile). option_and_then (λ (ts : List Token). slice_get ts c.args.place) (slice_get f.lines c.args.line)) c.self.view_is
