use Rattle.std.proofs.Common.{sym, ◌∙◌, ap, arith, length, ◌≡◌, ◌<◌, ◌∷◌, get_or, List, ℕ, slice_get, Some, refl}
use Rattle.std.proofs.lemmas.Option.{slice_get_read}
use Rattle.pp_tokens.specs.declared.token.Token.{Token}
use Rattle.pp_tokens.specs.Lines.{LexedFile, all_tokens}
use Rattle.pp_tokens.specs.parts.Seen.{token_of_place}
use Rattle.pp_tokens.proofs.Places.{within_at}
use Rattle.pp_tokens.proofs.FlatPlaces.{all_are, numbered, none_numbered}
use Rattle.pp_tokens.proofs.lexer.Lexed.token_at.Goals as goal

-- the end that the code reads is that of the last line
end_is : (ends shown : List ℕ) (count end : ℕ) → shown ≡ ends → count ≡ length ends → end ≡ get_or (0 ∷ shown) count 0 → end ≡ get_or (0 ∷ ends) (length ends) 0
end_is ends shown count end same size is = is ∙ ap (λ (l : List ℕ). get_or (0 ∷ l) count 0) same ∙ ap (λ n. get_or (0 ∷ ends) n 0) size

pub line_start-requires : goal.line_start-requires
line_start-requires c = omega (arith, c.len.ensures, c.deref.ensures.len)

pub index-requires : goal.index-requires
index-requires c =
    let i = c.self.inside in
    let is = end_is i.ends.items c.deref.result.now c.len.result c.line_start.result c.deref.ensures.value (c.len.ensures ∙ i.ends.ok.0) c.line_start.ensures in
    omega (arith, (all_are i.text.items i.places.items i.ends.items c.line_start.result c.self.invariant.0 is).1, c.if-number-line_start.false, i.places.ok.0)

pub token_of-requires : goal.token_of-requires
token_of-requires c =
    let i = c.self.inside in
    let is = end_is i.ends.items c.deref.result.now c.len.result c.line_start.result c.deref.ensures.value (c.len.ensures ∙ i.ends.ok.0) c.line_start.ensures in
    let below : c.args.number < length i.places.items = omega (arith, (all_are i.text.items i.places.items i.ends.items c.line_start.result c.self.invariant.0 is).1, c.if-number-line_start.false) in
    let found = slice_get_read i.places.items (length i.places.items) c.args.number c.index.result.now refl below c.index.ensures in
    rw c.deref-2.ensures.value (within_at i.text.items i.places.items c.args.number c.index.result.now c.self.invariant.1 found)

pub returns-then-number-line_start : goal.returns-then-number-line_start
returns-then-number-line_start c =
    let i = c.self.inside in
    let is = end_is i.ends.items c.deref.result.now c.len.result c.line_start.result c.deref.ensures.value (c.len.ensures ∙ i.ends.ok.0) c.line_start.ensures in
    sym (none_numbered i.text.items i.places.items i.ends.items c.line_start.result c.args.number c.self.invariant.0 is c.if-number-line_start.true)
    ∙ ap (λ (f : LexedFile). slice_get (all_tokens f) c.args.number) c.self.view_is

pub returns : goal.returns
returns c =
    let i = c.self.inside in
    let is = end_is i.ends.items c.deref.result.now c.len.result c.line_start.result c.deref.ensures.value (c.len.ensures ∙ i.ends.ok.0) c.line_start.ensures in
    let below : c.args.number < length i.places.items = omega (arith, (all_are i.text.items i.places.items i.ends.items c.line_start.result c.self.invariant.0 is).1, c.if-number-line_start.false) in
    let found = slice_get_read i.places.items (length i.places.items) c.args.number c.index.result.now refl below c.index.ensures in
    ap (λ (t : Token). Some t) (c.token_of.ensures ∙ ap (λ (l : List ℕ). token_of_place l c.index.result.now) c.deref-2.ensures.value)
    ∙ sym (numbered i.text.items i.places.items i.ends.items c.line_start.result c.args.number c.index.result.now c.self.invariant.0 is c.if-number-line_start.false found)
    ∙ ap (λ (f : LexedFile). slice_get (all_tokens f) c.args.number) c.self.view_is
