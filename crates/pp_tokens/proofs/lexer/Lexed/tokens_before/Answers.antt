use Rattle.std.proofs.Common.{sym, ◌∙◌, ap, arith, length, ◌≡◌, ◌≤◌, ◌∷◌, get_or, List, ℕ, take}
use Rattle.std.specs.List.{flat_map}
use Rattle.pp_tokens.specs.declared.place.Place.{Place}
use Rattle.pp_tokens.specs.declared.token.Token.{Token}
use Rattle.pp_tokens.specs.Lines.{LexedFile}
use Rattle.pp_tokens.specs.parts.Seen.{seen_lines}
use Rattle.pp_tokens.proofs.Places.{lines_length}
use Rattle.pp_tokens.proofs.FlatPlaces.{before_is}
use Rattle.pp_tokens.proofs.lexer.Lexed.tokens_before.Goals as goal

within : (text : List ℕ) (places : List Place) (ends : List ℕ) (line : ℕ) (lines : List (List Token)) → seen_lines text places 0 ends ≡ lines → line ≤ length lines → line ≤ length ends
within text places ends line lines is below = omega (arith, below, ap (length {A = List Token}) is, lines_length text places 0 ends)

pub line_start-requires : goal.line_start-requires
line_start-requires c =
    let i = c.self.inside in
    rw c.deref.ensures.value (within i.text.items i.places.items i.ends.items c.args.line c.args.self.now.lines (ap (λ (f : LexedFile). f.lines) c.self.view_is) c.requires)

pub returns : goal.returns
returns c =
    let i = c.self.inside in
    c.line_start.ensures ∙ ap (λ (l : List ℕ). get_or (0 ∷ l) c.args.line 0) c.deref.ensures.value
    ∙ sym (before_is i.text.items i.places.items i.ends.items c.args.line c.self.invariant.0
    (within i.text.items i.places.items i.ends.items c.args.line c.args.self.now.lines (ap (λ (f : LexedFile). f.lines) c.self.view_is) c.requires))
    ∙ ap (λ (f : LexedFile). length (flat_map {X = List Token} (λ l. l) (take c.args.line f.lines))) c.self.view_is
