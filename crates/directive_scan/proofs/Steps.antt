-- One logical line more, in front of the pieces of the others.
use Rattle.std.proofs.Common.{◌≡◌, ◌<◌, ◌≤◌, ◌+◌, ℕ, List, [], ◌∷◌, length, drop, Bool, true, false, None, Some, refl, sym, ◌∙◌, ap}
use Rattle.std.specs.Prelude.{if◌then◌else◌}
use Rattle.std.proofs.lemmas.List.{at_drop_more, at_drop_all}
use Rattle.std.proofs.lemmas.Option.{unwrap_or-slice_get}
use Rattle.pp_tokens.specs.declared.Token.{Token}
use Rattle.pp_tokens.specs.Lines.{LexedFile, spells_hash}
use Rattle.directive_scan.specs.declared.directive.Piece.{Piece}
use Rattle.directive_scan.specs.declared.directive.Piece.TheVariants.{Line}
use Rattle.directive_scan.specs.Directives.{directive_of, onto_run, line_before, pieces}
use Rattle.directive_scan.specs.Gathered.{tokens_at_line, hash_of}

-- a line that begins with `#` is a directive
pub line-directive : (line : List Token) (at : ℕ) (others : List Piece) → Some at ≡ hash_of line → line_before line others ≡ Line at (directive_of (drop 1 line)) ∷ others
unfolding hash_of
line-directive [] at others is = absurd (cc)
line-directive (t ∷ ts) at others is = begun (spells_hash t.text) is
  where
    begun : (b : Bool) → Some at ≡ (if b then Some t.line else None) → (if b then Line t.line (directive_of ts) ∷ others else onto_run (t ∷ ts) others) ≡ Line at (directive_of ts) ∷ others
    begun true same = let line : at ≡ t.line = cc in ap (λ (n : ℕ). Line n (directive_of ts) ∷ others) (sym line)
    begun false same = absurd (cc)

-- and any other is text
pub line-text : (line : List Token) (others : List Piece) → None ≡ hash_of line → line_before line others ≡ onto_run line others
unfolding hash_of
line-text [] others is = refl
line-text (t ∷ ts) others is = begun (spells_hash t.text) is
  where
    begun : (b : Bool) → None ≡ (if b then Some t.line else None) → (if b then Line t.line (directive_of ts) ∷ others else onto_run (t ∷ ts) others) ≡ onto_run (t ∷ ts) others
    begun true same = absurd (cc)
    begun false same = refl

-- the pieces from a line on
pub pieces-from : (file : LexedFile) (line : ℕ) → line < length file.lines → pieces (drop line file.lines) ≡ line_before (tokens_at_line file line) (pieces (drop (line + 1) file.lines))
unfolding pieces
pieces-from file line below =
    at_drop_more pieces file.lines line [] below
    ∙ ap (λ (ts : List Token). line_before ts (pieces (drop (line + 1) file.lines))) (sym (unwrap_or-slice_get file.lines line []))

-- and behind the last one
pub pieces-past : (file : LexedFile) (line : ℕ) → length file.lines ≤ line → pieces (drop line file.lines) ≡ []
unfolding pieces
pieces-past file line past = at_drop_all pieces file.lines line past
