-- One logical line more among the spots of a file.
use Rattle.std.proofs.Common.{◌≡◌, ◌<◌, ◌≤◌, ◌+◌, ◌-◌, ℕ, suc, List, [], ◌∷◌, ◌++◌, length, map, take, drop, None, Some, Option, refl, sym, ◌∙◌, ap, arith, append_assoc, length-drop, length-append}
use Rattle.std.specs.Prelude.{unwrap_or}
use Rattle.std.specs.List.{flat_map}
use Rattle.std.proofs.Math.Seq.{take-append_seam, take-append-add, take-suc}
use Rattle.std.proofs.lemmas.Grind.{flat_map-append}
use Rattle.std.proofs.lemmas.List.{append-nil, at_drop_more, drop-append-le, take-append-drop, map-append}
use Rattle.std.proofs.lemmas.Option.{unwrap_or-slice_get}
use Rattle.pp_tokens.specs.declared.Token.{Token}
use Rattle.pp_tokens.specs.Lines.{LexedFile, all_tokens}
use Rattle.directive_scan.specs.declared.directive.Directive.{Directive}
use Rattle.directive_scan.specs.declared.directive.Piece.{Piece}
use Rattle.directive_scan.specs.declared.directive.Piece.TheVariants.{Run, Line}
use Rattle.directive_scan.specs.declared.spots.Spot.{Spot}
use Rattle.directive_scan.specs.declared.spots.Spot.TheVariants as spot
use Rattle.directive_scan.specs.Directives.{onto_run}
use Rattle.directive_scan.specs.Gathered.{tokens_at_line}
use Rattle.directive_scan.specs.Spots.{tokens_before, tokens_between, piece_at, KnowsName, EachKnowsName, so_far, BeginsBefore}

-- a stretch that ends behind one of three parts
stretch : (a l r : List Token) (from : ℕ) → from ≤ length a
    → take (length (a ++ l) - from) (drop from (a ++ (l ++ r))) ≡ take (length a - from) (drop from (a ++ (l ++ r))) ++ l
stretch a l r from low =
    let behind : drop from (a ++ (l ++ r)) ≡ drop from a ++ (l ++ r) = drop-append-le from a (l ++ r) low in
    let left : length a - from ≡ length (drop from a) = sym (length-drop from a) in
    let more : length (a ++ l) - from ≡ length (drop from a) + length l = omega (arith, length-append a l, length-drop from a, low) in
    rw (behind, more, left, take-append-add (drop from a) (l ++ r) (length l), take-append_seam l r, take-append_seam (drop from a) (l ++ r)) refl

-- a file's tokens, before a line, on it, and behind it
parts : (file : LexedFile) (line : ℕ) → line < length file.lines
    → all_tokens file ≡ flat_map (λ l. l) (take line file.lines) ++ (tokens_at_line file line ++ flat_map (λ l. l) (drop (line + 1) file.lines))
parts file line below =
    let begins : drop line file.lines ≡ tokens_at_line file line ∷ drop (line + 1) file.lines =
    at_drop_more (λ (ls : List (List Token)). ls) file.lines line [] below
    ∙ ap (λ (l : List Token). l ∷ drop (line + 1) file.lines) (sym (unwrap_or-slice_get file.lines line [])) in
    ap (flat_map (λ l. l)) (sym (take-append-drop line file.lines))
    ∙ flat_map-append (λ l. l) (take line file.lines) (drop line file.lines)
    ∙ ap (λ (ls : List (List Token)). flat_map (λ l. l) (take line file.lines) ++ flat_map (λ l. l) ls) begins

before_next : (file : LexedFile) (line : ℕ) → line < length file.lines
    → flat_map (λ l. l) (take (line + 1) file.lines) ≡ flat_map (λ l. l) (take line file.lines) ++ tokens_at_line file line
before_next file line below =
    let e : line + 1 ≡ suc line = omega arith in
    let one : take (line + 1) file.lines ≡ take line file.lines ++ (tokens_at_line file line ∷ []) =
    ap (λ n. take n file.lines) e ∙ take-suc file.lines line [] below
    ∙ ap (λ (l : List Token). take line file.lines ++ (l ∷ [])) (sym (unwrap_or-slice_get file.lines line [])) in
    ap (flat_map (λ l. l)) one
    ∙ flat_map-append (λ l. l) (take line file.lines) (tokens_at_line file line ∷ [])
    ∙ ap (λ (ts : List Token). flat_map (λ l. l) (take line file.lines) ++ ts) (append-nil (tokens_at_line file line))

-- a run that goes on over one line more
pub longer : (file : LexedFile) (line from : ℕ) → line < length file.lines → from ≤ tokens_before file line
    → tokens_between file from (tokens_before file (line + 1)) ≡ tokens_between file from (tokens_before file line) ++ tokens_at_line file line
longer file line from below low =
    rw (before_next file line below, parts file line below)
    (stretch (flat_map (λ l. l) (take line file.lines)) (tokens_at_line file line) (flat_map (λ l. l) (drop (line + 1) file.lines)) from low)

pub before_more : (file : LexedFile) (line : ℕ) → line < length file.lines → tokens_before file line ≤ tokens_before file (line + 1)
before_more file line below =
    omega (arith, ap length (before_next file line below), length-append (flat_map (λ l. l) (take line file.lines)) (tokens_at_line file line))

pub before_two : (file : LexedFile) (line : ℕ) → line < length file.lines → 2 ≤ length (tokens_at_line file line) → tokens_before file line + 2 ≤ tokens_before file (line + 1)
before_two file line below two =
    omega (arith, ap length (before_next file line below), length-append (flat_map (λ l. l) (take line file.lines)) (tokens_at_line file line), two)

-- the tokens of a line behind its first two
pub behind_two : (file : LexedFile) (line : ℕ) → line < length file.lines → 2 ≤ length (tokens_at_line file line)
    → tokens_between file (tokens_before file line + 2) (tokens_before file (line + 1)) ≡ drop 2 (tokens_at_line file line)
behind_two file line below two =
    let a = flat_map (λ l. l) (take line file.lines) in
    let l = tokens_at_line file line in
    let r = flat_map (λ l. l) (drop (line + 1) file.lines) in
    let halves : take 2 l ++ drop 2 l ≡ l = take-append-drop 2 l in
    let first : length (a ++ take 2 l) ≡ length a + 2 = omega (arith, length-append a (take 2 l), length-append (take 2 l) (drop 2 l), ap length halves, length-drop 2 l, two) in
    let end : flat_map (λ l. l) (take (line + 1) file.lines) ≡ (a ++ take 2 l) ++ drop 2 l =
    before_next file line below ∙ ap (λ (ts : List Token). a ++ ts) (sym halves) ∙ sym (append_assoc a (take 2 l) (drop 2 l)) in
    let all : all_tokens file ≡ (a ++ take 2 l) ++ (drop 2 l ++ r) =
    parts file line below ∙ ap (λ (ts : List Token). a ++ (ts ++ r)) (sym halves)
    ∙ ap (λ (ts : List Token). a ++ ts) (append_assoc (take 2 l) (drop 2 l) r) ∙ sym (append_assoc a (take 2 l) (drop 2 l ++ r)) in
    let none : length (a ++ take 2 l) - length (a ++ take 2 l) ≡ 0 = omega arith in
    rw (end, all, ← first, stretch (a ++ take 2 l) (drop 2 l) r (length (a ++ take 2 l)) (omega arith), none) refl

-- a line behind a run
onto_both : (run line : List Token) (others : List Piece) → onto_run (run ++ line) others ≡ onto_run run (onto_run line others)
onto_both run line [] = refl
onto_both run line (Run tokens ∷ ps) = ap (λ (ts : List Token). Run ts ∷ ps) (append_assoc run line tokens)
onto_both run line (Line at what ∷ ps) = refl

pub text_more : (file : LexedFile) (spots : List Spot) (run : Option ℕ) (line from : ℕ) (others : List Piece) → line < length file.lines
    → BeginsBefore file run line → from ≡ unwrap_or run (tokens_before file line)
    → so_far file spots (Some from) (line + 1) others ≡ so_far file spots run line (onto_run (tokens_at_line file line) others)
text_more file spots None line from others below low is =
    let none : tokens_between file (tokens_before file line) (tokens_before file line) ≡ [] =
    (let e : tokens_before file line - tokens_before file line ≡ 0 = omega arith in rw e refl) in
    let all : tokens_between file (tokens_before file line) (tokens_before file (line + 1)) ≡ tokens_at_line file line =
    longer file line (tokens_before file line) below (omega arith) ∙ ap (λ (ts : List Token). ts ++ tokens_at_line file line) none in
    rw (is, all) refl
text_more file spots (Some n) line from others below low is =
    rw (is, longer file line n below low) (ap (λ (ps : List Piece). map (piece_at file) spots ++ ps) (onto_both (tokens_between file n (tokens_before file line)) (tokens_at_line file line) others))

pub text_ended : (file : LexedFile) (spots : List Spot) (from line : ℕ)
    → map (piece_at file) (spots ++ spot.Text from (tokens_before file line) ∷ []) ≡ so_far file spots (Some from) line []
text_ended file spots from line = map-append (piece_at file) spots (spot.Text from (tokens_before file line) ∷ [])

-- a directive behind what was gathered
directive_behind : (file : LexedFile) (spots : List Spot) (run : Option ℕ) (line at : ℕ) (what : Directive) (others : List Piece)
    → so_far file spots run line [] ++ (Line at what ∷ others) ≡ so_far file spots run line (Line at what ∷ others)
directive_behind file spots None line at what others = ap (λ (ps : List Piece). ps ++ (Line at what ∷ others)) (append-nil (map (piece_at file) spots))
directive_behind file spots (Some from) line at what others =
    append_assoc (map (piece_at file) spots) (Run (tokens_between file from (tokens_before file line)) ∷ []) (Line at what ∷ others)

pub directive_more : (file : LexedFile) (spots ended : List Spot) (run : Option ℕ) (line : ℕ) (s : Spot) (at : ℕ) (what : Directive) (others : List Piece)
    → map (piece_at file) ended ≡ so_far file spots run line [] → piece_at file s ≡ Line at what
    → map (piece_at file) (ended ++ s ∷ []) ++ others ≡ so_far file spots run line (Line at what ∷ others)
directive_more file spots ended run line s at what others is shows =
    ap (λ (ps : List Piece). ps ++ others) (map-append (piece_at file) ended (s ∷ []))
    ∙ append_assoc (map (piece_at file) ended) (piece_at file s ∷ []) others
    ∙ rw (is, shows) (directive_behind file spots run line at what others)

pub role_more : (file : LexedFile) (spots : List Spot) (s : Spot) → EachKnowsName file spots → KnowsName file s → EachKnowsName file (spots ++ s ∷ [])
unfolding EachKnowsName
role_more file [] s each last = (last, tt)
role_more file (t ∷ spots) s each last = (each.0, role_more file spots s each.1 last)

pub begins_more : (file : LexedFile) (run : Option ℕ) (line from : ℕ) → line < length file.lines → BeginsBefore file run line → from ≡ unwrap_or run (tokens_before file line)
    → from ≤ tokens_before file (line + 1)
begins_more file None line from below low is = omega (arith, is, before_more file line below)
begins_more file (Some n) line from below low is = omega (arith, is, low, before_more file line below)

pub no_role : (file : LexedFile) → EachKnowsName file []
unfolding EachKnowsName
no_role file = tt
