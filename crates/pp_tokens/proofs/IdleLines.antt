-- A directive of which nothing is kept, from its `#` on.
use Rattle.std.specs.Prelude.{◌≡◌, ℕ, zero, suc, ◌+◌, ◌-◌, ◌≤◌, ◌<◌, Bool, true, false, cond, not, ◌&&◌, ◌||◌, List, [], ◌∷◌, ◌++◌, map, length, take, drop, get_or, refl}
use Rattle.std.proofs.Common.{sym, ◌∙◌, ap, arith, subst, inl, inr, length-drop, drop-drop}
use Rattle.std.proofs.lemmas.List.{map-append}
use Rattle.pp_tokens.specs.declared.token.Kind.{Kind}
use Rattle.pp_tokens.specs.declared.token.Kind.TheVariants.{Punct}
use Rattle.pp_tokens.specs.declared.token.Token.{Token}
use Rattle.pp_tokens.specs.declared.due.Before.TheVariants.{Nothing, Hash, Other}
use Rattle.pp_tokens.specs.declared.lexer.Gathering.{Gathering}
use Rattle.pp_tokens.specs.declared.text_line.LineEnd.{LineEnd}
use Rattle.pp_tokens.specs.Grammar.{is_white}
use Rattle.pp_tokens.specs.Phases.{Cell, bytes}
use Rattle.pp_tokens.specs.Lined.{lined}
use Rattle.pp_tokens.specs.Lines.{white, token, Element, header_due, words_after, spells_hash, line_of, unended_line, first_part, elements, or_else}
use Rattle.pp_tokens.specs.DirectiveLines.{may_ask, may_tell, kept_line, kept_alone}
use Rattle.pp_tokens.specs.parts.Seen.{seen_lines}
use Rattle.pp_tokens.specs.parts.Text.{after_word, is_due}
use Rattle.pp_tokens.specs.parts.TextLines.{lines_behind, text_file, text_left, file_behind, begins_line, IsIdleName, IsIdleBehind, IsIdleDirective, IsIdleFrom, EndsText}
use Rattle.pp_tokens.specs.parts.Gathered.{newlines, lines_left, present_tokens, file_with, IsGathered, EndsTextLine}
use Rattle.pp_tokens.proofs.DueWords.{after_words, due_is, one_word_more}
use Rattle.pp_tokens.proofs.LinedRests.{lined_past, cut_bytes}
use Rattle.pp_tokens.proofs.OneLine.{short_newlines}
use Rattle.pp_tokens.proofs.TextLeft.{same_left, token_left}
use Rattle.pp_tokens.proofs.LexSteps.{LexState, AreWhite, first_within, first_is_part, part_first, white_is, later_white}
use Rattle.pp_tokens.proofs.DirectiveSteps.{Outlined, joined, kept_so, ends_so, line_behind, no_words, present_kept, starts_undue, name_asks, is_other_only, text_step}

-- WHAT IS LEFT OF ITS LINE

-- nothing is kept of a line that begins with these tokens and goes on so
abbrev Drops : List Token → List Element → Type 0
Drops current es = (space : Bool) → map (kept_line false) (lines_left true current space es) ≡ [] ∷ map (kept_line false) (lines_behind es)

drops_white : (current : List Token) (cells : List Cell) (es : List Element) → Drops current es → Drops current (record { part = white; cells = cells } ∷ es)
unfolding lines_left lines_behind
drops_white current cells es ih space = ih true

drops_named : (hash : Token) (k : Kind) (cells : List Cell) (es : List Element) → spells_hash hash.text ≡ true → may_tell (bytes cells) ≡ false
    → Drops (hash ∷ []) (record { part = token k; cells = cells } ∷ es)
unfolding lines_left lines_behind
drops_named hash k cells es is idle space =
    let t : Token = record { kind = k; text = bytes cells; line = line_of cells; space = space } in
    joined false [] es (hash ∷ t ∷ []) false (λ more. (λ i. cond (is i) (cond (idle i) (hash ∷ t ∷ more) []) []))

-- the file behind a part that ends no line and is no comment
behind_white : (cells : List Cell) (es : List Element) → text_file (record { part = white; cells = cells } ∷ es) ≡ text_file es
unfolding lines_behind unended_line
behind_white cells es = refl

behind_token : (k : Kind) (cells : List Cell) (es : List Element) → text_file (record { part = token k; cells = cells } ∷ es) ≡ text_file es
unfolding lines_behind unended_line
behind_token k cells es = refl

idle_other : (w : List ℕ) → may_tell w ≡ false → after_word Hash w ≡ Other
idle_other w idle = is_other_only (after_word Hash w) (name_asks w ∙ ap not (asks_none (may_ask w) _ idle))
  where
    asks_none : (a b : Bool) → (a || b) ≡ false → a ≡ false
    asks_none true b h = absurd (cc)
    asks_none false b h = refl

-- UP TO THE NAME

-- on a line with its `#`, from a place on up to its name: nothing is kept of the line, and what is left begins there
record Idles (hash : Token) (words : List (List ℕ)) (text splices : List ℕ) (at base name : ℕ) : Type 0 where
  drops : Drops (hash ∷ []) (elements zero words (lined splices at base (drop at text)))
  left : text_file (elements zero words (lined splices at base (drop at text))) ≡ text_left (lined splices name base (drop name text))

idles_named : (hash : Token) (words : List (List ℕ)) (text splices : List ℕ) (at base : ℕ) → spells_hash hash.text ≡ true → after_words Nothing words ≡ Hash → IsIdleName text at
    → Idles hash words text splices at base at
unfolding words_after
idles_named hash words text splices at base is named (t, idle) =
    let xs = drop at text in
    let n = t.size in
    let k = t.kind in
    let some : 0 < length xs = omega (arith, length-drop at text, t.within) in
    let moves : 0 < n = (first_within false xs (token k) n some (sym t.first)).0 in
    let all = lined splices at base xs in
    let cells = take n all in
    let spelling : bytes cells ≡ take n xs = cut_bytes n splices at base xs in
    let due : header_due words ≡ false = due_is words ∙ ap is_due named in
    let first = part_first words false splices at base n (token k) xs some due t.first moves in
    let none : newlines (take n xs) ≡ 0 = short_newlines (token k) (take n xs) refl (first_is_part false xs (token k) n some (sym t.first)) in
    let line : base + newlines (take n xs) ≡ base = omega (arith, none) in
    let behind : drop n all ≡ lined splices (at + n) base (drop (at + n) text) =
    lined_past n splices at base xs ∙ (λ i. lined splices (at + n) (line i) (drop-drop n at text i)) in
    let others : after_words Nothing (words ++ (take n xs ∷ [])) ≡ Other = one_word_more Nothing words (take n xs) ∙ ap (λ b. after_word b (take n xs)) named ∙ idle_other (take n xs) idle in
    let rest = elements zero (words ++ (bytes cells ∷ [])) (drop n all) in
    record {
      drops = subst (Drops (hash ∷ [])) (sym first) (drops_named hash k cells rest is (ap may_tell spelling ∙ idle));
      left = ap text_file first ∙ behind_token k cells rest
          ∙ (λ i. text_file (elements zero (words ++ (spelling i ∷ [])) (behind i)))
          ∙ same_left (lined splices (at + n) base (drop (at + n) text)) (words ++ (take n xs ∷ [])) others
          ∙ sym (token_left text splices at base k n t.within (sym t.first));
    }

idles_white : (hash : Token) (words : List (List ℕ)) (text splices : List ℕ) (at base name n : ℕ) → AreWhite text at n → Idles hash words text splices (at + n) base name
    → Idles hash words text splices at base name
unfolding words_after
idles_white hash words text splices at base name zero blank behind = (let same : at + 0 ≡ at = omega arith in subst (λ m. Idles hash words text splices m base name) same behind)
idles_white hash words text splices at base name (suc n) blank behind =
    let xs = drop at text in
    let here = blank 0 (omega arith) in
    let still : at + 0 ≡ at = omega arith in
    let below : at < length text = omega (arith, here.0) in
    let some : 0 < length xs = omega (arith, length-drop at text, below) in
    let is = white_is text at (header_due words) below (ap (λ i. is_white (get_or text i 0)) (sym still) ∙ here.1) in
    let all = lined splices at base xs in
    let first = part_first words (header_due words) splices at base 1 white xs some refl is (omega arith) in
    let none : newlines (take 1 xs) ≡ 0 = short_newlines white (take 1 xs) refl (first_is_part (header_due words) xs white 1 some (sym is)) in
    let line : base + newlines (take 1 xs) ≡ base = omega (arith, none) in
    let past : drop 1 all ≡ lined splices (at + 1) base (drop (at + 1) text) = lined_past 1 splices at base xs ∙ (λ i. lined splices (at + 1) (line i) (drop-drop 1 at text i)) in
    let next : at + suc n ≡ at + 1 + n = omega arith in
    let later = idles_white hash words text splices (at + 1) base name n (later_white text at n blank) (subst (λ m. Idles hash words text splices m base name) next behind) in
    let so = first ∙ (λ i. record { part = white; cells = take 1 all } ∷ elements zero words (past i)) in
    let rest = elements zero words (lined splices (at + 1) base (drop (at + 1) text)) in
    record {
      drops = subst (Drops (hash ∷ [])) (sym so) (drops_white (hash ∷ []) (take 1 all) rest later.drops);
      left = ap text_file so ∙ behind_white (take 1 all) rest ∙ later.left;
    }

idles_from : (hash : Token) (words : List (List ℕ)) (text splices : List ℕ) (from base name : ℕ) → spells_hash hash.text ≡ true → after_words Nothing words ≡ Hash → IsIdleBehind text from name
    → Idles hash words text splices from base name
idles_from hash words text splices from base name is named idle =
    let n = name - from in
    let same : from + n ≡ name = omega (arith, idle.later) in
    let blank : AreWhite text from n = λ k low. (omega (arith, low, idle.later, idle.idle.0.within), idle.white (from + k) (omega arith) (omega (arith, low, idle.later))) in
    idles_white hash words text splices from base name n blank
    (subst (λ m. Idles hash words text splices m base name) (sym same) (idles_named hash words text splices name base is named idle.idle))

-- THE LINE

-- the file from the line's `#` on
idle_begun : (text : List ℕ) (g : Gathering) (cells : List Cell) (es : List Element) → Outlined false text g → begins_line g.before ≡ true
    → Drops (record { kind = Punct; text = bytes cells; line = line_of cells; space = g.space } ∷ []) es
    → kept_alone false (file_with text g (record { part = token Punct; cells = cells } ∷ es)) ≡ kept_so false text g [] (text_file es)
unfolding lines_left unended_line
idle_begun text g cells es o first drops =
    let t : Token = record { kind = Punct; text = bytes cells; line = line_of cells; space = g.space } in
    ap (λ (ls : List (List Token)). record { lines = ls; unended = or_else g.unended (unended_line es) })
    (map-append (kept_line false) (seen_lines text g.places.items 0 g.ends.items) _
    ∙ (λ i. o.lines i ++ map (kept_line false) (lines_left true (o.none first i ++ (t ∷ [])) false es))
    ∙ ap (λ (ls : List (List Token)). seen_lines text g.places.items 0 g.ends.items ++ ls) (drops false))

idle_step : (text splices : List ℕ) (old new : Gathering) (at base name : ℕ) (end : LineEnd) → LexState (kept_alone false) text splices old at base → IsGathered text old → Outlined false text old
    → at < length text → begins_line old.before ≡ true → IsIdleDirective text at name → EndsText text splices name base end → EndsTextLine old new end.comment
    → LexState (kept_alone false) text splices new end.at end.base
unfolding after_words after_word words_after
idle_step text splices old new at base name end state g o below begins directive ended e =
    let xs = drop at text in
    let found = directive.first in
    let hash = directive.hash in
    let some : 0 < length xs = omega (arith, length-drop at text, below) in
    let words : state.words ≡ [] = no_words state.words (ap begins_line state.seen ∙ begins) in
    let due : header_due state.words ≡ false = due_is state.words ∙ ap is_due state.seen ∙ starts_undue old.before begins in
    let all = lined splices at base xs in
    let cells = take 1 all in
    let spelling : bytes cells ≡ take 1 xs = cut_bytes 1 splices at base xs in
    let none : newlines (take 1 xs) ≡ 0 = short_newlines (token Punct) (take 1 xs) refl (first_is_part false xs (token Punct) 1 some (sym found)) in
    let line : base + newlines (take 1 xs) ≡ base = omega (arith, none) in
    let past : drop 1 all ≡ lined splices (at + 1) base (drop (at + 1) text) = lined_past 1 splices at base xs ∙ (λ i. lined splices (at + 1) (line i) (drop-drop 1 at text i)) in
    let first = part_first state.words false splices at base 1 (token Punct) xs some due found (omega arith) in
    let t : Token = record { kind = Punct; text = bytes cells; line = line_of cells; space = old.space } in
    let rest = elements zero (take 1 xs ∷ []) (lined splices (at + 1) base (drop (at + 1) text)) in
    let so = first ∙ (λ i. record { part = token Punct; cells = cells } ∷ elements zero (words i ++ (spelling i ∷ [])) (past i)) in
    let idles = idles_from t (take 1 xs ∷ []) text splices (at + 1) base name (ap spells_hash spelling ∙ hash) (ap (λ b. cond b Hash Other) hash) directive.name in
    let es = elements zero [] (lined splices end.at end.base (drop end.at text)) in
    record {
      words = [];
      seen = sym e.before;
      file = state.file
          ∙ ap (λ es. kept_alone false (file_with text old es)) so
          ∙ idle_begun text old cells rest o begins idles.drops
          ∙ ap (kept_so false text old []) (idles.left ∙ ended.file)
          ∙ ap (λ (ts : List Token). kept_so false text old ts (file_behind end.comment es)) (sym (o.none begins))
          ∙ sym (line_behind false text old new (present_tokens text old) end.comment es o.lines (present_kept false text old o) (ends_so text old new end.comment g e));
    }

-- FROM ITS FIRST TOKEN ON

-- where what is left of the line begins
pub from_later : (whole : Bool) (text : List ℕ) (at from : ℕ) → at < length text → IsIdleFrom whole text at from → (at ≤ from) × (from ≤ length text)
from_later whole text at from below (inl (same, is)) = (omega (arith, same), omega (arith, same, below))
from_later whole text at from below (inr (part, is)) = (omega (arith, is.name.later), omega (arith, is.name.idle.0.within))

pub idle_moves : (whole : Bool) (text splices : List ℕ) (at from base : ℕ) (end : LineEnd) → at < length text → IsIdleFrom whole text at from → EndsText text splices from base end → at < end.at
idle_moves whole text splices at from base end below (inl (same, is)) ended = (let later = ended.moves (omega (arith, same, below)) in omega (arith, same, later))
idle_moves whole text splices at from base end below (inr (part, is)) ended = omega (arith, is.name.later, ended.later)

pub idle_line : (whole : Bool) (text splices : List ℕ) (old new : Gathering) (at base from : ℕ) (end : LineEnd) → LexState (kept_alone whole) text splices old at base
    → IsGathered text old → Outlined whole text old → at < length text → begins_line old.before ≡ true → IsIdleFrom whole text at from → EndsText text splices from base end
    → EndsTextLine old new end.comment → LexState (kept_alone whole) text splices new end.at end.base
idle_line whole text splices old new at base from end state g o below begins (inl (same, (t, other))) ended e =
    text_step whole text splices old new at base t.size t.kind end state g o below
    (sym t.first ∙ ap (λ d. first_part d (drop at text)) (sym (starts_undue old.before begins)))
    (λ i. begins i && not (other i))
    (sym (token_left text splices at base t.kind t.size below (sym t.first)) ∙ ap (λ m. text_left (lined splices m base (drop m text))) (sym same) ∙ ended.file) e
idle_line whole text splices old new at base from end state g o below begins (inr (part, directive)) ended e =
    subst (λ (w : Bool). LexState (kept_alone w) text splices new end.at end.base) (sym part)
    (idle_step text splices old new at base from end (subst (λ (w : Bool). LexState (kept_alone w) text splices old at base) part state) g
    (subst (λ (w : Bool). Outlined w text old) part o) below begins directive ended e)
