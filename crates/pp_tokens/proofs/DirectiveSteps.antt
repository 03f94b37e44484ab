-- The steps of the lexer that keeps the tokens of directives alone, all of them or as far as they may ask for a file.
use Rattle.std.specs.Prelude.{◌≡◌, ℕ, zero, ◌+◌, ◌<◌, ◌≤◌, Bool, true, false, cond, not, List, [], ◌∷◌, ◌++◌, ◌||◌, map, length, take, drop, Option, None, Some, codes, bytes_eq, refl, ◌&&◌}
use Rattle.std.proofs.Common.{sym, ◌∙◌, ap, arith, subst, append_assoc, length-drop, drop-drop}
use Rattle.std.proofs.lemmas.Bool.{not-true, and_parts}
use Rattle.std.proofs.lemmas.List.{map-append, append-nil, length-append, length-take-le, take-append-drop}
use Rattle.pp_tokens.specs.declared.token.Kind.{Kind}
use Rattle.pp_tokens.specs.declared.token.Token.{Token}
use Rattle.pp_tokens.specs.declared.due.Before.{Before}
use Rattle.pp_tokens.specs.declared.due.Before.TheVariants.{Nothing, Hash, Include, Condition, Probe, Probed, Other}
use Rattle.pp_tokens.specs.declared.lexer.Gathering.{Gathering}
use Rattle.pp_tokens.specs.declared.text_line.LineEnd.{LineEnd}
use Rattle.pp_tokens.specs.Phases.{Cell, bytes}
use Rattle.pp_tokens.specs.Lined.{lined}
use Rattle.pp_tokens.specs.Lines.{Part, newline, white, comment, open_comment, token, Element, LexedFile, header_due, words_after, spells_hash, line_of, unended_line, first_part, elements, or_else}
use Rattle.pp_tokens.specs.DirectiveLines.{may_ask, may_tell, asking_part, kept_line, kept_alone}
use Rattle.pp_tokens.specs.parts.Seen.{token_of_place, seen_lines, last_end, Ascends, EachWithin}
use Rattle.pp_tokens.specs.parts.Text.{after_word, is_due}
use Rattle.pp_tokens.specs.parts.TextLines.{lines_behind, text_file, text_left, file_behind, begins_line, begins_name, asks_nothing, begins_text, is_cut, is_token_part, EndsText}
use Rattle.pp_tokens.specs.parts.Gathered.{newlines, lines_left, present_tokens, file_with, IsGathered, GathersNothing, EndsLastLine, EndsTextLine, DropsLine, AddsGap, Gathers}
use Rattle.pp_tokens.proofs.DueWords.{after_words, due_is}
use Rattle.pp_tokens.proofs.LinedRests.{lined_past, cut_bytes}
use Rattle.pp_tokens.proofs.OneLine.{short_newlines}
use Rattle.pp_tokens.proofs.Places.{ascends_line, ascends_last, ascends_own, within_front, none_left, same_lines_all, last_of_more, all_dropped, line_more}
use Rattle.pp_tokens.proofs.TextLeft.{same_left}
use Rattle.pp_tokens.proofs.LexSteps.{LexState, first_within, first_is_part, part_first}

-- WHAT IS GATHERED

abbrev seen : List ℕ → Gathering → List (List Token)
seen text g = seen_lines text g.places.items 0 g.ends.items

-- a directive's `#` alone
abbrev pub IsHash : List Token → Type 0
IsHash ts = (hash : Token) × (ts ≡ hash ∷ []) × (spells_hash hash.text ≡ true)

-- whatever else stands on the line is kept
abbrev pub IsOpen : Bool → List Token → Type 0
IsOpen whole ts = (more : List Token) → kept_line whole (ts ++ more) ≡ ts ++ more

-- the finished lines have what is kept of directives alone, and so does the present one, whatever else stands on it
pub record Outlined (whole : Bool) (text : List ℕ) (g : Gathering) : Type 0 where
  pub lines : map (kept_line whole) (seen_lines text g.places.items 0 g.ends.items) ≡ seen_lines text g.places.items 0 g.ends.items
  pub none : begins_line g.before ≡ true → present_tokens text g ≡ []
  pub hash : begins_name g.before ≡ true → IsHash (present_tokens text g)
  pub more : begins_line g.before ≡ false → begins_name g.before ≡ false → IsOpen whole (present_tokens text g)

pub nothing_outlined : (whole : Bool) (text : List ℕ) (g : Gathering) → GathersNothing g → Outlined whole text g
unfolding seen_lines last_end
nothing_outlined whole text g n = record {
  lines = rw (n.places, n.ends) refl;
  none = λ h. rw (n.places, n.ends) refl;
  hash = λ h. absurd (let e : false ≡ true = sym (ap begins_name n.before) ∙ h in cc);
  more = λ h named. absurd (let e : true ≡ false = sym (ap begins_line n.before) ∙ h in cc);
}

hash_kept : (whole : Bool) (ts : List Token) → IsHash ts → kept_line whole ts ≡ ts
hash_kept true ts h = ap (kept_line true) h.1 ∙ ap (λ t. cond t (h.0 ∷ []) []) h.2 ∙ sym h.1
hash_kept false ts h = ap (kept_line false) h.1 ∙ ap (λ t. cond t (h.0 ∷ []) []) h.2 ∙ sym h.1

open_kept : (whole : Bool) (ts : List Token) → IsOpen whole ts → kept_line whole ts ≡ ts
open_kept whole ts opens = ap (kept_line whole) (sym (append-nil ts)) ∙ opens [] ∙ append-nil ts

-- the present line is a directive, or empty
pub present_kept : (whole : Bool) (text : List ℕ) (g : Gathering) → Outlined whole text g → kept_line whole (present_tokens text g) ≡ present_tokens text g
present_kept whole text g o = by_start (begins_line g.before) refl (begins_name g.before) refl
  where
    by_start : (t : Bool) → begins_line g.before ≡ t → (u : Bool) → begins_name g.before ≡ u → kept_line whole (present_tokens text g) ≡ present_tokens text g
    by_start true e u f = (let none = o.none e in ap (kept_line whole) none ∙ sym none)
    by_start false e true f = hash_kept whole (present_tokens text g) (o.hash f)
    by_start false e false f = open_kept whole (present_tokens text g) (o.more e f)

-- a line more that is a directive, or empty
line_kept : (whole : Bool) (ls : List (List Token)) (ts : List Token) → map (kept_line whole) ls ≡ ls → kept_line whole ts ≡ ts → map (kept_line whole) (ls ++ (ts ∷ [])) ≡ ls ++ (ts ∷ [])
line_kept whole ls ts lines kept = map-append (kept_line whole) ls (ts ∷ []) ∙ (λ i. lines i ++ (kept i ∷ []))

gap_kept : (whole : Bool) (text : List ℕ) (old new : Gathering) → Outlined whole text old → new.before ≡ old.before → seen text new ≡ seen text old
    → present_tokens text new ≡ present_tokens text old → Outlined whole text new
gap_kept whole text old new o before lines present = record {
  lines = ap (map (kept_line whole)) lines ∙ o.lines ∙ sym lines;
  none = λ h. present ∙ o.none (ap begins_line (sym before) ∙ h);
  hash = λ h. subst IsHash (sym present) (o.hash (ap begins_name (sym before) ∙ h));
  more = λ h named. subst (IsOpen whole) (sym present) (o.more (ap begins_line (sym before) ∙ h) (ap begins_name (sym before) ∙ named));
}

pub gap_outlined : (whole : Bool) (text : List ℕ) (old new : Gathering) (unended : Option ℕ) → Outlined whole text old → AddsGap old new unended → Outlined whole text new
gap_outlined whole text old new unended o e = gap_kept whole text old new o e.before (rw (e.places, e.ends) refl) (rw (e.places, e.ends) refl)

-- A TOKEN MORE

either : (f : Before → Bool) (t : Bool) (a b : Before) → f a ≡ false → f b ≡ false → f (cond t a b) ≡ false
either f true a b h k = h
either f false a b h k = k

-- behind a word the line has begun
after_begun : (before : Before) (w : List ℕ) → begins_line (after_word before w) ≡ false
unfolding after_word
after_begun Nothing w = either begins_line (spells_hash w) Hash Other refl refl
after_begun Hash w =
    either begins_line (bytes_eq w (codes "include") || bytes_eq w (codes "include_next")) Include _ refl
    (either begins_line (bytes_eq w (codes "if") || bytes_eq w (codes "elif")) Condition Other refl refl)
after_begun Include w = refl
after_begun Condition w = either begins_line (bytes_eq w (codes "__has_include")) Probe Condition refl refl
after_begun Probe w =
    either begins_line (bytes_eq w (codes "(")) Probed _ refl (either begins_line (bytes_eq w (codes "__has_include")) Probe Condition refl refl)
after_begun Probed w = either begins_line (bytes_eq w (codes "__has_include")) Probe Condition refl refl
after_begun Other w = refl

-- a name stands behind the line's first token alone
after_named : (before : Before) (w : List ℕ) → begins_line before ≡ false → begins_name (after_word before w) ≡ false
unfolding after_word
after_named Nothing w h = absurd (cc)
after_named Hash w h =
    either begins_name (bytes_eq w (codes "include") || bytes_eq w (codes "include_next")) Include _ refl
    (either begins_name (bytes_eq w (codes "if") || bytes_eq w (codes "elif")) Condition Other refl refl)
after_named Include w h = refl
after_named Condition w h = either begins_name (bytes_eq w (codes "__has_include")) Probe Condition refl refl
after_named Probe w h =
    either begins_name (bytes_eq w (codes "(")) Probed _ refl (either begins_name (bytes_eq w (codes "__has_include")) Probe Condition refl refl)
after_named Probed w h = either begins_name (bytes_eq w (codes "__has_include")) Probe Condition refl refl
after_named Other w h = refl

pub name_asks : (w : List ℕ) → asks_nothing (after_word Hash w) ≡ not (may_ask w)
unfolding after_word
name_asks w = by_test (bytes_eq w (codes "include") || bytes_eq w (codes "include_next")) (bytes_eq w (codes "if") || bytes_eq w (codes "elif"))
  where
    by_test : (i t : Bool) → asks_nothing (cond i Include (cond t Condition Other)) ≡ not (i || t)
    by_test true t = refl
    by_test false true = refl
    by_test false false = refl

after_hash_mark : (before : Before) (w : List ℕ) → begins_line before ≡ true → spells_hash w ≡ true → begins_name (after_word before w) ≡ true
unfolding after_word
after_hash_mark Nothing w first h = ap (λ t. begins_name (cond t Hash Other)) h
after_hash_mark Hash w first h = absurd (cc)
after_hash_mark Include w first h = absurd (cc)
after_hash_mark Condition w first h = absurd (cc)
after_hash_mark Probe w first h = absurd (cc)
after_hash_mark Probed w first h = absurd (cc)
after_hash_mark Other w first h = absurd (cc)

is_hash_only : (before : Before) → begins_name before ≡ true → before ≡ Hash
is_hash_only Nothing h = absurd (cc)
is_hash_only Hash h = refl
is_hash_only Include h = absurd (cc)
is_hash_only Condition h = absurd (cc)
is_hash_only Probe h = absurd (cc)
is_hash_only Probed h = absurd (cc)
is_hash_only Other h = absurd (cc)

pub is_other_only : (before : Before) → asks_nothing before ≡ true → before ≡ Other
is_other_only Nothing h = absurd (cc)
is_other_only Hash h = absurd (cc)
is_other_only Include h = absurd (cc)
is_other_only Condition h = absurd (cc)
is_other_only Probe h = absurd (cc)
is_other_only Probed h = absurd (cc)
is_other_only Other h = refl

-- the first token of a line that is no text
hash_first : (k : Kind) (before : Before) (w : List ℕ) → begins_line before ≡ true → begins_text before (token k) w ≡ false → spells_hash w ≡ true
hash_first k before w first h = by_test (spells_hash w) refl
  where
    by_test : (t : Bool) → spells_hash w ≡ t → t ≡ true
    by_test true e = refl
    by_test false e = absurd (let wrong : true ≡ false = sym (rw (first, e) refl) ∙ h in cc)

and_no : (a : Bool) → (a && false) ≡ false
and_no true = refl
and_no false = refl

pub uncut_asking : (whole : Bool) (before after : Before) (word : List ℕ) → asks_nothing after ≡ false → is_cut whole before after word ≡ false
uncut_asking whole before after word h =
    ap (λ t. not whole && (begins_name before && (t && not (may_tell word)))) h ∙ ap (λ t. not whole && t) (and_no (begins_name before)) ∙ and_no (not whole)

uncut_behind : (whole : Bool) (before after : Before) (word : List ℕ) → begins_name before ≡ false → is_cut whole before after word ≡ false
uncut_behind whole before after word h = ap (λ t. not whole && (t && (asks_nothing after && not (may_tell word)))) h ∙ and_no (not whole)

pub uncut_start : (whole : Bool) (before after : Before) (word : List ℕ) → begins_line before ≡ true → is_cut whole before after word ≡ false
uncut_start whole before after word h = uncut_behind whole before after word (no_name before h)
  where
    no_name : (before : Before) → begins_line before ≡ true → begins_name before ≡ false
    no_name Nothing h = refl
    no_name Hash h = absurd (cc)
    no_name Include h = refl
    no_name Condition h = refl
    no_name Probe h = refl
    no_name Probed h = refl
    no_name Other h = refl

-- a name that isn't told to be idle tells something
tells_still : (asks line : Bool) → (not asks && not (asks || line)) ≡ false → (asks || line) ≡ true
tells_still true line h = refl
tells_still false true h = refl
tells_still false false h = absurd (cc)

-- behind the name of a directive that is kept
name_open : (whole : Bool) (before : Before) (ts : List Token) (t : Token) → before ≡ Hash → IsHash ts → is_cut whole before (after_word before t.text) t.text ≡ false
    → IsOpen whole (ts ++ (t ∷ []))
name_open true before ts t named h uncut more =
    (λ i. kept_line true ((h.1 i ++ (t ∷ [])) ++ more)) ∙ ap (λ (b : Bool). cond b (h.0 ∷ t ∷ more) []) h.2 ∙ (λ i. (sym h.1 i ++ (t ∷ [])) ++ more)
name_open false before ts t named h uncut more =
    let told : (not (may_ask t.text) && not (may_tell t.text)) ≡ false =
    (λ i. sym (name_asks t.text) i && not (may_tell t.text)) ∙ (λ i. begins_name (sym named i) && (asks_nothing (after_word (sym named i) t.text) && not (may_tell t.text))) ∙ uncut in
    let tells : may_tell t.text ≡ true = tells_still (may_ask t.text) (bytes_eq t.text (codes "line")) told in
    (λ i. kept_line false ((h.1 i ++ (t ∷ [])) ++ more)) ∙ (λ i. cond (h.2 i) (cond (tells i) (h.0 ∷ t ∷ more) []) []) ∙ (λ i. (sym h.1 i ++ (t ∷ [])) ++ more)

open_more : (whole : Bool) (ts us : List Token) → IsOpen whole ts → IsOpen whole (ts ++ us)
open_more whole ts us opens more = ap (kept_line whole) (append_assoc ts us more) ∙ opens (us ++ more) ∙ sym (append_assoc ts us more)

token_hash : (k : Kind) (before : Before) (ts : List Token) (t : Token) → (begins_line before ≡ true → ts ≡ []) → begins_text before (token k) t.text ≡ false
    → begins_name (after_word before t.text) ≡ true → IsHash (ts ++ (t ∷ []))
token_hash k before ts t none other h = by_start (begins_line before) refl
  where
    by_start : (first : Bool) → begins_line before ≡ first → IsHash (ts ++ (t ∷ []))
    by_start true e = (t, ap (λ (us : List Token). us ++ (t ∷ [])) (none e), hash_first k before t.text e other)
    by_start false e = absurd (let wrong : true ≡ false = sym h ∙ after_named before t.text e in cc)

token_open : (whole : Bool) (k : Kind) (text : List ℕ) (old : Gathering) (t : Token) → Outlined whole text old → begins_text old.before (token k) t.text ≡ false
    → is_cut whole old.before (after_word old.before t.text) t.text ≡ false → begins_name (after_word old.before t.text) ≡ false → IsOpen whole (present_tokens text old ++ (t ∷ []))
token_open whole k text old t o other uncut named = by_start (begins_line old.before) refl (begins_name old.before) refl
  where
    by_start : (first : Bool) → begins_line old.before ≡ first → (second : Bool) → begins_name old.before ≡ second → IsOpen whole (present_tokens text old ++ (t ∷ []))
    by_start true e second f = absurd (let wrong : false ≡ true = sym named ∙ after_hash_mark old.before t.text e (hash_first k old.before t.text e other) in cc)
    by_start false e true f = name_open whole old.before (present_tokens text old) t (is_hash_only old.before f) (o.hash f) uncut
    by_start false e false f = open_more whole (present_tokens text old) (t ∷ []) (o.more e f)

-- one part more, where no line of text begins with it, and it is no name behind which nothing is kept
pub part_outlined : (whole : Bool) (text spelling : List ℕ) (old new : Gathering) (part : Part) (line : ℕ) → Outlined whole text old → Gathers text old new part spelling line
    → begins_text old.before part spelling ≡ false → is_cut whole old.before new.before spelling ≡ false → Outlined whole text new
part_outlined whole text spelling old new newline line o step other uncut = record {
  lines = ap (map (kept_line whole)) step.lines ∙ line_kept whole (seen text old) (present_tokens text old) o.lines (present_kept whole text old o) ∙ sym step.lines;
  none = λ h. step.present;
  hash = λ h. absurd (let e : false ≡ true = sym (ap begins_name step.before) ∙ h in cc);
  more = λ h named. absurd (let e : true ≡ false = sym (ap begins_line step.before) ∙ h in cc);
}
part_outlined whole text spelling old new white line o step other uncut = gap_kept whole text old new o step.before step.lines step.present
part_outlined whole text spelling old new comment line o step other uncut = gap_kept whole text old new o step.before step.lines step.present
part_outlined whole text spelling old new open_comment line o step other uncut = gap_kept whole text old new o step.before step.lines step.present
part_outlined whole text spelling old new (token k) line o step other uncut =
    let t : Token = record { kind = k; text = spelling; line = line; space = old.space } in
    record {
      lines = ap (map (kept_line whole)) step.lines ∙ o.lines ∙ sym step.lines;
      none = λ h. absurd (let e : false ≡ true = sym (ap begins_line step.before ∙ after_begun old.before spelling) ∙ h in cc);
      hash = λ h. subst IsHash (sym step.present) (token_hash k old.before (present_tokens text old) t o.none other (sym (ap begins_name step.before) ∙ h));
      more = λ h named. subst (IsOpen whole) (sym step.present)
          (token_open whole k text old t o other (ap (λ (after : Before). is_cut whole old.before after spelling) (sym step.before) ∙ uncut) (sym (ap begins_name step.before) ∙ named));
    }

-- at the end
pub end_outlined : (whole : Bool) (text : List ℕ) (old new : Gathering) → IsGathered text old → Outlined whole text old → EndsLastLine old new
    → kept_alone whole (record { lines = seen_lines text new.places.items 0 new.ends.items; unended = new.unended })
    ≡ record { lines = seen_lines text new.places.items 0 new.ends.items; unended = new.unended }
end_outlined whole text old new g o e =
    ap (λ (ls : List (List Token)). record { lines = ls; unended = new.unended }) (rw (e.places, e.ends) (by_start old.begun))
  where
    by_start : (t : Bool) → map (kept_line whole) (seen_lines text old.places.items 0 (cond t (old.ends.items ++ (length old.places.items ∷ [])) old.ends.items))
        ≡ seen_lines text old.places.items 0 (cond t (old.ends.items ++ (length old.places.items ∷ [])) old.ends.items)
    by_start true =
        rw (line_more text old.places.items 0 old.ends.items g.ascends) (line_kept whole (seen text old) (present_tokens text old) o.lines (present_kept whole text old o))
    by_start false = o.lines

-- A LINE OF WHICH NO MORE IS KEPT

-- whatever else stands on a line that begins so, this is kept of it
abbrev pub Stays : Bool → List Token → List Token → Type 0
Stays whole current kept = (more : List Token) → kept_line whole (current ++ more) ≡ kept

stays_now : (whole : Bool) (current kept : List Token) → Stays whole current kept → kept_line whole current ≡ kept
stays_now whole current kept stays = ap (kept_line whole) (sym (append-nil current)) ∙ stays []

-- that is the line, and then come those behind it
abbrev Joins : Bool → List Token → List Element → Type 0
Joins whole kept es = (current : List Token) (space : Bool) → Stays whole current kept → map (kept_line whole) (lines_left true current space es) ≡ kept ∷ map (kept_line whole) (lines_behind es)

joined_part : (whole : Bool) (kept : List Token) (p : Part) (cs : List Cell) (es : List Element) → Joins whole kept es → Joins whole kept (record { part = p; cells = cs } ∷ es)
unfolding lines_left lines_behind
joined_part whole kept newline cs es ih current space stays = ap (λ (ts : List Token). ts ∷ map (kept_line whole) (lines_left false [] true es)) (stays_now whole current kept stays)
joined_part whole kept white cs es ih current space stays = ih current true stays
joined_part whole kept comment cs es ih current space stays = ih current true stays
joined_part whole kept open_comment cs es ih current space stays = ih current true stays
joined_part whole kept (token k) cs es ih current space stays =
    let t : Token = record { kind = k; text = bytes cs; line = line_of cs; space = space } in
    ih (current ++ (t ∷ [])) false (λ more. ap (kept_line whole) (append_assoc current (t ∷ []) more) ∙ stays (t ∷ more))

pub joined : (whole : Bool) (kept : List Token) (es : List Element) → Joins whole kept es
unfolding lines_left lines_behind
joined whole kept [] current space stays = ap (λ (ts : List Token). ts ∷ []) (stays_now whole current kept stays)
joined whole kept (e ∷ es) current space stays = joined_part whole kept e.part e.cells es (joined whole kept es) current space stays

-- what is gathered, then what is kept of the present line, then a file behind it
abbrev pub kept_so : Bool → List ℕ → Gathering → List Token → LexedFile → LexedFile
kept_so whole text g kept f = record {
  lines = seen_lines text g.places.items 0 g.ends.items ++ (kept ∷ map (kept_line whole) f.lines);
  unended = or_else g.unended f.unended;
}

-- the file from a place on a line on of which no more is kept
cut_begun : (whole : Bool) (text : List ℕ) (g : Gathering) (kept : List Token) (es : List Element) → map (kept_line whole) (seen text g) ≡ seen text g → g.begun ≡ true
    → Stays whole (present_tokens text g) kept → kept_alone whole (file_with text g es) ≡ kept_so whole text g kept (text_file es)
unfolding unended_line
cut_begun whole text g kept es lines begun stays =
    ap (λ (ls : List (List Token)). record { lines = ls; unended = or_else g.unended (unended_line es) })
    (map-append (kept_line whole) (seen text g) _
    ∙ (λ i. lines i ++ map (kept_line whole) (lines_left (begun i) (present_tokens text g) g.space es))
    ∙ ap (λ (ls : List (List Token)). seen text g ++ ls) (joined whole kept es (present_tokens text g) g.space stays))

-- the file from the first token of a line of text on
text_begun : (whole : Bool) (text : List ℕ) (g : Gathering) (k : Kind) (cells : List Cell) (es : List Element) → Outlined whole text g → begins_line g.before ≡ true
    → spells_hash (bytes cells) ≡ false
    → kept_alone whole (file_with text g (record { part = token k; cells = cells } ∷ es)) ≡ kept_so whole text g [] (text_file es)
unfolding lines_left unended_line
text_begun whole text g k cells es o first other =
    let t : Token = record { kind = k; text = bytes cells; line = line_of cells; space = g.space } in
    ap (λ (ls : List (List Token)). record { lines = ls; unended = or_else g.unended (unended_line es) })
    (map-append (kept_line whole) (seen text g) _
    ∙ (λ i. o.lines i ++ map (kept_line whole) (lines_left true (o.none first i ++ (t ∷ [])) false es))
    ∙ ap (λ (ls : List (List Token)). seen text g ++ ls)
    (joined whole [] es (t ∷ []) false (λ more. ap (λ (b : Bool). cond b (cond whole (t ∷ more) (asking_part (t ∷ more))) []) other)))

-- on a line that begins there are no words
begun_stays : (before : Before) (ws : List (List ℕ)) → begins_line before ≡ false → begins_line (after_words before ws) ≡ false
unfolding after_words
begun_stays before [] h = h
begun_stays before (w ∷ ws) h = begun_stays (after_word before w) ws (after_begun before w)

pub no_words : (ws : List (List ℕ)) → begins_line (after_words Nothing ws) ≡ true → ws ≡ []
unfolding after_words
no_words [] h = refl
no_words (w ∷ ws) h = absurd (let e : true ≡ false = sym h ∙ begun_stays (after_word Nothing w) ws (after_begun Nothing w) in cc)

or_assoc : (a b c : Option ℕ) → or_else (or_else a b) c ≡ or_else a (or_else b c)
or_assoc None b c = refl
or_assoc (Some x) b c = refl

-- the line has ended, and so much is kept of it
pub record EndsSo (text : List ℕ) (old new : Gathering) (kept : List Token) (unended : Option ℕ) : Type 0 where
  pub lines : seen_lines text new.places.items 0 new.ends.items ≡ seen_lines text old.places.items 0 old.ends.items ++ (kept ∷ [])
  pub present : present_tokens text new ≡ []
  pub first : new.unended ≡ or_else old.unended unended
  pub before : new.before ≡ Nothing
  pub begun : new.begun ≡ false
  pub space : new.space ≡ true
  pub gathered : IsGathered text new

-- what was gathered of it
pub ends_so : (text : List ℕ) (old new : Gathering) (unended : Option ℕ) → IsGathered text old → EndsTextLine old new unended → EndsSo text old new (present_tokens text old) unended
ends_so text old new unended g e = record {
  lines = rw (e.places, e.ends) (line_more text old.places.items 0 old.ends.items g.ascends);
  present = rw (e.places, e.ends) (rw (last_of_more 0 old.ends.items (length old.places.items), all_dropped old.places.items) refl);
  first = e.first;
  before = e.before;
  begun = e.begun;
  space = e.space;
  gathered = record { ascends = rw (e.places, e.ends) (ascends_line 0 old.ends.items (length old.places.items) g.ascends); within = rw e.places g.within };
}

-- or nothing
pub dropped_so : (text : List ℕ) (old mid new : Gathering) (unended : Option ℕ) → IsGathered text old → DropsLine old mid → EndsTextLine mid new unended → EndsSo text old new [] unended
dropped_so text old mid new unended g d e =
    let places = old.places.items in
    let k = last_end 0 old.ends.items in
    let last = ascends_last 0 old.ends.items (length places) g.ascends in
    let size : length (take k places) ≡ k = length-take-le k places last.1 in
    let ascends : Ascends 0 old.ends.items (length (take k places)) = subst (Ascends 0 old.ends.items) (sym size) (ascends_own 0 old.ends.items (length places) g.ascends) in
    let mid_gathered : IsGathered text mid = record {
      ascends = rw (d.places, d.ends) ascends;
      within = rw d.places (within_front text (take k places) (drop k places) (subst (EachWithin text) (sym (take-append-drop k places)) g.within));
    } in
    let so = ends_so text mid new unended mid_gathered e in
    let none : present_tokens text mid ≡ [] = rw (d.places, d.ends) (ap (map (token_of_place text)) (none_left k places)) in
    let same : seen text mid ≡ seen text old =
    rw (d.places, d.ends) (sym (ap (λ ps. seen_lines text ps 0 old.ends.items) (sym (take-append-drop k places)) ∙ same_lines_all text (take k places) (drop k places) 0 old.ends.items ascends)) in
    record {
      lines = so.lines ∙ (λ i. same i ++ (none i ∷ []));
      present = so.present;
      first = so.first ∙ ap (λ o. or_else o unended) d.unended;
      before = so.before;
      begun = so.begun;
      space = so.space;
      gathered = so.gathered;
    }

pub dropped_few : (old mid new : Gathering) (unended : Option ℕ) → DropsLine old mid → EndsTextLine mid new unended → length new.places.items ≤ length old.places.items
dropped_few old mid new unended d e =
    let places = old.places.items in
    let k = last_end 0 old.ends.items in
    omega (arith, ap length e.places, ap length d.places, length-append (take k places) (drop k places), ap length (take-append-drop k places))

-- the file from the end of the line on
pub line_behind : (whole : Bool) (text : List ℕ) (old new : Gathering) (kept : List Token) (unended : Option ℕ) (es : List Element) → map (kept_line whole) (seen text old) ≡ seen text old
    → kept_line whole kept ≡ kept → EndsSo text old new kept unended → kept_alone whole (file_with text new es) ≡ kept_so whole text old kept (file_behind unended es)
line_behind whole text old new kept unended es lines same e =
    let one : List (List Token) = kept ∷ [] in
    let others = map (kept_line whole) (lines_left false [] true es) in
    (λ i. record {
      lines = map (kept_line whole) (e.lines i ++ lines_left (e.begun i) (e.present i) (e.space i) es);
      unended = or_else (e.first i) (unended_line es);
    })
    ∙ (λ i. record {
      lines = map-append (kept_line whole) (seen text old ++ one) (lines_left false [] true es) i;
      unended = or_assoc old.unended unended (unended_line es) i;
    })
    ∙ ap (λ (ls : List (List Token)). record { lines = ls ++ others; unended = or_else old.unended (or_else unended (unended_line es)) })
    (line_kept whole (seen text old) kept lines same)
    ∙ ap (λ (ls : List (List Token)). record { lines = ls; unended = or_else old.unended (or_else unended (unended_line es)) })
    (append_assoc (seen text old) one others)

line_outlined : (whole : Bool) (text : List ℕ) (old new : Gathering) (kept : List Token) (unended : Option ℕ) → map (kept_line whole) (seen text old) ≡ seen text old
    → kept_line whole kept ≡ kept → EndsSo text old new kept unended → IsGathered text new × Outlined whole text new
line_outlined whole text old new kept unended lines same e = (
  e.gathered,
  record {
    lines = ap (map (kept_line whole)) e.lines ∙ line_kept whole (seen text old) kept lines same ∙ sym e.lines;
    none = λ h. e.present;
    hash = λ h. absurd (let wrong : false ≡ true = sym (ap begins_name e.before) ∙ h in cc);
    more = λ h named. absurd (let wrong : true ≡ false = sym (ap begins_line e.before) ∙ h in cc);
  },
)

pub text_outlined : (whole : Bool) (text : List ℕ) (old new : Gathering) (unended : Option ℕ) → IsGathered text old → Outlined whole text old → EndsTextLine old new unended
    → IsGathered text new × Outlined whole text new
text_outlined whole text old new unended g o e =
    line_outlined whole text old new (present_tokens text old) unended o.lines (present_kept whole text old o) (ends_so text old new unended g e)

-- the elements of a line of text may be replaced by what is behind it, once it has ended
text_replaced : (whole : Bool) (text : List ℕ) (old new : Gathering) (k : Kind) (cells : List Cell) (es others : List Element) (unended : Option ℕ) → IsGathered text old
    → Outlined whole text old → begins_line old.before ≡ true → spells_hash (bytes cells) ≡ false → text_file es ≡ file_behind unended others → EndsTextLine old new unended
    → kept_alone whole (file_with text old (record { part = token k; cells = cells } ∷ es)) ≡ kept_alone whole (file_with text new others)
text_replaced whole text old new k cells es others unended g o first other left e =
    text_begun whole text old k cells es o first other
    ∙ ap (kept_so whole text old []) left
    ∙ ap (λ (ts : List Token). kept_so whole text old ts (file_behind unended others)) (sym (o.none first))
    ∙ sym (line_behind whole text old new (present_tokens text old) unended others o.lines (present_kept whole text old o) (ends_so text old new unended g e))

-- what is left of a line from a place on has its end there
abbrev pub Leads : (text splices : List ℕ) (at base : ℕ) → LineEnd → Type 0
Leads text splices at base end = text_left (lined splices at base (drop at text)) ≡ file_behind end.comment (elements zero [] (lined splices end.at end.base (drop end.at text)))

-- a line of text from its first token on
pub text_step : (whole : Bool) (text splices : List ℕ) (old new : Gathering) (at base n : ℕ) (k : Kind) (end : LineEnd) → LexState (kept_alone whole) text splices old at base
    → IsGathered text old → Outlined whole text old → at < length text → ◌≡◌ {A = Part × ℕ} (token k, n) (first_part (is_due old.before) (drop at text))
    → begins_text old.before (token k) (take n (drop at text)) ≡ true → Leads text splices (at + n) base end → EndsTextLine old new end.comment
    → LexState (kept_alone whole) text splices new end.at end.base
unfolding after_words after_word words_after
text_step whole text splices old new at base n k end state g o below is begins leads e =
    let xs = drop at text in
    let some : 0 < length xs = omega (arith, length-drop at text) in
    let moves : 0 < n = (first_within (is_due old.before) xs (token k) n some is).0 in
    let begun = and_parts (begins_line old.before) (not (spells_hash (take n xs))) begins in
    let other : spells_hash (take n xs) ≡ false = not-true (spells_hash (take n xs)) begun.1 in
    let words : state.words ≡ [] = no_words state.words (ap begins_line state.seen ∙ begun.0) in
    let due : header_due state.words ≡ is_due old.before = due_is state.words ∙ ap is_due state.seen in
    let all = lined splices at base xs in
    let cells = take n all in
    let spelling : bytes cells ≡ take n xs = cut_bytes n splices at base xs in
    let none : newlines (take n xs) ≡ 0 = short_newlines (token k) (take n xs) refl (first_is_part (is_due old.before) xs (token k) n some is) in
    let same : base + newlines (take n xs) ≡ base = omega (arith, none) in
    let behind : drop n all ≡ lined splices (at + n) base (drop (at + n) text) =
    lined_past n splices at base xs ∙ (λ i. lined splices (at + n) (same i) (drop-drop n at text i)) in
    let first = part_first state.words (is_due old.before) splices at base n (token k) xs some due (sym is) moves in
    let es = elements zero (state.words ++ (bytes cells ∷ [])) (drop n all) in
    let left : text_file es ≡ file_behind end.comment (elements zero [] (lined splices end.at end.base (drop end.at text))) =
    (λ i. text_file (elements zero (words i ++ (spelling i ∷ [])) (behind i)))
    ∙ same_left (lined splices (at + n) base (drop (at + n) text)) (take n xs ∷ []) (ap (λ t. cond t Hash Other) other)
    ∙ leads in
    record {
      words = [];
      seen = sym e.before;
      file = state.file
          ∙ ap (λ es. kept_alone whole (file_with text old es)) first
          ∙ text_replaced whole text old new k cells es (elements zero [] (lined splices end.at end.base (drop end.at text))) end.comment g o begun.0 (ap spells_hash spelling ∙ other) left e;
    }

-- A DIRECTIVE THAT ASKS FOR NO FILE

-- nothing of the present line is kept
pub record IsCut (whole : Bool) (text : List ℕ) (g : Gathering) : Type 0 where
  pub lines : map (kept_line whole) (seen_lines text g.places.items 0 g.ends.items) ≡ seen_lines text g.places.items 0 g.ends.items
  pub begun : g.begun ≡ true
  pub other : g.before ≡ Other
  pub stays : Stays whole (present_tokens text g) []

-- `#` alone isn't enough to tell it
name_still : (before after : Before) → after ≡ before → begins_name before ≡ true → asks_nothing after ≡ true → ⊥
name_still before after same named nothing =
    let wrong : false ≡ true = ap asks_nothing (sym (same ∙ is_hash_only before named)) ∙ nothing in cc

cut_part : (text spelling : List ℕ) (old new : Gathering) (part : Part) (line : ℕ) → Outlined false text old → Gathers text old new part spelling line
    → begins_name old.before ≡ true → asks_nothing new.before ≡ true → may_tell spelling ≡ false → IsCut false text new
unfolding after_word
cut_part text spelling old new newline line o step named nothing idle = absurd (let wrong : false ≡ true = ap asks_nothing (sym step.before) ∙ nothing in cc)
cut_part text spelling old new white line o step named nothing idle = absurd (name_still old.before new.before step.before named nothing)
cut_part text spelling old new comment line o step named nothing idle = absurd (name_still old.before new.before step.before named nothing)
cut_part text spelling old new open_comment line o step named nothing idle = absurd (name_still old.before new.before step.before named nothing)
cut_part text spelling old new (token k) line o step named nothing idle =
    let t : Token = record { kind = k; text = spelling; line = line; space = old.space } in
    let h = o.hash named in
    let present : present_tokens text new ≡ h.0 ∷ t ∷ [] = step.present ∙ ap (λ (ts : List Token). ts ++ (t ∷ [])) h.1 in
    record {
      lines = ap (map (kept_line false)) step.lines ∙ o.lines ∙ sym step.lines;
      begun = step.begun;
      other = is_other_only new.before nothing;
      stays = λ more.
          (λ i. kept_line false (present i ++ more)) ∙ (λ i. cond (h.2 i) (cond (idle i) (h.0 ∷ t ∷ more) []) []);
    }

pub cut_named : (whole : Bool) (text spelling : List ℕ) (old new : Gathering) (part : Part) (line : ℕ) → Outlined whole text old → Gathers text old new part spelling line
    → is_cut whole old.before new.before spelling ≡ true → IsCut whole text new
cut_named true text spelling old new part line o step cut = absurd (cc)
cut_named false text spelling old new part line o step cut =
    let both = and_parts (begins_name old.before) (asks_nothing new.before && not (may_tell spelling)) cut in
    let idle = and_parts (asks_nothing new.before) (not (may_tell spelling)) both.1 in
    cut_part text spelling old new part line o step both.0 idle.0 (not-true (may_tell spelling) idle.1)

-- the rest of its line is passed over
pub cut_step : (whole : Bool) (text splices : List ℕ) (old new : Gathering) (at base : ℕ) (end : LineEnd) → LexState (kept_alone whole) text splices old at base
    → IsCut whole text old → EndsText text splices at base end → EndsSo text old new [] end.comment
    → LexState (kept_alone whole) text splices new end.at end.base × (IsGathered text new × Outlined whole text new)
unfolding after_words
cut_step whole text splices old new at base end state cut ended e =
    let cells = lined splices at base (drop at text) in
    let left : text_file (elements zero state.words cells) ≡ file_behind end.comment (elements zero [] (lined splices end.at end.base (drop end.at text))) =
    same_left cells state.words (state.seen ∙ cut.other) ∙ ended.file in (
      record {
        words = [];
        seen = sym e.before;
        file = state.file
            ∙ cut_begun whole text old [] (elements zero state.words cells) cut.lines cut.begun cut.stays
            ∙ ap (kept_so whole text old []) left
            ∙ sym (line_behind whole text old new [] end.comment (elements zero [] (lined splices end.at end.base (drop end.at text))) cut.lines refl e);
      },
      line_outlined whole text old new [] end.comment cut.lines refl e,
    )

-- no header name is due where a line begins
pub starts_undue : (before : Before) → begins_line before ≡ true → is_due before ≡ false
starts_undue Nothing h = refl
starts_undue Hash h = absurd (cc)
starts_undue Include h = absurd (cc)
starts_undue Condition h = absurd (cc)
starts_undue Probe h = absurd (cc)
starts_undue Probed h = absurd (cc)
starts_undue Other h = absurd (cc)

-- no `#` begins a line of text
pub hash_no_text : (before : Before) (part : Part) (w : List ℕ) → spells_hash w ≡ true → begins_text before part w ≡ false
hash_no_text before part w h =
    ap (λ t. begins_line before && (is_token_part part && not t)) h ∙ ap (λ t. begins_line before && t) (and_no (is_token_part part)) ∙ and_no (begins_line before)

-- only a token begins a line of text
-- a newline is no token
pub newline_no_text : (before : Before) (w : List ℕ) → begins_text before newline w ≡ false
newline_no_text before w = and_none (begins_line before)
  where
    and_none : (b : Bool) → (b && false) ≡ false
    and_none true = refl
    and_none false = refl

pub is_a_token : (before : Before) (p : Part) (w : List ℕ) → begins_text before p w ≡ true → (k : Kind) × (p ≡ token k)
is_a_token before newline w h = absurd (let e : false ≡ true = (and_parts (begins_line before) false h).1 in cc)
is_a_token before white w h = absurd (let e : false ≡ true = (and_parts (begins_line before) false h).1 in cc)
is_a_token before comment w h = absurd (let e : false ≡ true = (and_parts (begins_line before) false h).1 in cc)
is_a_token before open_comment w h = absurd (let e : false ≡ true = (and_parts (begins_line before) false h).1 in cc)
is_a_token before (token k) w h = (k, refl)
