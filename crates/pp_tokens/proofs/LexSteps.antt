-- The lexer's steps: what is gathered of a text, and what is left of it.
use Rattle.std.specs.Prelude.{◌≡◌, ℕ, zero, suc, ◌+◌, ◌-◌, ◌≤◌, ◌<◌, Bool, true, false, cond, List, [], ◌∷◌, ◌++◌, length, take, drop, get_or, None, Some, Option, refl}
use Rattle.std.proofs.Common.{sym, ◌∙◌, ap, arith, subst, append_assoc, drop-drop, length-drop, inl, inr}
use Rattle.std.proofs.Math.Seq.{take-append_seam}
use Rattle.std.proofs.lemmas.List.{append-nil, length-append, drop_all, get_or-drop}
use Rattle.pp_tokens.specs.declared.token.Token.{Token}
use Rattle.pp_tokens.specs.declared.due.Before.{Before}
use Rattle.pp_tokens.specs.declared.due.Before.TheVariants.{Nothing}
use Rattle.pp_tokens.specs.declared.place.Place.{Place}
use Rattle.pp_tokens.specs.declared.lexer.Gathering.{Gathering}
use Rattle.pp_tokens.specs.Phases.{Cell, cell, bytes}
use Rattle.pp_tokens.specs.Lined.{lined, spliced_up_to}
use Rattle.pp_tokens.specs.Lines.{Part, newline, white, comment, open_comment, token, Element, header_due, words_after, line_of, unended_line, first_part, elements, file_of, or_else, Stands, LexedFile}
use Rattle.pp_tokens.specs.parts.Packed.{PlaceTold, place_told}
use Rattle.pp_tokens.specs.parts.Seen.{seen_lines, seen_file, last_end, Ascends, EachWithin}
use Rattle.pp_tokens.specs.Grammar.{is_white}
use Rattle.pp_tokens.specs.parts.Text.{after_word, is_due}
use Rattle.pp_tokens.specs.parts.Gathered.{newlines, lines_left, present_tokens, file_with, lines_with, present_with, before_with, begun_with, IsGathered, IsPart, GathersNothing, EndsLine, EndsLastLine, AddsToken, AddsGap, Gathers}
use Rattle.pp_tokens.proofs.Reading.{cut_off, next_element, drop_one_more, first_stands, some_length}
use Rattle.pp_tokens.proofs.LinedRests.{lined_bytes, lined_past, cut_bytes, cut_line}
use Rattle.pp_tokens.proofs.TextLemmas.{white_first, newline_first, due_or_not, opens_none}
use Rattle.pp_tokens.proofs.OneLine.{short_newlines}
use Rattle.pp_tokens.proofs.Joining.{lines_joined}
use Rattle.pp_tokens.proofs.Places.{ascends_last, ascends_more, ascends_line, last_of_more, within_more, all_dropped, same_lines, line_more, token_more}
use Rattle.pp_tokens.proofs.DueWords.{after_words, one_word_more, due_is}

-- WHAT STANDS FIRST

-- it isn't empty, and lies within the text
pub first_within : (due : Bool) (xs : List ℕ) (p : Part) (n : ℕ) → 0 < length xs → ◌≡◌ {A = Part × ℕ} (p, n) (first_part due xs) → (0 < n) × (n ≤ length xs)
first_within due [] p n some is = absurd (omega arith)
first_within due (b ∷ bs) p n some is =
    let front = first_stands due (b ∷ bs) (λ e. cc) in
    let size : n ≡ length front.front = ap (λ f. f.1) is ∙ front.size in
    (omega (arith, size, some_length front.front front.some), omega (arith, size, ap length front.split, length-append front.front front.rest))

-- it is a part as a whole, or a header name
pub first_is_part : (due : Bool) (xs : List ℕ) (p : Part) (n : ℕ) → 0 < length xs → ◌≡◌ {A = Part × ℕ} (p, n) (first_part due xs) → IsPart p (take n xs)
first_is_part due [] p n some is = absurd (omega arith)
first_is_part due (b ∷ bs) p n some found =
    let f = first_stands due (b ∷ bs) (λ e. cc) in
    let size : n ≡ length f.front = ap (λ g. g.1) found ∙ f.size in
    let front : take n (b ∷ bs) ≡ f.front = (λ i. take (size i) (f.split i)) ∙ take-append_seam f.front f.rest in
    let part : p ≡ (first_part due (b ∷ bs)).0 = ap (λ g. g.0) found in
    rw (front, part) (by_stand due (first_part due (b ∷ bs)).0 f.front f.rest f.stands)
  where
    by_stand : (due : Bool) (part : Part) (t after : List ℕ) → Stands due part t after → IsPart part t
    by_stand due part t after (inl (d, is, header)) = inr (is, header)
    by_stand due part t after (inr (none, is, longest)) = inl is

-- the same from a place of a text on
pub first_fits : (text : List ℕ) (at : ℕ) (due : Bool) (p : Part) (n : ℕ) → at < length text → ◌≡◌ {A = Part × ℕ} (p, n) (first_part due (drop at text))
    → (0 < n) × (at + n ≤ length text)
first_fits text at due p n below found =
    let is = first_within due (drop at text) p n (omega (arith, length-drop at text, below)) found in
    (is.0, omega (arith, is.1, length-drop at text, below))

pub part_at : (text : List ℕ) (at : ℕ) (due : Bool) (p : Part) (n : ℕ) → at < length text → ◌≡◌ {A = Part × ℕ} (p, n) (first_part due (drop at text))
    → IsPart p (take n (drop at text))
part_at text at due p n below found = first_is_part due (drop at text) p n (omega (arith, length-drop at text, below)) found

-- the first element of what is left, and the elements behind it
pub part_first : (words : List (List ℕ)) (due : Bool) (splices : List ℕ) (at line n : ℕ) (p : Part) (xs : List ℕ) → 0 < length xs → header_due words ≡ due
    → first_part due xs ≡ (p, n) → 0 < n
    → elements zero words (lined splices at line xs)
    ≡ cut_off (p, n) (lined splices at line xs) ∷ elements zero (words_after words (cut_off (p, n) (lined splices at line xs))) (drop n (lined splices at line xs))
unfolding lined
part_first words due splices at line n p [] some same is moves = absurd (omega arith)
part_first words due splices at line n p (b ∷ bs) some same is moves =
    let whole = lined splices at line (b ∷ bs) in
    let c = cell b (line + spliced_up_to splices at) in
    let cs = drop 1 whole in
    let text : bytes (c ∷ cs) ≡ b ∷ bs = lined_bytes splices at line (b ∷ bs) in
    let found : first_part (header_due words) (bytes (c ∷ cs)) ≡ (p, n) = rw (same, text) is in
    next_element words c cs (p, n) found
    ∙ ap (λ (r : List Cell). cut_off (p, n) (c ∷ cs) ∷ elements zero (words_after words (cut_off (p, n) (c ∷ cs))) r) (sym (drop_one_more n c cs moves))

-- ONE PART MORE IS GATHERED

abbrev element : Part → List Cell → Element
element p cs = record { part = p; cells = cs }

pub line_gathered : (text spelling : List ℕ) (line : ℕ) (old new : Gathering) → IsGathered text old → EndsLine old new → Gathers text old new newline spelling line
unfolding lines_left unended_line
line_gathered text spelling line old new g e =
    let places = old.places.items in
    let ends = old.ends.items in
    let ended : List ℕ = ends ++ (length places ∷ []) in
    record {
      gathered = record { ascends = rw (e.places, e.ends) (ascends_line 0 ends (length places) g.ascends); within = rw e.places g.within };
      few = rw e.places (omega arith);
      before = e.before;
      begun = e.begun;
      lines = rw (e.places, e.ends) (line_more text places 0 ends g.ascends);
      present = rw (e.places, e.ends) (rw (last_of_more 0 ends (length places), all_dropped places) refl);
      file = λ cells es same is.
          (let none : drop (last_end 0 ended) places ≡ [] = rw (last_of_more 0 ends (length places)) (all_dropped places) in
          rw (e.places, e.ends, e.unended, e.begun, e.space, line_more text places 0 ends g.ascends, none)
          (ap (λ (ls : List (List Token)). record { lines = ls; unended = or_else old.unended (unended_line es) })
          (append_assoc (seen_lines text places 0 ends) (present_tokens text old ∷ []) (lines_left false [] true es))));
    }

token_gathered : (text : List ℕ) (place : Place) (old new : Gathering) → IsGathered text old → (place_told place).start + (place_told place).length ≤ length text
    → (place_told place).space ≡ old.space
    → AddsToken old new place (take (place_told place).length (drop (place_told place).start text))
    → Gathers text old new (token (place_told place).kind) (take (place_told place).length (drop (place_told place).start text)) (place_told place).line
unfolding lines_left unended_line
token_gathered text place old new g fits spaced e =
    let places = old.places.items in
    let ends = old.ends.items in
    let last = ascends_last 0 ends (length places) g.ascends in
    let longer : length places ≤ length (places ++ (place ∷ [])) = omega (arith, length-append places (place ∷ [])) in
    record {
      gathered = record {
        ascends = rw (e.places, e.ends) (ascends_more 0 ends (length places) (length (places ++ (place ∷ []))) longer g.ascends);
        within = rw e.places (within_more text places place g.within fits);
      };
      few = rw e.places (omega (arith, length-append places (place ∷ [])));
      before = e.before;
      begun = e.begun;
      lines = rw (e.places, e.ends) (same_lines text places place 0 ends g.ascends);
      present = rw (e.places, e.ends) (token_more text places place (last_end 0 ends) last.1)
          ∙ ap (λ (t : Bool). present_tokens text old ++ (record { kind = (place_told place).kind; text = take (place_told place).length (drop (place_told place).start text); line = (place_told place).line; space = t } ∷ [])) spaced;
      file = λ cells es same is.
          rw (e.places, e.ends, e.unended, e.begun, e.space, same_lines text places place 0 ends g.ascends, token_more text places place (last_end 0 ends) last.1)
          (λ i. record {
            lines = seen_lines text places 0 ends
                ++ lines_left true (present_tokens text old ++ (record { kind = (place_told place).kind; text = sym same i; line = sym is i; space = spaced i } ∷ [])) false es;
            unended = or_else old.unended (unended_line es);
          });
    }

-- the same of what the place tells
pub token_placed : (text : List ℕ) (place : Place) (told : PlaceTold) (old new : Gathering) → place_told place ≡ told → IsGathered text old → told.start + told.length ≤ length text → told.space ≡ old.space
    → AddsToken old new place (take told.length (drop told.start text)) → Gathers text old new (token told.kind) (take told.length (drop told.start text)) told.line
token_placed text place told old new is =
    subst
    (λ (s : PlaceTold). IsGathered text old → s.start + s.length ≤ length text → s.space ≡ old.space
    → AddsToken old new place (take s.length (drop s.start text)) → Gathers text old new (token s.kind) (take s.length (drop s.start text)) s.line)
    is (token_gathered text place old new)

-- the line of the comment, where the part is one that never ends
abbrev IsGap : Part → Option ℕ → ℕ → Type 0
IsGap white o line = o ≡ None
IsGap comment o line = o ≡ None
IsGap open_comment o line = o ≡ Some line
IsGap newline o line = ⊥
IsGap (token k) o line = ⊥

none_first : (o p : Option ℕ) → or_else (or_else o None) p ≡ or_else o p
none_first None p = refl
none_first (Some x) p = refl

some_first : (o p : Option ℕ) (x : ℕ) → or_else (or_else o (Some x)) p ≡ or_else o (Some x)
some_first None p x = refl
some_first (Some y) p x = refl

gap_file : (text : List ℕ) (part : Part) (unended : Option ℕ) (line : ℕ) (old new : Gathering) → IsGap part unended line → AddsGap old new unended → (cells : List Cell) (es : List Element) → line_of cells ≡ line
    → file_with text new es ≡ file_with text old (element part cells ∷ es)
unfolding lines_left unended_line
gap_file text newline unended line old new gap e cells es is = absurd gap
gap_file text (token k) unended line old new gap e cells es is = absurd gap
gap_file text white unended line old new gap e cells es is =
    rw (e.places, e.ends, e.first, e.begun, e.space, gap, none_first old.unended (unended_line es)) refl
gap_file text comment unended line old new gap e cells es is =
    rw (e.places, e.ends, e.first, e.begun, e.space, gap, none_first old.unended (unended_line es)) refl
gap_file text open_comment unended line old new gap e cells es is =
    rw (e.places, e.ends, e.first, e.begun, e.space, gap, some_first old.unended (unended_line es) line, is) refl

gap_before : (part : Part) (unended : Option ℕ) (line : ℕ) (before : Before) (spelling : List ℕ) → IsGap part unended line → before ≡ before_with part before spelling
gap_before newline unended line before spelling gap = absurd gap
gap_before (token k) unended line before spelling gap = absurd gap
gap_before white unended line before spelling gap = refl
gap_before comment unended line before spelling gap = refl
gap_before open_comment unended line before spelling gap = refl

gap_begun : (part : Part) (unended : Option ℕ) (line : ℕ) → IsGap part unended line → true ≡ begun_with part
gap_begun newline unended line gap = absurd gap
gap_begun (token k) unended line gap = absurd gap
gap_begun white unended line gap = refl
gap_begun comment unended line gap = refl
gap_begun open_comment unended line gap = refl

gap_lines : (part : Part) (unended : Option ℕ) (line : ℕ) (ls : List (List Token)) (ts : List Token) → IsGap part unended line → ls ≡ lines_with part ls ts
gap_lines newline unended line ls ts gap = absurd gap
gap_lines (token k) unended line ls ts gap = absurd gap
gap_lines white unended line ls ts gap = refl
gap_lines comment unended line ls ts gap = refl
gap_lines open_comment unended line ls ts gap = refl

gap_present : (part : Part) (unended : Option ℕ) (line : ℕ) (ts : List Token) (spelling : List ℕ) (space : Bool) → IsGap part unended line → ts ≡ present_with part ts spelling line space
gap_present newline unended line ts spelling space gap = absurd gap
gap_present (token k) unended line ts spelling space gap = absurd gap
gap_present white unended line ts spelling space gap = refl
gap_present comment unended line ts spelling space gap = refl
gap_present open_comment unended line ts spelling space gap = refl

gap_gathered : (text spelling : List ℕ) (part : Part) (unended : Option ℕ) (line : ℕ) (old new : Gathering) → IsGap part unended line → IsGathered text old → AddsGap old new unended
    → Gathers text old new part spelling line
gap_gathered text spelling part unended line old new gap g e = record {
  gathered = record { ascends = rw (e.places, e.ends) g.ascends; within = rw e.places g.within };
  few = rw e.places (omega arith);
  before = e.before ∙ gap_before part unended line old.before spelling gap;
  begun = e.begun ∙ gap_begun part unended line gap;
  lines = rw (e.places, e.ends) (gap_lines part unended line (seen_lines text old.places.items 0 old.ends.items) (present_tokens text old) gap);
  present = rw (e.places, e.ends) (gap_present part unended line (present_tokens text old) spelling old.space gap);
  file = λ cells es same is. gap_file text part unended line old new gap e cells es is;
}

pub white_gathered : (text spelling : List ℕ) (line : ℕ) (old new : Gathering) → IsGathered text old → AddsGap old new None → Gathers text old new white spelling line
white_gathered text spelling line old new g e = gap_gathered text spelling white None line old new refl g e

pub comment_gathered : (text spelling : List ℕ) (line : ℕ) (old new : Gathering) → IsGathered text old → AddsGap old new None → Gathers text old new comment spelling line
comment_gathered text spelling line old new g e = gap_gathered text spelling comment None line old new refl g e

pub open_gathered : (text spelling : List ℕ) (line : ℕ) (old new : Gathering) → IsGathered text old → AddsGap old new (Some line) → Gathers text old new open_comment spelling line
open_gathered text spelling line old new g e = gap_gathered text spelling open_comment (Some line) line old new refl g e

-- THE WHOLE TEXT

-- at a place, where base is its line without the splices: what is gathered with what is left is the file, as far as is looked
-- at it
pub record LexState (view : LexedFile → LexedFile) (text splices : List ℕ) (g : Gathering) (at base : ℕ) : Type 0 where
  pub words : List (List ℕ)
  pub seen : after_words Nothing words ≡ g.before
  pub file : view (file_of (elements zero [] (lined splices 0 1 text))) ≡ view (file_with text g (elements zero words (lined splices at base (drop at text))))

pub nothing_gathered : (text : List ℕ) (g : Gathering) → GathersNothing g → IsGathered text g
unfolding Ascends EachWithin
nothing_gathered text g n = record { ascends = rw (n.places, n.ends) (omega arith); within = rw n.places tt }

pub lex_start : (view : LexedFile → LexedFile) (text splices : List ℕ) (g : Gathering) → GathersNothing g → LexState view text splices g 0 1
unfolding after_words file_of seen_lines last_end
lex_start view text splices g n =
    let es = elements zero [] (lined splices 0 1 text) in
    record {
      words = [];
      seen = sym n.before;
      file = rw (n.places, n.ends, n.unended, n.begun, n.space)
          (ap (λ (ls : List (List Token)). view (record { lines = ls; unended = unended_line es })) (lines_joined es));
    }

-- the words behind one part more, and what stands on the line
words_with : Part → List (List ℕ) → List ℕ → List (List ℕ)
words_with newline words spelling = []
words_with white words spelling = words
words_with comment words spelling = words
words_with open_comment words spelling = words
words_with (token k) words spelling = words ++ (spelling ∷ [])

words_are : (part : Part) (words : List (List ℕ)) (cells : List Cell) → words_after words (element part cells) ≡ words_with part words (bytes cells)
unfolding words_after words_with
words_are newline words cells = refl
words_are white words cells = refl
words_are comment words cells = refl
words_are open_comment words cells = refl
words_are (token k) words cells = refl

before_is : (part : Part) (words : List (List ℕ)) (spelling : List ℕ) (before : Before) → after_words Nothing words ≡ before → after_words Nothing (words_with part words spelling) ≡ before_with part before spelling
unfolding after_words words_with
before_is newline words spelling before h = refl
before_is white words spelling before h = h
before_is comment words spelling before h = h
before_is open_comment words spelling before h = h
before_is (token k) words spelling before h = one_word_more Nothing words spelling ∙ ap (λ b. after_word b spelling) h

pub lex_step : (view : LexedFile → LexedFile) (text splices : List ℕ) (old new : Gathering) (at base n : ℕ) (part : Part) → LexState view text splices old at base → at < length text
    → ◌≡◌ {A = Part × ℕ} (part, n) (first_part (is_due old.before) (drop at text))
    → Gathers text old new part (take n (drop at text)) (base + spliced_up_to splices at)
    → LexState view text splices new (at + n) (base + newlines (take n (drop at text)))
lex_step view text splices old new at base n part state below is step =
    let xs = drop at text in
    let some : 0 < length xs = omega (arith, length-drop at text) in
    let moves : 0 < n = (first_within (is_due old.before) xs part n some is).0 in
    let due : header_due state.words ≡ is_due old.before = due_is state.words ∙ ap is_due state.seen in
    let all = lined splices at base xs in
    let cells = take n all in
    let first = part_first state.words (is_due old.before) splices at base n part xs some due (sym is) moves in
    let spelling : bytes cells ≡ take n xs = cut_bytes n splices at base xs in
    let behind : drop n all ≡ lined splices (at + n) (base + newlines (take n xs)) (drop (at + n) text) =
    lined_past n splices at base xs ∙ ap (lined splices (at + n) (base + newlines (take n xs))) (drop-drop n at text) in
    let words : words_after state.words (element part cells) ≡ words_with part state.words (take n xs) =
    words_are part state.words cells ∙ ap (words_with part state.words) spelling in
    record {
      words = words_with part state.words (take n xs);
      seen = before_is part state.words (take n xs) old.before state.seen ∙ sym step.before;
      file = state.file ∙ ap (λ es. view (file_with text old es)) first
          ∙ ap view (sym (step.file cells (elements zero (words_after state.words (element part cells)) (drop n all)) spelling (cut_line n splices at base xs moves some)))
          ∙ (λ i. view (file_with text new (elements zero (words i) (behind i))));
    }

-- at the end the file is what was gathered
or_none : (o : Option ℕ) → or_else o None ≡ o
or_none None = refl
or_none (Some x) = refl

pub lex_end : (view : LexedFile → LexedFile) (text splices : List ℕ) (old new : Gathering) (at base : ℕ) → length text ≤ at → IsGathered text old → LexState view text splices old at base → EndsLastLine old new
    → (view (seen_file text new.places.items new.ends.items new.unended) ≡ view (file_of (elements zero [] (lined splices 0 1 text)))) × IsGathered text new
unfolding lines_left unended_line elements lined
lex_end view text splices old new at base past g state e =
    (sym (state.file ∙ ap view (gathered ∙ sym seen)), record { ascends = rw (e.places, e.ends) (ascends old.begun); within = rw e.places g.within })
  where
    places : List Place
    places = old.places.items

    ends : List ℕ
    ends = old.ends.items

    gathered : file_with text old (elements zero state.words (lined splices at base (drop at text))) ≡ file_with text old []
    gathered = ap (λ (r : List ℕ). file_with text old (elements zero state.words (lined splices at base r))) (drop_all at text past)

    ascends : (t : Bool) → Ascends 0 (cond t (ends ++ (length places ∷ [])) ends) (length places)
    ascends true = ascends_line 0 ends (length places) g.ascends
    ascends false = g.ascends

    lines : (t : Bool) → seen_lines text places 0 (cond t (ends ++ (length places ∷ [])) ends) ≡ seen_lines text places 0 ends ++ cond t (present_tokens text old ∷ []) []
    lines true = line_more text places 0 ends g.ascends
    lines false = sym (append-nil (seen_lines text places 0 ends))

    seen : seen_file text new.places.items new.ends.items new.unended ≡ file_with text old []
    seen = rw (e.places, e.ends, e.unended, lines old.begun, or_none old.unended) refl

-- A RUN OF WHITE SPACE

pub white_is : (text : List ℕ) (at : ℕ) (due : Bool) → at < length text → is_white (get_or text at 0) ≡ true → first_part due (drop at text) ≡ (white, 1)
white_is text at due below blank =
    let here : get_or (drop at text) 0 0 ≡ get_or text at 0 = get_or-drop at text 0 0 ∙ ap (λ i. get_or text i 0) (omega arith) in
    due_or_not text at due below (opens_none is_white (get_or text at 0) blank refl refl) ∙ white_first (drop at text) (ap is_white here ∙ blank)

one_white : (view : LexedFile → LexedFile) (text splices : List ℕ) (old new : Gathering) (at base : ℕ) → IsGathered text old → LexState view text splices old at base → at < length text
    → is_white (get_or text at 0) ≡ true → AddsGap old new None → LexState view text splices new (at + 1) base
one_white view text splices old new at base g state below blank e =
    let xs = drop at text in
    let is : ◌≡◌ {A = Part × ℕ} (white, 1) (first_part (is_due old.before) xs) = sym (white_is text at (is_due old.before) below blank) in
    let some : 0 < length xs = omega (arith, length-drop at text) in
    let none : newlines (take 1 xs) ≡ 0 = short_newlines white (take 1 xs) refl (first_is_part (is_due old.before) xs white 1 some is) in
    let same : base + newlines (take 1 xs) ≡ base = omega (arith, none) in
    let step = white_gathered text (take 1 xs) (base + spliced_up_to splices at) old new g e in
    subst (LexState view text splices new (at + 1)) same (lex_step view text splices old new at base 1 white state below is step)

-- each byte from a place on, up to so many, is white space
abbrev pub AreWhite : List ℕ → ℕ → ℕ → Type 0
AreWhite text at n = (k : ℕ) → k < n → (at + k < length text) × (is_white (get_or text (at + k) 0) ≡ true)

pub later_white : (text : List ℕ) (at n : ℕ) → AreWhite text at (suc n) → AreWhite text (at + 1) n
later_white text at n blank k less =
    let next : at + suc k ≡ at + 1 + k = omega arith in
    let here = blank (suc k) (omega (arith, less)) in
    (omega (arith, here.0), ap (λ i. is_white (get_or text i 0)) (sym next) ∙ here.1)

first_white : (view : LexedFile → LexedFile) (text splices : List ℕ) (old new : Gathering) (at base n : ℕ) → IsGathered text old → LexState view text splices old at base → AddsGap old new None → AreWhite text at (suc n)
    → LexState view text splices new (at + 1) base
first_white view text splices old new at base n g state e blank =
    let here = blank 0 (omega arith) in
    let still : at + 0 ≡ at = omega arith in
    one_white view text splices old new at base g state (omega (arith, here.0)) (ap (λ i. is_white (get_or text i 0)) (sym still) ∙ here.1) e

-- more white space behind a gap adds nothing
more_white : (view : LexedFile → LexedFile) (text splices : List ℕ) (g : Gathering) (at base n : ℕ) → IsGathered text g → LexState view text splices g at base → AddsGap g g None → AreWhite text at n → LexState view text splices g (at + n) base
more_white view text splices g at base zero is state e blank = (let same : at ≡ at + 0 = omega arith in subst (λ i. LexState view text splices g i base) same state)
more_white view text splices g at base (suc n) is state e blank =
    let same : at + 1 + n ≡ at + suc n = omega arith in
    subst (λ i. LexState view text splices g i base) same
    (more_white view text splices g (at + 1) base n is (first_white view text splices g g at base n is state e blank) e (later_white text at n blank))

-- a run of white space is one gap
white_run : (view : LexedFile → LexedFile) (text splices : List ℕ) (old new : Gathering) (at base n : ℕ) → IsGathered text old → LexState view text splices old at base → AddsGap old new None → 0 < n → AreWhite text at n
    → (LexState view text splices new (at + n) base) × IsGathered text new
white_run view text splices old new at base zero g state e some blank = absurd (omega (arith, some))
white_run view text splices old new at base (suc n) g state e some blank =
    let same : at + 1 + n ≡ at + suc n = omega arith in
    let gathered = (gap_gathered text [] white None 0 old new refl g e).gathered in (
      subst (λ i. LexState view text splices new i base) same
          (more_white view text splices new (at + 1) base n gathered (first_white view text splices old new at base n g state e blank) again (later_white text at n blank)),
      gathered,
    )
  where
    again : AddsGap new new None
    again = record { places = refl; ends = refl; first = sym (or_none new.unended); before = refl; begun = e.begun; space = e.space }

pub newline_is : (text : List ℕ) (at : ℕ) (due : Bool) → at < length text → get_or text at 0 ≡ 10 → first_part due (drop at text) ≡ (newline, 1)
newline_is text at due below is =
    let here : get_or (drop at text) 0 0 ≡ get_or text at 0 = get_or-drop at text 0 0 ∙ ap (λ i. get_or text i 0) (omega arith) in
    due_or_not text at due below (rw is refl) ∙ newline_first (drop at text) (here ∙ is)

pub one_newline : (xs : List ℕ) → 0 < length xs → get_or xs 0 0 ≡ 10 → newlines (take 1 xs) ≡ 1
one_newline [] some is = absurd (omega (arith, some))
one_newline (b ∷ bs) some is = rw is refl

-- a newline at a place
pub newline_at : (view : LexedFile → LexedFile) (text splices : List ℕ) (old new : Gathering) (at base : ℕ) → IsGathered text old → LexState view text splices old at base → EndsLine old new
    → at < length text → get_or text at 0 ≡ 10
    → LexState view text splices new (at + 1) (base + 1) × Gathers text old new newline (take 1 (drop at text)) (base + spliced_up_to splices at)
newline_at view text splices old new at base g state e below is =
    let xs = drop at text in
    let some : 0 < length xs = omega (arith, length-drop at text) in
    let here : get_or xs 0 0 ≡ get_or text at 0 = get_or-drop at text 0 0 ∙ ap (λ i. get_or text i 0) (omega arith) in
    let one : newlines (take 1 xs) ≡ 1 = one_newline xs some (here ∙ is) in
    let first : ◌≡◌ {A = Part × ℕ} (newline, 1) (first_part (is_due old.before) xs) = sym (newline_is text at (is_due old.before) below is) in
    let step = line_gathered text (take 1 xs) (base + spliced_up_to splices at) old new g e in
    (subst (λ m. LexState view text splices new (at + 1) (base + m)) one (lex_step view text splices old new at base 1 newline state below first step), step)

-- the same, up to a place behind
pub white_up_to : (view : LexedFile → LexedFile) (text splices : List ℕ) (old new : Gathering) (at base end : ℕ) → IsGathered text old → LexState view text splices old at base → AddsGap old new None
    → at < end → end ≤ length text → ((i : ℕ) → at ≤ i → i < end → is_white (get_or text i 0) ≡ true)
    → (LexState view text splices new end base) × IsGathered text new
white_up_to view text splices old new at base end g state e less within each =
    let n = end - at in
    let same : at + n ≡ end = omega (arith, less) in
    let blank : AreWhite text at n = λ k low. (omega (arith, low, less, within), each (at + k) (omega arith) (omega (arith, low, less))) in
    let run = white_run view text splices old new at base n g state e (omega (arith, less)) blank in
    (subst (λ i. LexState view text splices new i base) same run.0, run.1)
