-- What is left of a file from a line on of which no token more is kept, part by part, and byte by byte where the bytes are ordinary.
use Rattle.std.specs.Prelude.{◌≡◌, ◌≢◌, ℕ, zero, suc, ◌+◌, ◌-◌, ◌≤◌, ◌<◌, true, false, List, [], ◌∷◌, ◌++◌, length, take, drop, take_while, None, Some, codes, refl}
use Rattle.std.specs.List.{list_all}
use Rattle.std.proofs.Common.{sym, ◌∙◌, ap, inl, inr, arith, subst, append_assoc, drop-drop, length-drop}
use Rattle.std.proofs.Math.Nat.{add-zero}
use Rattle.std.proofs.Math.Seq.{take-append_seam, drop-append_seam}
use Rattle.std.proofs.lemmas.List.{length-append, length-map, drop-map}
use Rattle.std.proofs.lemmas.Bool.{and_parts}
use Rattle.pp_tokens.specs.declared.due.Before.TheVariants.{Nothing, Other}
use Rattle.pp_tokens.specs.Phases.{Cell, bytes}
use Rattle.pp_tokens.specs.Lined.{lined, spliced_up_to}
use Rattle.pp_tokens.specs.declared.token.Kind.{Kind}
use Rattle.pp_tokens.specs.Lines.{Part, newline, white, comment, open_comment, token, LexedFile, header_due, words_after, line_of, unended_line, first_part, elements, Stands}
use Rattle.pp_tokens.specs.parts.Text.{after_word, is_due}
use Rattle.pp_tokens.specs.parts.Gathered.{newlines, lines_left, is_long}
use Rattle.pp_tokens.specs.parts.TextLines.{is_ordinary, lines_behind, text_file, text_left, file_behind}
use Rattle.pp_tokens.proofs.Reading.{Front, next_element, drop_one_more, first_stands, some_length}
use Rattle.pp_tokens.proofs.DueWords.{after_words, due_is, one_word_more}
use Rattle.pp_tokens.proofs.LinedRests.{lined_bytes, lined_past, cut_line}
use Rattle.pp_tokens.proofs.OneLine.{all_pass, none_counted, short_newlines}
use Rattle.pp_tokens.proofs.Closing.{run_front}
use Rattle.pp_tokens.proofs.SliceLemmas.{comment_at}
use Rattle.pp_tokens.proofs.OrdinaryParts.{GoesOn, part_goes_on}
use Rattle.pp_tokens.proofs.LexSteps.{first_within, part_at}

-- THE WORDS ON THE LINE

-- with these words a line asks for no file, whatever else stands on it
abbrev pub AskNothing : List (List ℕ) → Type 0
AskNothing ws = after_words Nothing ws ≡ Other

-- no header name is due there
none_due : (ws : List (List ℕ)) → AskNothing ws → header_due ws ≡ false
none_due ws none = due_is ws ∙ ap is_due none

one_more : (ws : List (List ℕ)) (w : List ℕ) → AskNothing ws → AskNothing (ws ++ (w ∷ []))
unfolding after_words after_word
one_more ws w none = one_word_more Nothing ws w ∙ ap (λ before. after_word before w) none

x_asks_nothing : AskNothing (codes "x" ∷ [])
unfolding after_words after_word
x_asks_nothing = refl

-- THE NEXT PART

-- what is left behind a part
abbrev pub left_behind : Part → ℕ → List Cell → LexedFile
left_behind newline line cells = file_behind None (elements zero [] cells)
left_behind white line cells = text_left cells
left_behind comment line cells = text_left cells
left_behind open_comment line cells = record { lines = (text_left cells).lines; unended = Some line }
left_behind (token k) line cells = text_left cells

-- whichever words stand on the line, the same is left
abbrev Same : List Cell → Type 0
Same cells = (ws : List (List ℕ)) → AskNothing ws → text_file (elements zero ws cells) ≡ text_left cells

behind_part : (p : Part) (ws : List (List ℕ)) (cells rest : List Cell) → AskNothing ws → Same rest
    → text_file (record { part = p; cells = cells } ∷ elements zero (words_after ws (record { part = p; cells = cells })) rest) ≡ left_behind p (line_of cells) rest
unfolding words_after lines_behind unended_line
behind_part newline ws cells rest none same = refl
behind_part white ws cells rest none same = same ws none
behind_part comment ws cells rest none same = same ws none
behind_part open_comment ws cells rest none same = ap (λ (f : LexedFile). record { lines = f.lines; unended = Some (line_of cells) }) (same ws none)
behind_part (token k) ws cells rest none same = same (ws ++ (bytes cells ∷ [])) (one_more ws (bytes cells) none)

next_part : (ws : List (List ℕ)) (c : Cell) (cs : List Cell) (p : Part) (n : ℕ) → AskNothing ws → first_part false (bytes (c ∷ cs)) ≡ (p, n) → Same (drop (n - 1) cs)
    → text_file (elements zero ws (c ∷ cs)) ≡ left_behind p (line_of (take n (c ∷ cs))) (drop (n - 1) cs)
next_part ws c cs p n none found same =
    let due : first_part (header_due ws) (bytes (c ∷ cs)) ≡ (p, n) = rw (none_due ws none) found in
    ap text_file (next_element ws c cs (p, n) due) ∙ behind_part p ws (take n (c ∷ cs)) (drop (n - 1) cs) none same

first_some : (c : Cell) (cs : List Cell) (p : Part) (n : ℕ) → first_part false (bytes (c ∷ cs)) ≡ (p, n) → 0 < n
first_some c cs p n found = (first_within false (bytes (c ∷ cs)) p n (omega arith) (sym found)).0

same_up_to : (m : ℕ) (cells : List Cell) → length cells ≤ m → Same cells
unfolding elements
same_up_to m [] h ws none = refl
same_up_to zero (c ∷ cs) h ws none = absurd (omega arith)
same_up_to (suc m) (c ∷ cs) h ws none =
    let f = first_part false (bytes (c ∷ cs)) in
    let behind : Same (drop (f.1 - 1) cs) = same_up_to m (drop (f.1 - 1) cs) (omega (arith, length-drop (f.1 - 1) cs)) in
    next_part ws c cs f.0 f.1 none refl behind ∙ sym (next_part (codes "x" ∷ []) c cs f.0 f.1 x_asks_nothing refl behind)

-- it doesn't matter which words stand on the line
pub same_left : (cells : List Cell) (ws : List (List ℕ)) → AskNothing ws → text_file (elements zero ws cells) ≡ text_left cells
same_left cells ws none = same_up_to (length cells) cells (omega arith) ws none

-- what is left behind the part that stands first
left_step : (cells : List Cell) (p : Part) (n : ℕ) → 0 < length cells → first_part false (bytes cells) ≡ (p, n) → text_left cells ≡ left_behind p (line_of (take n cells)) (drop n cells)
left_step [] p n some found = absurd (omega arith)
left_step (c ∷ cs) p n some found =
    next_part (codes "x" ∷ []) c cs p n x_asks_nothing found (λ ws none. same_left (drop (n - 1) cs) ws none)
    ∙ ap (left_behind p (line_of (take n (c ∷ cs)))) (sym (drop_one_more n c cs (first_some c cs p n found)))

short_behind : (p : Part) (line : ℕ) (cells : List Cell) → is_long p ≡ false → left_behind p line cells ≡ text_left cells
short_behind newline line cells h = absurd (cc)
short_behind white line cells h = refl
short_behind comment line cells h = absurd (cc)
short_behind open_comment line cells h = absurd (cc)
short_behind (token k) line cells h = refl

short_step : (cells : List Cell) (p : Part) (n : ℕ) → is_long p ≡ false → 0 < length cells → first_part false (bytes cells) ≡ (p, n) → text_left cells ≡ text_left (drop n cells)
short_step cells p n short some found = left_step cells p n some found ∙ short_behind p (line_of (take n cells)) (drop n cells) short

-- ORDINARY BYTES

-- an ordinary byte may be stepped over where this many cells are left
abbrev Skips : ℕ → Type 0
Skips m = (c : Cell) (cs : List Cell) → length cs < m → is_ordinary c.byte ≡ true → text_left (c ∷ cs) ≡ text_left cs

skip_some : (m k : ℕ) (cells : List Cell) → Skips m → length cells ≤ m → list_all is_ordinary (take k (bytes cells)) ≡ true → text_left cells ≡ text_left (drop k cells)
skip_some m zero cells skips h each = refl
skip_some m (suc k) [] skips h each = refl
skip_some m (suc k) (c ∷ cs) skips h each =
    let both = and_parts (is_ordinary c.byte) (list_all is_ordinary (take k (bytes cs))) each in
    skips c cs (omega arith) both.0 ∙ skip_some m k cs skips (omega arith) both.1

-- the part whose first byte is stepped over ends where reading on from the next byte comes by
ends_there : (m : ℕ) (cs : List Cell) (u rest : List ℕ) → Skips m → length cs ≤ m → bytes cs ≡ u ++ rest → GoesOn u rest → text_left cs ≡ text_left (drop (length u) cs)
ends_there m cs u rest skips h split (inl each) =
    skip_some m (length u) cs skips h (ap (λ (l : List ℕ). list_all is_ordinary (take (length u) l)) split ∙ ap (list_all is_ordinary) (take-append_seam u rest) ∙ each)
ends_there m cs u rest skips h split (inr q) =
    let all : bytes cs ≡ q.prefix ++ (q.quoted ++ rest) = split ∙ ap (λ (l : List ℕ). l ++ rest) q.split ∙ append_assoc q.prefix q.quoted rest in
    let behind = drop (length q.prefix) cs in
    let spelled : bytes behind ≡ q.quoted ++ rest =
    sym (drop-map (λ (d : Cell). d.byte) (length q.prefix) cs) ∙ ap (drop (length q.prefix)) all ∙ drop-append_seam q.prefix (q.quoted ++ rest) in
    let size : length behind ≡ length (q.quoted ++ rest) = sym (length-map behind (λ (d : Cell). d.byte)) ∙ ap length spelled in
    let some : 0 < length behind = omega (arith, size, length-append q.quoted rest, some_length q.quoted q.some) in
    let found : first_part false (bytes behind) ≡ (token q.kind, length q.quoted) = ap (first_part false) spelled ∙ q.found in
    let sum : length q.prefix + length q.quoted ≡ length u = sym (ap length q.split ∙ length-append q.prefix q.quoted) in
    skip_some m (length q.prefix) cs skips h
    (ap (λ (l : List ℕ). list_all is_ordinary (take (length q.prefix) l)) all ∙ ap (list_all is_ordinary) (take-append_seam q.prefix (q.quoted ++ rest)) ∙ q.each)
    ∙ short_step behind (token q.kind) (length q.quoted) refl some found
    ∙ ap text_left (drop-drop (length q.quoted) (length q.prefix) cs)
    ∙ ap (λ n. text_left (drop n cs)) sum

-- the front of a text that begins with this byte
record Behind (b : ℕ) (bs front rest : List ℕ) : Type 0 where
  more : List ℕ
  is : front ≡ b ∷ more
  split : bs ≡ more ++ rest

behind_first : (b : ℕ) (bs front rest : List ℕ) → front ≢ [] → b ∷ bs ≡ front ++ rest → Behind b bs front rest
behind_first b bs [] rest some e = absurd (some refl)
behind_first b bs (a ∷ u) rest some e =
    let first : b ≡ a = cc in
    let others : bs ≡ u ++ rest = cc in
    record { more = u; is = (λ i. sym first i ∷ u); split = others }

-- nothing but a token or white space begins with an ordinary byte
stands_on : (b : ℕ) (u rest : List ℕ) (p : Part) → is_ordinary b ≡ true → Stands false p (b ∷ u) rest → (is_long p ≡ false) × GoesOn u rest
stands_on b u rest p ordinary (inl (due, is, header)) = absurd (cc)
stands_on b u rest p ordinary (inr (none, is, longest)) = part_goes_on b u rest p ordinary is

skips_front : (m : ℕ) (c : Cell) (cs : List Cell) (p : Part) (n : ℕ) → Skips m → length cs ≤ m → is_ordinary c.byte ≡ true → first_part false (bytes (c ∷ cs)) ≡ (p, n)
    → Front false (bytes (c ∷ cs)) (p, n) → text_left (c ∷ cs) ≡ text_left cs
skips_front m c cs p n skips h ordinary found front =
    let b = behind_first c.byte (bytes cs) front.front front.rest front.some front.split in
    let part = stands_on c.byte b.more front.rest p ordinary (subst (λ (l : List ℕ). Stands false p l front.rest) b.is front.stands) in
    let size : n ≡ suc (length b.more) = front.size ∙ ap length b.is in
    short_step (c ∷ cs) p n part.0 (omega arith) found
    ∙ ap (λ k. text_left (drop k (c ∷ cs))) size
    ∙ sym (ends_there m cs b.more front.rest skips h b.split part.1)

skips_up_to : (m : ℕ) → Skips m
skips_up_to zero c cs h ordinary = absurd (omega arith)
skips_up_to (suc m) c cs h ordinary =
    let xs : List ℕ = bytes (c ∷ cs) in
    skips_front m c cs (first_part false xs).0 (first_part false xs).1 (skips_up_to m) (omega arith) ordinary refl (first_stands false xs (λ e. cc))

-- a run of ordinary bytes may be stepped over, wherever it begins and ends
run_skipped : (cells : List Cell) (k : ℕ) → list_all is_ordinary (take k (bytes cells)) ≡ true → text_left cells ≡ text_left (drop k cells)
run_skipped cells k each = skip_some (length cells) k cells (skips_up_to (length cells)) (omega arith) each

-- AT A PLACE OF A TEXT

pub run_left : (text splices : List ℕ) (at base k : ℕ) → k ≡ length (take_while is_ordinary (drop at text))
    → text_left (lined splices at base (drop at text)) ≡ text_left (lined splices (at + k) base (drop (at + k) text))
run_left text splices at base k is =
    let xs = drop at text in
    let each : list_all is_ordinary (take k xs) ≡ true = run_front is_ordinary xs k is in
    let none : newlines (take k xs) ≡ 0 = none_counted (take k xs) (all_pass is_ordinary (take k xs) refl each) in
    let same : base + newlines (take k xs) ≡ base = omega (arith, none) in
    run_skipped (lined splices at base xs) k (ap (λ (l : List ℕ). list_all is_ordinary (take k l)) (lined_bytes splices at base xs) ∙ each)
    ∙ ap text_left (lined_past k splices at base xs)
    ∙ (λ i. text_left (lined splices (at + k) (same i) (drop-drop k at text i)))

pub part_left : (text splices : List ℕ) (at base : ℕ) (p : Part) (n : ℕ) → at < length text → ◌≡◌ {A = Part × ℕ} (p, n) (first_part false (drop at text))
    → text_left (lined splices at base (drop at text))
    ≡ left_behind p (base + spliced_up_to splices at) (lined splices (at + n) (base + newlines (take n (drop at text))) (drop (at + n) text))
part_left text splices at base p n below is =
    let xs = drop at text in
    let all = lined splices at base xs in
    let here : 0 < length xs = omega (arith, length-drop at text) in
    let spelled : bytes all ≡ xs = lined_bytes splices at base xs in
    let size : length all ≡ length xs = sym (length-map all (λ (d : Cell). d.byte)) ∙ ap length spelled in
    let moves : 0 < n = (first_within false xs p n here is).0 in
    left_step all p n (omega (arith, here, size)) (ap (first_part false) spelled ∙ sym is)
    ∙ ap (λ l. left_behind p l (drop n all)) (cut_line n splices at base xs moves here)
    ∙ ap (left_behind p (base + spliced_up_to splices at))
    (lined_past n splices at base xs ∙ ap (lined splices (at + n) (base + newlines (take n xs))) (drop-drop n at text))

-- what is left behind a token is what is left from its front on
pub token_left : (text splices : List ℕ) (at base : ℕ) (k : Kind) (n : ℕ) → at < length text → ◌≡◌ {A = Part × ℕ} (token k, n) (first_part false (drop at text))
    → text_left (lined splices at base (drop at text)) ≡ text_left (lined splices (at + n) base (drop (at + n) text))
token_left text splices at base k n below is =
    let spelling = take n (drop at text) in
    let none : newlines spelling ≡ 0 = short_newlines (token k) spelling refl (part_at text at false (token k) n below is) in
    let same : base + newlines spelling ≡ base = omega (arith, none) in
    part_left text splices at base (token k) n below is ∙ ap (λ b. text_left (lined splices (at + n) b (drop (at + n) text))) same

-- nothing stands behind a comment that never ends
open_front : (xs : List ℕ) (n : ℕ) → Front false xs (open_comment, n) → n ≡ length xs
open_front xs n front =
    let none : front.rest ≡ [] = (comment_at false front.front front.rest front.some front.stands).1 in
    front.size ∙ sym (ap length front.split ∙ length-append front.front front.rest ∙ (λ i. length front.front + length (none i)) ∙ add-zero (length front.front))

pub open_is_rest : (xs : List ℕ) (n : ℕ) → 0 < length xs → ◌≡◌ {A = Part × ℕ} (open_comment, n) (first_part false xs) → n ≡ length xs
open_is_rest [] n some is = absurd (omega arith)
open_is_rest (b ∷ bs) n some is = open_front (b ∷ bs) n (subst (Front false (b ∷ bs)) (sym is) (first_stands false (b ∷ bs) (λ e. cc)))

-- AT THE END OF A TEXT

pub nothing_left : (splices : List ℕ) (at base : ℕ) (xs : List ℕ) → xs ≡ []
    → text_left (lined splices at base xs) ≡ file_behind None (elements zero [] (lined splices at base xs))
unfolding lined elements lines_behind lines_left unended_line
nothing_left splices at base [] none = refl
nothing_left splices at base (b ∷ bs) none = absurd (cc)

pub comment_left : (line : ℕ) (splices : List ℕ) (at base other : ℕ) (xs : List ℕ) → xs ≡ []
    → left_behind open_comment line (lined splices at base xs) ≡ file_behind (Some line) (elements zero [] (lined splices at other xs))
unfolding lined elements lines_behind lines_left unended_line
comment_left line splices at base other [] none = refl
comment_left line splices at base other (b ∷ bs) none = absurd (cc)
