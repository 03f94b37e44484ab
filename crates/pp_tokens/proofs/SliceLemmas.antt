-- The tokens of a text are slices of it, one behind the other, and a comment that never ends is the rest of it.
use Rattle.std.specs.Prelude.{◌≡◌, ◌≢◌, ℕ, ◌+◌, Bool, true, false, cond, not, ◌==◌, List, [], ◌∷◌, ◌++◌, map, length, drop, get_or, Option, Some, None, option_map, refl, All}
use Rattle.std.specs.List.{flat_map, AllByRecursion}
use Rattle.std.proofs.Common.{sym, ◌∙◌, ap, subst, append_assoc, inl, inr, arith}
use Rattle.std.proofs.lemmas.Bool.{eqb-true, and_parts}
use Rattle.std.proofs.lemmas.List.{append-nil, length-append}
use Rattle.std.proofs.lemmas.List.Elements.{All-from_recursion}
use Rattle.pp_tokens.specs.declared.token.Kind.{Kind}
use Rattle.pp_tokens.specs.declared.token.Kind.TheVariants.{Header}
use Rattle.pp_tokens.specs.declared.token.Token.{Token}
use Rattle.pp_tokens.specs.Phases.{Cell, bytes, source_text}
use Rattle.pp_tokens.specs.Lines.{Part, newline, white, comment, open_comment, token, Element, has_end, is_open_comment, part_of, header_due, words_after, Stands, Reads, cut_at_newlines, onto_first, line_of, line_tokens, unended_line, first_part, elements, lexed, file_of}
use Rattle.pp_tokens.specs.parts.Text.{comment_length}
use Rattle.pp_tokens.specs.Slices.{IsSliceOf, StandInOrder, EndsWithOpenComment, EachTokenIsSlice, TokensStandInOrder, OpenCommentIsRest}
use Rattle.pp_tokens.proofs.Reading.{stands_first, stands_some, reads_function}
use Rattle.pp_tokens.proofs.Comments.{block_closed, block_open}

-- MORE TEXT IN FRONT

abbrev slice_later : (front text : List Cell) (t : Token) → IsSliceOf text t → IsSliceOf (front ++ text) t
slice_later front text t s = record {
  before = front ++ s.before;
  first = s.first;
  others = s.others;
  after = s.after;
  stands = ap (λ (l : List Cell). front ++ l) s.stands ∙ sym (append_assoc front s.before (s.first ∷ (s.others ++ s.after)));
  spelling = s.spelling;
  line = s.line;
}

order_later : (front text : List Cell) (ts : List Token) → StandInOrder ts text → StandInOrder ts (front ++ text)
order_later front text [] h = tt
order_later front text (t ∷ ts) (s, order) = (slice_later front text t s, order)

comment_later : (front text : List Cell) (line : ℕ) → EndsWithOpenComment text line → EndsWithOpenComment (front ++ text) line
comment_later front text line e = record {
  before = front ++ e.before;
  first = e.first;
  others = e.others;
  stands = ap (λ (l : List Cell). front ++ l) e.stands ∙ sym (append_assoc front e.before (e.first ∷ e.others));
  never_ends = e.never_ends;
  begins = e.begins;
}

-- IN ORDER

abbrev all_of : List (List Token) → List Token
all_of = flat_map (λ (line : List Token). line)

-- all tokens of these lines, where white space may stand before the first
abbrev tokens_from : Bool → List (List Element) → List Token
tokens_from space [] = []
tokens_from space (l ∷ ls) = line_tokens space l ++ all_of (map (line_tokens true) ls)

from_start : (ls : List (List Element)) → tokens_from true ls ≡ all_of (map (line_tokens true) ls)
from_start [] = refl
from_start (l ∷ ls) = refl

abbrev element : Part → List Cell → Element
element p cells = record { part = p; cells = cells }

abbrev token_with : Kind → List Cell → Bool → Token
token_with k cells space = record { kind = k; text = bytes cells; line = line_of cells; space = space }

from_token : (k : Kind) (cells : List Cell) (space : Bool) (ls : List (List Element))
    → tokens_from space (onto_first (element (token k) cells) ls) ≡ token_with k cells space ∷ tokens_from false ls
unfolding line_tokens
from_token k cells space [] = refl
from_token k cells space (l ∷ ls) = refl

from_gap : (e : Element) (space : Bool) (ls : List (List Element)) → ((l : List Element) → line_tokens space (e ∷ l) ≡ line_tokens true l)
    → tokens_from space (onto_first e ls) ≡ tokens_from true ls
unfolding line_tokens
from_gap e space [] gap = ap (λ (l : List Token). l ++ []) (gap [])
from_gap e space (l ∷ ls) gap = ap (λ (ts : List Token). ts ++ all_of (map (line_tokens true) ls)) (gap l)

-- the token in front
front_slice : (k : Kind) (cells rest : List Cell) (space : Bool) (ts : List Token) → cells ≢ [] → StandInOrder ts rest → StandInOrder (token_with k cells space ∷ ts) (cells ++ rest)
front_slice k [] rest space ts some order = absurd (some refl)
front_slice k (c ∷ cs) rest space ts some order =
    let slice : IsSliceOf (c ∷ (cs ++ rest)) (token_with k (c ∷ cs) space) =
    record { before = []; first = c; others = cs; after = rest; stands = refl; spelling = refl; line = refl } in
    (slice, order)

order_step : (p : Part) (cells rest : List Cell) (es : List Element) (space : Bool) → cells ≢ [] → ((s : Bool) → StandInOrder (tokens_from s (cut_at_newlines es)) rest)
    → StandInOrder (tokens_from space (cut_at_newlines (element p cells ∷ es))) (cells ++ rest)
unfolding cut_at_newlines line_tokens
order_step newline cells rest es space some order =
    order_later cells rest (all_of (map (line_tokens true) (cut_at_newlines es))) (subst (λ ts. StandInOrder ts rest) (from_start (cut_at_newlines es)) (order true))
order_step (token k) cells rest es space some order =
    subst (λ ts. StandInOrder ts (cells ++ rest)) (sym (from_token k cells space (cut_at_newlines es)))
    (front_slice k cells rest space (tokens_from false (cut_at_newlines es)) some (order false))
order_step white cells rest es space some order =
    subst (λ ts. StandInOrder ts (cells ++ rest)) (sym (from_gap (element white cells) space (cut_at_newlines es) (λ l. refl)))
    (order_later cells rest (tokens_from true (cut_at_newlines es)) (order true))
order_step comment cells rest es space some order =
    subst (λ ts. StandInOrder ts (cells ++ rest)) (sym (from_gap (element comment cells) space (cut_at_newlines es) (λ l. refl)))
    (order_later cells rest (tokens_from true (cut_at_newlines es)) (order true))
order_step open_comment cells rest es space some order =
    subst (λ ts. StandInOrder ts (cells ++ rest)) (sym (from_gap (element open_comment cells) space (cut_at_newlines es) (λ l. refl)))
    (order_later cells rest (tokens_from true (cut_at_newlines es)) (order true))

-- what rightly stands somewhere has bytes
some_cells : (due : Bool) (p : Part) (cells rest : List Cell) → Stands due p (bytes cells) (bytes rest) → cells ≢ []
some_cells due p [] rest stands e = stands_some due p (bytes rest) stands
some_cells due p (c ∷ cs) rest stands e = cc

order_of : (words : List (List ℕ)) (es : List Element) (text : List Cell) → Reads words es text → (space : Bool) → StandInOrder (tokens_from space (cut_at_newlines es)) text
unfolding cut_at_newlines
order_of words [] text reads space = tt
order_of words (e ∷ es) text (rest, split, stands, reads) space =
    subst (λ (t : List Cell). StandInOrder (tokens_from space (cut_at_newlines (e ∷ es))) t) (sym split)
    (order_step e.part e.cells rest es space (some_cells (header_due words) e.part e.cells rest stands) (order_of (words_after words e) es rest reads))

pub tokens_in_order : (trigraphs : Bool) (body : List ℕ) → TokensStandInOrder trigraphs body
unfolding lexed file_of
tokens_in_order trigraphs body =
    let text = source_text trigraphs body in
    let es = elements 0 [] text in
    subst (λ ts. StandInOrder ts text) (from_start (cut_at_newlines es)) (order_of [] es text (reads_function [] text) true)

-- EACH TOKEN

each_later : (front text : List Cell) (ts : List Token) → AllByRecursion (IsSliceOf text) ts → AllByRecursion (IsSliceOf (front ++ text)) ts
each_later front text [] each = tt
each_later front text (t ∷ ts) (s, each) = (slice_later front text t s, each_later front text ts each)

-- what is behind a slice is the rest of the text
rest_of : (text : List Cell) (t : Token) (s : IsSliceOf text t) → text ≡ (s.before ++ (s.first ∷ s.others)) ++ s.after
rest_of text t s = s.stands ∙ sym (append_assoc s.before (s.first ∷ s.others) s.after)

each_of : (ts : List Token) (text : List Cell) → StandInOrder ts text → AllByRecursion (IsSliceOf text) ts
each_of [] text order = tt
each_of (t ∷ ts) text (s, order) =
    (s, subst (λ (l : List Cell). AllByRecursion (IsSliceOf l) ts) (sym (rest_of text t s)) (each_later (s.before ++ (s.first ∷ s.others)) s.after ts (each_of ts s.after order)))

module _ {X : Type 0} (P : X → Type 0) where
  -- what holds of all of two lists holds of each
  both_parts : (xs ys : List X) → AllByRecursion P (xs ++ ys) → AllByRecursion P xs × AllByRecursion P ys
  both_parts [] ys all = (tt, all)
  both_parts (x ∷ xs) ys (here, all) = let both = both_parts xs ys all in ((here, both.0), both.1)

  in_each_line : (lines : List (List X)) → AllByRecursion P (flat_map (λ (line : List X). line) lines) → AllByRecursion (All P) lines
  in_each_line [] all = tt
  in_each_line (l ∷ ls) all =
      let both = both_parts l (flat_map (λ (line : List X). line) ls) all in
      (All-from_recursion P l both.0, in_each_line ls both.1)

pub each_is_slice : (trigraphs : Bool) (body : List ℕ) → EachTokenIsSlice trigraphs body
each_is_slice trigraphs body =
    let text = source_text trigraphs body in
    let lines = (lexed trigraphs body).lines in
    All-from_recursion (All (IsSliceOf text)) lines
    (in_each_line (IsSliceOf text) lines (each_of (all_of lines) text (tokens_in_order trigraphs body)))

-- THE COMMENT THAT NEVER ENDS

-- a choice that is another thing went the other way
other_way : (t : Bool) (p : Part) (o : Option Part) → (p ≡ open_comment → ⊥) → cond t (Some p) o ≡ Some open_comment → o ≡ Some open_comment
other_way true p o apart h = absurd (let e : p ≡ open_comment = cc in apart e)
other_way false p o apart h = h

this_way : (t : Bool) (k : Option Kind) → cond t (Some open_comment) (option_map token k) ≡ Some open_comment → t ≡ true
this_way true k h = refl
this_way false None h = absurd (cc)
this_way false (Some k) h = absurd (cc)

open_is : (t : List ℕ) → part_of t ≡ Some open_comment → is_open_comment t ≡ true
unfolding part_of
open_is t h =
    let no_line : newline ≡ open_comment → ⊥ = λ e. cc in
    let no_white : white ≡ open_comment → ⊥ = λ e. cc in
    let no_comment : comment ≡ open_comment → ⊥ = λ e. cc in
    this_way _ _ (other_way _ comment _ no_comment (other_way _ white _ no_white (other_way _ newline _ no_line h)))

-- it begins with `/*`
begins_open : (t after : List ℕ) → is_open_comment t ≡ true → (get_or (t ++ after) 0 0 ≡ 47) × (get_or (t ++ after) 1 0 ≡ 42)
unfolding is_open_comment
begins_open [] after h = absurd (cc)
begins_open (a ∷ []) after h = absurd (cc)
begins_open (a ∷ b ∷ u) after h =
    let first = and_parts (a == 47) _ h in
    let second = and_parts (b == 42) (not (has_end u)) first.1 in
    (eqb-true a 47 first.0, eqb-true b 42 second.0)

no_bytes : (xs : List ℕ) → length xs ≡ 0 → xs ≡ []
no_bytes [] h = refl
no_bytes (x ∷ xs) h = absurd (omega arith)

-- nothing is behind it
none_behind : (t after : List ℕ) (o : Option ℕ) → get_or (t ++ after) 0 0 ≡ 47 → get_or (t ++ after) 1 0 ≡ 42
    → first_part false (t ++ after) ≡ (open_comment, length t) → comment_length (drop 2 (t ++ after)) ≡ o → after ≡ []
none_behind t after (Some n) slash star found is =
    let same : ◌≡◌ {A = Part × ℕ} (comment, n + 2) (open_comment, length t) = sym (block_closed (t ++ after) n slash star is) ∙ found in
    let parts : comment ≡ open_comment = ap (λ (f : Part × ℕ). f.0) same in
    absurd (cc)
none_behind t after None slash star found is =
    let same : length (t ++ after) ≡ length t = ap (λ (f : Part × ℕ). f.1) (sym (block_open (t ++ after) slash star is) ∙ found) in
    no_bytes after (omega (arith, length-append t after, same))

-- a comment that never ends, rightly read, with what is behind it
pub comment_at : (due : Bool) (t after : List ℕ) → t ≢ [] → Stands due open_comment t after → (is_open_comment t ≡ true) × (after ≡ [])
comment_at due t after some (inl (d, is, header)) = absurd (let e : open_comment ≡ token Header = is in cc)
comment_at due t after some (inr (d, is, longest)) =
    let never = open_is t is in
    let front = begins_open t after never in
    let found : first_part false (t ++ after) ≡ (open_comment, length t) =
    stands_first false open_comment t after some (inr (λ e. absurd (cc), is, longest)) in
    (never, none_behind t after (comment_length (drop 2 (t ++ after))) front.0 front.1 found refl)

front_comment : (due : Bool) (cells rest : List Cell) (line : ℕ) → Stands due open_comment (bytes cells) (bytes rest) → Some (line_of cells) ≡ Some line
    → EndsWithOpenComment (cells ++ rest) line
front_comment due [] rest line right h = absurd (stands_some due open_comment (bytes rest) right)
front_comment due (c ∷ cs) (d ∷ ds) line right h = absurd (let e : bytes (d ∷ ds) ≡ [] = (comment_at due (bytes (c ∷ cs)) (bytes (d ∷ ds)) (λ e. cc) right).1 in cc)
front_comment due (c ∷ cs) [] line right h = record {
  before = [];
  first = c;
  others = cs;
  stands = append-nil (c ∷ cs);
  never_ends = (comment_at due (bytes (c ∷ cs)) [] (λ e. cc) right).0;
  begins = (let e : c.line ≡ line = cc in sym e);
}

comment_step : (p : Part) (due : Bool) (cells rest : List Cell) (es : List Element) (line : ℕ) → Stands due p (bytes cells) (bytes rest)
    → (unended_line es ≡ Some line → EndsWithOpenComment rest line) → unended_line (element p cells ∷ es) ≡ Some line → EndsWithOpenComment (cells ++ rest) line
unfolding unended_line
comment_step open_comment due cells rest es line stands later h = front_comment due cells rest line stands h
comment_step newline due cells rest es line stands later h = comment_later cells rest line (later h)
comment_step white due cells rest es line stands later h = comment_later cells rest line (later h)
comment_step comment due cells rest es line stands later h = comment_later cells rest line (later h)
comment_step (token k) due cells rest es line stands later h = comment_later cells rest line (later h)

comment_of : (words : List (List ℕ)) (es : List Element) (text : List Cell) → Reads words es text → (line : ℕ) → unended_line es ≡ Some line → EndsWithOpenComment text line
unfolding unended_line
comment_of words [] text reads line h = absurd (cc)
comment_of words (e ∷ es) text (rest, split, stands, reads) line h =
    subst (λ (t : List Cell). EndsWithOpenComment t line) (sym split)
    (comment_step e.part (header_due words) e.cells rest es line stands (comment_of (words_after words e) es rest reads line) h)

pub comment_is_rest : (trigraphs : Bool) (body : List ℕ) → OpenCommentIsRest trigraphs body
unfolding lexed file_of
comment_is_rest trigraphs body =
    let text = source_text trigraphs body in
    comment_of [] (elements 0 [] text) text (reads_function [] text)
