-- Tokens that are laid out one by one, in the order of a list.
use Rattle.std.proofs.Common.{◌≡◌, refl, ℕ, ◌+◌, ◌≤◌, ◌<◌, List, [], ◌∷◌, ◌++◌, length, get_or, map, drop, append_assoc, length-append, add-one, suc, drop-cons, arith, sym, ◌∙◌, ap, append-nil, drop_of_length-le}
use Rattle.pp_tokens.specs.declared.Token.{Token}
use Rattle.cpp_output.specs.declared.last.Last.{Last}
use Rattle.cpp_output.specs.Layout.{put, gap, last_on_line, on_line}
use Rattle.cpp_output.specs.Laid.{Laid, after_event, after_events}
use Rattle.cpp_output.proofs.Growth.{longer-after}

-- the tokens from an index on are the one there and those behind it
from_here : (ts : List Token) (i : ℕ) (t : Token) → i < length ts → t ≡ get_or ts i t → drop i ts ≡ t ∷ drop (i + 1) ts
from_here ts i t below is = rw add-one (drop-cons ts i t below ∙ ap (λ u. u ∷ drop (suc i) ts) (sym is))

run_step : (ts : List Token) (i : ℕ) (t : Token) (s all : Laid) → i < length ts → t ≡ get_or ts i t
    → after_events s (map put (drop i ts)) ≡ all → after_events (after_event s (put t)) (map put (drop (i + 1) ts)) ≡ all
unfolding after_events
run_step ts i t s all below is invariant =
    ap (λ us. after_events s (map put us)) (sym (from_here ts i t below is)) ∙ invariant

-- one token more of a run, as a loop finds it: t is the token at the index, and seen is t with its spelling lent
pub run_turn : (ts : List Token) (i : ℕ) (t seen : Token) (s next all : Laid) → i < length ts → t ≡ get_or ts i t → seen ≡ t
    → next ≡ after_event s (put seen) → after_events s (map put (drop i ts)) ≡ all → after_events next (map put (drop (i + 1) ts)) ≡ all
run_turn ts i t seen s next all below is same grown invariant =
    ap (λ n. after_events n (map put (drop (i + 1) ts))) (grown ∙ ap (λ u. after_event s (put u)) same)
    ∙ run_step ts i t s all below is invariant

pub run_longer : (ts : List Token) (i : ℕ) (t seen : Token) (s all : Laid) → i < length ts → t ≡ get_or ts i t → seen ≡ t
    → after_events s (map put (drop i ts)) ≡ all → length (after_event s (put seen)).text ≤ length all.text
run_longer ts i t seen s all below is same invariant =
    omega (
      arith,
      ap (λ u. length (after_event s (put u)).text) same,
      longer-after (map put (drop (i + 1) ts)) (after_event s (put t)),
      ap (λ (l : Laid). length l.text) (run_step ts i t s all below is invariant),
    )

pub run_done : (ts : List Token) (i : ℕ) (s all : Laid) → length ts ≤ i → after_events s (map put (drop i ts)) ≡ all → s ≡ all
unfolding after_events
run_done ts i s all past invariant = ap (λ us. after_events s (map put us)) (sym (drop_of_length-le ts past)) ∙ invariant

-- the same, where the tokens that are left are a list of their own
pub left_turn : (before rest : List Token) (t : Token) (s next all : Laid) → before ≡ t ∷ rest → next ≡ after_event s (put t)
    → after_events s (map put before) ≡ all → after_events next (map put rest) ≡ all
unfolding after_events
left_turn before rest t s next all is grown invariant =
    ap (λ n. after_events n (map put rest)) grown ∙ ap (λ us. after_events s (map put us)) (sym is) ∙ invariant

pub left_longer : (before rest : List Token) (t : Token) (s all : Laid) → before ≡ t ∷ rest → after_events s (map put before) ≡ all
    → length (after_event s (put t)).text ≤ length all.text
left_longer before rest t s all is invariant =
    omega (
      arith,
      longer-after (map put rest) (after_event s (put t)),
      ap (λ (l : Laid). length l.text) (left_turn before rest t s (after_event s (put t)) all is refl invariant),
    )

pub left_done : (before : List Token) (s all : Laid) → before ≡ [] → after_events s (map put before) ≡ all → s ≡ all
unfolding after_events
left_done before s all none invariant = ap (λ us. after_events s (map put us)) (sym none) ∙ invariant

line_step : (ts : List Token) (i : ℕ) (t : Token) (text : List ℕ) (last : Last) (all : List ℕ) → i < length ts → t ≡ get_or ts i t
    → text ++ on_line last (drop i ts) ≡ all → (text ++ (gap last t ++ t.text)) ++ on_line (last_on_line t.text) (drop (i + 1) ts) ≡ all
unfolding on_line
line_step ts i t text last all below is invariant =
    let front = gap last t in
    let rest = on_line (last_on_line t.text) (drop (i + 1) ts) in
    append_assoc text (front ++ t.text) rest
    ∙ ap (λ xs. text ++ xs) (append_assoc front t.text rest)
    ∙ ap (λ us. text ++ on_line last us) (sym (from_here ts i t below is))
    ∙ invariant

-- an output behind one token more, on its present line
abbrev pub with_token : Laid → Token → Laid
with_token s t = record { text = s.text ++ (gap s.last t ++ t.text); at = s.at; last = last_on_line t.text }

-- one token more of a line, in the same way
pub line_turn : (ts : List Token) (i : ℕ) (t seen : Token) (s next : Laid) (all : List ℕ) → i < length ts → t ≡ get_or ts i t → seen ≡ t
    → next ≡ with_token s seen → s.text ++ on_line s.last (drop i ts) ≡ all → next.text ++ on_line next.last (drop (i + 1) ts) ≡ all
line_turn ts i t seen s next all below is same grown invariant =
    ap (λ (n : Laid). n.text ++ on_line n.last (drop (i + 1) ts)) (grown ∙ ap (with_token s) same)
    ∙ line_step ts i t s.text s.last all below is invariant

pub line_longer : (ts : List Token) (i : ℕ) (t seen : Token) (s : Laid) (all : List ℕ) → i < length ts → t ≡ get_or ts i t → seen ≡ t
    → s.text ++ on_line s.last (drop i ts) ≡ all → length (with_token s seen).text ≤ length all
line_longer ts i t seen s all below is same invariant =
    let rest = on_line (last_on_line t.text) (drop (i + 1) ts) in
    omega (
      arith,
      ap (λ u. length (with_token s u).text) same,
      ap length (line_step ts i t s.text s.last all below is invariant),
      length-append (with_token s t).text rest,
    )

pub line_done : (ts : List Token) (i : ℕ) (s : Laid) (all : List ℕ) → length ts ≤ i → s.text ++ on_line s.last (drop i ts) ≡ all → s.text ≡ all
unfolding on_line
line_done ts i s all past invariant =
    sym (append-nil s.text) ∙ ap (λ us. s.text ++ on_line s.last us) (sym (drop_of_length-le ts past)) ∙ invariant
