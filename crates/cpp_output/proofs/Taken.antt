-- Tokens that are taken from an excerpt, one by one.
use Rattle.std.proofs.Common.{◌≡◌, refl, ℕ, ◌-◌, ◌≤◌, List, [], ◌∷◌, ◌++◌, Some, None, length, drop, slice_get, append_assoc, append-nil, length-append, nat_lt, arith, sym, ◌∙◌, ap, true, false}
use Rattle.std.proofs.lemmas.Bool.{le-ltb, lt-ltb}
use Rattle.base_types.specs.Ascii as ascii
use Rattle.pp_tokens.specs.declared.Token.{Token}
use Rattle.pp_tokens.specs.Excerpts.{Excerpted, TakesBehind, TakesAlone}
use Rattle.cpp_output.specs.Layout.{put, gap, newlines_between, last_at, written, line_after, last_after}
use Rattle.cpp_output.specs.Laid.{Laid, after_event}
use Rattle.cpp_output.specs.Excerpts.{before_token, behind_token, with_excerpt, TakesNext}

put_is : (s : Laid) (e : Excerpted) (t : Token) → after_event (with_excerpt s e) (put t) ≡ behind_token ((s.text ++ e.taken) ++ (before_token s t ++ t.text)) s t
unfolding after_event written line_after last_after
put_is s e t = ap (λ (l : List ℕ). behind_token ((s.text ++ e.taken) ++ l) s t) (sym (append_assoc (newlines_between s.at t.line) (gap (last_at s.at s.last t.line) t) t.text))

first_is : (rest later : List Token) (t u : Token) → slice_get rest 0 ≡ Some t → rest ≡ u ∷ later → u ≡ t
first_is rest later t u found is = let e : Some u ≡ Some t = sym (ap (λ (ts : List Token). slice_get ts 0) is) ∙ found in cc

-- the next token goes on with an excerpt where what stands between them in the file is what stands there in the output
pub takes : (s u : Laid) (e f : Excerpted) (t : Token) (between : List ℕ) → slice_get e.rest 0 ≡ Some t → TakesBehind between e f
    → u ≡ behind_token s.text s t → between ≡ before_token s t → TakesNext s e u f t
takes s u e f t between found (v, (is, taken)) after same =
    let first : v ≡ t = first_is e.rest f.rest t v found is in (
      ap (λ (l : Laid). with_excerpt l f) after
          ∙ ap (λ (l : List ℕ). behind_token (s.text ++ l) s t) taken
          ∙ ap (λ (w : Token). behind_token (s.text ++ (e.taken ++ (between ++ w.text))) s t) first
          ∙ ap (λ (l : List ℕ). behind_token l s t) (sym (append_assoc s.text e.taken (between ++ t.text)))
          ∙ ap (λ (l : List ℕ). behind_token ((s.text ++ e.taken) ++ (l ++ t.text)) s t) same
          ∙ sym (put_is s e t),
      is ∙ ap (λ (w : Token). w ∷ f.rest) first,
    )

-- on the same output line, and on the next
pub same_line : (s : Laid) (t : Token) → t.line ≤ s.at → before_token s t ≡ gap s.last t
same_line s t early =
    let none : t.line - s.at ≡ 0 = omega (arith, early) in
    let same : nat_lt s.at t.line ≡ false = le-ltb s.at t.line early in
    rw (none, same) refl

pub next_line : (s : Laid) (t : Token) → t.line - s.at ≡ 1 → before_token s t ≡ ascii.newline ∷ []
unfolding gap
next_line s t next =
    let later : nat_lt s.at t.line ≡ true = lt-ltb s.at t.line (omega (arith, next)) in
    rw (next, later) refl

-- an excerpt is written with what stands before the next token, with which a new one begins
pub begins : (s u : Laid) (e f : Excerpted) (t : Token) → slice_get e.rest 0 ≡ Some t → TakesAlone e f
    → u ≡ behind_token (s.text ++ (e.taken ++ before_token s t)) s t → TakesNext s e u f t
begins s u e f t found alone after = from e.rest refl
  where
    from : (rest : List Token) → e.rest ≡ rest → TakesNext s e u f t
    from [] none = absurd (let e : None ≡ Some t = sym (ap (λ (ts : List Token). slice_get ts 0) none) ∙ found in cc)
    from (v ∷ ts) is =
        let first : v ≡ t = first_is e.rest ts t v found is in
        let new : f ≡ record { taken = t.text; rest = ts } = alone t ts (is ∙ ap (λ (w : Token). w ∷ ts) first) in (
          ap (λ (l : Laid). with_excerpt l f) after
              ∙ ap (λ (g : Excerpted). behind_token ((s.text ++ (e.taken ++ before_token s t)) ++ g.taken) s t) new
              ∙ ap (λ (l : List ℕ). behind_token (l ++ t.text) s t) (sym (append_assoc s.text e.taken (before_token s t)))
              ∙ ap (λ (l : List ℕ). behind_token l s t) (append_assoc (s.text ++ e.taken) (before_token s t) t.text)
              ∙ sym (put_is s e t),
          is ∙ ap (λ (w : Token). w ∷ ts) first ∙ ap (λ (g : Excerpted). t ∷ g.rest) (sym new),
        )

-- what is written of it is no longer than the output with the token
pub longer : (s : Laid) (e : Excerpted) (t : Token) → length (s.text ++ (e.taken ++ before_token s t)) ≤ length (after_event (with_excerpt s e) (put t)).text
longer s e t =
    omega (
      arith,
      ap (λ (l : Laid). length l.text) (put_is s e t),
      ap length (append_assoc s.text e.taken (before_token s t)),
      length-append (s.text ++ e.taken) (before_token s t ++ t.text),
      length-append (s.text ++ e.taken) (before_token s t),
      length-append (before_token s t) t.text,
    )

-- nothing was taken
pub nothing_taken : (s : Laid) (rest : List Token) → with_excerpt s (record { taken = []; rest = rest }) ≡ s
nothing_taken s rest = ap (λ (l : List ℕ). let n : Laid = record { text = l; at = s.at; last = s.last } in n) (append-nil s.text)

pub none_left : (rest : List Token) → None ≡ slice_get rest 0 → rest ≡ []
none_left [] none = refl
none_left (t ∷ ts) none = absurd (cc)

pub begun_by : (rest : List Token) (t : Token) → slice_get rest 0 ≡ Some t → rest ≡ t ∷ drop 1 rest
begun_by [] t found = absurd (cc)
begun_by (u ∷ us) t found = let same : u ≡ t = cc in ap (λ (w : Token). w ∷ us) same
