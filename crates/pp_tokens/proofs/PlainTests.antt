-- The tests of plain bodies and of include lines.
use Rattle.std.specs.Prelude.{◌≡◌, ℕ, ◌-◌, ◌≤◌, ◌<◌, Bool, true, false, not, ◌&&◌, List, [], ◌∷◌, ◌++◌, length, take, drop, take_while, refl, ◌==◌, codes, bytes_eq}
use Rattle.std.proofs.Common.{sym, ◌∙◌, ap, arith, length-drop, length-append, append-nil}
use Rattle.std.proofs.Math.Seq.{take-append_seam, drop-append_seam}
use Rattle.std.proofs.lemmas.List.{take-append-drop, length-take-le}
use Rattle.std.proofs.lemmas.Bool.{eqb-true, and_parts, and_right}
use Rattle.std.proofs.lemmas.Slice.Eq.{bytes_eq-Decides}
use Rattle.std.specs.Cmp.{both_ways}
use Rattle.std.specs.Cmp.Derive.{both_true}
use Rattle.pp_tokens.specs.Plain.{is_simple_name, include_line, included_name, is_include_line, is_plain_line, is_plain_body, lines_of, ends_line}
use Rattle.pp_tokens.specs.parts.Text.{no_newline}
use Rattle.pp_tokens.proofs.FirstBytes.{Run, run_of}
use Rattle.pp_tokens.proofs.Bodies.{body_cut, no_end}

-- INCLUDE LINES

pub short_line : (line : List ℕ) → length line < 12 → is_include_line line ≡ false
unfolding is_include_line is_simple_name
short_line line h =
    let none : length line - 11 ≡ 0 = omega (arith, h) in
    and_right (bytes_eq line (include_line (included_name line))) (is_simple_name (included_name line)) (ap (λ n. is_simple_name (take n (drop 10 line))) none)

abbrev framed : List ℕ → Bool
framed line = bytes_eq (take 10 line) (codes "#include \"") && bytes_eq (drop (length line - 11) (drop 10 line)) (codes "\"")

framed_whole : (line : List ℕ) → framed line ≡ true → bytes_eq line (include_line (included_name line)) ≡ true
framed_whole line h =
    let both = and_parts (bytes_eq (take 10 line) (codes "#include \"")) (bytes_eq (drop (length line - 11) (drop 10 line)) (codes "\"")) h in
    let front : take 10 line ≡ codes "#include \"" = (bytes_eq-Decides (take 10 line) (codes "#include \"")).0 both.0 in
    let end : drop (length line - 11) (drop 10 line) ≡ codes "\"" = (bytes_eq-Decides (drop (length line - 11) (drop 10 line)) (codes "\"")).0 both.1 in
    let behind : drop 10 line ≡ included_name line ++ codes "\"" =
    sym (take-append-drop (length line - 11) (drop 10 line)) ∙ ap (λ (l : List ℕ). included_name line ++ l) end in
    let whole : line ≡ include_line (included_name line) = sym (take-append-drop 10 line) ∙ (λ i. front i ++ behind i) in
    (bytes_eq-Decides line (include_line (included_name line))).1 whole

whole_framed : (line : List ℕ) → 12 ≤ length line → bytes_eq line (include_line (included_name line)) ≡ true → framed line ≡ true
whole_framed line long h =
    let name : List ℕ = included_name line in
    let whole : line ≡ include_line name = (bytes_eq-Decides line (include_line name)).0 h in
    let size : length name ≡ length line - 11 = length-take-le (length line - 11) (drop 10 line) (omega (arith, length-drop 10 line)) in
    let front : take 10 line ≡ codes "#include \"" = ap (take 10) whole in
    let behind : drop 10 line ≡ name ++ codes "\"" = ap (drop 10) whole in
    let end : drop (length line - 11) (drop 10 line) ≡ codes "\"" =
    (λ i. drop (sym size i) (behind i)) ∙ drop-append_seam name (codes "\"") in
    both_true ((bytes_eq-Decides (take 10 line) (codes "#include \"")).1 front) ((bytes_eq-Decides (drop (length line - 11) (drop 10 line)) (codes "\"")).1 end)

pub long_line : (line front behind name end : List ℕ) → 12 ≤ length line → front ≡ take 10 line → behind ≡ drop 10 line
    → name ≡ take (length behind - 1) behind → end ≡ drop (length behind - 1) behind
    → ((bytes_eq front (codes "#include \"") && bytes_eq end (codes "\"")) && is_simple_name name) ≡ is_include_line line
unfolding is_include_line
long_line line front behind name end long f b n e =
    let size : length behind - 1 ≡ length line - 11 = omega (arith, ap length b, length-drop 10 line) in
    let name_is : name ≡ included_name line = n ∙ (λ i. take (size i) (b i)) in
    let end_is : end ≡ drop (length line - 11) (drop 10 line) = e ∙ (λ i. drop (size i) (b i)) in
    let same : framed line ≡ bytes_eq line (include_line (included_name line)) = both_ways (framed line) (bytes_eq line (include_line (included_name line))) (framed_whole line) (whole_framed line long) in
    (λ i. (bytes_eq (f i) (codes "#include \"") && bytes_eq (end_is i) (codes "\"")) && is_simple_name (name_is i))
    ∙ ap (λ t. t && is_simple_name (included_name line)) same

-- PLAIN BODIES

abbrev pub in_line : ℕ → Bool
in_line b = not (b == 10)

pub empty_body : (rest : List ℕ) → length rest ≡ 0 → is_plain_body rest ≡ true
unfolding is_plain_body lines_of ends_line
empty_body [] h = refl
empty_body (b ∷ bs) h = absurd (omega arith)

-- the line ends nowhere
pub unended_body : (rest : List ℕ) → 0 < length rest → length (take_while in_line rest) ≡ length rest → is_plain_body rest ≡ false
unended_body [] some h = absurd (omega arith)
unended_body (b ∷ bs) some h = no_end b bs (ap no_newline whole ∙ r.each)
  where
    r : Run in_line (b ∷ bs)
    r = run_of in_line (b ∷ bs)

    by_after : (after : List ℕ) → b ∷ bs ≡ take_while in_line (b ∷ bs) ++ after → b ∷ bs ≡ take_while in_line (b ∷ bs)
    by_after [] e = e ∙ append-nil (take_while in_line (b ∷ bs))
    by_after (c ∷ cs) e = absurd (omega (arith, h, ap length e, length-append (take_while in_line (b ∷ bs)) (c ∷ cs)))

    whole : b ∷ bs ≡ take_while in_line (b ∷ bs)
    whole = by_after r.after r.split

pub first_line : (rest line behind next : List ℕ) (n : ℕ) → n ≡ length (take_while in_line rest) → n < length rest → line ≡ take n rest → behind ≡ drop n rest → next ≡ drop 1 behind
    → is_plain_body rest ≡ (is_plain_line line && is_plain_body next)
first_line rest line behind next n size below l b x = by_after r.after r.split r.stops
  where
    r : Run in_line rest
    r = run_of in_line rest

    front : List ℕ
    front = take_while in_line rest

    ten : (c : ℕ) → in_line c ≡ false → c ≡ 10
    ten c h = eqb-true c 10 (holds (c == 10) h)
      where
        holds : (t : Bool) → not t ≡ false → t ≡ true
        holds true h' = refl
        holds false h' = absurd (cc)

    by_after : (after : List ℕ) → rest ≡ front ++ after → ((c : ℕ) (cs : List ℕ) → after ≡ c ∷ cs → in_line c ≡ false)
        → is_plain_body rest ≡ (is_plain_line line && is_plain_body next)
    by_after [] e stops = absurd (omega (arith, size, ap length e, length-append front []))
    by_after (c ∷ cs) e stops =
        let is_ten : c ≡ 10 = ten c (stops c cs refl) in
        let line_is : line ≡ front = l ∙ (λ i. take (size i) (e i)) ∙ take-append_seam front (c ∷ cs) in
        let behind_is : behind ≡ c ∷ cs = b ∙ (λ i. drop (size i) (e i)) ∙ drop-append_seam front (c ∷ cs) in
        let next_is : next ≡ cs = x ∙ ap (drop 1) behind_is in
        ap is_plain_body (e ∙ ap (λ k. front ++ (k ∷ cs)) is_ten) ∙ body_cut front cs r.each
        ∙ (λ i. is_plain_line (sym line_is i) && is_plain_body (sym next_is i))
