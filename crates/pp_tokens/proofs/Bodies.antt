-- Plain bodies, line by line.
use Rattle.std.specs.Prelude.{◌≡◌, ℕ, Bool, true, false, not, ◌&&◌, List, [], ◌∷◌, ◌++◌, refl, ◌==◌}
use Rattle.std.specs.List.{list_all}
use Rattle.std.proofs.lemmas.Bool.{not-true, and_parts}
use Rattle.pp_tokens.specs.Plain.{is_plain_line, lines_of, ends_line, is_plain_body}
use Rattle.pp_tokens.specs.parts.Text.{no_newline}

lines_cut : (line more : List ℕ) → no_newline line ≡ true → lines_of (line ++ (10 ∷ more)) ≡ line ∷ lines_of more
unfolding lines_of
lines_cut [] more h = refl
lines_cut (b ∷ line) more h =
    let both = and_parts (not (b == 10)) (no_newline line) h in
    let e : (b == 10) ≡ false = not-true (b == 10) both.0 in
    let behind : lines_of (line ++ (10 ∷ more)) ≡ line ∷ lines_of more = lines_cut line more both.1 in
    rw (e, behind) refl

ends_cut : (line more : List ℕ) → ends_line (line ++ (10 ∷ more)) ≡ ends_line more
unfolding ends_line
ends_cut [] [] = refl
ends_cut [] (m ∷ more) = refl
ends_cut (b ∷ []) more = ends_cut [] more
ends_cut (b ∷ c ∷ line) more = ends_cut (c ∷ line) more

swapped : (a b c : Bool) → (a && (b && c)) ≡ (b && (a && c))
swapped true b c = refl
swapped false true c = refl
swapped false false c = refl

pub body_cut : (line more : List ℕ) → no_newline line ≡ true → is_plain_body (line ++ (10 ∷ more)) ≡ (is_plain_line line && is_plain_body more)
unfolding is_plain_body
body_cut line more h =
    rw (ends_cut line more, lines_cut line more h) (swapped (ends_line more) (is_plain_line line) (list_all is_plain_line (lines_of more)))

-- what has no newline, and isn't empty, ends no line
unended : (b : ℕ) (bs : List ℕ) → no_newline (b ∷ bs) ≡ true → ends_line (b ∷ bs) ≡ false
unfolding ends_line
unended b [] h = not-true (b == 10) (and_parts (not (b == 10)) true h).0
unended b (c ∷ bs) h = unended c bs (and_parts (not (b == 10)) (no_newline (c ∷ bs)) h).1

pub no_end : (b : ℕ) (bs : List ℕ) → no_newline (b ∷ bs) ≡ true → is_plain_body (b ∷ bs) ≡ false
unfolding is_plain_body
no_end b bs h = rw (unended b bs h) refl
