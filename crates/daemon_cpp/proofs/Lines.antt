-- The numbers of line directives.
use Rattle.std.proofs.Common.{◌≡◌, ℕ, ◌<◌, ◌≤◌, ◌+◌, ◌*◌, ◌⊎◌, min, Bool, true, false, ◌&&◌, List, [], ◌∷◌, length, drop, get_or, inl, inr, Option, None, Some, Result, Ok, Err, leb, if◌then◌else◌, refl, sym, ◌∙◌, ap, subst, arith}
use Rattle.pp_tokens.specs.declared.token.Token.{Token}
use Rattle.tree_model.specs.Paths.{Path, spelled}
use Rattle.macro_expand.specs.declared.outcome.Mode.TheVariants as mode
use Rattle.daemon_cpp.specs.declared.kept.Kept.{Kept}
use Rattle.daemon_cpp.specs.declared.line.NewLine.{NewLine}
use Rattle.daemon_cpp.specs.declared.stop.Stop.{Stop}
use Rattle.daemon_cpp.specs.Diagnostics.{Diagnostic, BadLine}
use Rattle.daemon_cpp.specs.Prep.{Here, Reached, Gives, Ends, reach, new_line, line_told, line_written, line_read, expand_line}
use Rattle.daemon_cpp.specs.parts.Showing.{Leads, TellsLine}
use Rattle.daemon_cpp.proofs.Steps.{at-line, leads-gives, leads-refuse, leads-then, leads-same}
use Rattle.std.specs.List.{list_all}
use Rattle.std.proofs.lemmas.List.{drop_more, drop_all}
use Rattle.std.proofs.lemmas.Bool.Decides.{leb_tells}
use Rattle.cond_eval.specs.Constants.{digit_value, is_digit_in, value_behind}

-- what digits stand for behind others, or one more than the greatest line where that is less
unfoldable pub capped_from : ℕ → List ℕ → Option ℕ
capped_from n [] = Some n
capped_from n (b ∷ bs) = if is_digit_in 10 b then capped_from (min (n * 10 + digit_value b) 2147483648) bs else None

-- more digits never stand for less
value-grows : (n : ℕ) (bs : List ℕ) → n ≤ value_behind 10 n bs
unfolding value_behind
value-grows n [] = omega arith
value-grows n (b ∷ bs) = omega (arith, value-grows (n * 10 + digit_value b) bs)

-- once it is too great it stays so
capped-first : (n : ℕ) (bs : List ℕ) → min (value_behind 10 (min n 2147483648) bs) 2147483648 ≡ min (value_behind 10 n bs) 2147483648
capped-first n bs = capped-either n bs (leb_tells n 2147483648)
  where
    capped-either : (n : ℕ) (bs : List ℕ) → ((leb n 2147483648 ≡ true) × (n ≤ 2147483648)) ⊎ ((leb n 2147483648 ≡ false) × (2147483648 < n)) →
        min (value_behind 10 (min n 2147483648) bs) 2147483648 ≡ min (value_behind 10 n bs) 2147483648
    capped-either n bs (inl (yes_is, small)) = let e : min n 2147483648 ≡ n = omega (arith, small) in ap (λ (m : ℕ). min (value_behind 10 m bs) 2147483648) e
    capped-either n bs (inr (no_is, great)) =
        let e : min n 2147483648 ≡ 2147483648 = omega (arith, great) in
        let least : 2147483648 ≤ value_behind 10 2147483648 bs = value-grows 2147483648 bs in
        let more : n ≤ value_behind 10 n bs = value-grows n bs in
        ap (λ (m : ℕ). min (value_behind 10 m bs) 2147483648) e ∙ omega (arith, least, more, great)

-- digits alone
capped-is : (n : ℕ) (bs : List ℕ) → n ≤ 2147483648 →
    capped_from n bs ≡ (if list_all (is_digit_in 10) bs then Some (min (value_behind 10 n bs) 2147483648) else None)
unfolding capped_from value_behind
capped-is n [] small = let e : n ≡ min n 2147483648 = omega (arith, small) in ap (λ (m : ℕ). let o : Option ℕ = Some m in o) e
capped-is n (b ∷ bs) small = go (is_digit_in 10 b) (capped-is (min (n * 10 + digit_value b) 2147483648) bs (omega arith))
  where
    go : (p : Bool) → capped_from (min (n * 10 + digit_value b) 2147483648) bs
        ≡ (if list_all (is_digit_in 10) bs then Some (min (value_behind 10 (min (n * 10 + digit_value b) 2147483648) bs) 2147483648) else None) →
        (if p then capped_from (min (n * 10 + digit_value b) 2147483648) bs else None)
        ≡ (if p && list_all (is_digit_in 10) bs then Some (min (value_behind 10 (n * 10 + digit_value b) bs) 2147483648) else None)
    go true ih = ih ∙ ap (λ (m : ℕ). if list_all (is_digit_in 10) bs then Some m else None) (capped-first (n * 10 + digit_value b) bs)
    go false ih = refl

-- the next digit
pub capped-turn : (text : List ℕ) (i b d value next : ℕ) (whole : Option ℕ) → i < length text → b ≡ get_or text i d → is_digit_in 10 b ≡ true →
    next ≡ min (value * 10 + digit_value b) 2147483648 → capped_from value (drop i text) ≡ whole → capped_from next (drop (i + 1) text) ≡ whole
unfolding capped_from
capped-turn text i b d value next whole below is digit same kept =
    ap (λ (n : ℕ). capped_from n (drop (i + 1) text)) same
    ∙ sym (ap (λ (t : Bool). if t then capped_from (min (value * 10 + digit_value b) 2147483648) (drop (i + 1) text) else None) digit)
    ∙ ap (λ (c : ℕ). capped_from value (c ∷ drop (i + 1) text)) is
    ∙ sym (ap (λ (bs : List ℕ). capped_from value bs) (drop_more text i d below))
    ∙ kept

-- no digit is left
pub capped-end : (text : List ℕ) (i value : ℕ) → length text ≤ i → capped_from value (drop i text) ≡ capped_from 0 text →
    Some value ≡ (if list_all (is_digit_in 10) text then Some (min (value_behind 10 0 text) 2147483648) else None)
unfolding capped_from
capped-end text i value behind kept =
    sym (ap (λ (bs : List ℕ). capped_from value bs) (drop_all i text behind)) ∙ kept ∙ capped-is 0 text (omega arith)

-- ---- what a line directive says ----

-- what tokens say, or that they may not be said
pub line-told : (kept : Kept) (main : Path) (file : Here) (at : ℕ) (new : Option NewLine) (r : Result NewLine Stop) → TellsLine file.place at new r →
    Leads kept kept main file (λ state. line_told at new state) r
line-told kept main file at (Some new) (Ok x) told =
    leads-gives kept main file (λ state. line_told at (Some new) state) x (λ state shows. ap (λ (y : NewLine). let q : Reached NewLine = Gives y state in q) (sym told))
line-told kept main file at (Some new) (Err s) told =
    subst (λ (t : Stop). Leads kept kept main file {A = NewLine} (λ state. line_told at (Some new) state) (Err t)) (sym told) tt
line-told kept main file at None (Ok x) told = absurd told
line-told kept main file at None (Err s) told =
    leads-refuse kept main file (λ state. line_told at None state) (record { place = spelled file.place; at = at; complaint = BadLine }) s
    (λ state shows. ap (λ (d : Diagnostic). let q : Reached NewLine = Ends d state in q) (at-line kept main file at BadLine state shows)) told

-- what expanded tokens say
pub expanded-told : (old new : Kept) (main : Path) (file : Here) (at : ℕ) (tokens expanded : List Token) (r : Result NewLine Stop) →
    Leads old new main file (λ state. expand_line at mode.Text tokens state) (Ok expanded) → TellsLine file.place at (new_line expanded) r →
    Leads old new main file (λ state. reach (λ ts after. line_told at (new_line ts) after) (expand_line at mode.Text tokens state)) r
expanded-told old new main file at tokens expanded r first told =
    leads-then old new new main file (λ state. expand_line at mode.Text tokens state) (λ ts after. line_told at (new_line ts) after) expanded r first
    (line-told new main file at (new_line expanded) r told)

-- tokens that say nothing as they are written
pub line-unwritten : (old new : Kept) (main : Path) (file : Here) (at : ℕ) (tokens : List Token) (r : Result NewLine Stop) → new_line tokens ≡ None →
    Leads old new main file (λ state. reach (λ ts after. line_told at (new_line ts) after) (expand_line at mode.Text tokens state)) r →
    Leads old new main file (λ state. line_read at tokens state) r
line-unwritten old new main file at tokens r none leads =
    leads-same old new main file (λ state. reach (λ ts after. line_told at (new_line ts) after) (expand_line at mode.Text tokens state)) (λ state. line_read at tokens state) r
    (λ state shows. ap (λ (o : Option NewLine). line_written at o tokens state) none) leads
