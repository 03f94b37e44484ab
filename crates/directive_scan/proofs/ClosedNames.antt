-- The spellings up to the first `>`, token by token.
use Rattle.std.specs.Prelude.{◌≡◌, ℕ, ◌+◌, ◌<◌, ◌≤◌, Bool, true, false, cond, List, [], ◌∷◌, ◌++◌, length, drop, get_or, Option, Some, None, option_map, codes, refl}
use Rattle.std.proofs.Common.{sym, ◌∙◌, ap, append_assoc}
use Rattle.std.proofs.lemmas.List.{append-nil, at_drop_more, at_drop_all}
use Rattle.pp_tokens.specs.declared.Token.{Token}
use Rattle.pp_tokens.specs.Marks.{is_mark}
use Rattle.directive_scan.specs.HeaderNames.{spaced, up_to_close}

-- what was gathered of a name, with what the tokens from here on add
abbrev pub gathered : List ℕ → Option (List ℕ) → Option (List ℕ)
gathered name o = option_map (λ others. name ++ others) o

pub nothing_gathered : (o : Option (List ℕ)) → gathered [] o ≡ o
nothing_gathered None = refl
nothing_gathered (Some others) = refl

one_more : (name spelling : List ℕ) (o : Option (List ℕ)) → gathered name (gathered spelling o) ≡ gathered (name ++ spelling) o
one_more name spelling None = refl
one_more name spelling (Some others) = ap Some (sym (append_assoc name spelling others))

from_token : (ts : List Token) (i : ℕ) (t : Token) (first : Bool) → i < length ts → t ≡ get_or ts i t
    → up_to_close first (drop i ts) ≡ up_to_close first (t ∷ drop (i + 1) ts)
from_token ts i t first below is =
    at_drop_more (up_to_close first) ts i t below ∙ ap (λ (x : Token). up_to_close first (x ∷ drop (i + 1) ts)) (sym is)

-- at a `>` the name is at its end
pub name_ends : (name : List ℕ) (ts : List Token) (i : ℕ) (t : Token) (first : Bool) (whole : Option (List ℕ)) → i < length ts → t ≡ get_or ts i t
    → is_mark (codes ">") t ≡ true → gathered name (up_to_close first (drop i ts)) ≡ whole → Some name ≡ whole
unfolding up_to_close
name_ends name ts i t first whole below is closes so_far =
    let here : up_to_close first (t ∷ drop (i + 1) ts) ≡ Some [] =
    ap (λ (b : Bool). cond b (Some []) (gathered (spaced first t) (up_to_close false (drop (i + 1) ts)))) closes in
    sym (ap Some (append-nil name)) ∙ sym (ap (gathered name) (from_token ts i t first below is ∙ here)) ∙ so_far

-- any other token adds its spelling
pub name_goes_on : (name : List ℕ) (ts : List Token) (i : ℕ) (t : Token) (first : Bool) (whole : Option (List ℕ)) → i < length ts → t ≡ get_or ts i t
    → is_mark (codes ">") t ≡ false → gathered name (up_to_close first (drop i ts)) ≡ whole
    → gathered (name ++ spaced first t) (up_to_close false (drop (i + 1) ts)) ≡ whole
unfolding up_to_close
name_goes_on name ts i t first whole below is other so_far =
    let others = up_to_close false (drop (i + 1) ts) in
    let here : up_to_close first (t ∷ drop (i + 1) ts) ≡ gathered (spaced first t) others =
    ap (λ (b : Bool). cond b (Some []) (gathered (spaced first t) others)) other in
    sym (one_more name (spaced first t) others) ∙ sym (ap (gathered name) (from_token ts i t first below is ∙ here)) ∙ so_far

-- where no token is left there is no name
pub no_name : (name : List ℕ) (ts : List Token) (i : ℕ) (first : Bool) (whole : Option (List ℕ)) → length ts ≤ i
    → gathered name (up_to_close first (drop i ts)) ≡ whole → None ≡ whole
unfolding up_to_close
no_name name ts i first whole past so_far = sym (ap (gathered name) (at_drop_all (up_to_close first) ts i past)) ∙ so_far
