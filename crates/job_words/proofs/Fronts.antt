-- A word without its front.
use Rattle.std.proofs.Common.{◌≡◌, ◌+◌, length, take, drop, Bool, true, false, if◌then◌else◌, nat_eq, Option, Some, None, sym, ap, ◌∙◌}
use Rattle.std.specs.Borrow.{Bor}
use Rattle.std.specs.Cmp.Lexicographic.{pointwise}
use Rattle.std.specs.Option.{MatchOption, option_map}
use Rattle.std.proofs.lemmas.Cmp.{nat_list_eq_equiv}
use Rattle.tree_model.specs.Paths.{Text}
use Rattle.job_words.specs.Words.{begins}

abbrev rest_if : Text → Text → Bool → Option Text
rest_if word front test = if test then Some (drop (length front) word) else None

-- what is left of a word that begins with it
pub without-front : (word front : Text) (rest : Option (Bor Text))
    → MatchOption rest (pointwise nat_eq (take (length front) word) front ≡ false) (λ text. (pointwise nat_eq (take (length front) word) front ≡ true) × (text.now ≡ drop (length front) word) × (length text.now + length front ≡ length word))
    → option_map (λ text. text.now) rest ≡ rest_if word front (begins word front)
without-front word front None other = sym (ap (rest_if word front) (nat_list_eq_equiv.symm front (take (length front) word) ∙ other))
without-front word front (Some text) found =
    ap (λ t. Some t) found.1 ∙ sym (ap (rest_if word front) (nat_list_eq_equiv.symm front (take (length front) word) ∙ found.0))
