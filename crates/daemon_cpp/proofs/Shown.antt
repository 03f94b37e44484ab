-- What is shown of a list, one member more.
use Rattle.std.proofs.Common.{◌≡◌, ◌<◌, ◌+◌, ℕ, List, ◌++◌, length, get_or, take, ◌∙◌, ap, append_assoc}
use Rattle.std.specs.List.{flat_map}
use Rattle.tree_model.proofs.ShownLemmas.{one-more}

pub one-more-behind : {X A : Type 0} (f : X → List A) (first front : List A) (xs : List X) (i : ℕ) (x d : X) → i < length xs → x ≡ get_or xs i d → (first ++ (front ++ flat_map f (take i xs))) ++ f x ≡ first ++ (front ++ flat_map f (take (i + 1) xs))
one-more-behind f first front xs i x d below is =
    append_assoc first (front ++ flat_map f (take i xs)) (f x)
    ∙ ap (λ ys. first ++ ys) (one-more f front xs i x d below is)
