-- Bytes that were consumed one piece after another.
use Rattle.std.proofs.Common.{◌≡◌, ℕ, List, [], ◌++◌, Option, None, Some, refl, sym, ap, ◌∙◌, append_assoc}
use Rattle.std.specs.Io.KnownBytes.{Consumes, prepend_known}

pub consumes-none : (left : Option (List ℕ)) → Consumes left left []
consumes-none None = tt
consumes-none (Some xs) = refl

-- what was consumed, and then a piece more
pub consumes-more : (before now after : Option (List ℕ)) (bytes piece : List ℕ) → Consumes before now bytes → now ≡ prepend_known piece after → Consumes before after (bytes ++ piece)
consumes-more None now after bytes piece taken front = tt
consumes-more (Some xs) None after bytes piece taken front = absurd taken
consumes-more (Some xs) (Some ys) None bytes piece taken front = cc
consumes-more (Some xs) (Some ys) (Some zs) bytes piece taken front =
    let same : ys ≡ piece ++ zs = cc in taken ∙ ap (λ r. bytes ++ r) same ∙ sym (append_assoc bytes piece zs)
