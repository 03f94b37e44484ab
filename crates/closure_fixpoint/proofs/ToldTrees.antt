-- What a clause on a told tree says of it.
use Rattle.std.proofs.Common.{◌≡◌, Option, None, Some, subst}
use Rattle.std.specs.Prelude.{IfSome}

pub told-clause : {A : Type 0} (o : Option A) (x : A) (P : A → Type 0) → IfSome o P → o ≡ Some x → P x
told-clause None x P h e = absurd (cc)
told-clause (Some y) x P h e = let same : y ≡ x = cc in subst P same h
