-- Results that are no errors.
use Rattle.std.proofs.Common.{◌≡◌, false, Result, Ok, Err}
use Rattle.std.specs.Prelude.{OnOk}
use Rattle.std.specs.Result.{is_err}

-- what holds of a value, where there is no error
pub no-error : {A E P : Type 0} (r : Result A E) → false ≡ is_err r → OnOk r P → P
no-error (Ok x) is holds = holds
no-error (Err e) is holds = absurd (cc)
