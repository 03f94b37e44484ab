-- What a result gives, once it is known which one it is.
use Rattle.std.proofs.Common.{◌≡◌, false, true, Result, Ok, Err, OnOk, OnErr, IfOk}
use Rattle.std.specs.Result.{is_err}

pub where-ok : {X E P : Type 0} (r : Result X E) → is_err r ≡ false → OnOk r P → P
where-ok (Ok x) is holds = holds
where-ok (Err e) is holds = absurd (let differ : true ≡ false = is in cc)

pub where-err : {X E P : Type 0} (r : Result X E) → is_err r ≡ true → OnErr r P → P
where-err (Ok x) is holds = absurd (let differ : false ≡ true = is in cc)
where-err (Err e) is holds = holds

pub if_ok-map : {X E : Type 0} (r : Result X E) (P Q : X → Type 0) → ((x : X) → P x → Q x) → IfOk r P → IfOk r Q
if_ok-map (Ok x) P Q gives holds = gives x holds
if_ok-map (Err e) P Q gives holds = holds
