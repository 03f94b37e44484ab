-- A list that is put at the front of another by its first and its last elements, which may overlap.
use Rattle.std.proofs.Common.{◌≡◌, ◌≤◌, ◌+◌, ◌-◌, ℕ, List, ◌++◌, length, take, drop, ◌∙◌, ap, arith, take-append-drop, length-append}
use Rattle.std.proofs.Math.ListN.{length-drop}
use Rattle.std.proofs.Math.Seq.{take-take, length-take-le}
use Rattle.std.proofs.lemmas.List.{take-append-le}
use Rattle.std.proofs.lemmas.Slice.{take-put_mid}
use borrow.Rule.Slice.PartMut.{put_mid}

-- `first` and `last` are the parts that were written, the first of them at the front of a list with `rest` behind it.
pub both_ends : {A : Type 0} (size k : ℕ) (xs first rest last : List A) → size ≤ length xs → length xs ≤ size + size
    → first ≡ take size xs → last ≡ drop (length xs - size) xs
    → take (length xs) (put_mid (length xs - size) k (first ++ rest) last) ≡ xs
both_ends {A = A} size k xs first rest last ends all is_first is_last =
    let from = length xs - size in
    let long : length first ≡ size = ap length is_first ∙ length-take-le size xs ends in
    let end : length last ≡ length xs - from = ap length is_last ∙ length-drop from xs in
    let within : from ≤ length first = omega arith in
    let below : from ≤ size = omega arith in
    let size_is : length xs ≡ from + length last = omega arith in
    let room : from ≤ length (first ++ rest) = omega (arith, length-append first rest) in
    let written : take (length xs) (put_mid from k (first ++ rest) last) ≡ take from (first ++ rest) ++ last =
    take-put_mid from k (first ++ rest) last (length xs) size_is room in
    let front : take from (first ++ rest) ≡ take from xs =
    take-append-le from first rest within ∙ ap (take from) is_first ∙ take-take from size xs below in
    written ∙ ap (λ (ys : List A). ys ++ last) front ∙ ap (λ (ys : List A). take from xs ++ ys) is_last ∙ take-append-drop from xs
