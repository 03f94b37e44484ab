-- The spelling of a name below a text, put together in place.
use Rattle.std.proofs.Common.{◌≡◌, ◌≤◌, ◌<◌, ◌+◌, ℕ, List, [], ◌∷◌, ◌++◌, length, take, slice_set, ◌∙◌, ap, sym, arith, append_assoc, length-append}
use Rattle.std.proofs.Math.Seq.{take-append_seam}
use Rattle.std.proofs.lemmas.List.{take_more_set, length-set}
use Rattle.std.proofs.lemmas.Slice.{take-put_mid}
use borrow.Rule.Slice.PartMut.{put_mid}
use Rattle.base_types.specs.Ascii.{slash}

-- `first` and `last` are the parts that were written, the first of them at the front of a list with `rest` behind it
pub below_put : (stem name first rest last : List ℕ) (k : ℕ) → first ≡ stem → last ≡ name → 1 ≤ length rest
    → take (length stem + 1 + length name) (put_mid (length stem + 1) k (slice_set (first ++ rest) (length stem) slash) last) ≡ stem ++ slash ∷ name
below_put stem name first rest last k is_first is_last room =
    let at = length stem in
    let whole = first ++ rest in
    let marked = slice_set whole at slash in
    let long : length first ≡ at = ap length is_first in
    let below : at < length whole = omega (arith, long, length-append first rest) in
    let same : length marked ≡ length whole = length-set whole at slash in
    let size_is : at + 1 + length name ≡ at + 1 + length last = ap (λ (l : List ℕ). at + 1 + length l) (sym is_last) in
    let front : take at whole ≡ stem = ap (λ n. take n whole) (sym long) ∙ take-append_seam first rest ∙ is_first in
    take-put_mid (at + 1) k marked last (at + 1 + length name) size_is (omega (arith, same, below))
    ∙ ap (λ (l : List ℕ). l ++ last) (take_more_set whole at slash below ∙ ap (λ (l : List ℕ). l ++ slash ∷ []) front)
    ∙ append_assoc stem (slash ∷ []) last
    ∙ ap (λ (l : List ℕ). stem ++ slash ∷ l) is_last
