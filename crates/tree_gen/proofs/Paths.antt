-- The paths of headers and of sources are canonical.
use Rattle.std.proofs.Common.{◌≡◌, ℕ, ◌+◌, ◌^◌, ◌%◌, ◌<◌, ◌≤◌, [], ◌∷◌, ◌++◌, length, refl, ◌∙◌, arith, true, nat_lt, nat_le, length-append}
use Rattle.std.specs.Prelude.{codes}
use Rattle.std.specs.Fmt.{decimal}
use Rattle.std.specs.List.{list_all}
use Rattle.std.proofs.lemmas.Bool.{and_from, le-leb, lt-ltb}
use Rattle.std.proofs.lemmas.Bool.Decides.{nat_tests}
use Rattle.std.proofs.lemmas.Fmt.{decimal_by_steps, length-decimal-le}
use Rattle.std.proofs.lemmas.List.Folds.{list_all-append}
use Rattle.tree_model.specs.Paths.{spelled, is_file_name_byte, is_name, is_canonical}
use Rattle.tree_gen.specs.Generated.{header_dir, header_file_name, source_dir, source_name}

is_digit_name : (n : ℕ) → n < 10 → is_file_name_byte (48 + n) ≡ true
is_digit_name n h = grind (arith, nat_tests)

digits_are_name_bytes : (n : ℕ) → n < 2 ^ 64 → list_all is_file_name_byte (decimal n) ≡ true
digits_are_name_bytes =
    decimal_by_steps (λ n ds. list_all is_file_name_byte ds ≡ true) (λ n h. and_from _ _ (is_digit_name n h) refl)
    (λ n ds low h. list_all-append is_file_name_byte ds ((48 + n % 10) ∷ []) ∙ and_from _ _ h (and_from _ _ (is_digit_name (n % 10) (omega arith)) refl))

pub short_decimal : (n : ℕ) → n < 100000 → length (decimal n) ≤ 5
short_decimal n h = length-decimal-le 5 n (omega arith) h (omega (arith, h))

header_is_name : (k : ℕ) → k < 100000 → is_name (header_file_name k) ≡ true
header_is_name k h =
    let bytes : list_all is_file_name_byte (decimal k ++ codes ".h") ≡ true = list_all-append is_file_name_byte (decimal k) (codes ".h") ∙ and_from _ _ (digits_are_name_bytes k (omega (arith, h))) refl in
    let size : length (decimal k ++ codes ".h") ≡ length (decimal k) + 2 = length-append (decimal k) (codes ".h") in
    let some : nat_lt 0 (length (header_file_name k)) ≡ true = lt-ltb 0 (length (header_file_name k)) (omega (arith, size)) in
    let short : nat_le (length (header_file_name k)) 255 ≡ true = le-leb (length (header_file_name k)) 255 (omega (arith, size, short_decimal k h)) in
    and_from _ _ some (and_from _ _ short (and_from _ _ bytes refl))

source_is_name : (j : ℕ) → j < 100000 → is_name (source_name j) ≡ true
source_is_name j h =
    let bytes : list_all is_file_name_byte (decimal j ++ codes ".c") ≡ true = list_all-append is_file_name_byte (decimal j) (codes ".c") ∙ and_from _ _ (digits_are_name_bytes j (omega (arith, h))) refl in
    let size : length (decimal j ++ codes ".c") ≡ length (decimal j) + 2 = length-append (decimal j) (codes ".c") in
    let some : nat_lt 0 (length (source_name j)) ≡ true = lt-ltb 0 (length (source_name j)) (omega (arith, size)) in
    let short : nat_le (length (source_name j)) 255 ≡ true = le-leb (length (source_name j)) 255 (omega (arith, size, short_decimal j h)) in
    and_from _ _ some (and_from _ _ short (and_from _ _ bytes refl))

pub header_is_canonical : (k : ℕ) → k < 100000 → is_canonical (header_file_name k ∷ header_dir) ≡ true
header_is_canonical k h =
    let size : length (decimal k ++ codes ".h") ≡ length (decimal k) + 2 = length-append (decimal k) (codes ".h") in
    let short : nat_le (length (spelled (header_file_name k ∷ header_dir))) 4096 ≡ true = le-leb (length (spelled (header_file_name k ∷ header_dir))) 4096 (omega (arith, size, short_decimal k h)) in
    and_from _ _ (and_from _ _ (header_is_name k h) refl) short

pub source_is_canonical : (j : ℕ) → j < 100000 → is_canonical (source_name j ∷ source_dir) ≡ true
source_is_canonical j h =
    let size : length (decimal j ++ codes ".c") ≡ length (decimal j) + 2 = length-append (decimal j) (codes ".c") in
    let short : nat_le (length (spelled (source_name j ∷ source_dir))) 4096 ≡ true = le-leb (length (spelled (source_name j ∷ source_dir))) 4096 (omega (arith, size, short_decimal j h)) in
    and_from _ _ (and_from _ _ (source_is_name j h) refl) short
