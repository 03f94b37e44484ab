-- No two nodes have one path.
use Rattle.std.proofs.Common.{◌≡◌, ℕ, zero, suc, ◌+◌, ◌*◌, ◌<◌, ◌≤◌, [], ◌∷◌, ◌++◌, map, refl, sym, ◌∙◌, subst, arith, Bool, true, false}
use Rattle.std.specs.Prelude.{codes}
use Rattle.std.specs.Fmt.{decimal}
use Rattle.std.specs.List.{list_any, range_with_len, AllByRecursion, IsDistinct}
use Rattle.std.specs.Cmp.Lexicographic.{bytes_decides}
use Rattle.std.proofs.lemmas.Bool.{or_parts, or_from, false_from_ne_true}
use Rattle.std.proofs.lemmas.Fmt.{decimal_injective}
use Rattle.std.proofs.lemmas.List.{append-nil, append_cancel_right}
use Rattle.std.proofs.lemmas.List.Folds.{list_any-append}
use Rattle.std.proofs.lemmas.Map.Keys.{IsDistinct-cons}
use Rattle.std.proofs.lemmas.Map.Text.{is_eq-slice_cmp}
use Rattle.tree_model.specs.Paths.{Text, Path, spelled}
use Rattle.tree_model.specs.Entries.{Entries}
use Rattle.tree_model.specs.declared.entry.Entry.{Entry}
use Rattle.tree_model.specs.declared.entry.Entry.TheVariants.{Dir}
use Rattle.tree_gen.specs.Generated.{top, header_dir, source_dir, header, source, nodes}
use Rattle.tree_gen.proofs.Counted.{none_counted}
use Rattle.tree_gen.proofs.Order.{key, keys, same}

-- an entry has this path
abbrev has : Text → Path × Entry → Bool
has x e = same x (spelled e.0)

none_same : (x : Text) (es : Entries) → list_any (has x) es ≡ false → AllByRecursion (λ y. same x y ≡ false) (keys es)
none_same x [] h = tt
none_same x (e ∷ es) h =
    let pair = or_parts (has x e) (list_any (has x) es) h in
    (pair.0, none_same x es pair.1)

one_more : (e : Path × Entry) (es : Entries) → list_any (has (key e)) es ≡ false → IsDistinct same (keys es) → IsDistinct same (keys (e ∷ es))
one_more e es none apart = IsDistinct-cons same (key e) (keys es) (none_same (key e) es none) apart

none_in_both : (x : Text) (es fs : Entries) → list_any (has x) es ≡ false → list_any (has x) fs ≡ false → list_any (has x) (es ++ fs) ≡ false
none_in_both x es fs a b = list_any-append (has x) es fs ∙ or_from _ _ a b

-- entries made from numbers before others, where no two have one path
counted_before : (f : ℕ → Path × Entry) (a n most : ℕ) (rest : Entries) → a + n ≤ most
    → ((i j : ℕ) → i < j → j < most → same (key (f i)) (key (f j)) ≡ false) → ((i : ℕ) → list_any (has (key (f i))) rest ≡ false)
    → IsDistinct same (keys rest) → IsDistinct same (keys (map f (range_with_len a n) ++ rest))
counted_before f a zero most rest within apart other h = h
counted_before f a (suc n) most rest within apart other h =
    one_more (f a) (map f (range_with_len (a + 1) n) ++ rest)
    (none_in_both (key (f a)) (map f (range_with_len (a + 1) n)) rest
    (none_counted (has (key (f a))) f (a + 1) n (λ i low high. apart a i (omega (arith, low)) (omega (arith, high, within)))) (other a))
    (counted_before f (a + 1) n most rest (omega (arith, within)) apart other h)

same_text : (a b : Text) → same a b ≡ true → a ≡ b
same_text a b h = (bytes_decides a b).0 (sym (is_eq-slice_cmp a b) ∙ h)

numbers_apart : (end : Text) (i j : ℕ) → i < j → j < 100000 → same (decimal i ++ end) (decimal j ++ end) ≡ false
numbers_apart end i j less within =
    false_from_ne_true _ (λ is.
    let number : i ≡ j = decimal_injective i j (omega (arith, less, within)) (omega (arith, within)) (append_cancel_right (decimal i) (decimal j) end (same_text _ _ is)) in
    omega (arith, less, number))

none_apart : IsDistinct same (keys [])
unfolding IsDistinct
none_apart = tt

none_among_files : (x : Text) (n : ℕ) → ((i : ℕ) → has x (header i) ≡ false) → ((j : ℕ) → has x (source j) ≡ false)
    → list_any (has x) (map header (range_with_len 0 (4 * n)) ++ map source (range_with_len 0 n)) ≡ false
none_among_files x n headers sources =
    none_in_both x _ _ (none_counted (has x) header 0 (4 * n) (λ i low high. headers i)) (none_counted (has x) source 0 n (λ j low high. sources j))

pub nodes_apart : (n : ℕ) → n ≤ 5000 → IsDistinct same (keys (nodes n))
nodes_apart n few =
    let headers : Entries = map header (range_with_len 0 (4 * n)) in
    let sources : Entries = map source (range_with_len 0 n) in
    let sources_apart : IsDistinct same (keys sources) =
    subst (λ (es : Entries). IsDistinct same (keys es)) (append-nil sources)
    (counted_before source 0 n 100000 [] (omega (arith, few)) (λ i j less within. numbers_apart (codes ".c") i j less within) (λ i. refl) none_apart) in
    let files_apart : IsDistinct same (keys (headers ++ sources)) =
    counted_before header 0 (4 * n) 100000 sources (omega (arith, few)) (λ i j less within. numbers_apart (codes ".h") i j less within)
    (λ i. none_counted (has (key (header i))) source 0 n (λ j low high. refl)) sources_apart in
    one_more (top, Dir) ((header_dir, Dir) ∷ (source_dir, Dir) ∷ (headers ++ sources))
    (or_from _ _ refl (or_from _ _ refl (none_among_files (spelled top) n (λ i. refl) (λ j. refl))))
    (one_more (header_dir, Dir) ((source_dir, Dir) ∷ (headers ++ sources))
    (or_from _ _ refl (none_among_files (spelled header_dir) n (λ i. refl) (λ j. refl)))
    (one_more (source_dir, Dir) (headers ++ sources) (none_among_files (spelled source_dir) n (λ i. refl) (λ j. refl)) files_apart))
