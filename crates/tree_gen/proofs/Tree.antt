-- The nodes in order make a tree.
use Rattle.std.proofs.Common.{◌≡◌, ℕ, ◌+◌, ◌*◌, ◌<◌, ◌≤◌, length, length-append, map, refl, sym, ◌∙◌, arith, Bool, true}
use Rattle.std.specs.Prelude.{IsTrue}
use Rattle.std.specs.List.{list_any, list_all, range_with_len}
use Rattle.std.specs.List.Sorted.{IsPermutation}
use Rattle.std.proofs.lemmas.Bool.{and_from}
use Rattle.std.proofs.lemmas.List.Folds.{list_all-append}
use Rattle.std.proofs.lemmas.List.Sorted.{All-permutation, length_permutation, list_any-IsPermutation}
use Rattle.std.proofs.lemmas.List.FromFn.{length-map-range_with_len}
use Rattle.std.proofs.lemmas.List.Sums.{AllPass-from_list_all, list_all-from_AllPass}
use Rattle.tree_model.specs.Paths.{Path, spelled, is_canonical}
use Rattle.tree_model.specs.Entries.{Entries, is_dir_at, has_parent, entry_fits, body_fits, bodies_fit, links_fit, makes_tree}
use Rattle.tree_model.specs.Laws.{ParentsMakeTrees}
use Rattle.tree_model.specs.declared.entry.Entry.{Entry}
use Rattle.tree_model.specs.declared.entry.Entry.TheVariants.{Dir}
use Rattle.tree_gen.specs.Generated.{top, header_dir, source_dir, header, source, nodes, InOrder}
use Rattle.tree_gen.proofs.Counted.{all_counted}
use Rattle.tree_gen.proofs.Paths.{header_is_canonical, source_is_canonical}
use Rattle.tree_gen.proofs.Fits.{header_fits, source_fits}

-- a test that passes each node passes each entry of a list that has them in another order
moved : (t : Path × Entry → Bool) (es fs : Entries) → IsPermutation es fs → list_all t es ≡ true → list_all t fs ≡ true
moved t es fs same h = list_all-from_AllPass t fs (All-permutation (λ e. t e ≡ true) es fs same (AllPass-from_list_all t es h))

all_nodes : (t : Path × Entry → Bool) (n : ℕ) → n ≤ 5000 → t (top, Dir) ≡ true → t (header_dir, Dir) ≡ true → t (source_dir, Dir) ≡ true
    → ((k : ℕ) → k < 20000 → t (header k) ≡ true) → ((j : ℕ) → j < 5000 → t (source j) ≡ true) → list_all t (nodes n) ≡ true
all_nodes t n few a b d headers sources =
    and_from _ _ a (and_from _ _ b (and_from _ _ d
    (list_all-append t (map header (range_with_len 0 (4 * n))) (map source (range_with_len 0 n))
    ∙ and_from _ _ (all_counted t header 0 (4 * n) (λ k low. headers k (omega (arith, low, few)))) (all_counted t source 0 n (λ j low. sources j (omega (arith, low, few)))))))

pub links_right : (n : ℕ) (es : Entries) → n ≤ 5000 → InOrder (nodes n) es → IsTrue (links_fit es)
links_right n es few h = moved (λ e. entry_fits e.1) (nodes n) es h.same (all_nodes (λ e. entry_fits e.1) n few refl refl refl (λ k low. refl) (λ j low. refl))

pub tree_made : ParentsMakeTrees → (n : ℕ) (es : Entries) → n ≤ 5000 → InOrder (nodes n) es → IsTrue (makes_tree es)
tree_made law n es few h =
    let in_top : list_any (is_dir_at (spelled top)) es ≡ true = sym (list_any-IsPermutation (is_dir_at (spelled top)) (nodes n) es h.same) in
    let in_headers : list_any (is_dir_at (spelled header_dir)) es ≡ true = sym (list_any-IsPermutation (is_dir_at (spelled header_dir)) (nodes n) es h.same) in
    let in_sources : list_any (is_dir_at (spelled source_dir)) es ≡ true = sym (list_any-IsPermutation (is_dir_at (spelled source_dir)) (nodes n) es h.same) in
    law es h.order
    (moved (λ e. has_parent es e.0) (nodes n) es h.same (all_nodes (λ e. has_parent es e.0) n few refl in_top in_top (λ k low. in_headers) (λ j low. in_sources)))
    (moved (λ e. is_canonical e.0) (nodes n) es h.same
    (all_nodes (λ e. is_canonical e.0) n few refl refl refl (λ k low. header_is_canonical k (omega (arith, low))) (λ j low. source_is_canonical j (omega (arith, low)))))
    (links_right n es few h)

pub bodies_small : (n : ℕ) (es : Entries) → n ≤ 5000 → InOrder (nodes n) es → IsTrue (bodies_fit es)
bodies_small n es few h =
    moved (λ e. body_fits e.1) (nodes n) es h.same
    (all_nodes (λ e. body_fits e.1) n few refl refl refl (λ k low. header_fits k (omega (arith, low))) (λ j low. source_fits j (omega (arith, low))))

pub nodes_counted : (n : ℕ) (es : Entries) → InOrder (nodes n) es → length es ≡ 3 + 5 * n
nodes_counted n es h =
    let files = length-append (map header (range_with_len 0 (4 * n))) (map source (range_with_len 0 n)) in
    let headers = length-map-range_with_len header 0 (4 * n) in
    let sources = length-map-range_with_len source 0 n in
    omega (arith, length_permutation (nodes n) es h.same, files, headers, sources)
