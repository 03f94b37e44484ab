-- Entries whose paths increase: finding one by its spelling, and what stands behind them.
use Rattle.std.proofs.Common.{◌≡◌, ℕ, zero, suc, ◌+◌, ◌-◌, ◌<◌, ◌≤◌, [], ◌∷◌, ◌++◌, length, get_or, drop, take, refl, sym, ◌∙◌, ap, subst, arith, cond, true, false, Bool, Option, Some, None}
use Rattle.std.specs.Prelude.{◌&&◌, ◌||◌, nat_eq, Result, Ok, Err}
use Rattle.std.specs.List.{list_any, list_all}
use Rattle.std.specs.Ordering.{nat_cmp, is_lt, is_eq, ordering_reverse}
use Rattle.std.specs.declared.cmp.Ordering.{Ordering}
use Rattle.std.specs.declared.cmp.Ordering.TheVariants.{Less, Equal, Greater}
use Rattle.std.proofs.lemmas.Map.Text.{is_eq-slice_cmp}
use Rattle.std.proofs.lemmas.Cmp.{nat_list_cmp_total, nat_cmp_total, tied_itself}
use Rattle.std.proofs.lemmas.Bool.{and_parts, and_from}
use Rattle.std.proofs.lemmas.List.{take-append-drop}
use Rattle.std.proofs.lemmas.List.Folds.{list_any-append, list_all_more}
use Rattle.std.proofs.Math.Seq.{append_snoc}
use Rattle.std.specs.Cmp.Lexicographic.{slice_cmp}
use Rattle.std.proofs.Math.Bool.{and-false, and-true}
use lib.Pointwise.{pointwise}
use Rattle.base_types.specs.Ascii.{slash}
use Rattle.tree_model.specs.Paths.{Text, Path, spelled, path_of}
use Rattle.tree_model.specs.Trees.{by_bytes}
use Rattle.tree_model.specs.declared.entry.Entry.{Entry}
use Rattle.tree_model.specs.declared.mem_tree.MirrorError.{MirrorError}
use Rattle.tree_model.specs.declared.mem_tree.MirrorError.TheVariants as why
use Rattle.tree_model.specs.Entries.{Entries, below, comes_behind, is_dir, is_dir_at, has_parent, with_parent, judged_path, is_increasing, Increasing, parents_stand}
use Rattle.tree_model.proofs.PathLemmas.{text_same}

abbrev cmp : Text → Text → Ordering
cmp = slice_cmp nat_cmp

lt_less : (o : Ordering) → is_lt o ≡ true → o ≡ Less
lt_less Less h = refl
lt_less Equal h = absurd (cc)
lt_less Greater h = absurd (cc)

less_than : (a b : Text) → below a b ≡ true → cmp a b ≡ Less
less_than a b h = lt_less (cmp a b) h

-- a text is itself, and no text before or after it
equal_same : (a b : Text) → cmp a b ≡ Equal → pointwise nat_eq a b ≡ true
equal_same a b h = sym (is_eq-slice_cmp a b) ∙ ap is_eq h

apart_less : (a b : Text) → cmp a b ≡ Less → pointwise nat_eq a b ≡ false
apart_less a b h = sym (is_eq-slice_cmp a b) ∙ ap is_eq h

apart_greater : (a b : Text) → cmp a b ≡ Greater → pointwise nat_eq a b ≡ false
apart_greater a b h = sym (is_eq-slice_cmp a b) ∙ ap is_eq h

all_at : (es : Entries) (t : Path × Entry → Bool) (m : ℕ) (d : Path × Entry) → list_all t es ≡ true → m < length es → t (get_or es m d) ≡ true
all_at [] t m d h k = absurd (omega arith)
all_at (e ∷ es) t zero d h k = (and_parts (t e) (list_all t es) h).0
all_at (e ∷ es) t (suc m) d h k = all_at es t m d (and_parts (t e) (list_all t es) h).1 (omega arith)

-- FINDING

-- no entry up to one that comes before the text is it
pub none_before : (es : Entries) (text : Text) (m : ℕ) (d : Path × Entry) → Increasing es → m < length es → cmp (spelled (get_or es m d).0) text ≡ Less → by_bytes text (take (m + 1) es) ≡ None
none_before [] text m d inc k h = absurd (omega arith)
none_before (e ∷ es) text zero d inc k h = rw (apart_less (spelled e.0) text h) refl
none_before (e ∷ es) text (suc m) d inc k h =
    let pair = and_parts (list_all (λ f. below (spelled e.0) (spelled f.0)) es) (is_increasing es) inc in
    let first : cmp (spelled e.0) text ≡ Less = nat_list_cmp_total.trans (spelled e.0) (spelled (get_or es m d).0) text (less_than (spelled e.0) (spelled (get_or es m d).0) (all_at es (λ f. below (spelled e.0) (spelled f.0)) m d pair.0 (omega arith))) h in
    let next : suc m + 1 ≡ suc (m + 1) = omega arith in
    rw next (rw (apart_less (spelled e.0) text first) (none_before es text m d pair.1 (omega arith) h))

-- no entry behind others that come behind the text is it
none_above : (es : Entries) (text from : Text) → cmp text from ≡ Less → list_all (λ f. below from (spelled f.0)) es ≡ true → by_bytes text es ≡ None
none_above [] text from h all = refl
none_above (e ∷ es) text from h all =
    let pair = and_parts (below from (spelled e.0)) (list_all (λ f. below from (spelled f.0)) es) all in
    let less : cmp text (spelled e.0) ≡ Less = nat_list_cmp_total.trans text from (spelled e.0) h (less_than from (spelled e.0) pair.0) in
    let greater : cmp (spelled e.0) text ≡ Greater = nat_list_cmp_total.antisymm (spelled e.0) text ∙ ap ordering_reverse less in
    rw (apart_greater (spelled e.0) text greater) (none_above es text from h pair.1)

none_equal : (es : Entries) (text from : Text) → text ≡ from → list_all (λ f. below from (spelled f.0)) es ≡ true → by_bytes text es ≡ None
none_equal [] text from same all = refl
none_equal (e ∷ es) text from same all =
    let pair = and_parts (below from (spelled e.0)) (list_all (λ f. below from (spelled f.0)) es) all in
    let less : cmp text (spelled e.0) ≡ Less = ap (λ (t : Text). cmp t (spelled e.0)) same ∙ less_than from (spelled e.0) pair.0 in
    let greater : cmp (spelled e.0) text ≡ Greater = nat_list_cmp_total.antisymm (spelled e.0) text ∙ ap ordering_reverse less in
    rw (apart_greater (spelled e.0) text greater) (none_equal es text from same pair.1)

-- no entry from one on that comes behind the text is it
pub none_behind : (es : Entries) (text : Text) (m : ℕ) (d : Path × Entry) → Increasing es → m < length es → cmp (spelled (get_or es m d).0) text ≡ Greater → by_bytes text (drop m es) ≡ None
none_behind [] text m d inc k h = absurd (omega arith)
none_behind (e ∷ es) text zero d inc k h =
    let pair = and_parts (list_all (λ f. below (spelled e.0) (spelled f.0)) es) (is_increasing es) inc in
    let less : cmp text (spelled e.0) ≡ Less = nat_list_cmp_total.antisymm text (spelled e.0) ∙ ap ordering_reverse h in
    rw (apart_greater (spelled e.0) text h) (none_above es text (spelled e.0) less pair.0)
none_behind (e ∷ es) text (suc m) d inc k h =
    none_behind es text m d (and_parts (list_all (λ f. below (spelled e.0) (spelled f.0)) es) (is_increasing es) inc).1 (omega arith) h

-- the entry that has the text is found
pub found_at : (es : Entries) (text : Text) (m : ℕ) (d : Path × Entry) → Increasing es → m < length es → cmp (spelled (get_or es m d).0) text ≡ Equal → by_bytes text es ≡ Some (get_or es m d).1
found_at [] text m d inc k h = absurd (omega arith)
found_at (e ∷ es) text zero d inc k h = rw (equal_same (spelled e.0) text h) refl
found_at (e ∷ es) text (suc m) d inc k h =
    let pair = and_parts (list_all (λ f. below (spelled e.0) (spelled f.0)) es) (is_increasing es) inc in
    let same : spelled (get_or es m d).0 ≡ text = text_same (spelled (get_or es m d).0) text (equal_same (spelled (get_or es m d).0) text h) in
    let less : cmp (spelled e.0) text ≡ Less = subst (λ (t : Text). cmp (spelled e.0) t ≡ Less) same (less_than (spelled e.0) (spelled (get_or es m d).0) (all_at es (λ f. below (spelled e.0) (spelled f.0)) m d pair.0 (omega arith))) in
    rw (apart_less (spelled e.0) text less) (found_at es text m d pair.1 (omega arith) h)

none_append : (xs ys : Entries) (text : Text) → by_bytes text xs ≡ None → by_bytes text ys ≡ None → by_bytes text (xs ++ ys) ≡ None
none_append [] ys text a b = b
none_append (e ∷ xs) ys text a b = by_first (pointwise nat_eq (spelled e.0) text) (none_append xs ys text) a
  where
    by_first : (t : Bool) → (by_bytes text xs ≡ None → by_bytes text ys ≡ None → by_bytes text (xs ++ ys) ≡ None) → cond t (Some e.1) (by_bytes text xs) ≡ None → cond t (Some e.1) (by_bytes text (xs ++ ys)) ≡ None
    by_first true rest h = absurd (cc)
    by_first false rest h = rest h b

none_later : (xs : Entries) (text : Text) (i j : ℕ) → i ≤ j → by_bytes text (drop i xs) ≡ None → by_bytes text (drop j xs) ≡ None
none_later xs text zero zero k e = e
none_later xs text (suc i) zero k e = absurd (omega arith)
none_later [] text i (suc j) k e = refl
none_later (x ∷ xs) text zero (suc j) k e = none_later xs text zero j (omega arith) (by_first (pointwise nat_eq (spelled x.0) text) e)
  where
    by_first : (t : Bool) → cond t (Some x.1) (by_bytes text xs) ≡ None → by_bytes text xs ≡ None
    by_first true h = absurd (cc)
    by_first false h = h
none_later (x ∷ xs) text (suc i) (suc j) k e = none_later xs text i j (omega arith) e

-- a search that has passed all entries found none
pub none_left : (es : Entries) (text : Text) (low high : ℕ) → high ≤ low → by_bytes text (take low es) ≡ None → by_bytes text (drop high es) ≡ None → None ≡ by_bytes text es
none_left es text low high h a b =
    sym (none_append (take low es) (drop low es) text a (none_later es text high low h b)) ∙ ap (by_bytes text) (take-append-drop low es)

pub at_middle : (es : Entries) (m : ℕ) (e : Path × Entry) (b text : Text) (o : Ordering) → e ≡ get_or es m e → b ≡ spelled e.0 → o ≡ cmp b text → cmp (spelled (get_or es m e).0) text ≡ o
at_middle es m e b text o is bytes says = ap (λ (x : Path × Entry). cmp (spelled x.0) text) (sym is) ∙ ap (λ (x : Text). cmp x text) (sym bytes) ∙ sym says

-- DIRECTORIES

abbrev pub is_dir_there : Option Entry → Bool
is_dir_there None = false
is_dir_there (Some e) = is_dir e

no_dir : (es : Entries) (text : Text) → by_bytes text es ≡ None → list_any (is_dir_at text) es ≡ false
no_dir [] text h = refl
no_dir (e ∷ es) text h = by_first (pointwise nat_eq (spelled e.0) text) (no_dir es text) h
  where
    by_first : (t : Bool) → (by_bytes text es ≡ None → list_any (is_dir_at text) es ≡ false) → cond t (Some e.1) (by_bytes text es) ≡ None → ((t && is_dir e.1) || list_any (is_dir_at text) es) ≡ false
    by_first true rest h = absurd (cc)
    by_first false rest h = rest h

-- a directory that is spelled so stands among the entries where the one that is spelled so is one
pub dir_there : (es : Entries) (text : Text) → Increasing es → is_dir_there (by_bytes text es) ≡ list_any (is_dir_at text) es
dir_there [] text inc = refl
dir_there (e ∷ es) text inc =
    let pair = and_parts (list_all (λ f. below (spelled e.0) (spelled f.0)) es) (is_increasing es) inc in
    by_first (pointwise nat_eq (spelled e.0) text) refl pair.0 (dir_there es text pair.1)
  where
    or_false : (b : Bool) → b ≡ (b || false)
    or_false true = refl
    or_false false = refl

    by_first : (t : Bool) → pointwise nat_eq (spelled e.0) text ≡ t → list_all (λ f. below (spelled e.0) (spelled f.0)) es ≡ true → is_dir_there (by_bytes text es) ≡ list_any (is_dir_at text) es
        → is_dir_there (cond t (Some e.1) (by_bytes text es)) ≡ ((t && is_dir e.1) || list_any (is_dir_at text) es)
    by_first true is all rest =
        let none : list_any (is_dir_at text) es ≡ false = no_dir es text (none_equal es text (spelled e.0) (sym (text_same (spelled e.0) text is)) all) in
        rw none (or_false (is_dir e.1))
    by_first false is all rest = rest

-- THE LAST

last_at : (es : Entries) (text : Text) (d : Path × Entry) (n : ℕ) → Increasing es → suc n ≡ length es → below (spelled (get_or es n d).0) text ≡ comes_behind es text
last_at [] text d n inc h = absurd (omega arith)
last_at (e ∷ []) text d zero inc h = sym (and-true (below (spelled e.0) text))
last_at (e ∷ []) text d (suc n) inc h = absurd (omega arith)
last_at (e ∷ f ∷ es) text d zero inc h = absurd (omega arith)
last_at (e ∷ f ∷ es) text d (suc n) inc h =
    let pair = and_parts (list_all (λ g. below (spelled e.0) (spelled g.0)) (f ∷ es)) (is_increasing (f ∷ es)) inc in
    let ih = last_at (f ∷ es) text d n pair.1 (omega arith) in
    let first : below (spelled e.0) (spelled (get_or (f ∷ es) n d).0) ≡ true = all_at (f ∷ es) (λ g. below (spelled e.0) (spelled g.0)) n d pair.0 (omega arith) in
    ih ∙ by_last (comes_behind (f ∷ es) text) (sym ih) first
  where
    by_last : (b : Bool) → b ≡ below (spelled (get_or (f ∷ es) n d).0) text → below (spelled e.0) (spelled (get_or (f ∷ es) n d).0) ≡ true → b ≡ (below (spelled e.0) text && b)
    by_last true is first =
        let less : cmp (spelled e.0) text ≡ Less = nat_list_cmp_total.trans (spelled e.0) (spelled (get_or (f ∷ es) n d).0) text (less_than (spelled e.0) (spelled (get_or (f ∷ es) n d).0) first) (less_than (spelled (get_or (f ∷ es) n d).0) text (sym is)) in
        rw less refl
    by_last false is first = sym (and-false (below (spelled e.0) text))

-- the last path decides whether a text comes behind all
pub last_decides : (es : Entries) (text : Text) (d : Path × Entry) → Increasing es → 0 < length es → below (spelled (get_or es (length es - 1) d).0) text ≡ comes_behind es text
last_decides es text d inc h = last_at es text d (length es - 1) inc (omega arith)

-- JUDGING

abbrev Judged : Type 0
Judged = Result Path MirrorError

pub not_behind : (es : Entries) (text : Text) → comes_behind es text ≡ false → ◌≡◌ {A = Judged} (Err why.Order) (judged_path es text)
unfolding judged_path
not_behind es text h = rw h refl

pub judged : (es : Entries) (text : Text) → comes_behind es text ≡ true → with_parent es (path_of text) ≡ judged_path es text
unfolding judged_path
judged es text h = rw h refl

pub good_parent : (es : Entries) (path : Path) → has_parent es path ≡ true → ◌≡◌ {A = Judged} (Ok path) (with_parent es (Some path))
good_parent es path h = rw h refl

pub bad_parent : (es : Entries) (path : Path) → has_parent es path ≡ false → ◌≡◌ {A = Judged} (Err why.Parent) (with_parent es (Some path))
bad_parent es path h = rw h refl

-- NEIGHBOURS

all_after : (es : Entries) (a b : Text) → below a b ≡ true → list_all (λ f. below b (spelled f.0)) es ≡ true → list_all (λ f. below a (spelled f.0)) es ≡ true
all_after [] a b h all = refl
all_after (e ∷ es) a b h all =
    let pair = and_parts (below b (spelled e.0)) (list_all (λ f. below b (spelled f.0)) es) all in
    let less : cmp a (spelled e.0) ≡ Less = nat_list_cmp_total.trans a b (spelled e.0) (less_than a b h) (less_than b (spelled e.0) pair.0) in
    and_from _ _ (ap is_lt less) (all_after es a b h pair.1)

pub neighbours : (es : Entries) (j : ℕ) (d e : Path × Entry) → suc j < length es → below (spelled (get_or es j d).0) (spelled (get_or es (suc j) e).0) ≡ true
    → is_increasing (drop j es) ≡ is_increasing (drop (suc j) es)
neighbours [] j d e k h = absurd (omega arith)
neighbours (a ∷ []) j d e k h = absurd (omega arith)
neighbours (a ∷ b ∷ es) zero d e k h = by_rest (is_increasing (b ∷ es)) refl
  where
    by_rest : (t : Bool) → is_increasing (b ∷ es) ≡ t → (list_all (λ f. below (spelled a.0) (spelled f.0)) (b ∷ es) && t) ≡ t
    by_rest false is = and-false _
    by_rest true is =
        let pair = and_parts (list_all (λ f. below (spelled b.0) (spelled f.0)) es) (is_increasing es) is in
        and_from _ _ (and_from _ _ h (all_after es (spelled a.0) (spelled b.0) h pair.0)) refl
neighbours (a ∷ b ∷ es) (suc j) d e k h = neighbours (b ∷ es) j d e (omega arith) h

pub no_neighbours : (es : Entries) (j : ℕ) → length es ≤ suc j → is_increasing (drop j es) ≡ true
no_neighbours [] zero k = refl
no_neighbours [] (suc j) k = refl
no_neighbours (a ∷ []) zero k = refl
no_neighbours (a ∷ []) (suc j) k = no_neighbours [] j (omega arith)
no_neighbours (a ∷ b ∷ es) zero k = absurd (omega arith)
no_neighbours (a ∷ b ∷ es) (suc j) k = no_neighbours (b ∷ es) j (omega arith)

pub increase_turn : (es : Entries) (i : ℕ) (d e : Path × Entry) (a b : Text) → 1 ≤ i → i < length es → d ≡ get_or es (i - 1) d → e ≡ get_or es i e → a ≡ spelled d.0 → b ≡ spelled e.0 → below a b ≡ true
    → is_increasing (drop (i - 1) es) ≡ is_increasing (drop (i + 1 - 1) es)
increase_turn es zero d e a b some within d_is e_is a_is b_is h = absurd (omega arith)
increase_turn es (suc j) d e a b some within d_is e_is a_is b_is h =
    let here : suc j - 1 ≡ j = omega arith in
    let next : suc j + 1 - 1 ≡ suc j = omega arith in
    let first : a ≡ spelled (get_or es j d).0 = a_is ∙ ap (λ (x : Path × Entry). spelled x.0) (d_is ∙ ap (λ (n : ℕ). get_or es n d) here) in
    let second : b ≡ spelled (get_or es (suc j) e).0 = b_is ∙ ap (λ (x : Path × Entry). spelled x.0) e_is in
    ap (λ (n : ℕ). is_increasing (drop n es)) here
    ∙ neighbours es j d e within (ap (λ (t : Text). below t (spelled (get_or es (suc j) e).0)) (sym first) ∙ ap (below a) (sym second) ∙ h)
    ∙ ap (λ (n : ℕ). is_increasing (drop n es)) (sym next)

pub one_more : (test : Path × Entry → Bool) (es : Entries) (k : ℕ) (e : Path × Entry) → k < length es → list_all test (take k es) ≡ true → e ≡ get_or es k e → test e ≡ true → list_all test (take (k + 1) es) ≡ true
one_more test es k e within all is holds = list_all_more test es k e within ∙ and_from _ _ all (ap test (sym is) ∙ holds)

-- a text comes before each longer one that begins with it
front_less : (text : Text) (byte : ℕ) (behind : Text) → cmp text (text ++ byte ∷ behind) ≡ Less
front_less [] byte behind = refl
front_less (x ∷ text) byte behind = rw (tied_itself nat_cmp_total x) (front_less text byte behind)

-- PARENTS AMONG ALL ENTRIES

from_later : (before : Entries) (e : Path × Entry) (es : Entries) → is_increasing (before ++ e ∷ es) ≡ true → is_increasing (e ∷ es) ≡ true
from_later [] e es h = h
from_later (b ∷ before) e es h = from_later before e es (and_parts (list_all (λ f. below (spelled b.0) (spelled f.0)) (before ++ e ∷ es)) (is_increasing (before ++ e ∷ es)) h).1

-- no entry at a path or behind it is the path's parent
parent_before : (before : Entries) (e : Path × Entry) (es : Entries) → is_increasing (e ∷ es) ≡ true → (path : Path) → e.0 ≡ path → has_parent before path ≡ has_parent (before ++ e ∷ es) path
parent_before before e es inc [] is = refl
parent_before before e es inc (name ∷ []) is = refl
parent_before before e es inc (name ∷ up ∷ path) is =
    let parent : Text = spelled (up ∷ path) in
    let pair = and_parts (list_all (λ f. below (spelled e.0) (spelled f.0)) es) (is_increasing es) inc in
    let less : cmp parent (spelled e.0) ≡ Less = ap (λ (p : Path). cmp parent (spelled p)) is ∙ front_less parent slash name in
    let greater : cmp (spelled e.0) parent ≡ Greater = nat_list_cmp_total.antisymm (spelled e.0) parent ∙ ap ordering_reverse less in
    let none : by_bytes parent (e ∷ es) ≡ None = rw (apart_greater (spelled e.0) parent greater) (none_above es parent (spelled e.0) less pair.0) in
    sym (list_any-append (is_dir_at parent) before (e ∷ es) ∙ ap (λ (b : Bool). list_any (is_dir_at parent) before || b) (no_dir (e ∷ es) parent none) ∙ or_false _)
  where
    or_false : (b : Bool) → (b || false) ≡ b
    or_false true = refl
    or_false false = refl

parents_among : (before es : Entries) → is_increasing (before ++ es) ≡ true → parents_stand before es ≡ list_all (λ e. has_parent (before ++ es) e.0) es
parents_among before [] inc = refl
parents_among before (e ∷ es) inc =
    let same : (before ++ e ∷ []) ++ es ≡ before ++ e ∷ es = append_snoc before e es in
    ap (λ (b : Bool). b && parents_stand (before ++ e ∷ []) es) (parent_before before e es (from_later before e es inc) e.0 refl)
    ∙ ap (λ (b : Bool). has_parent (before ++ e ∷ es) e.0 && b)
    (parents_among (before ++ e ∷ []) es (ap is_increasing same ∙ inc) ∙ ap (λ (all : Entries). list_all (λ f. has_parent all f.0) es) same)

-- where the paths increase, each parent stands before its child
pub parents_found : (es : Entries) → Increasing es → parents_stand [] es ≡ list_all (λ e. has_parent es e.0) es
parents_found es inc = parents_among [] es inc

pub below_apart : (a b : Text) → below a b ≡ true → pointwise nat_eq a b ≡ false
below_apart a b h = apart_less a b (less_than a b h)
