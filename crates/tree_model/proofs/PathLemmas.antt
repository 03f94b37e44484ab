-- Canonical paths and their spellings.
use Rattle.std.proofs.Common.{inl, inr, ◌≡◌, ℕ, zero, suc, ◌+◌, ◌-◌, ◌≤◌, ◌<◌, List, [], ◌∷◌, ◌++◌, length, reverse, refl, sym, ◌∙◌, ap, subst, Bool, true, false, cond, not, ◌&&◌, ◌||◌, nat_lt, nat_le, nat_eq, arith, ◌==◌, filter, length-append, append_assoc, get_or, take, drop, Some, None, IsTrue}
use Rattle.std.specs.List.{slice_split, onto_first, AllByRecursion, list_all}
use Rattle.std.proofs.lemmas.List.{reverse-append, reverse-reverse, append-nil, get_or-drop, drop-drop, length-drop, take_all}
use Rattle.std.proofs.lemmas.List.Elements.{filter-append}
use Rattle.std.proofs.lemmas.List.Folds.{list_all-append, list_all_more}
use Rattle.std.proofs.lemmas.Bool.{eqb-true, eqb-false, eq-eqb, lt-ltb, ltb-true, leb-true, le-leb, and_parts, and_from, or_parts, not-true, not_from_false, false_from_ne_true}
use lib.Pointwise.{pointwise}
use Rattle.base_types.specs.Members.{Member}
use Rattle.base_types.specs.Ascii.{slash, dot}
use Rattle.tree_model.specs.Paths.{Text, Path, spelled, spelled_below, names_of, IsName, IsCanonical, IsSpelling, is_name, is_file_name_byte, is_dots, is_canonical, is_spelling, path_of, parent, parent_spelling, child_of}

-- TESTS

-- equal byte by byte is equal
pub text_same : (a b : Text) → pointwise nat_eq a b ≡ true → a ≡ b
text_same [] [] h = refl
text_same [] (y ∷ b) h = absurd (cc)
text_same (x ∷ a) [] h = absurd (cc)
text_same (x ∷ a) (y ∷ b) h =
    let pair = and_parts (nat_eq x y) (pointwise nat_eq a b) h in
    rw (eqb-true x y pair.0, text_same a b pair.1) refl

pub text_itself : (a : Text) → pointwise nat_eq a a ≡ true
text_itself [] = refl
text_itself (x ∷ a) = ap (λ b. b && pointwise nat_eq a a) (eq-eqb x x refl) ∙ text_itself a

no_byte : (b : ℕ) (text : Text) → is_file_name_byte b ≡ false → list_all is_file_name_byte text ≡ true → Member b text → ⊥
no_byte b [] isnt h m = elim m [ ]
no_byte b (x ∷ text) isnt h (inl e) =
    let pair = and_parts (is_file_name_byte x) (list_all is_file_name_byte text) h in
    let both : is_file_name_byte b ≡ true = ap is_file_name_byte (sym e) ∙ pair.0 in cc
no_byte b (x ∷ text) isnt h (inr m) = no_byte b text isnt (and_parts (is_file_name_byte x) (list_all is_file_name_byte text) h).1 m

pub name_from_test : (name : Text) → is_name name ≡ true → IsName name
name_from_test name h =
    let a = and_parts (nat_lt 0 (length name)) _ h in
    let b = and_parts (nat_le (length name) 255) _ a.1 in
    let d = and_parts (list_all is_file_name_byte name) (not (is_dots name)) b.1 in
    let dots = or_parts (pointwise nat_eq name (dot ∷ [])) (pointwise nat_eq name (dot ∷ dot ∷ [])) (not-true (is_dots name) d.1) in
    record {
      some = ltb-true 0 (length name) a.0;
      short = leb-true (length name) 255 b.0;
      no_slash = no_byte slash name refl d.0;
      no_zero = no_byte 0 name refl d.0;
      no_dot = λ e. let t : pointwise nat_eq name (dot ∷ []) ≡ true = ap (λ (n : Text). pointwise nat_eq n (dot ∷ [])) e in cc;
      no_dots = λ e. let t : pointwise nat_eq name (dot ∷ dot ∷ []) ≡ true = ap (λ (n : Text). pointwise nat_eq n (dot ∷ dot ∷ [])) e in cc;
    }

bytes_fit : (text : Text) → (Member slash text → ⊥) → (Member 0 text → ⊥) → list_all is_file_name_byte text ≡ true
bytes_fit [] s z = refl
bytes_fit (x ∷ text) s z =
    let a : (x == slash) ≡ false = false_from_ne_true (x == slash) (λ e. s (inl (eqb-true x slash e))) in
    let b : (x == 0) ≡ false = false_from_ne_true (x == 0) (λ e. z (inl (eqb-true x 0 e))) in
    rw (a, b) (bytes_fit text (λ m. s (inr m)) (λ m. z (inr m)))

pub test_from_name : (name : Text) → IsName name → is_name name ≡ true
test_from_name name h =
    let a : nat_lt 0 (length name) ≡ true = lt-ltb 0 (length name) h.some in
    let b : nat_le (length name) 255 ≡ true = le-leb (length name) 255 h.short in
    let d : list_all is_file_name_byte name ≡ true = bytes_fit name h.no_slash h.no_zero in
    let e : pointwise nat_eq name (dot ∷ []) ≡ false = false_from_ne_true _ (λ t. h.no_dot (text_same name (dot ∷ []) t)) in
    let f : pointwise nat_eq name (dot ∷ dot ∷ []) ≡ false = false_from_ne_true _ (λ t. h.no_dots (text_same name (dot ∷ dot ∷ []) t)) in
    rw (a, b, d, e, f) refl

pub names_from_test : (path : Path) → list_all is_name path ≡ true → AllByRecursion IsName path
names_from_test [] h = tt
names_from_test (name ∷ path) h =
    let pair = and_parts (is_name name) (list_all is_name path) h in
    (name_from_test name pair.0, names_from_test path pair.1)

pub test_from_names : (path : Path) → AllByRecursion IsName path → list_all is_name path ≡ true
test_from_names [] h = refl
test_from_names (name ∷ path) h = ap (λ b. b && list_all is_name path) (test_from_name name h.0) ∙ test_from_names path h.1

pub canonical_from_test : (path : Path) → is_canonical path ≡ true → IsCanonical path
canonical_from_test path h =
    let pair = and_parts (list_all is_name path) _ h in
    record { names = names_from_test path pair.0; short = leb-true (length (spelled path)) 4096 pair.1 }

pub test_from_canonical : (path : Path) → IsCanonical path → is_canonical path ≡ true
test_from_canonical path h =
    let a : list_all is_name path ≡ true = test_from_names path h.names in
    let b : nat_le (length (spelled path)) 4096 ≡ true = le-leb (length (spelled path)) 4096 h.short in
    rw (a, b) refl

-- PARTS

abbrev pub parts_of : Text → List Text
parts_of text = slice_split (λ b. b == slash) text

onto_first-append : (b : ℕ) (text : Text) (others : List Text) → onto_first b (parts_of text ++ others) ≡ onto_first b (parts_of text) ++ others
onto_first-append b [] others = refl
onto_first-append b (x ∷ text) others = go (x == slash) (parts_of text)
  where
    go : (t : Bool) (parts : List Text) → onto_first b (cond t ([] ∷ parts) (onto_first x parts) ++ others) ≡ onto_first b (cond t ([] ∷ parts) (onto_first x parts)) ++ others
    go true parts = refl
    go false [] = refl
    go false (part ∷ parts) = refl

-- the parts of two texts with a slash between them
pub parts-append : (text behind : Text) → parts_of (text ++ slash ∷ behind) ≡ parts_of text ++ parts_of behind
parts-append [] behind = refl
parts-append (x ∷ text) behind = go (x == slash) (parts-append text behind)
  where
    go : (t : Bool) → parts_of (text ++ slash ∷ behind) ≡ parts_of text ++ parts_of behind
        → cond t ([] ∷ parts_of (text ++ slash ∷ behind)) (onto_first x (parts_of (text ++ slash ∷ behind))) ≡ cond t ([] ∷ parts_of text) (onto_first x (parts_of text)) ++ parts_of behind
    go true h = ap (λ parts. [] ∷ parts) h
    go false h = ap (onto_first x) h ∙ onto_first-append x text (parts_of behind)

-- a text without a slash is its one part
pub parts-name : (name : Text) → (Member slash name → ⊥) → parts_of name ≡ name ∷ []
parts-name [] none = refl
parts-name (x ∷ name) none = go (x == slash) refl (parts-name name (λ m. none (inr m)))
  where
    go : (t : Bool) → (x == slash) ≡ t → parts_of name ≡ name ∷ [] → cond t ([] ∷ parts_of name) (onto_first x (parts_of name)) ≡ (x ∷ name) ∷ []
    go true e h = absurd (none (inl (eqb-true x slash e)))
    go false e h = ap (onto_first x) h

name-some : (name : Text) → 1 ≤ length name → filter (λ part. nat_lt 0 (length part)) (name ∷ []) ≡ name ∷ []
name-some [] h = absurd (omega arith)
name-some (x ∷ name) h =
    let t : nat_lt 0 (suc (length name)) ≡ true = lt-ltb 0 (suc (length name)) (omega arith) in
    ap (λ b. cond b ((x ∷ name) ∷ []) []) t

pub names_below : (path : Path) → AllByRecursion IsName path → names_of (spelled_below path) ≡ path
names_below [] h = refl
names_below (name ∷ parent) h =
    let test : Text → Bool = λ part. nat_lt 0 (length part) in
    ap (λ parts. reverse (filter test parts)) (parts-append (spelled_below parent) name ∙ ap (λ parts. parts_of (spelled_below parent) ++ parts) (parts-name name h.0.no_slash))
    ∙ ap reverse (filter-append test (parts_of (spelled_below parent)) (name ∷ []) ∙ ap (λ parts. filter test (parts_of (spelled_below parent)) ++ parts) (name-some name h.0.some))
    ∙ reverse-append (filter test (parts_of (spelled_below parent))) (name ∷ [])
    ∙ ap (λ path. name ∷ path) (names_below parent h.1)

-- the names of a canonical path's spelling are the path
pub names_of-spelled : (path : Path) → IsCanonical path → names_of (spelled path) ≡ path
names_of-spelled [] h = refl
names_of-spelled (name ∷ parent) h = names_below (name ∷ parent) h.names

-- two canonical paths with one spelling are one
pub spelled-same : (a b : Path) → IsCanonical a → IsCanonical b → spelled a ≡ spelled b → a ≡ b
spelled-same a b p q e = sym (names_of-spelled a p) ∙ ap names_of e ∙ names_of-spelled b q

-- a canonical path's spelling is one
pub spelling : (path : Path) → IsCanonical path → IsSpelling (spelled path)
spelling path h =
    let e : names_of (spelled path) ≡ path = names_of-spelled path h in
    (subst IsCanonical (sym e) h, ap spelled e)

-- THE SCAN

-- parts, each after a slash
joined : List Text → Text
joined [] = []
joined (part ∷ parts) = slash ∷ (part ++ joined parts)

-- the parts of a text, each after a slash, are the text after a slash
joined-parts : (text : Text) → joined (parts_of text) ≡ slash ∷ text
unfolding joined
joined-parts [] = refl
joined-parts (x ∷ text) = go (x == slash) refl (parts_of text) (joined-parts text)
  where
    go : (t : Bool) → (x == slash) ≡ t → (parts : List Text) → joined parts ≡ slash ∷ text → joined (cond t ([] ∷ parts) (onto_first x parts)) ≡ slash ∷ (x ∷ text)
    go true e parts h = ap (λ (t : Text). slash ∷ t) (h ∙ ap (λ (b : ℕ). b ∷ text) (sym (eqb-true x slash e)))
    go false e [] h = absurd (cc)
    go false e (part ∷ parts) h =
        let rest : part ++ joined parts ≡ text = cc in
        ap (λ (t : Text). slash ∷ (x ∷ t)) rest

joined-push : (parts : List Text) (name : Text) → joined (parts ++ name ∷ []) ≡ joined parts ++ slash ∷ name
unfolding joined
joined-push [] name = ap (λ (t : Text). slash ∷ t) (append-nil name)
joined-push (part ∷ parts) name = ap (λ (t : Text). slash ∷ (part ++ t)) (joined-push parts name) ∙ ap (λ (t : Text). slash ∷ t) (rw append_assoc refl)

pub reverse-first : (name : Text) (path : Path) → reverse (name ∷ path) ≡ reverse path ++ name ∷ []
reverse-first name path = reverse-append (name ∷ []) path

-- the spelling below the root, from the outermost name on
joined-reverse : (path : Path) → joined (reverse path) ≡ spelled_below path
unfolding joined
joined-reverse [] = refl
joined-reverse (name ∷ path) =
    ap joined (reverse-first name path) ∙ joined-push (reverse path) name ∙ ap (λ (t : Text). t ++ slash ∷ name) (joined-reverse path)

below-reverse : (parts : List Text) → spelled_below (reverse parts) ≡ joined parts
below-reverse parts = sym (joined-reverse (reverse parts)) ∙ ap joined (reverse-reverse parts)

-- the parts of a spelling are the names, the outermost first, behind an empty one
pub parts-below : (path : Path) → AllByRecursion IsName path → parts_of (spelled_below path) ≡ [] ∷ reverse path
parts-below [] h = refl
parts-below (name ∷ path) h =
    parts-append (spelled_below path) name
    ∙ ap (λ (parts : List Text). parts_of (spelled_below path) ++ parts) (parts-name name h.0.no_slash)
    ∙ ap (λ (parts : List Text). parts ++ name ∷ []) (parts-below path h.1)
    ∙ ap (λ (parts : List Text). [] ∷ parts) (sym (reverse-first name path))

all-reverse : (path : Path) → list_all is_name path ≡ true → list_all is_name (reverse path) ≡ true
all-reverse [] h = refl
all-reverse (name ∷ path) h =
    let pair = and_parts (is_name name) (list_all is_name path) h in
    ap (list_all is_name) (reverse-first name path) ∙ list_all-append is_name (reverse path) (name ∷ [])
    ∙ and_from _ _ (all-reverse path pair.1) (and_from _ _ pair.0 refl)

-- names are not empty
kept : (parts : List Text) → list_all is_name parts ≡ true → filter (λ part. nat_lt 0 (length part)) parts ≡ parts
kept [] h = refl
kept (part ∷ parts) h =
    let pair = and_parts (is_name part) (list_all is_name parts) h in
    let some = and_parts (nat_lt 0 (length part)) _ pair.0 in
    rw some.0 (ap (λ (ps : List Text). part ∷ ps) (kept parts pair.1))

spelled-below : (path : Path) (text : Text) → spelled_below path ≡ slash ∷ text → spelled path ≡ slash ∷ text
spelled-below [] text h = absurd (cc)
spelled-below (name ∷ path) text h = h

-- a text that is the spelling of a path passes the test, and only such a text
pub test_from_spelling : (text : Text) → IsSpelling text → is_spelling text ≡ true
test_from_spelling text h =
    let short : length text ≤ 4096 = subst (λ (t : Text). length t ≤ 4096) h.1 h.0.short in
    let same : pointwise nat_eq (spelled (names_of text)) text ≡ true = ap (λ (t : Text). pointwise nat_eq t text) h.1 ∙ text_itself text in
    and_from _ _ (test_from_names (names_of text) h.0.names) (and_from _ _ (le-leb (length text) 4096 short) same)

pub spelling_from_test : (text : Text) → is_spelling text ≡ true → IsSpelling text
spelling_from_test text h =
    let a = and_parts (list_all is_name (names_of text)) _ h in
    let b = and_parts (nat_le (length text) 4096) _ a.1 in
    let same : spelled (names_of text) ≡ text = text_same (spelled (names_of text)) text b.1 in
    (record { names = names_from_test (names_of text) a.0; short = subst (λ (t : Text). length t ≤ 4096) (sym same) (leb-true (length text) 4096 b.0) }, same)

-- a slash and names with slashes between them
slash_names : (names : Text) → length (slash ∷ names) ≤ 4096 → list_all is_name (parts_of names) ≡ true → is_spelling (slash ∷ names) ≡ true
slash_names names short h =
    let path : Path = reverse (parts_of names) in
    let is : names_of (slash ∷ names) ≡ path = ap reverse (kept (parts_of names) h) in
    let same : spelled path ≡ slash ∷ names = spelled-below path names (below-reverse (parts_of names) ∙ joined-parts names) in
    let all : list_all is_name path ≡ true = all-reverse (parts_of names) h in
    test_from_spelling (slash ∷ names) (
      record {
        names = names_from_test (names_of (slash ∷ names)) (ap (list_all is_name) is ∙ all);
        short = subst (λ (t : Text). length t ≤ 4096) (sym (ap spelled is ∙ same)) short;
      },
      ap spelled is ∙ same,
    )

names_behind : (names : Text) → 0 < length names → is_spelling (slash ∷ names) ≡ true → list_all is_name (parts_of names) ≡ true
names_behind names some h =
    let spells : IsSpelling (slash ∷ names) = spelling_from_test (slash ∷ names) h in
    go (names_of (slash ∷ names)) spells.0.names spells.1
  where
    go : (path : Path) → AllByRecursion IsName path → spelled path ≡ slash ∷ names → list_all is_name (parts_of names) ≡ true
    go [] all e = let none : names ≡ [] = cc in absurd (omega (arith, ap length none))
    go (name ∷ path) all e =
        let parts : [] ∷ parts_of names ≡ [] ∷ reverse (name ∷ path) = sym (ap parts_of e) ∙ parts-below (name ∷ path) all in
        let same : parts_of names ≡ reverse (name ∷ path) = cc in
        ap (list_all is_name) same ∙ all-reverse (name ∷ path) (test_from_names (name ∷ path) all)

-- a spelling begins with a slash
below-begins : (name : Text) (path : Path) → (rest : Text) × (spelled_below (name ∷ path) ≡ slash ∷ rest)
below-begins name [] = (name, refl)
below-begins name (up ∷ path) =
    let r = below-begins up path in
    (r.0 ++ slash ∷ name, ap (λ (t : Text). t ++ slash ∷ name) r.1)

begins : (path : Path) (first : ℕ) (rest : Text) → spelled path ≡ first ∷ rest → first ≡ slash
begins [] first rest e = cc
begins (name ∷ path) first rest e = let r = below-begins name path in let same : first ∷ rest ≡ slash ∷ r.0 = sym e ∙ r.1 in cc

pub scan_first : (first : ℕ) (names : Text) → (first ≡ slash → ⊥) → is_spelling (first ∷ names) ≡ false
scan_first first names h = false_from_ne_true _ (λ t. let s = spelling_from_test (first ∷ names) t in h (begins (names_of (first ∷ names)) first names s.1))

pub scan_names : (names : Text) → 0 < length names → length (slash ∷ names) ≤ 4096 → is_spelling (slash ∷ names) ≡ list_all is_name (parts_of names)
scan_names names some short = alike _ _ (names_behind names some) (slash_names names short)
  where
    alike : (a b : Bool) → (a ≡ true → b ≡ true) → (b ≡ true → a ≡ true) → a ≡ b
    alike true b f g = sym (f refl)
    alike false true f g = g refl
    alike false false f g = refl

-- THE LAST SLASH

abbrev pub is_part_byte : ℕ → Bool
is_part_byte b = not (b == slash)

slash_within : (above name : Text) → list_all is_part_byte (above ++ slash ∷ name) ≡ true → ⊥
slash_within [] name h = cc
slash_within (x ∷ above) name h = slash_within above name (and_parts (is_part_byte x) _ h).1

slash_at : (name : Text) (i : ℕ) → i < length name → list_all is_file_name_byte name ≡ true → get_or name i 0 ≡ slash → ⊥
slash_at [] i within h e = omega arith
slash_at (x ∷ name) zero within h e =
    let pair = and_parts (is_file_name_byte x) (list_all is_file_name_byte name) h in
    let t : is_file_name_byte slash ≡ true = ap is_file_name_byte (sym e) ∙ pair.0 in
    cc
slash_at (x ∷ name) (suc i) within h e = slash_at name i (omega arith) (and_parts (is_file_name_byte x) (list_all is_file_name_byte name) h).1 e

cut : (above name : Text) (i : ℕ) → i < length (above ++ slash ∷ name) → get_or (above ++ slash ∷ name) i 0 ≡ slash → list_all is_part_byte (drop (suc i) (above ++ slash ∷ name)) ≡ true
    → list_all is_file_name_byte name ≡ true → take i (above ++ slash ∷ name) ≡ above
cut [] name zero within at plain fits = refl
cut [] name (suc i) within at plain fits = absurd (slash_at name i (omega arith) fits at)
cut (x ∷ above) name zero within at plain fits = absurd (slash_within above name plain)
cut (x ∷ above) name (suc i) within at plain fits = ap (λ (t : Text). x ∷ t) (cut above name i (omega arith) at plain fits)

pub last_slash : (text : Text) (end i : ℕ) → end ≡ suc i → i < length text → get_or text i 0 ≡ slash → list_all is_part_byte (drop end text) ≡ true
    → (above name : Text) → list_all is_file_name_byte name ≡ true → text ≡ above ++ slash ∷ name → take i text ≡ above
last_slash text end i last within at plain above name fits is =
    ap (take i) is
    ∙ cut above name i (subst (λ (t : Text). i < length t) is within) (ap (λ (t : Text). get_or t i 0) (sym is) ∙ at)
    (ap (λ (t : Text). list_all is_part_byte (drop (suc i) t)) (sym is) ∙ ap (λ (n : ℕ). list_all is_part_byte (drop n text)) (sym last) ∙ plain) fits

-- what stands before a spelling's last slash is the parent's spelling
pub parent_above : (path : Path) (text above : Text) → IsCanonical path → text ≡ spelled path
    → ((front name : Text) → IsTrue (list_all is_file_name_byte name) → text ≡ front ++ slash ∷ name → above ≡ front) → above ≡ spelled_below (parent path)
parent_above [] text above h is clause = clause [] [] refl is
parent_above (name ∷ dir) text above h is clause = clause (spelled_below dir) name (bytes_fit name h.names.0.no_slash h.names.0.no_zero) is

pub parent_some : (path : Path) (above : Text) → (path ≡ [] → ⊥) → above ≡ spelled_below (parent path) → Some above ≡ parent_spelling path
parent_some [] above some is = absurd (some refl)
parent_some (name ∷ dir) above some is = ap Some is

-- CHILDREN AND PARENTS

below-length : (path : Path) → length (spelled path) ≤ length (spelled_below path) + 1
below-length [] = omega arith
below-length (name ∷ path) = omega arith

pub child-canonical : (dir : Path) (name : Text) → IsCanonical dir → is_name name ≡ true → length (spelled_below dir) + length name < 4096 → IsCanonical (name ∷ dir)
child-canonical dir name h n short = record {
  names = (name_from_test name n, h.names);
  short = simp length-append (omega arith);
}

pub parent-canonical : (path : Path) → IsCanonical path → IsCanonical (parent path)
parent-canonical [] h = h
parent-canonical (name ∷ dir) h = record {
  names = h.names.1;
  short =
      let is : length (spelled_below dir ++ slash ∷ name) ≡ length (spelled_below dir) + length (slash ∷ name) = length-append (spelled_below dir) (slash ∷ name) in
      let up = below-length dir in
      let whole = h.short in
      omega arith;
}

pub child_some : (dir : Path) (name text : Text) → IsCanonical (name ∷ dir) → text ≡ spelled_below dir ++ slash ∷ name → Some (names_of text) ≡ child_of dir name
child_some dir name text h is =
    let t : is_canonical (name ∷ dir) ≡ true = test_from_canonical (name ∷ dir) h in
    let same : names_of text ≡ name ∷ dir = ap names_of is ∙ names_of-spelled (name ∷ dir) h in
    rw t (ap Some same)

-- a text that spells a canonical path
pub spelling_of : (path : Path) (text : Text) → IsCanonical path → text ≡ spelled path → IsSpelling text
spelling_of path text h is = subst IsSpelling (sym is) (spelling path h)

pub names_are : (path : Path) (text : Text) → IsCanonical path → text ≡ spelled path → names_of text ≡ path
names_are path text h is = ap names_of is ∙ names_of-spelled path h

pub no_path : (text : Text) → is_spelling text ≡ false → None ≡ path_of text
unfolding path_of
no_path text h = rw h refl

pub some_path : (text : Text) → is_spelling text ≡ true → Some (names_of text) ≡ path_of text
unfolding path_of
some_path text h = rw h refl

-- THE LOOP OVER THE PARTS

-- the part before a slash is the first
first_part : (text : Text) (k : ℕ) → k < length text → get_or text k 0 ≡ slash → list_all is_part_byte (take k text) ≡ true → parts_of text ≡ take k text ∷ parts_of (drop (suc k) text)
first_part [] k within at plain = absurd (omega arith)
first_part (x ∷ text) zero within at plain = let e : (x == slash) ≡ true = eq-eqb x slash at in rw e refl
first_part (x ∷ text) (suc k) within at plain =
    let pair = and_parts (is_part_byte x) (list_all is_part_byte (take k text)) plain in
    let e : (x == slash) ≡ false = not-true (x == slash) pair.0 in
    rw e (ap (onto_first x) (first_part text k (omega arith) at pair.1))

pub names_turn : (text : Text) (start i : ℕ) → start ≤ i → i < length text → get_or text i 0 ≡ slash → list_all is_part_byte (take (i - start) (drop start text)) ≡ true
    → list_all is_name (parts_of (drop start text)) ≡ (is_name (take (i - start) (drop start text)) && list_all is_name (parts_of (drop (i + 1) text)))
names_turn text start i order within at plain =
    let left : start + (i - start) ≡ i = omega arith in
    let next : start + suc (i - start) ≡ i + 1 = omega arith in
    let here : get_or (drop start text) (i - start) 0 ≡ slash = get_or-drop start text (i - start) 0 ∙ ap (λ (n : ℕ). get_or text n 0) left ∙ at in
    let far : i - start < length (drop start text) = omega (arith, length-drop start text) in
    ap (list_all is_name) (first_part (drop start text) (i - start) far here plain)
    ∙ ap (λ (t : Text). is_name (take (i - start) (drop start text)) && list_all is_name (parts_of t)) (drop-drop (suc (i - start)) start text ∙ ap (λ (n : ℕ). drop n text) next)

pub plain_none : (text : Text) (i : ℕ) → list_all is_file_name_byte (take (i - i) text) ≡ true
plain_none text i = let none : i - i ≡ 0 = omega arith in rw none refl

-- a byte of the rest of a text
rest_byte : (text : Text) (start i b : ℕ) → start ≤ i → (get_or text i 0 ≡ b → ⊥) → (get_or (drop start text) (i - start) 0 == b) ≡ false
rest_byte text start i b order at =
    let left : start + (i - start) ≡ i = omega arith in
    false_from_ne_true _ (λ t. at (sym (get_or-drop start text (i - start) 0 ∙ ap (λ (n : ℕ). get_or text n 0) left) ∙ eqb-true _ b t))

pub plain_turn : (text : Text) (start i : ℕ) → start ≤ i → i < length text → (get_or text i 0 ≡ slash → ⊥) → (get_or text i 0 ≡ 0 → ⊥)
    → list_all is_file_name_byte (take (i - start) (drop start text)) ≡ true → list_all is_file_name_byte (take (i + 1 - start) (drop start text)) ≡ true
plain_turn text start i order within at none plain =
    let next : i + 1 - start ≡ (i - start) + 1 = omega arith in
    let far : i - start < length (drop start text) = omega (arith, length-drop start text) in
    ap (λ (n : ℕ). list_all is_file_name_byte (take n (drop start text))) next
    ∙ list_all_more is_file_name_byte (drop start text) (i - start) 0 far
    ∙ and_from _ _ plain (and_from _ _ (not_from_false _ (rest_byte text start i slash order at)) (not_from_false _ (rest_byte text start i 0 order none)))

-- what may stand in a name is no slash
pub part_bytes : (text : Text) → list_all is_file_name_byte text ≡ true → list_all is_part_byte text ≡ true
part_bytes [] h = refl
part_bytes (x ∷ text) h =
    let pair = and_parts (is_file_name_byte x) (list_all is_file_name_byte text) h in
    and_from _ _ (and_parts (is_part_byte x) (not (x == 0)) pair.0).0 (part_bytes text pair.1)

-- the first part has a byte that may not stand in a name
abbrev BadFirst : List Text → Type 0
BadFirst parts = (part : Text) × ((rest : List Text) × ((parts ≡ part ∷ rest) × (list_all is_file_name_byte part ≡ false)))

onto_bad : (x : ℕ) (parts : List Text) → BadFirst parts → BadFirst (onto_first x parts)
onto_bad x parts (part, (rest, (is, bad))) = (
  x ∷ part,
  (rest, (ap (onto_first x) is, false_from_ne_true _ (λ t. let no : list_all is_file_name_byte part ≡ true = (and_parts (is_file_name_byte x) _ t).1 in let clash : true ≡ false = sym no ∙ bad in cc))),
)

onto_zero : (parts : List Text) → BadFirst (onto_first 0 parts)
onto_zero [] = (0 ∷ [], ([], (refl, refl)))
onto_zero (part ∷ rest) = (0 ∷ part, (rest, (refl, refl)))

zero_part : (text : Text) (k : ℕ) → k < length text → get_or text k 0 ≡ 0 → list_all is_part_byte (take k text) ≡ true → BadFirst (parts_of text)
zero_part [] k far at plain = absurd (omega arith)
zero_part (x ∷ text) zero far at plain = subst (λ (b : ℕ). BadFirst (parts_of (b ∷ text))) (sym at) (onto_zero (parts_of text))
zero_part (x ∷ text) (suc k) far at plain =
    let pair = and_parts (is_part_byte x) _ plain in
    let e : (x == slash) ≡ false = not-true (x == slash) pair.0 in
    rw e (onto_bad x (parts_of text) (zero_part text k (omega arith) at pair.1))

bad_names : (parts : List Text) → BadFirst parts → false ≡ list_all is_name parts
bad_names parts (part, (rest, (is, bad))) = sym (ap (list_all is_name) is ∙ false_from_ne_true _ (λ t.
    let n = and_parts (is_name part) (list_all is_name rest) t in
    let a = and_parts (nat_lt 0 (length part)) _ n.0 in
    let b = and_parts (nat_le (length part) 255) _ a.1 in
    let d = and_parts (list_all is_file_name_byte part) (not (is_dots part)) b.1 in
    let clash : true ≡ false = sym d.0 ∙ bad in
    cc))

-- a byte 0 behind bytes that may stand in a name
pub zero_turn : (text : Text) (start i : ℕ) → start ≤ i → i < length text → get_or text i 0 ≡ 0 → list_all is_file_name_byte (take (i - start) (drop start text)) ≡ true
    → false ≡ list_all is_name (parts_of (drop start text))
zero_turn text start i order within at plain =
    let left : start + (i - start) ≡ i = omega arith in
    let far : i - start < length (drop start text) = omega (arith, length-drop start text) in
    let here : get_or (drop start text) (i - start) 0 ≡ 0 = get_or-drop start text (i - start) 0 ∙ ap (λ (n : ℕ). get_or text n 0) left ∙ at in
    bad_names (parts_of (drop start text)) (zero_part (drop start text) (i - start) far here (part_bytes (take (i - start) (drop start text)) plain))

-- a text of more than two bytes is neither `.` nor `..`
pub long_dots : (text : Text) → 2 < length text → is_dots text ≡ false
long_dots [] long = absurd (omega arith)
long_dots (x ∷ []) long = absurd (omega arith)
long_dots (x ∷ y ∷ []) long = absurd (omega arith)
long_dots (x ∷ y ∷ z ∷ text) long = go (nat_eq x dot) (nat_eq y dot)
  where
    go : (a b : Bool) → ((a && false) || (a && (b && false))) ≡ false
    go false b = refl
    go true false = refl
    go true true = refl

-- the last part, at the end of the text
pub plain_end : (text : Text) (start i : ℕ) → length text ≤ i → list_all is_file_name_byte (take (i - start) (drop start text)) ≡ true → list_all is_file_name_byte (drop start text) ≡ true
plain_end text start i past plain =
    ap (list_all is_file_name_byte) (sym (take_all (i - start) (drop start text) (omega (arith, length-drop start text)))) ∙ plain

one_part : (text : Text) → list_all is_part_byte text ≡ true → parts_of text ≡ text ∷ []
one_part [] h = refl
one_part (x ∷ text) h =
    let pair = and_parts (is_part_byte x) (list_all is_part_byte text) h in
    let e : (x == slash) ≡ false = not-true (x == slash) pair.0 in
    rw e (ap (onto_first x) (one_part text pair.1))

pub names_end : (text : Text) (start i : ℕ) → length text ≤ i → list_all is_part_byte (take (i - start) (drop start text)) ≡ true
    → list_all is_name (parts_of (drop start text)) ≡ is_name (drop start text)
names_end text start i past plain =
    let all : take (i - start) (drop start text) ≡ drop start text = take_all (i - start) (drop start text) (omega (arith, length-drop start text)) in
    ap (list_all is_name) (one_part (drop start text) (ap (list_all is_part_byte) (sym all) ∙ plain)) ∙ and_true (is_name (drop start text))
  where
    and_true : (b : Bool) → (b && true) ≡ b
    and_true true = refl
    and_true false = refl

pub scan_at : (text : Text) → 0 < length text → get_or text 0 0 ≡ slash → (length (drop 1 text) ≡ 0 → ⊥) → length text ≤ 4096 → list_all is_name (parts_of (drop 1 text)) ≡ is_spelling text
scan_at [] some at named short = absurd (omega arith)
scan_at (x ∷ []) some at named short = absurd (named refl)
scan_at (x ∷ y ∷ names) some at named short =
    sym (ap (λ (b : ℕ). is_spelling (b ∷ y ∷ names)) at ∙ scan_names (y ∷ names) (omega arith) (omega arith))

pub scan_not : (text : Text) → 0 < length text → (get_or text 0 0 ≡ slash → ⊥) → is_spelling text ≡ false
scan_not [] some at = absurd (omega arith)
scan_not (x ∷ names) some at = scan_first x names at

-- a parent's spelling is empty at the root alone
pub root_parent : (path : Path) (text : Text) → text ≡ spelled_below path → (length text == 0) ≡ true → [] ≡ path
root_parent [] text is h = refl
root_parent (name ∷ path) text is h =
    let r = below-begins name path in
    let none : length text ≡ 0 = eqb-true (length text) 0 h in
    absurd (omega (arith, ap length (is ∙ r.1)))

pub parent_spelled : (path : Path) (text : Text) → text ≡ spelled_below path → (length text == 0) ≡ false → text ≡ spelled path
parent_spelled [] text is h = absurd (eqb-false (length text) 0 h (ap length is))
parent_spelled (name ∷ path) text is h = is

-- a spelling of one byte is the root's
lone_name : (path : Path) (text : Text) → AllByRecursion IsName path → spelled path ≡ text → length text ≡ 1 → [] ≡ path
lone_name [] text h is one = refl
lone_name (name ∷ path) text h is one =
    let long : length (spelled_below path ++ slash ∷ name) ≡ length (spelled_below path) + length (slash ∷ name) = length-append (spelled_below path) (slash ∷ name) in
    let some : 1 ≤ length name = h.0.some in
    absurd (omega (arith, ap length is))

pub root_path : (text : Text) → is_spelling text ≡ true → length text ≡ 1 → Some [] ≡ path_of text
root_path text h one =
    let s : IsSpelling text = spelling_from_test text h in
    ap Some (lone_name (names_of text) text s.0.names s.1 one) ∙ some_path text h

-- and below the root none is `/`
pub below_slash : (path : Path) → AllByRecursion IsName path → spelled_below path ≡ slash ∷ [] → ⊥
below_slash [] h is = absurd (cc)
below_slash (name ∷ path) h is =
    let long : length (spelled_below path ++ slash ∷ name) ≡ length (spelled_below path) + length (slash ∷ name) = length-append (spelled_below path) (slash ∷ name) in
    let some : 1 ≤ length name = h.0.some in
    absurd (omega (arith, ap length is))
