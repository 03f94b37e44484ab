-- Components of texts that are cut at a `/`.
use Rattle.std.proofs.Common.{◌≡◌, ℕ, suc, ◌+◌, ◌-◌, ◌<◌, ◌≤◌, List, [], ◌∷◌, ◌++◌, length, take, drop, get_or, refl, sym, ◌∙◌, ap, subst, inl, inr, Some, None, Bool, true, false, cond, not, ◌==◌, nat_lt, arith, drop-cons, append_assoc, ltb-true, ltb-false}
use Rattle.std.specs.List.{position, position_or_len, onto_first}
use Rattle.std.proofs.lemmas.List.{take-append-drop, take_rest}
use Rattle.std.proofs.lemmas.List.Splits.{slice_split_first}
use Rattle.base_types.specs.Members.{Member}
use Rattle.base_types.specs.Ascii.{slash}
use Rattle.tree_model.specs.Paths.{Text}
use Rattle.tree_model.specs.Walk.{components, but_last, last_of}
use Rattle.tree_model.proofs.PathLemmas.{parts-append, parts-name}

is_slash : ℕ → Bool
is_slash b = b == slash

some-position : (text : Text) (b : Bool) (i : ℕ) → nat_lt (position_or_len (λ b. b == slash) text) (length text) ≡ b
    → cond b (Some (position_or_len (λ b. b == slash) text)) None ≡ Some i
    → (position_or_len (λ b. b == slash) text < length text) × (position_or_len (λ b. b == slash) text ≡ i)
some-position text true i t e = (ltb-true _ _ t, cc)
some-position text false i t e = absurd (cc)

none-position : (text : Text) (b : Bool) → nat_lt (position_or_len (λ b. b == slash) text) (length text) ≡ b
    → cond b (Some (position_or_len (λ b. b == slash) text)) None ≡ None → length text ≤ position_or_len (λ b. b == slash) text
none-position text true t e = absurd (cc)
none-position text false t e = ltb-false _ _ t

-- the first component ends at the first `/`
pub first_cut : (text : Text) (i : ℕ) → Some i ≡ position (λ b. b == slash) text
    → components text ≡ take i text ∷ components (take (length text - (i + 1)) (drop (i + 1) text))
first_cut text i e =
    let at : (position_or_len (λ b. b == slash) text < length text) × (position_or_len (λ b. b == slash) text ≡ i) = some-position text _ i refl (sym e) in
    slice_split_first (λ b. b == slash) text 0 at.0
    ∙ ap (λ n. take n text ∷ components (drop (n + 1) text)) at.1
    ∙ ap (λ (rest : Text). take i text ∷ components rest) (sym (take_rest text (i + 1)))

unslashed : (text : Text) → length text ≤ position_or_len (λ b. b == slash) text → components text ≡ text ∷ []
unslashed [] h = refl
unslashed (x ∷ text) h = go (x == slash) (unslashed text) h
  where
    go : (t : Bool) → (length text ≤ position_or_len (λ b. b == slash) text → components text ≡ text ∷ [])
        → suc (length text) ≤ cond (not t) (1 + position_or_len (λ b. b == slash) text) 0
        → cond t ([] ∷ components text) (onto_first x (components text)) ≡ (x ∷ text) ∷ []
    go true ih h = absurd (omega arith)
    go false ih h = ap (onto_first x) (ih (omega arith))

-- a text without a `/` is its only component
pub no_cut : (text : Text) → None ≡ position (λ b. b == slash) text → components text ≡ text ∷ []
no_cut text e = unslashed text (none-position text _ refl (sym e))

pub but_last-append : (list : List Text) (name : Text) → but_last (list ++ name ∷ []) ≡ list
but_last-append [] name = refl
but_last-append (x ∷ []) name = refl
but_last-append (x ∷ y ∷ list) name = ap (λ rest. x ∷ rest) (but_last-append (y ∷ list) name)

pub last_of-append : (list : List Text) (name : Text) → last_of (list ++ name ∷ []) ≡ name
last_of-append [] name = refl
last_of-append (x ∷ []) name = refl
last_of-append (x ∷ y ∷ list) name = last_of-append (y ∷ list) name

-- no byte of the text from an index on is a `/`
abbrev pub UnslashedFrom : Text → ℕ → Type 0
UnslashedFrom text at = Member slash (drop at text) → ⊥

-- a text that is cut at its last `/`
pub record LastCut (text head name : Text) : Type 0 where
  pub before : components head ≡ but_last (components text)
  pub name_is : name ≡ last_of (components text)
  pub one : components name ≡ name ∷ []

pub unslashed_end : (text : Text) → UnslashedFrom text (length text)
unslashed_end [] m = m
unslashed_end (x ∷ text) m = unslashed_end text m

pub unslashed_more : (text : Text) (at i : ℕ) → at ≡ suc i → at ≤ length text → (get_or text i 0 ≡ slash → ⊥) → UnslashedFrom text at → UnslashedFrom text i
unslashed_more text at i e le other h m =
    let cons : drop i text ≡ get_or text i 0 ∷ drop (suc i) text = drop-cons text i 0 (omega arith) in
    go (subst (Member slash) cons m)
  where
    go : Member slash (get_or text i 0 ∷ drop (suc i) text) → ⊥
    go (inl f) = other f
    go (inr n) = h (subst (λ k. Member slash (drop k text)) (sym e) n)

pub last_cut : (text : Text) (at i : ℕ) → at ≡ suc i → at ≤ length text → get_or text i 0 ≡ slash → UnslashedFrom text at
    → LastCut text (take i text) (take (length text - at) (drop at text))
last_cut text at i e le here h =
    let name : Text = drop at text in
    let cons : drop i text ≡ get_or text i 0 ∷ drop (suc i) text = drop-cons text i 0 (omega arith) in
    let tail : drop i text ≡ slash ∷ name = cons ∙ ap (λ b. b ∷ drop (suc i) text) here ∙ ap (λ k. slash ∷ drop k text) (sym e) in
    let whole : text ≡ take i text ++ slash ∷ name = sym (take-append-drop i text) ∙ ap (λ (rest : Text). take i text ++ rest) tail in
    let parts : components text ≡ components (take i text) ++ name ∷ [] =
    ap components whole ∙ parts-append (take i text) name ∙ ap (λ rest. components (take i text) ++ rest) (parts-name name h) in
    let cut : LastCut text (take i text) name = record {
      before = sym (ap but_last parts ∙ but_last-append (components (take i text)) name);
      name_is = sym (ap last_of parts ∙ last_of-append (components (take i text)) name);
      one = parts-name name h;
    } in
    subst (LastCut text (take i text)) (sym (take_rest text at)) cut

pub whole_name : (text : Text) → UnslashedFrom text 0 → components text ≡ text ∷ []
whole_name text h = parts-name text h

-- a text with another behind a `/`
pub joined : (text behind : Text) → components ((text ++ slash ∷ []) ++ behind) ≡ components text ++ components behind
joined text behind =
    let same : (text ++ slash ∷ []) ++ behind ≡ text ++ slash ∷ behind = append_assoc text (slash ∷ []) behind in
    ap components same ∙ parts-append text behind

pub joined_as : (text behind slashed whole : Text) → slashed ≡ text ++ slash ∷ [] → whole ≡ slashed ++ behind → components whole ≡ components text ++ components behind
joined_as text behind slashed whole e f = ap components (f ∙ ap (λ s. s ++ behind) e) ∙ joined text behind
