-- Pending tokens as lists.
use Rattle.std.proofs.Common.{◌≡◌, ℕ, zero, suc, ◌+◌, ◌-◌, ◌≤◌, Bool, false, List, [], ◌∷◌, ◌++◌, map, take, drop, length, reverse, Option, Some, None, option_to_list, refl, ap, sym, ◌∙◌, slice_get, MatchOption, arith}
use Rattle.std.proofs.lemmas.List.{nil_from_length, length-append, reverse-append}
use Rattle.std.specs.Option.{option_map, option_map_or}
use Rattle.pp_tokens.specs.declared.token.Token.{Token}
use Rattle.pp_tokens.specs.declared.token.TokenRef.{TokenRef}
use Rattle.pp_tokens.specs.Tokens.{token_seen}
use Rattle.macro_expand.specs.declared.marked.Marked.{Marked as Kept}
use Rattle.pp_tokens.specs.Marks.{is_open}
use Rattle.macro_expand.specs.declared.outcome.Mode.{Mode}
use Rattle.macro_expand.specs.Expansion.{Table}
use Rattle.macro_expand.specs.Replacement.{unmarked, Marked, after_open}
use Rattle.macro_expand.specs.parts.Steps.{IsUntouched, EachUntouched, TakesEach}
use Rattle.macro_expand.specs.parts.Reading.{holds_at}
use Rattle.macro_expand.specs.Seen.{marked_of, kept_plain, kept_token}

-- tokens with no hidden name are those of the text
pub plain_unmarked : (ts : List Token) → map marked_of (map kept_plain ts) ≡ map unmarked ts
plain_unmarked [] = refl
plain_unmarked (t ∷ ts) = ap (λ (l : List Marked). unmarked t ∷ l) (plain_unmarked ts)

-- a test of the token at a place
pub holds_at-seen : (test : Token → Bool) (place : ℕ) (ts : List Kept) →
    holds_at test place (map marked_of ts) ≡ option_map_or test (option_map kept_token (slice_get ts place)) false
holds_at-seen test place [] = refl
holds_at-seen test zero (t ∷ ts) = refl
holds_at-seen test (suc place) (t ∷ ts) = holds_at-seen test place ts

-- the first of what is left behind so many
pub dropped_first : {A : Type 0} (xs : List A) (i : ℕ) (x : A) (ys : List A) → drop i xs ≡ x ∷ ys → (slice_get xs i ≡ Some x) × (drop (i + 1) xs ≡ ys)
dropped_first [] zero x ys e = (cc, cc)
dropped_first [] (suc i) x ys e = (cc, cc)
dropped_first (z ∷ xs) zero x ys e = (cc, cc)
dropped_first (z ∷ xs) (suc i) x ys e = let more : suc i + 1 ≡ suc (i + 1) = omega arith in rw more (dropped_first xs i x ys e)

-- nothing stands behind the end
pub dropped_none : {A : Type 0} (xs : List A) (i j : ℕ) → drop i xs ≡ [] → i ≤ j → slice_get xs j ≡ None
dropped_none [] i j e le = refl
dropped_none (z ∷ xs) zero j e le = cc
dropped_none (z ∷ xs) (suc i) zero e le = absurd (omega arith)
dropped_none (z ∷ xs) (suc i) (suc j) e le = dropped_none xs i j e (omega arith)

-- what is read behind so many is what stands there
pub read_behind : (xs ys new : List Token) (i j : ℕ) (o : Option TokenRef) → ys ≡ drop i xs → i ≤ j → j ≤ i →
    MatchOption o ((ys ≡ []) × (new ≡ [])) (λ t. ys ≡ token_seen t ∷ new) → option_map token_seen o ≡ slice_get xs j
read_behind xs ys new i j None left le ge is = sym (dropped_none xs i j (sym left ∙ is.0) le)
read_behind xs ys new i j (Some t) left le ge is = let same : j ≡ i = omega (arith, le, ge) in rw same (sym (dropped_first xs i (token_seen t) new (sym left ∙ is)).0)

-- what doesn't begin with a `(`
pub begins_otherwise : (ts : List Kept) (t : Token) → Some t ≡ option_map kept_token (slice_get ts 0) → is_open t ≡ false → after_open (map marked_of ts) ≡ None
begins_otherwise [] t is other = refl
begins_otherwise (m ∷ ts) t is other =
    let same : t ≡ m.token = cc in
    let closed : is_open m.token ≡ false = ap is_open (sym same) ∙ other in
    rw closed refl

last_of : {A : Type 0} (ys : List A) (x : A) → slice_get (ys ++ x ∷ []) (length ys) ≡ Some x
last_of [] x = refl
last_of (y ∷ ys) x = last_of ys x

-- what is taken from the end, where it was seen before, is the first of the reverse
pub last_taken : {A : Type 0} (xs ys : List A) (o : Option A) (n k : ℕ) (m : A) → Some m ≡ slice_get xs (length xs - 1) → xs ≡ ys ++ option_to_list o → n ≡ length xs →
    MatchOption o ((n ≡ 0) × (k ≡ 0)) (λ _. k + 1 ≡ n) → reverse xs ≡ m ∷ reverse ys
last_taken xs ys None n k m seen taken same none =
    let empty : xs ≡ [] = nil_from_length xs (sym same ∙ none.0) in
    absurd (some_is_not_none m (seen ∙ ap (λ l. slice_get l (length xs - 1)) empty))
  where
    some_is_not_none : {A : Type 0} (m : A) → Some m ≡ None → ⊥
    some_is_not_none m e = absurd (cc)
last_taken xs ys (Some x) n k m seen taken same some =
    let longer : length xs ≡ length ys + 1 = ap length taken ∙ length-append ys (x ∷ []) in
    let before : length xs - 1 ≡ length ys = omega (arith, longer) in
    let is : Some m ≡ Some x = seen ∙ ap (slice_get xs) before ∙ ap (λ l. slice_get l (length ys)) taken ∙ last_of ys x in
    let m_is : m ≡ x = cc in
    ap reverse taken ∙ reverse-append ys (x ∷ []) ∙ ap (λ a. a ∷ reverse ys) (sym m_is)

-- tokens at the front of a run that no macro touches
module _ (table : Table) (mode : Mode) where
  pub untouched_more : (xs ys : List Token) (n : ℕ) (t : Token) → EachUntouched table mode (take n xs) → drop n xs ≡ t ∷ ys → IsUntouched table mode t →
      EachUntouched table mode (take (n + 1) xs)
  untouched_more [] ys zero t each is here = absurd (cc)
  untouched_more [] ys (suc n) t each is here = absurd (cc)
  untouched_more (x ∷ xs) ys zero t each is here = let same : x ≡ t = cc in rw same (here, tt)
  untouched_more (x ∷ xs) ys (suc n) t (first, each) is here =
      let more : suc n + 1 ≡ suc (n + 1) = omega arith in
      rw more (first, untouched_more xs ys n t each is here)

  pub takes_stretch : (ts rest : List Token) → EachUntouched table mode ts → TakesEach table mode ts (map kept_plain (ts ++ rest)) (map kept_plain rest)
  takes_stretch [] rest each = refl
  takes_stretch (t ∷ ts) rest (here, each) =
      let later = map kept_plain (ts ++ rest) in
      (later, ((kept_plain t, (refl, (refl, here (kept_plain t) later refl))), takes_stretch ts rest each))
