-- The last `.` of a name, and what stands behind the last `/` of a text.
use Rattle.std.proofs.Common.{◌≡◌, ℕ, suc, ◌+◌, ◌-◌, ◌<◌, ◌==◌, [], ◌∷◌, ◌++◌, length, take, drop, get_or, true, false, not, cond, if◌then◌else◌, refl, sym, ap, ◌∙◌, arith, get_or-drop, length-drop}
use Rattle.std.proofs.lemmas.List.{drop_more, get_or_default, take-append-drop}
use Rattle.std.specs.List.{list_any, before_last, suffix_len, onto_first}
use Rattle.std.proofs.lemmas.List.Folds.{list_any_at, list_any_none}
use Rattle.std.proofs.lemmas.Bool.Decides.{nat_tests}
use Rattle.std.proofs.lemmas.List.Sums.{suffix_len_is}
use Rattle.base_types.specs.Ascii.{slash}
use Rattle.tree_model.specs.Paths.{Text}
use Rattle.tree_model.specs.Walk.{components, last_of}
use Rattle.tree_model.proofs.CutLemmas.{last_of-append}
use Rattle.tree_model.proofs.PathLemmas.{parts-append}
use Rattle.job_words.specs.Words.{stem}
use Rattle.job_words.specs.parts.Told.{NoneFrom, IsLast}

-- a `.` with none behind it is the last one
pub stem-at : (name : Text) (place : ℕ) → IsLast place 46 name → take place name ≡ stem name
stem-at name place last =
    let within : place < length name = last.0 in
    let any : list_any (λ b. b == 46) name ≡ true = list_any_at (λ b. b == 46) name place 0 within last.1 in
    let at : get_or name ((place + 1) - 1) 0 ≡ get_or name place 0 = ap (λ k. get_or name k 0) (omega arith) in
    let tail : suffix_len (λ b. not (b == 46)) name ≡ length name - (place + 1) =
    suffix_len_is (λ b. not (b == 46)) name (place + 1) 0 (omega arith) (λ k l h. ap not (last.2 k l h)) (λ _. ap (λ b. not (b == 46)) at ∙ ap not last.1) in
    let same : length name - suffix_len (λ b. not (b == 46)) name - 1 ≡ place = omega arith in
    sym (ap (λ t. if t then before_last (λ b. b == 46) name else name) any ∙ ap (λ n. take n name) same)

-- a name with no `.` is its own stem
pub stem-whole : (name : Text) → NoneFrom 0 46 name → name ≡ stem name
stem-whole name none =
    let no : list_any (λ b. b == 46) name ≡ false = list_any_none (λ b. b == 46) name (λ k d l. ap (λ b. b == 46) (get_or_default name k d 0 l) ∙ none k (omega arith) l) in
    sym (ap (λ t. if t then before_last (λ b. b == 46) name else name) no)

-- a text without a `/` is its only component
one : (text : Text) → NoneFrom 0 47 text → components text ≡ text ∷ []
one [] none = refl
one (b ∷ text) none =
    let first : (b == slash) ≡ false = none 0 (omega arith) (omega arith) in
    let rest : components text ≡ text ∷ [] = one text (λ k l h. none (suc k) (omega arith) (omega arith)) in
    ap (λ t. cond t ([] ∷ components text) (onto_first b (components text))) first ∙ ap (onto_first b) rest

pub component-whole : (text : Text) → NoneFrom 0 47 text → text ≡ last_of (components text)
component-whole text none = sym (ap last_of (one text none))

byte-is : (b : ℕ) → (b == 47) ≡ true → b ≡ 47
byte-is b e = grind (arith, nat_tests)

none-behind : (text : Text) (place : ℕ) → NoneFrom (place + 1) 47 text → NoneFrom 0 47 (drop (place + 1) text)
none-behind text place none k l h =
    let at : get_or (drop (place + 1) text) k 0 ≡ get_or text (place + 1 + k) 0 = get_or-drop (place + 1) text k 0 in
    ap (λ b. b == 47) at ∙ none (place + 1 + k) (omega arith) (omega (arith, length-drop (place + 1) text))

-- what stands behind the last `/`
pub component-behind : (text : Text) (place : ℕ) → IsLast place 47 text → drop (place + 1) text ≡ last_of (components text)
component-behind text place last =
    let within : place < length text = last.0 in
    let rest : drop place text ≡ get_or text place 0 ∷ drop (place + 1) text = drop_more text place 0 within in
    let here : get_or text place 0 ≡ 47 = byte-is (get_or text place 0) last.1 in
    let whole : text ≡ take place text ++ slash ∷ drop (place + 1) text =
    sym (take-append-drop place text) ∙ ap (λ (more : Text). take place text ++ more) (rest ∙ ap (λ b. b ∷ drop (place + 1) text) here) in
    let parts : components text ≡ components (take place text) ++ drop (place + 1) text ∷ [] =
    ap components whole ∙ parts-append (take place text) (drop (place + 1) text) ∙ ap (λ more. components (take place text) ++ more) (one (drop (place + 1) text) (none-behind text place last.2)) in
    sym (ap last_of parts ∙ last_of-append (components (take place text)) (drop (place + 1) text))
