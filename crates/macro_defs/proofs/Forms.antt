-- What the tokens behind a name define.
use Rattle.std.proofs.Common.{◌≡◌, ℕ, zero, suc, ◌+◌, refl, ◌≤◌, Bool, true, false, List, [], ◌∷◌, ◌++◌, length, ◌-◌, take, drop, map, sym, ap, ◌∙◌, subst, if◌then◌else◌, append_assoc, length-append, arith}
use Rattle.std.specs.Prelude.{Some, Result, Ok, Err, IfOk, IfErr, ◌||◌, ◌&&◌, not}
use Rattle.std.specs.List.{list_any}
use Rattle.std.proofs.lemmas.List.{take_rest, drop-drop}
use Rattle.std.proofs.Math.Seq.{drop-append_seam}
use Rattle.pp_tokens.specs.declared.Token.{Token}
use Rattle.pp_tokens.specs.Marks.{is_open, is_close, is_hash, is_pasting}
use Rattle.macro_defs.specs.declared.definition.DefineError.{DefineError}
use Rattle.macro_defs.specs.declared.definition.Shape.TheVariants.{Object, Function}
use Rattle.macro_defs.specs.declared.definition.DefineError.TheVariants.{Name, Params}
use Rattle.macro_defs.specs.MacroDefinition.{MacroDefinition, without_line, is_operator}
use Rattle.macro_defs.specs.Defining.{Named, RefusesDefinition, IsParted, names_macro, after_name, enclosed_of, function_of, parameters_of, up_to_parenthesis, defined_by, begins_with_pasting, ends_with_pasting, with_body, definition_from, hashes_parameters}
use Rattle.macro_defs.specs.parts.Kept.{IsPlain, ReadsParameters}
use Rattle.macro_defs.proofs.Pieces.{closed, unclosed}
use Rattle.macro_defs.proofs.Places.{operator_unlined}

-- a definition that is found, whatever the name
abbrev pub Found : Result MacroDefinition DefineError → (List ℕ → Result Named DefineError) → Type 0
Found result meaning = IfOk result (λ d. (name : List ℕ) → meaning name ≡ Ok (record { name = name; definition = d }))

-- an error that is found, whatever the name
abbrev pub Wrong : Result MacroDefinition DefineError → (List ℕ → Result Named DefineError) → Type 0
Wrong result meaning = IfErr result (λ e. (name : List ℕ) → RefusesDefinition e (meaning name))

pub found_so : (result : Result MacroDefinition DefineError) (one other : List ℕ → Result Named DefineError) → ((name : List ℕ) → other name ≡ one name) → Found result one → Found result other
found_so (Ok d) one other same found = λ name. same name ∙ found name
found_so (Err e) one other same found = tt

pub wrong_so : (result : Result MacroDefinition DefineError) (one other : List ℕ → Result Named DefineError) → ((name : List ℕ) → other name ≡ one name) → Wrong result one → Wrong result other
wrong_so (Ok d) one other same wrong = tt
wrong_so (Err e) one other same wrong = λ name. subst (RefusesDefinition e) (sym (same name)) (wrong name)

-- the tokens behind a `)` that stands behind the first token
behind_mark : (tokens within body : List Token) → 1 ≤ length tokens → IsParted is_close (drop 1 tokens) within body → drop (length tokens - length body) tokens ≡ body
behind_mark [] within body some parted = absurd (omega arith)
behind_mark (t ∷ tokens) within body some parted =
    let front = t ∷ within ++ parted.mark ∷ [] in
    let whole : t ∷ tokens ≡ front ++ body = ap (λ ts. t ∷ ts) (parted.whole ∙ sym (append_assoc within (parted.mark ∷ []) body)) in
    let count : length (t ∷ tokens) - length body ≡ length front = omega (arith, ap length whole, length-append front body) in
    ap (λ n. drop n (t ∷ tokens)) count ∙ ap (drop (length front)) whole ∙ drop-append_seam front body

-- the tokens behind the first, as a slice shows them
abbrev pub inside : List Token → List Token
inside shown = take (length shown - 1) (drop 1 shown)

inside_of : (tokens shown : List Token) → shown ≡ tokens → inside shown ≡ drop 1 tokens
inside_of tokens shown same = take_rest shown 1 ∙ ap (drop 1) same

-- a macro whose parameters have no end
pub without_end : (tokens shown : List Token) → shown ≡ tokens → list_any is_close (inside shown) ≡ false → (name : List ℕ) → enclosed_of name (up_to_parenthesis (drop 1 tokens)) ≡ Err Params
without_end tokens shown same none name = ap (λ ts. enclosed_of name (up_to_parenthesis ts)) (sym (inside_of tokens shown same)) ∙ ap (enclosed_of name) (unclosed (inside shown) none)

-- what a macro with parameters is, by the tokens before and behind its `)`
pub with_end : (tokens shown within body : List Token) → shown ≡ tokens → IsParted is_close (inside shown) within body
    → (name : List ℕ) → enclosed_of name (up_to_parenthesis (drop 1 tokens)) ≡ function_of name (parameters_of within) body
with_end tokens shown within body same parted name =
    ap (λ ts. enclosed_of name (up_to_parenthesis ts)) (sym (inside_of tokens shown same)) ∙ ap (enclosed_of name) (closed (inside shown) within body parted)

-- its replacement list, by the number of the tokens
pub body_given : (tokens shown within body given : List Token) (count : ℕ) → shown ≡ tokens → 1 ≤ length tokens → IsParted is_close (inside shown) within body
    → count ≡ length tokens → given ≡ drop (count - length body) tokens → given ≡ body
body_given tokens shown within body given count same some parted counted is =
    is ∙ ap (λ n. drop (n - length body) tokens) counted ∙ behind_mark tokens within body some (subst (λ ts. IsParted is_close ts within body) (inside_of tokens shown same) parted)

-- A whole line.

pub no_token : (rest : List Token) → rest ≡ [] → defined_by rest ≡ Err Name
unfolding defined_by
no_token rest none = ap defined_by none

pub no_macro : (rest behind : List Token) (t : Token) → rest ≡ t ∷ behind → names_macro t ≡ false → defined_by rest ≡ Err Name
unfolding defined_by
no_macro rest behind t is none = ap defined_by is ∙ ap (λ (b : Bool). if b then after_name t.text behind else Err Name) none

a_macro : (rest behind : List Token) (t : Token) → rest ≡ t ∷ behind → names_macro t ≡ true → defined_by rest ≡ after_name t.text behind
unfolding defined_by
a_macro rest behind t is some = ap defined_by is ∙ ap (λ (b : Bool). if b then after_name t.text behind else Err Name) some

pub right_macro : (rest behind : List Token) (t : Token) (d : MacroDefinition) → rest ≡ t ∷ behind → names_macro t ≡ true
    → ((name : List ℕ) → after_name name behind ≡ Ok (record { name = name; definition = d })) → defined_by rest ≡ Ok (record { name = t.text; definition = d })
right_macro rest behind t d is some right = a_macro rest behind t is some ∙ right t.text

pub wrong_macro : (rest behind : List Token) (t : Token) (e : DefineError) → rest ≡ t ∷ behind → names_macro t ≡ true
    → ((name : List ℕ) → RefusesDefinition e (after_name name behind)) → RefusesDefinition e (defined_by rest)
wrong_macro rest behind t e is some wrong = subst (RefusesDefinition e) (sym (a_macro rest behind t is some)) (wrong t.text)

-- Tokens of a file.

same_tail : {A : Type 0} (y x : A) (ys rest : List A) → y ∷ ys ≡ x ∷ rest → ys ≡ rest
same_tail y x ys rest is = cc

-- the tokens behind the first of so many
behind_one : {A : Type 0} (ys : List A) (n : ℕ) (x : A) (rest : List A) → take n ys ≡ x ∷ rest → take (n - 1) (drop 1 ys) ≡ rest
behind_one [] zero x rest is = cc
behind_one [] (suc n) x rest is = cc
behind_one (y ∷ ys) zero x rest is = cc
behind_one (y ∷ ys) (suc n) x rest is = let less : suc n - 1 ≡ n = omega arith in rw less (same_tail y x (take n ys) rest is)

drop_next : {A : Type 0} (xs : List A) (from : ℕ) → drop (from + 1) xs ≡ drop 1 (drop from xs)
drop_next [] zero = refl
drop_next [] (suc from) = let more : suc from + 1 ≡ suc (from + 1) = omega arith in rw more refl
drop_next (y ∷ xs) zero = refl
drop_next (y ∷ xs) (suc from) = let more : suc from + 1 ≡ suc (from + 1) = omega arith in rw more (drop_next xs from)

-- the tokens behind the first of those between two numbers
behind_between : {A : Type 0} (xs : List A) (from end : ℕ) (x : A) (rest : List A) → take (end - from) (drop from xs) ≡ x ∷ rest → take (end - (from + 1)) (drop (from + 1) xs) ≡ rest
behind_between xs from end x rest is =
    let less : end - (from + 1) ≡ end - from - 1 = omega arith in
    rw (less, drop_next xs from) (behind_one (drop from xs) (end - from) x rest is)

-- the same where the numbers are told otherwise
pub behind_told : (xs : List Token) (from end start stop : ℕ) (x : Token) (rest : List Token) → start ≡ from + 1 → stop ≡ end → take (end - from) (drop from xs) ≡ x ∷ rest
    → take (stop - start) (drop start xs) ≡ rest
behind_told xs from end start stop x rest first last is =
    ap (λ n. take (stop - n) (drop n xs)) first ∙ ap (λ n. take (n - (from + 1)) (drop (from + 1) xs)) last ∙ behind_between xs from end x rest is

neither_first : (a b : Bool) → (a || b) ≡ false → a ≡ false
neither_first true b none = cc
neither_first false b none = refl

neither_second : (a b : Bool) → (a || b) ≡ false → b ≡ false
neither_second true b none = cc
neither_second false b none = none

-- no `##` stands at an end of a replacement list that has none
not_first : (ts : List Token) → list_any is_pasting ts ≡ false → begins_with_pasting ts ≡ false
not_first [] none = refl
not_first (t ∷ ts) none = neither_first (is_pasting t) (list_any is_pasting ts) none

not_last : (ts : List Token) → list_any is_pasting ts ≡ false → ends_with_pasting ts ≡ false
unfolding ends_with_pasting
not_last [] none = refl
not_last (t ∷ []) none = neither_first (is_pasting t) (list_any is_pasting []) none
not_last (t ∷ u ∷ ts) none = not_last (u ∷ ts) (neither_second (is_pasting t) (list_any is_pasting (u ∷ ts)) none)

-- an object-like macro without `##` is what its replacement list says
pub plain_body : (name : List ℕ) (ts : List Token) → list_any is_pasting ts ≡ false → with_body name Object true ts ≡ Ok (record { name = name; definition = definition_from Object ts })
plain_body name ts none = rw (not_first ts none, not_last ts none) refl

-- the line of a token doesn't tell whether it is a `##`
pub pasting_unlined : (ts : List Token) → list_any is_pasting ts ≡ false → list_any is_pasting (map without_line ts) ≡ false
pasting_unlined [] none = refl
pasting_unlined (t ∷ ts) none =
    rw (neither_first (is_pasting t) (list_any is_pasting ts) none) (pasting_unlined ts (neither_second (is_pasting t) (list_any is_pasting ts) none))

-- a name that may name a macro, before the replacement list of an object-like one without `##`
pub plain_macro : (rest behind within : List Token) (t : Token) (d : MacroDefinition) → rest ≡ t ∷ behind → names_macro t ≡ true
    → ((name : List ℕ) → after_name name behind ≡ with_body name Object true behind) → list_any is_pasting behind ≡ false
    → within ≡ behind → d ≡ definition_from Object within → defined_by rest ≡ Ok (record { name = t.text; definition = d })
plain_macro rest behind within t d is some after none same made =
    right_macro rest behind t d is some
    (λ name. after name ∙ plain_body name behind none ∙ ap (λ ts. Ok (record { name = name; definition = definition_from Object ts })) (sym same) ∙ ap (λ m. Ok (record { name = name; definition = m })) (sym made))

-- a token behind a name that begins no parameters
pub no_parameters : (rest behind : List Token) (t : Token) (begins : Bool) → rest ≡ t ∷ behind → begins ≡ (is_open t && not t.space) → begins ≡ false
    → (name : List ℕ) → after_name name rest ≡ with_body name Object true rest
no_parameters rest behind t begins is told none name =
    rw is (ap (λ (b : Bool). if b then enclosed_of name (up_to_parenthesis behind) else with_body name Object true (t ∷ behind)) (sym told ∙ none))

pub no_tokens : (rest : List Token) → rest ≡ [] → (name : List ℕ) → after_name name rest ≡ with_body name Object true rest
no_tokens rest none name = rw none refl

-- Function-like macros that share their file.

-- a list without `#` and `##` has no `##`
unpasted : (ts : List Token) → list_any is_operator ts ≡ false → list_any is_pasting ts ≡ false
unpasted [] none = refl
unpasted (t ∷ ts) none =
    rw (neither_second (is_hash t) (is_pasting t) (neither_first (is_operator t) (list_any is_operator ts) none))
    (unpasted ts (neither_second (is_operator t) (list_any is_operator ts) none))

-- and a parameter follows each `#`
hashes_none : (names : List (List ℕ)) (ts : List Token) → list_any is_operator ts ≡ false → hashes_parameters names ts ≡ true
unfolding hashes_parameters
hashes_none names [] none = refl
hashes_none names (t ∷ ts) none =
    rw (neither_first (is_hash t) (is_pasting t) (neither_first (is_operator t) (list_any is_operator ts) none))
    (hashes_none names ts (neither_second (is_operator t) (list_any is_operator ts) none))

-- such a list may be shared
pub plain_function : (names : List (List ℕ)) (variadic : Bool) (ts within : List Token) → list_any is_operator ts ≡ false → within ≡ ts → IsPlain (Function names variadic) within
plain_function names variadic ts within none same = rw same (sym (operator_unlined ts) ∙ none, pasting_unlined ts (unpasted ts none))

function_body : (name : List ℕ) (names : List (List ℕ)) (variadic : Bool) (ts : List Token) → list_any is_operator ts ≡ false
    → function_of name (Some (record { names = names; variadic = variadic })) ts ≡ Ok (record { name = name; definition = definition_from (Function names variadic) ts })
function_body name names variadic ts none = rw (not_first ts (unpasted ts none), not_last ts (unpasted ts none), hashes_none names ts none) refl

-- a name that may name a macro, before parameters and such a list
pub function_macro : (rest tokens behind within : List Token) (t : Token) (names : List (List ℕ)) (variadic : Bool) (count : ℕ) (d : MacroDefinition) → rest ≡ t ∷ tokens → names_macro t ≡ true
    → ReadsParameters tokens behind names variadic count → list_any is_operator behind ≡ false
    → within ≡ behind → d ≡ definition_from (Function names variadic) within → defined_by rest ≡ Ok (record { name = t.text; definition = d })
function_macro rest tokens behind within t names variadic count d is some reads none same made =
    right_macro rest tokens t d is some
    (λ name. reads.0 name ∙ function_body name names variadic behind none ∙ ap (λ ts. Ok (record { name = name; definition = definition_from (Function names variadic) ts })) (sym same)
    ∙ ap (λ m. Ok (record { name = name; definition = m })) (sym made))

-- a `(`, parameters and a `)`
pub reads_parameters : (tokens mid behind within : List Token) (first : Token) (names : List (List ℕ)) (variadic : Bool) (count : ℕ) → tokens ≡ first ∷ mid → (is_open first && not first.space) ≡ true
    → IsParted is_close mid within behind → parameters_of within ≡ Some (record { names = names; variadic = variadic }) → count ≡ length within + 2
    → ReadsParameters tokens behind names variadic count
reads_parameters tokens mid behind within first names variadic count is opens parted listed counted =
    let front = first ∷ within ++ parted.mark ∷ [] in
    let whole : tokens ≡ front ++ behind = is ∙ ap (λ ts. first ∷ ts) (parted.whole ∙ sym (append_assoc within (parted.mark ∷ []) behind)) in
    let long : count ≡ length front = omega (arith, counted, length-append within (parted.mark ∷ [])) in (
      (λ name. ap (after_name name) is ∙ ap (λ (b : Bool). if b then enclosed_of name (up_to_parenthesis mid) else with_body name Object true (first ∷ mid)) opens
          ∙ ap (enclosed_of name) (closed mid within behind parted) ∙ ap (λ p. function_of name p behind) listed),
      sym (ap (λ n. drop n tokens) long ∙ ap (drop (length front)) whole ∙ drop-append_seam front behind),
    )

take_nil : {A : Type 0} (n : ℕ) → take {A = A} n [] ≡ []
take_nil zero = refl
take_nil (suc n) = refl

drop_of_take : {A : Type 0} (xs : List A) (n m : ℕ) → drop n (take m xs) ≡ take (m - n) (drop n xs)
drop_of_take xs zero m = let same : m - 0 ≡ m = omega arith in rw same refl
drop_of_take [] (suc n) zero = let none : 0 - suc n ≡ 0 = omega arith in rw none refl
drop_of_take [] (suc n) (suc m) = sym (take_nil (suc m - suc n))
drop_of_take (x ∷ xs) (suc n) zero = let none : 0 - suc n ≡ 0 = omega arith in rw none refl
drop_of_take (x ∷ xs) (suc n) (suc m) = let less : suc m - suc n ≡ m - n = omega arith in rw less (drop_of_take xs n m)

-- the tokens behind the first so many of those between two numbers
pub behind_many : (xs : List Token) (from end start stop count : ℕ) → start ≡ from + count → stop ≡ end → take (stop - start) (drop start xs) ≡ drop count (take (end - from) (drop from xs))
behind_many xs from end start stop count first last =
    let less : stop - start ≡ end - from - count = omega (arith, first, last) in
    ap (λ n. take n (drop start xs)) less ∙ ap (λ n. take (end - from - count) (drop n xs)) first ∙ ap (take (end - from - count)) (sym (drop-drop count from xs))
    ∙ sym (drop_of_take (drop from xs) count (end - from))

pub drop_behind : {A : Type 0} (x : A) (xs : List A) (n : ℕ) → 1 ≤ n → drop n (x ∷ xs) ≡ drop (n - 1) xs
drop_behind x xs zero some = absurd (omega (arith, some))
drop_behind x xs (suc n) some = let less : suc n - 1 ≡ n = omega arith in rw less refl
