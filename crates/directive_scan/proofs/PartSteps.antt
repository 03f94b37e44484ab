-- One more token of a condition's line.
use Rattle.std.specs.Prelude.{◌≡◌, ◌<◌, ◌≤◌, ◌+◌, ℕ, Bool, true, false, List, [], ◌∷◌, ◌++◌, length, drop, get_or, map, if◌then◌else◌, Some, None, option_map, codes, refl}
use Rattle.std.proofs.Common.{sym, ◌∙◌, ap, append_assoc}
use Rattle.std.specs.List.{list_any}
use Rattle.std.proofs.lemmas.List.{append-nil, at_drop_more, at_drop_all}
use Rattle.std.proofs.lemmas.Bool.{or_parts}
use Rattle.pp_tokens.specs.declared.Token.{Token}
use Rattle.pp_tokens.specs.Marks.{is_word, is_open, is_close}
use Rattle.directive_scan.specs.declared.directive.Target.{Target}
use Rattle.directive_scan.specs.declared.operand.ConditionPart.{ConditionPart}
use Rattle.directive_scan.specs.declared.operand.ConditionPart.TheVariants.{Written, Probe}
use Rattle.directive_scan.specs.declared.stage.Sort.{Sort as SortRead}
use Rattle.directive_scan.specs.declared.stage.Stage.{Stage as StageRead}
use Rattle.directive_scan.specs.declared.stage.Inner.{Inner}
use Rattle.directive_scan.specs.Operands.{Sort, asks, defines, opens, closes, plain, sort_of, Stage, outside, behind_defined, behind_opening, wanted, within, Parts, part_before, token_before, parts_at_end, parts_from, parts_of, targets_of}
use Rattle.directive_scan.specs.parts.PartsSoFar.{sort_told, is_asking, is_opening, stage_told, so_far, inner_before}

-- parts, and those behind them
abbrev pub behind : List ConditionPart → Parts → Parts
behind parts o = option_map (λ others. parts ++ others) o

pub nothing_before : (o : Parts) → behind [] o ≡ o
nothing_before None = refl
nothing_before (Some others) = refl

pub one_more : (parts : List ConditionPart) (part : ConditionPart) (o : Parts) → behind (parts ++ part ∷ []) o ≡ behind parts (part_before part o)
one_more parts part None = refl
one_more parts part (Some others) = ap Some (append_assoc parts (part ∷ []) others)

-- the parts from a token on, by what it is
from_token : (stage : Stage) (t : Token) (others : List Token) (k : Sort) → k ≡ sort_of t
    → parts_from stage (t ∷ others) ≡ token_before (λ next. parts_from next others) t k stage
unfolding parts_from
from_token stage t others k is = ap (λ (s : Sort). token_before (λ next. parts_from next others) t s stage) (sym is)

-- a token that is written as it is
pub written_more : (parts : List ConditionPart) (t : Token) (others : List Token) (s : SortRead) (from : Stage) (to : StageRead)
    → sort_told s ≡ sort_of t
    → ((next : Stage → Parts) (u : Token) → token_before next u (sort_told s) from ≡ part_before (Written u) (next (stage_told to)))
    → so_far (parts ++ Written t ∷ []) (stage_told to) others ≡ so_far parts from (t ∷ others)
written_more parts t others s from to sort told =
    one_more parts (Written t) (parts_from (stage_told to) others)
    ∙ ap (behind parts) (sym (from_token from t others (sort_told s) sort ∙ told (λ next. parts_from next others) t))

asking : (k : Sort) → is_asking k ≡ true → asks ≡ k
asking asks e = refl
asking defines e = absurd (cc)
asking opens e = absurd (cc)
asking closes e = absurd (cc)
asking plain e = absurd (cc)

-- a `__has_include` outside of operands
pub asked : (parts : List ConditionPart) (t : Token) (others : List Token) (s : SortRead) → sort_told s ≡ sort_of t → is_asking (sort_told s) ≡ true
    → so_far parts (wanted t) others ≡ so_far parts outside (t ∷ others)
asked parts t others s sort e = ap (behind parts) (sym (from_token outside t others asks (asking (sort_told s) e ∙ sort)))

opening : (k : Sort) → is_opening k ≡ true → opens ≡ k
opening opens e = refl
opening asks e = absurd (cc)
opening defines e = absurd (cc)
opening closes e = absurd (cc)
opening plain e = absurd (cc)

-- the `(` of an operand
pub opened : (parts : List ConditionPart) (name t : Token) (others : List Token) (s : SortRead) → sort_told s ≡ sort_of t → is_opening (sort_told s) ≡ true
    → so_far parts (within name [] 0) others ≡ so_far parts (wanted name) (t ∷ others)
opened parts name t others s sort e = ap (behind parts) (sym (from_token (wanted name) t others opens (opening (sort_told s) e ∙ sort)))

unopened : (next : Stage → Parts) (name t : Token) (k : Sort) → is_opening k ≡ false → token_before next t k (wanted name) ≡ None
unopened next name t asks e = refl
unopened next name t defines e = refl
unopened next name t closes e = refl
unopened next name t plain e = refl
unopened next name t opens e = absurd (cc)

-- and any other token in its place
pub not_opened : (parts : List ConditionPart) (name t : Token) (others : List Token) (s : SortRead) → sort_told s ≡ sort_of t → is_opening (sort_told s) ≡ false
    → None ≡ so_far parts (wanted name) (t ∷ others)
not_opened parts name t others s sort e =
    ap (behind parts) (sym (from_token (wanted name) t others (sort_told s) sort ∙ unopened (λ next. parts_from next others) name t (sort_told s) e))

-- a token within an operand
pub inner_more : (parts : List ConditionPart) (name t : Token) (tokens : List Token) (depth : ℕ) (others : List Token) (s : SortRead) (i : Inner)
    → sort_told s ≡ sort_of t
    → ((next : Stage → Parts) (u n : Token) (us : List Token) → token_before next u (sort_told s) (within n us depth) ≡ inner_before next u n us i)
    → behind parts (inner_before (λ next. parts_from next others) t name tokens i) ≡ so_far parts (within name tokens depth) (t ∷ others)
inner_more parts name t tokens depth others s i sort told =
    ap (behind parts) (sym (from_token (within name tokens depth) t others (sort_told s) sort ∙ told (λ next. parts_from next others) t name tokens))

-- THE WHOLE LINE

pub at_first : (line : List Token) → so_far [] outside line ≡ parts_of line
unfolding parts_of
at_first line = nothing_before (parts_from outside line)

pub at_token : (parts : List ConditionPart) (stage : Stage) (line : List Token) (i : ℕ) (t : Token) → i < length line → t ≡ get_or line i t
    → so_far parts stage (t ∷ drop (i + 1) line) ≡ so_far parts stage (drop i line)
at_token parts stage line i t below is =
    sym (at_drop_more (so_far parts stage) line i t below ∙ ap (λ (x : Token). so_far parts stage (x ∷ drop (i + 1) line)) (sym is))

past_all : (stage : Stage) (line : List Token) (i : ℕ) → length line ≤ i → parts_from stage (drop i line) ≡ parts_at_end stage
unfolding parts_from
past_all stage line i past = at_drop_all (parts_from stage) line i past

pub all_read : (parts : List ConditionPart) (stage : Stage) (line : List Token) (i : ℕ) → length line ≤ i → parts_at_end stage ≡ Some []
    → Some parts ≡ so_far parts stage (drop i line)
all_read parts stage line i past e = ap Some (sym (append-nil parts)) ∙ ap (behind parts) (sym (past_all stage line i past ∙ e))

pub left_open : (parts : List ConditionPart) (stage : Stage) (line : List Token) (i : ℕ) → length line ≤ i → parts_at_end stage ≡ None
    → None ≡ so_far parts stage (drop i line)
left_open parts stage line i past e = ap (behind parts) (sym (past_all stage line i past ∙ e))

-- A LINE WITHOUT PROBES

not_asking : (a b c d : Bool) → a ≡ false → is_asking (if a then asks else (if b then defines else (if c then opens else (if d then closes else plain)))) ≡ false
not_asking true b c d e = absurd (cc)
not_asking false true c d e = refl
not_asking false false true d e = refl
not_asking false false false true e = refl
not_asking false false false false e = refl

no_probe : (t : Token) → is_word (codes "__has_include") t ≡ false → is_asking (sort_of t) ≡ false
unfolding sort_of
no_probe t e = not_asking (is_word (codes "__has_include") t) (is_word (codes "defined") t) (is_open t) (is_close t) e

goes_on : (s : Stage) (k : Sort) → parts_at_end s ≡ Some [] → is_asking k ≡ false
    → (to : Stage) × (parts_at_end to ≡ Some []) × ((next : Stage → Parts) (t : Token) → token_before next t k s ≡ part_before (Written t) (next to))
goes_on outside defines e a = (behind_defined, refl, λ next t. refl)
goes_on outside opens e a = (outside, refl, λ next t. refl)
goes_on outside closes e a = (outside, refl, λ next t. refl)
goes_on outside plain e a = (outside, refl, λ next t. refl)
goes_on outside asks e a = absurd (cc)
goes_on behind_defined defines e a = (behind_defined, refl, λ next t. refl)
goes_on behind_defined opens e a = (behind_opening, refl, λ next t. refl)
goes_on behind_defined closes e a = (outside, refl, λ next t. refl)
goes_on behind_defined plain e a = (outside, refl, λ next t. refl)
goes_on behind_defined asks e a = absurd (cc)
goes_on behind_opening defines e a = (behind_defined, refl, λ next t. refl)
goes_on behind_opening opens e a = (outside, refl, λ next t. refl)
goes_on behind_opening closes e a = (outside, refl, λ next t. refl)
goes_on behind_opening plain e a = (outside, refl, λ next t. refl)
goes_on behind_opening asks e a = absurd (cc)
goes_on (wanted name) k e a = absurd (cc)
goes_on (within name tokens n) k e a = absurd (cc)

all_written : (s : Stage) (line : List Token) → parts_at_end s ≡ Some [] → list_any (is_word (codes "__has_include")) line ≡ false → parts_from s line ≡ Some (map Written line)
unfolding parts_from
all_written s [] e probeless = e
all_written s (t ∷ ts) e probeless =
    let neither = or_parts (is_word (codes "__has_include") t) (list_any (is_word (codes "__has_include")) ts) probeless in
    let step = goes_on s (sort_of t) e (no_probe t neither.0) in
    step.2 (λ next. parts_from next ts) t ∙ ap (part_before (Written t)) (all_written step.0 ts step.1 neither.1)

pub probeless : (line : List Token) → list_any (is_word (codes "__has_include")) line ≡ false → parts_of line ≡ Some (map Written line)
unfolding parts_of
probeless line e = all_written outside line refl e

-- THE OPERANDS

pub targets-append : (parts others : List ConditionPart) → targets_of (parts ++ others) ≡ targets_of parts ++ targets_of others
unfolding targets_of
targets-append [] others = refl
targets-append (Written t ∷ parts) others = targets-append parts others
targets-append (Probe name target ∷ parts) others = ap (λ (ts : List Target). target ∷ ts) (targets-append parts others)
