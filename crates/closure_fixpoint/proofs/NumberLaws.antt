-- The numbers of computed targets.
use Rattle.std.proofs.Common.{◌≡◌, ◌<◌, ◌+◌, ℕ, zero, suc, ◌∷◌, ◌++◌, [], List, length, take, Option, Some, refl, sym, ap, subst, ◌∙◌, arith, get_or, length-append}
use Rattle.std.specs.List.{slice_get}
use Rattle.std.specs.Option.{option_map}
use Rattle.std.proofs.lemmas.List.{take_more, length-map}
use Rattle.std.proofs.lemmas.Option.{slice_get-map, slice_get_read}
use Rattle.std.proofs.lemmas.Grind.{flat_map-append}
use Rattle.pp_tokens.specs.declared.Token.{Token}
use Rattle.tree_model.specs.Paths.{Text}
use Rattle.search_path.specs.declared.asking.Visit.{Visit}
use Rattle.sheet_build.specs.Sheet.{SheetData, ComputedAsk}
use Rattle.closure_fixpoint.specs.Naming.{asked_target, targets_in, asked_targets, HasTargetsAt}
use Rattle.closure_fixpoint.proofs.NamesLaws.{there_behind}

zero_add : (n : ℕ) → 0 + n ≡ n
zero_add n = omega arith

past_first : {X : Type 0} (xs ys : List X) (n : ℕ) → slice_get (xs ++ ys) (length xs + n) ≡ slice_get ys n
past_first [] ys n = ap (slice_get ys) (zero_add n)
past_first (x ∷ xs) ys n =
    let next : suc (length xs) + n ≡ suc (length xs + n) = omega arith in
    ap (slice_get (x ∷ (xs ++ ys))) next ∙ past_first xs ys n

at_number : (sheets : List (Visit × SheetData)) (i k : ℕ) (told : Visit × SheetData) (t : Option Text × List Token) → slice_get sheets i ≡ Some told → slice_get (targets_in told) k ≡ Some t
    → slice_get (asked_targets sheets) (length (asked_targets (take i sheets)) + k) ≡ Some t
at_number [] i k told t is there = absurd (cc)
at_number (x ∷ sheets) zero k told t is there =
    let same : x ≡ told = cc in
    ap (slice_get (targets_in x ++ asked_targets sheets)) (zero_add k) ∙ there_behind (targets_in x) (asked_targets sheets) k t (subst (λ (y : Visit × SheetData). slice_get (targets_in y) k ≡ Some t) (sym same) there)
at_number (x ∷ sheets) (suc i) k told t is there =
    let place : length (targets_in x ++ asked_targets (take i sheets)) + k ≡ length (targets_in x) + (length (asked_targets (take i sheets)) + k) = omega (arith, length-append (targets_in x) (asked_targets (take i sheets))) in
    ap (slice_get (targets_in x ++ asked_targets sheets)) place ∙ past_first (targets_in x) (asked_targets sheets) (length (asked_targets (take i sheets)) + k) ∙ at_number sheets i k told t is there

pub numbers_at : (sheets : List (Visit × SheetData)) (i number : ℕ) (told : Visit × SheetData) (targets : List ComputedAsk) → i < length sheets → told ≡ get_or sheets i told → targets ≡ told.1.computed
    → number ≡ length (asked_targets (take i sheets)) → HasTargetsAt sheets number told.0 told.1 targets
numbers_at sheets i number told targets below is all counted k c there =
    let stands : slice_get (targets_in told) k ≡ Some (asked_target told.0 told.1 c) =
    slice_get-map (asked_target told.0 told.1) told.1.computed k
    ∙ ap (option_map (asked_target told.0 told.1)) (ap (λ (cs : List ComputedAsk). slice_get cs k) (sym all) ∙ there) in
    ap (λ (n : ℕ). slice_get (asked_targets sheets) (n + k)) counted ∙ at_number sheets i k told (asked_target told.0 told.1 c) (slice_get_read sheets (length sheets) i told refl below is) stands

pub counted_next : (sheets : List (Visit × SheetData)) (i number next : ℕ) (told : Visit × SheetData) (targets : List ComputedAsk) → i < length sheets → told ≡ get_or sheets i told → targets ≡ told.1.computed
    → number ≡ length (asked_targets (take i sheets)) → next ≡ number + length targets → next ≡ length (asked_targets (take (i + 1) sheets))
counted_next sheets i number next told targets below is all counted more =
    let parts : asked_targets (take (i + 1) sheets) ≡ asked_targets (take i sheets) ++ asked_targets (told ∷ []) =
    ap asked_targets (take_more sheets i told below ∙ ap (λ (t : Visit × SheetData). take i sheets ++ t ∷ []) (sym is)) ∙ flat_map-append targets_in (take i sheets) (told ∷ []) in
    let one : length (asked_targets (told ∷ [])) ≡ length told.1.computed = length-append (targets_in told) [] ∙ size (length-map told.1.computed (asked_target told.0 told.1)) in
    let whole : length (asked_targets (take (i + 1) sheets)) ≡ length (asked_targets (take i sheets)) + length (asked_targets (told ∷ [])) = ap length parts ∙ length-append (asked_targets (take i sheets)) (asked_targets (told ∷ [])) in
    let same : length targets ≡ length told.1.computed = ap length all in
    omega (arith, one, whole, same, counted, more)
  where
    size : {n m : ℕ} → n ≡ m → n + 0 ≡ m
    size is = omega (arith, is)
