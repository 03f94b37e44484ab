-- What a look-up among searches finds.
use Rattle.std.proofs.Common.{◌≡◌, ℕ, zero, suc, Bool, true, false, cond, List, [], ◌∷◌, Option, None, Some, IfSome, IfNone, Bor, inl, inr, refl, sym, ap, ◌∙◌, true≢false}
use Rattle.std.specs.List.{slice_get}
use Rattle.std.specs.Map.{lookup, values_of}
use Rattle.std.specs.Option.{option_copied}
use Rattle.base_types.specs.Members.{Member}
use Rattle.search_path.specs.Search.{Hit}
use Rattle.search_path.specs.declared.asking.Ask.{Ask}
use Rattle.closure_fixpoint.specs.Asked.{HasAnswer, HasNoAnswer}
use Rattle.closure_fixpoint.specs.parts.AskKeys.{is_same_ask, is_same_ask-Decides}

abbrev Told : Type 0
Told = List (Ask × Option Hit)

-- an answer that is found was told
lookup_told : (told : Told) (ask : Ask) (got : Option Hit) → lookup (is_same_ask ask) told ≡ Some got → HasAnswer told ask got
lookup_told [] ask got is = absurd (cc)
lookup_told (e ∷ es) ask got is = go (is_same_ask ask e.0) refl is (lookup_told es ask got)
  where
    go : (b : Bool) → is_same_ask ask e.0 ≡ b → cond b (Some e.1) (lookup (is_same_ask ask) es) ≡ Some got → (lookup (is_same_ask ask) es ≡ Some got → HasAnswer es ask got)
        → HasAnswer (e ∷ es) ask got
    go true same found ih =
        let key : e.0 ≡ ask = sym ((is_same_ask-Decides ask e.0).0 same) in
        let value : e.1 ≡ got = cc in
        inl (λ i. (key i, value i))
    go false apart found ih = inr (ih found)

-- where none is found, none was told
lookup_untold : (told : Told) (ask : Ask) → lookup (is_same_ask ask) told ≡ None → HasNoAnswer told ask
lookup_untold [] ask is got m = m
lookup_untold (e ∷ es) ask is got m = go (is_same_ask ask e.0) refl is m (lookup_untold es ask)
  where
    go : (b : Bool) → is_same_ask ask e.0 ≡ b → cond b (Some e.1) (lookup (is_same_ask ask) es) ≡ None → Member (ask, got) (e ∷ es)
        → (lookup (is_same_ask ask) es ≡ None → HasNoAnswer es ask) → ⊥
    go true same none m ih = absurd (cc)
    go false apart none (inl here) ih = true≢false (sym ((is_same_ask-Decides ask e.0).1 (sym (ap (λ p. p.0) here))) ∙ apart)
    go false apart none (inr m) ih = ih none got m

-- where none was told, none is found
pub untold_lookup : (told : Told) (ask : Ask) → HasNoAnswer told ask → lookup (is_same_ask ask) told ≡ None
untold_lookup told ask none = go (lookup (is_same_ask ask) told) refl
  where
    go : (found : Option (Option Hit)) → lookup (is_same_ask ask) told ≡ found → lookup (is_same_ask ask) told ≡ None
    go None is = is
    go (Some got) is = absurd (none got (lookup_told told ask got is))

pub got_told : (told : Told) (ask : Ask) (result : Option (Bor (Option Hit))) → option_copied result ≡ lookup (is_same_ask ask) told → IfSome result (λ got. HasAnswer told ask got.now)
got_told told ask None is = tt
got_told told ask (Some got) is = lookup_told told ask got.now (sym is)

pub got_none : (told : Told) (ask : Ask) (result : Option (Bor (Option Hit))) → option_copied result ≡ lookup (is_same_ask ask) told → IfNone result (HasNoAnswer told ask)
got_none told ask None is = lookup_untold told ask (sym is)
got_none told ask (Some got) is = tt

-- the value at a number is that of the pair there
pub value_there : (told : Told) (number : ℕ) (value : Option Hit) → slice_get (values_of told) number ≡ Some value → IfSome (slice_get told number) (λ one. value ≡ one.1)
value_there [] number value is = tt
value_there (e ∷ es) zero value is = cc
value_there (e ∷ es) (suc number) value is = value_there es number value is
