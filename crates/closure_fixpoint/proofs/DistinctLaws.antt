-- Definitions, each once: none of a list is lost.
use Rattle.std.proofs.Common.{◌≡◌, ◌∷◌, [], List, Bool, true, false, inl, inr, refl, sym, subst, cond}
use Rattle.std.specs.List.{list_any}
use Rattle.base_types.specs.Members.{Member}
use Rattle.macro_defs.specs.MacroDefinition.{MacroDefinition}
use Rattle.macro_defs.specs.Sameness.{is_same_definition, is_same_definition-Decides}
use Rattle.closure_fixpoint.specs.Closure.{definition_added, distinct}
use Rattle.closure_fixpoint.proofs.MemberLaws.{list_any-by}

still_there : (d e : MacroDefinition) (ds : List MacroDefinition) → Member d ds → Member d (definition_added e ds)
still_there d e ds m = go (list_any (is_same_definition e) ds)
  where
    go : (b : Bool) → Member d (cond b ds (e ∷ ds))
    go true = m
    go false = inr m

added_there : (d : MacroDefinition) (ds : List MacroDefinition) → Member d (definition_added d ds)
added_there d ds = go (list_any (is_same_definition d) ds) refl
  where
    go : (b : Bool) → list_any (is_same_definition d) ds ≡ b → Member d (cond b ds (d ∷ ds))
    go true is =
        let by = list_any-by (is_same_definition d) ds is in
        subst (λ (x : MacroDefinition). Member x ds) (sym ((is_same_definition-Decides d by.by).0 by.passes)) by.member
    go false is = inl refl

pub distinct_there : (d : MacroDefinition) (ds : List MacroDefinition) → Member d ds → Member d (distinct ds)
unfolding distinct
distinct_there d [] m = elim m [ ]
distinct_there d (e ∷ ds) (inl same) = subst (λ (x : MacroDefinition). Member d (definition_added x (distinct ds))) (sym same) (added_there d (distinct ds))
distinct_there d (e ∷ ds) (inr m) = still_there d e (distinct ds) (distinct_there d ds m)
