-- Headers in order.
use Rattle.std.proofs.Common.{◌≡◌, ℕ, Bool, true, false, List, [], ◌∷◌, ◌++◌, map, ◌⊎◌, inl, inr, refl, sym, subst, Option}
use Rattle.std.specs.declared.cmp.Ordering.TheVariants.{Less}
use Rattle.std.specs.List.{Contains, AllByRecursion}
use Rattle.std.specs.List.Sorted.{IsStrictlySortedBy}
use Rattle.std.proofs.lemmas.List.Elements.{Contains-append_left, Contains-append_right, Contains-append_cases}
use Rattle.pp_tokens.specs.declared.Token.{Token}
use Rattle.directive_scan.specs.declared.directive.HeaderName.{HeaderName}
use Rattle.directive_scan.specs.HeaderNames.{header_named}
use Rattle.macro_expand.specs.Choice.{Sets, MayName}
use Rattle.macro_expand.proofs.ChoiceLaws.{contains_map}
use Rattle.macro_expand.proofs.RunLaws.{contains_map_from}
use Rattle.base_types.proofs.Lists.{all_append}
use Rattle.symbolic_expand.specs.Texts.{text_cmp}
use Rattle.symbolic_expand.specs.Found.{NamesExactly, header_cmp}
use Rattle.symbolic_expand.specs.parts.Search.{FoundAll, header_at}

all_same : (b : Bool) (t : List ℕ) (us : List (List ℕ)) → AllByRecursion (λ u. text_cmp t u ≡ Less) us →
    AllByRecursion (λ h. header_cmp (header_at b t) h ≡ Less) (map (header_at b) us)
all_same b t [] h = tt
all_same true t (u ∷ us) h = (h.0, all_same true t us h.1)
all_same false t (u ∷ us) h = (h.0, all_same false t us h.1)

all_across : (t : List ℕ) (us : List (List ℕ)) → AllByRecursion (λ h. header_cmp (header_at false t) h ≡ Less) (map (header_at true) us)
all_across t [] = tt
all_across t (u ∷ us) = (refl, all_across t us)

sorted_angled : (us : List (List ℕ)) → IsStrictlySortedBy text_cmp us → IsStrictlySortedBy header_cmp (map (header_at true) us)
unfolding IsStrictlySortedBy
sorted_angled [] h = tt
sorted_angled (u ∷ us) h = (all_same true u us h.0, sorted_angled us h.1)

sorted_all : (qs us : List (List ℕ)) → IsStrictlySortedBy text_cmp qs → IsStrictlySortedBy text_cmp us →
    IsStrictlySortedBy header_cmp (map (header_at false) qs ++ map (header_at true) us)
unfolding IsStrictlySortedBy
sorted_all [] us h k = sorted_angled us k
sorted_all (q ∷ qs) us h k = (
  all_append (λ h. header_cmp (header_at false q) h ≡ Less) (map (header_at false) qs) (map (header_at true) us) (all_same false q qs h.0) (all_across q us),
  sorted_all qs us h.1 k,
)

module _ (budget : ℕ) (sets : Sets) (file : Option (List ℕ)) (ts : List Token) (quoted angled met : List (List ℕ)) (headers : List HeaderName)
    (found : FoundAll budget sets file ts quoted angled met) (is : headers ≡ map (header_at false) quoted ++ map (header_at true) angled) where
  may : (h : HeaderName) → Contains (map (header_at false) quoted) h ⊎ Contains (map (header_at true) angled) h → MayName header_named sets file ts h
  may h (inl c) = let p = contains_map_from (header_at false) quoted h c in subst (MayName header_named sets file ts) p.2 ((found.quoted_are p.0).0 p.1)
  may h (inr c) = let p = contains_map_from (header_at true) angled h c in subst (MayName header_named sets file ts) p.2 ((found.angled_are p.0).0 p.1)

  all : (b : Bool) (n : List ℕ) → MayName header_named sets file ts (header_at b n) → Contains (map (header_at false) quoted ++ map (header_at true) angled) (header_at b n)
  all false n m = Contains-append_left (map (header_at false) quoted) (map (header_at true) angled) (header_at false n) (contains_map (header_at false) quoted n ((found.quoted_are n).1 m))
  all true n m = Contains-append_right (map (header_at false) quoted) (map (header_at true) angled) (header_at true n) (contains_map (header_at true) angled n ((found.angled_are n).1 m))

  pub names_exactly : IsStrictlySortedBy text_cmp quoted → IsStrictlySortedBy text_cmp angled → IsStrictlySortedBy text_cmp met →
      NamesExactly sets file ts headers met
  names_exactly q a m = record {
    named = λ h. (
      (λ c. may h (Contains-append_cases (map (header_at false) quoted) (map (header_at true) angled) h (subst (λ w. Contains w h) is c))),
      (λ n. subst (λ w. Contains w h) (sym is) (all h.angle h.name n)),
    );
    headers_ordered = subst (IsStrictlySortedBy header_cmp) (sym is) (sorted_all quoted angled q a);
    supports = found.met_are;
    support_ordered = m;
  }
