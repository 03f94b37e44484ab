-- What is wanted of a file, of a search, and of a header.
use Rattle.std.proofs.Common.{◌≡◌, List, Option, None, Some, Bool, true, false, refl, sym, subst}
use Rattle.std.specs.List.{list_any}
use Rattle.base_types.specs.Members.{Member}
use Rattle.search_path.specs.Search.{Hit}
use Rattle.search_path.specs.declared.asking.Visit.{Visit}
use Rattle.search_path.specs.declared.asking.Ask.{Ask}
use Rattle.tree_model.proofs.MemberLemmas.{list_any-true}
use Rattle.closure_fixpoint.specs.declared.wanting.Want.{Want}
use Rattle.closure_fixpoint.specs.declared.wanting.Want.TheVariants as want
use Rattle.closure_fixpoint.specs.parts.Worklist.{is_found_alike}
use Rattle.closure_fixpoint.specs.parts.Wanting.{WantsOfFile, WantsOfHit, WantsOfAsk}
use Rattle.closure_fixpoint.proofs.MemberLaws.{list_any-by}
use Rattle.closure_fixpoint.proofs.Bounds.{is_found_alike-Decides}

pub visit_there : (found : List Visit) (visit : Visit) → list_any (is_found_alike visit) found ≡ true → Member visit found
visit_there found visit is =
    let by = list_any-by (is_found_alike visit) found is in
    subst (λ (v : Visit). Member v found) (sym ((is_found_alike-Decides visit by.by).0 by.passes)) by.member

pub visit_new : (found : List Visit) (visit : Visit) → list_any (is_found_alike visit) found ≡ false → Member visit found → ⊥
visit_new found visit is m =
    let some : list_any (is_found_alike visit) found ≡ true = list_any-true (is_found_alike visit) visit found m ((is_found_alike-Decides visit visit).1 refl) in absurd (cc)

pub hit_of_file : (found : List Visit) (include : Bool) (hit : Hit) (o : Option Want) → include ≡ true → WantsOfFile found hit o → WantsOfHit found include (Some hit) o
hit_of_file found include hit None is_yes there = λ other e i. let same : hit ≡ other = cc in subst (λ (h : Hit). Member h.0 found) same there
hit_of_file found include hit (Some (want.Visit visit)) is_yes (is, new) =
    record { is_include = is_yes; hit = hit; is_got = refl; is_visit = sym is; new = λ m. new (subst (λ (v : Visit). Member v found) is m) }
hit_of_file found include hit (Some (want.Search ask more)) is_yes never = absurd never

pub ask_of_hit : (searches : List (Ask × Option Hit)) (found : List Visit) (ask : Ask) (include : Bool) (got : Option Hit) (o : Option Want) → Member (ask, got) searches
    → WantsOfHit found include got o → WantsOfAsk searches found ask include o
ask_of_hit searches found ask include got None m all = record { got = got; told = m; visit = all }
ask_of_hit searches found ask include got (Some (want.Visit visit)) m new = (got, m, new)
ask_of_hit searches found ask include got (Some (want.Search a more)) m never = absurd never

-- the same of an ask, and of a want, that are equal
pub wanted_as : (searches : List (Ask × Option Hit)) (found : List Visit) (ask other : Ask) (include : Bool) (o p : Option Want) → ask ≡ other → o ≡ p → WantsOfAsk searches found ask include o
    → WantsOfAsk searches found other include p
wanted_as searches found ask other include o p same is w =
    subst (λ (x : Option Want). WantsOfAsk searches found other include x) is (subst (λ (a : Ask). WantsOfAsk searches found a include o) same w)
