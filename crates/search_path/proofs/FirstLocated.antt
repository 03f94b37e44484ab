-- The first candidate that locates a file.
use Rattle.std.proofs.Common.{◌≡◌, ℕ, ◌+◌, [], ◌∷◌, List, Bool, true, false, cond, Option, None, Some, map, inl, inr, refl, sym, ap, ◌∙◌}
use Rattle.std.specs.List.{AllByRecursion}
use Rattle.base_types.specs.Members.{Member}
use Rattle.tree_model.specs.Paths.{Text, Path}
use Rattle.tree_model.specs.Trees.{FileTree, entry_at, Sub}
use Rattle.tree_model.specs.Walk.{locate, is_absolute}
use Rattle.tree_model.specs.Frame.{IsLocatedInPart, IsLocatedInNoPart}
use Rattle.tree_model.specs.declared.walk.Located.{Located}
use Rattle.search_path.specs.SetupOf.{SetupData}
use Rattle.search_path.specs.Search.{Candidate, Hit, hit_by, hit_or, first_located, in_directory, chain_from, candidates, relative_candidates, next_candidates, quote_candidates, angle_candidates, search}
use Rattle.search_path.specs.Laws.{IsStart, HitIsLocated, SearchesLocate, IsFoundInPart, IsFoundInNoPart}
use Rattle.search_path.specs.declared.asking.Found.{Found}
use Rattle.search_path.specs.declared.asking.Found.TheVariants.{Primary, Absolute, Here, Chain}
use Rattle.search_path.specs.declared.asking.Visit.{Visit}
use Rattle.search_path.specs.declared.asking.Form.{Form}
use Rattle.search_path.specs.declared.asking.Form.TheVariants.{Source, Forced, Quote, Angle, NextQuote, NextAngle}
use Rattle.search_path.specs.declared.asking.Ask.{Ask}

-- ---- where candidates start ----

abbrev Start : Ask → List Candidate → Type 0
Start ask cs = AllByRecursion (λ (c : Candidate). IsStart ask c.dir) cs

in_directories : (ask : Ask) (setup : SetupData) (name : Text) (entries : List (ℕ × Text)) → Start ask (map (in_directory setup name) entries)
in_directories ask setup name [] = tt
in_directories ask setup name (entry ∷ entries) = (inl refl, in_directories ask setup name entries)

chain_starts : (ask : Ask) (setup : SetupData) (k : ℕ) (name : Text) → Start ask (chain_from setup k name)
chain_starts ask setup k name = in_directories ask setup name _

quote_starts : (ask : Ask) (setup : SetupData) (visit : Visit) (name : Text) → ask.from ≡ Some visit → Start ask (quote_candidates setup visit name)
quote_starts ask setup visit name is = (inr (visit, is, refl), chain_starts ask setup 0 name)

next_starts : (ask : Ask) (setup : SetupData) (found : Found) (name : Text) (whole : List Candidate) → Start ask whole → Start ask (next_candidates setup found name whole)
next_starts ask setup Primary name whole starts = starts
next_starts ask setup Absolute name whole starts = starts
next_starts ask setup Here name whole starts = chain_starts ask setup 0 name
next_starts ask setup (Chain k) name whole starts = chain_starts ask setup (k + 1) name

relative_starts : (ask : Ask) (setup : SetupData) (form : Form) (from : Option Visit) (name : Text) → ask.from ≡ from → Start ask (relative_candidates setup form from name)
relative_starts ask setup Source from name is = (inl refl, tt)
relative_starts ask setup Forced from name is = (inl refl, chain_starts ask setup 0 name)
relative_starts ask setup Quote None name is = tt
relative_starts ask setup Quote (Some visit) name is = quote_starts ask setup visit name is
relative_starts ask setup Angle from name is = chain_starts ask setup _ name
relative_starts ask setup NextQuote None name is = tt
relative_starts ask setup NextQuote (Some visit) name is = next_starts ask setup visit.found name (quote_candidates setup visit name) (quote_starts ask setup visit name is)
relative_starts ask setup NextAngle None name is = tt
relative_starts ask setup NextAngle (Some visit) name is = next_starts ask setup visit.found name (angle_candidates setup name) (chain_starts ask setup _ name)

either_starts : (ask : Ask) (b : Bool) (absolute relative : List Candidate) → Start ask absolute → Start ask relative → Start ask (cond b absolute relative)
either_starts ask true absolute relative one other = one
either_starts ask false absolute relative one other = other

all_start : (ask : Ask) (setup : SetupData) → Start ask (candidates setup ask)
all_start ask setup = either_starts ask (is_absolute ask.name) _ _ (inl refl, tt) (relative_starts ask setup ask.form ask.from ask.name refl)

-- ---- what the first is ----

first_is : (found : Found) (l : Located) (later : Option Hit) (hit : Hit) → hit_or found (Some l) later ≡ Some hit → hit_by found l ≡ hit
first_is found l later hit e = let same : Some (hit_by found l) ≡ Some hit = e in cc

one_located : (tree : FileTree) (ask : Ask) (c : Candidate) (later : Option Hit) (hit : Hit) → IsStart ask c.dir → (later ≡ Some hit → HitIsLocated tree ask hit) → (o : Option Located) → locate tree c.dir c.text ≡ o → hit_or c.found o later ≡ Some hit → HitIsLocated tree ask hit
one_located tree ask c later hit start others None is e = others e
one_located tree ask c later hit start others (Some l) is e =
    let same : hit_by c.found l ≡ hit = first_is c.found l later hit e in
    record {
      dir = c.dir;
      text = c.text;
      start = start;
      located = is ∙ ap (λ (h : Hit). Some h.1) same;
      place = sym (ap (λ (h : Hit). h.0.place) same) ∙ ap (λ (h : Hit). h.1.place) same;
    }

located_among : (tree : FileTree) (ask : Ask) (cs : List Candidate) (hit : Hit) → Start ask cs → first_located tree cs ≡ Some hit → HitIsLocated tree ask hit
located_among tree ask [] hit starts e = absurd (cc)
located_among tree ask (c ∷ cs) hit starts e =
    one_located tree ask c (first_located tree cs) hit starts.0 (λ later. located_among tree ask cs hit starts.1 later) (locate tree c.dir c.text) refl e

pub locates : SearchesLocate
unfolding search
locates tree setup ask hit e = located_among tree ask (candidates setup ask) hit (all_start ask setup) e

-- ---- in a part of a tree ----

one_in_part : IsLocatedInPart → IsLocatedInNoPart → (part whole : FileTree) (c : Candidate) (theirs ours : Option Hit) (hit : Hit) → Sub part whole
    → ((path : Path) → Member path hit.1.walked → entry_at part path ≡ entry_at whole path) → (theirs ≡ Some hit → ours ≡ Some hit)
    → (o : Option Located) → locate whole c.dir c.text ≡ o → hit_or c.found o theirs ≡ Some hit → hit_or c.found (locate part c.dir c.text) ours ≡ Some hit
one_in_part found none part whole c theirs ours hit sub same others None is e =
    ap (λ (o : Option Located). hit_or c.found o ours) (none part whole c.dir c.text sub is) ∙ others e
one_in_part found none part whole c theirs ours hit sub same others (Some l) is e =
    let first : hit_by c.found l ≡ hit = first_is c.found l theirs hit e in
    let located : locate whole c.dir c.text ≡ Some hit.1 = is ∙ ap (λ (h : Hit). Some h.1) first in
    ap (λ (o : Option Located). hit_or c.found o ours) (found part whole c.dir c.text hit.1 sub located same)
    ∙ ap (λ (h : Hit). Some (hit_by c.found h.1)) (sym first) ∙ ap (λ (h : Hit). Some h) first

in_part : IsLocatedInPart → IsLocatedInNoPart → (part whole : FileTree) (cs : List Candidate) (hit : Hit) → Sub part whole
    → ((path : Path) → Member path hit.1.walked → entry_at part path ≡ entry_at whole path) → first_located whole cs ≡ Some hit → first_located part cs ≡ Some hit
in_part found none part whole [] hit sub same e = absurd (cc)
in_part found none part whole (c ∷ cs) hit sub same e =
    one_in_part found none part whole c (first_located whole cs) (first_located part cs) hit sub same (λ later. in_part found none part whole cs hit sub same later) (locate whole c.dir c.text) refl e

pub found_in_part : IsLocatedInPart → IsLocatedInNoPart → IsFoundInPart
unfolding search
found_in_part found none part whole setup ask hit sub e same = in_part found none part whole (candidates setup ask) hit sub same e

one_in_no_part : IsLocatedInNoPart → (part whole : FileTree) (c : Candidate) (theirs ours : Option Hit) → Sub part whole → (theirs ≡ None → ours ≡ None)
    → (o : Option Located) → locate whole c.dir c.text ≡ o → hit_or c.found o theirs ≡ None → hit_or c.found (locate part c.dir c.text) ours ≡ None
one_in_no_part none part whole c theirs ours sub others None is e =
    ap (λ (o : Option Located). hit_or c.found o ours) (none part whole c.dir c.text sub is) ∙ others e
one_in_no_part none part whole c theirs ours sub others (Some l) is e = let never : Some (hit_by c.found l) ≡ None = e in absurd (cc)

in_no_part : IsLocatedInNoPart → (part whole : FileTree) (cs : List Candidate) → Sub part whole → first_located whole cs ≡ None → first_located part cs ≡ None
in_no_part none part whole [] sub e = refl
in_no_part none part whole (c ∷ cs) sub e =
    one_in_no_part none part whole c (first_located whole cs) (first_located part cs) sub (λ later. in_no_part none part whole cs sub later) (locate whole c.dir c.text) refl e

pub found_in_no_part : IsLocatedInNoPart → IsFoundInNoPart
unfolding search
found_in_no_part none part whole setup ask sub e = in_no_part none part whole (candidates setup ask) sub e
