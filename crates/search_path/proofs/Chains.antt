-- The chain's candidates by their places.
use Rattle.std.proofs.Common.{◌≡◌, ◌<◌, ◌≤◌, ◌+◌, ◌++◌, ◌∷◌, [], ℕ, zero, suc, List, length, get_or, drop, map, refl, sym, ◌∙◌, ap, arith, add-one, None, Some, Option}
use Rattle.std.specs.List.{enumerate_from}
use Rattle.base_types.specs.Ascii.{slash}
use Rattle.tree_model.specs.Paths.{Text, Path}
use Rattle.tree_model.specs.Trees.{FileTree}
use Rattle.tree_model.specs.Walk.{locate}
use Rattle.tree_model.specs.declared.walk.Located.{Located}
use Rattle.search_path.specs.SetupOf.{SetupData, absolute}
use Rattle.search_path.specs.Search.{in_directory, chain_from, first_located, hit_or, Hit}
use Rattle.search_path.specs.declared.asking.Found.{Found}
use Rattle.search_path.specs.declared.asking.Found.TheVariants.{Chain}

-- what stands from a place on, with the numbers of the places
from-place : {X : Type 0} (n : ℕ) (xs : List X) (i : ℕ) (x : X) → i < length xs → x ≡ get_or xs i x → drop i (enumerate_from n xs) ≡ (n + i, x) ∷ drop (suc i) (enumerate_from n xs)
from-place n [] i x below is = absurd (omega arith)
from-place n (y ∷ xs) zero x below is =
    let same : n ≡ n + 0 = omega arith in ap (λ k. (k, y) ∷ enumerate_from (n + 1) xs) same ∙ ap (λ z. (n + 0, z) ∷ enumerate_from (n + 1) xs) (sym is)
from-place n (y ∷ xs) (suc i) x below is =
    let same : n + 1 + i ≡ n + suc i = omega arith in
    from-place (n + 1) xs i x (omega arith) is ∙ ap (λ k. (k, x) ∷ drop (suc i) (enumerate_from (n + 1) xs)) same

none-behind : {X : Type 0} (n : ℕ) (xs : List X) (i : ℕ) → length xs ≤ i → drop i (enumerate_from n xs) ≡ []
none-behind n [] zero past = refl
none-behind n [] (suc i) past = refl
none-behind n (x ∷ xs) zero past = absurd (omega arith)
none-behind n (x ∷ xs) (suc i) past = none-behind (n + 1) xs i (omega arith)

-- the chain from a directory on
chain-at : (setup : SetupData) (name : Text) (i : ℕ) (directory : Text) → i < length (setup.quote ++ setup.bracket) → directory ≡ get_or (setup.quote ++ setup.bracket) i directory
    → chain_from setup i name ≡ in_directory setup name (i, directory) ∷ chain_from setup (i + 1) name
chain-at setup name i directory below is =
    let none : 0 + i ≡ i = omega arith in
    rw (add-one i)
    (ap (map (in_directory setup name)) (from-place 0 (setup.quote ++ setup.bracket) i directory below is)
    ∙ ap (λ k. in_directory setup name (k, directory) ∷ chain_from setup (suc i) name) none)

-- no directory is left
pub chain-ends : (told : FileTree) (setup : SetupData) (name : Text) (i : ℕ) → length (setup.quote ++ setup.bracket) ≤ i → first_located told (chain_from setup i name) ≡ None
chain-ends told setup name i past = ap (λ entries. first_located told (map (in_directory setup name) entries)) (none-behind 0 (setup.quote ++ setup.bracket) i past)

-- a file of one candidate, or none, before later ones
hit-first : (found : Found) (located : Option Located) (later : Option Hit) (hit : Hit) → hit_or found located None ≡ Some hit → hit_or found located later ≡ Some hit
hit-first found None later hit is = absurd (cc)
hit-first found (Some located) later hit is = is

hit-later : (found : Found) (located : Option Located) (later : Option Hit) → hit_or found located None ≡ None → hit_or found located later ≡ later
hit-later found None later is = refl
hit-later found (Some located) later is = absurd (cc)

pub same-hit : (told : FileTree) (found : Found) (dir : Path) (text whole : Text) → dir ≡ [] → text ≡ whole → hit_or found (locate told dir text) None ≡ hit_or found (locate told [] whole) None
same-hit told found dir text whole root is =
    ap (λ d. hit_or found (locate told d text) None) root ∙ ap (λ t. hit_or found (locate told [] t) None) is

-- a directory of the chain as the code tries it: its name's text, located from the root
pub record Tried (told : FileTree) (setup : SetupData) (name : Text) (i : ℕ) (directory : Text) (result : Option Hit) : Type 0 where
  pub below : i < length (setup.quote ++ setup.bracket)
  pub is : directory ≡ get_or (setup.quote ++ setup.bracket) i directory
  pub hit : result ≡ hit_or (Chain i) (locate told [] (absolute setup.cwd directory ++ slash ∷ name)) None

pub chain-hit : (told : FileTree) (setup : SetupData) (name : Text) (i : ℕ) (directory : Text) (hit : Hit) → Tried told setup name i directory (Some hit)
    → Some hit ≡ first_located told (chain_from setup i name)
chain-hit told setup name i directory hit tried =
    sym
    (ap (first_located told) (chain-at setup name i directory tried.below tried.is)
    ∙ hit-first (Chain i) (locate told [] (absolute setup.cwd directory ++ slash ∷ name)) (first_located told (chain_from setup (i + 1) name)) hit (sym tried.hit))

pub chain-goes-on : (told : FileTree) (setup : SetupData) (name : Text) (i : ℕ) (directory : Text) → Tried told setup name i directory None
    → first_located told (chain_from setup (i + 1) name) ≡ first_located told (chain_from setup i name)
chain-goes-on told setup name i directory tried =
    sym
    (ap (first_located told) (chain-at setup name i directory tried.below tried.is)
    ∙ hit-later (Chain i) (locate told [] (absolute setup.cwd directory ++ slash ∷ name)) (first_located told (chain_from setup (i + 1) name)) (sym tried.hit))
