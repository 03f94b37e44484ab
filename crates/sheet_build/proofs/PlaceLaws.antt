-- The place of a located file locates it from the root.
use Rattle.std.proofs.Common.{◌≡◌, ◌≤◌, ℕ, ◌∷◌, ◌++◌, [], List, length, Option, Some, None, IsSome, Bool, true, false, not, ◌&&◌, refl, sym, ap, subst, ◌∙◌, cond, arith}
use Rattle.std.specs.Prelude.{nat_le, nat_eq, ◌==◌}
use Rattle.std.specs.List.{AllByRecursion}
use Rattle.std.proofs.lemmas.Bool.{eqb-true, le-leb}
use Rattle.std.proofs.lemmas.List.{append_assoc, append-nil}
use Rattle.base_types.specs.Ascii.{slash, dot}
use Rattle.tree_model.specs.Paths.{Text, Path, IsName, IsCanonical, spelled, spelled_below}
use Rattle.tree_model.specs.Trees.{FileTree, IsTree, entry_at}
use Rattle.tree_model.specs.Walk.{components, Component, Stay, Up, Down, component_of, start, AtDir, AtFile, Walked, entered, Look, taken, walk_with, walk, but_last, last_of, located_at, last_looked_up, can_locate, first_nodes, located_by, locate}
use Rattle.tree_model.specs.Frame.{HoldsOfLocated}
use Rattle.tree_model.specs.declared.entry.Entry.{Entry}
use Rattle.tree_model.specs.declared.entry.Entry.TheVariants.{Dir}
use Rattle.tree_model.specs.declared.walk.Located.{Located}
use Rattle.tree_model.proofs.PathLemmas.{parts-append, parts-name}
use Rattle.tree_model.proofs.CutLemmas.{but_last-append, last_of-append}
use Rattle.sheet_build.specs.Laws.{PlacesLocate}

-- COMPONENTS OF A SPELLING

-- the components of a path's spelling: an empty one, and then the names from the outside in
abbrev names_down : Path → List Text
names_down [] = [] ∷ []
names_down (name ∷ path) = names_down path ++ name ∷ []

spelled_down : (path : Path) → AllByRecursion IsName path → components (spelled_below path) ≡ names_down path
spelled_down [] names = refl
spelled_down (name ∷ path) names =
    parts-append (spelled_below path) name
    ∙ ap (λ (xs : List Text). xs ++ components name) (spelled_down path names.1)
    ∙ ap (λ (xs : List Text). names_down path ++ xs) (parts-name name names.0.no_slash)

-- THE WALK DOWN A PATH OF DIRECTORIES

name_component : (name : Text) → IsName name → component_of name ≡ Down name
name_component [] is = absurd (omega (arith, is.some))
name_component (a ∷ []) is = go (a == dot) refl
  where
    go : (b : Bool) → (a == dot) ≡ b → cond b Stay (Down (a ∷ [])) ≡ Down (a ∷ [])
    go true same = absurd (is.no_dot (ap (λ (c : ℕ). c ∷ []) (eqb-true a dot same)))
    go false same = refl
name_component (a ∷ b ∷ []) is = go (a == dot) refl (b == dot) refl
  where
    go : (x : Bool) → (a == dot) ≡ x → (y : Bool) → (b == dot) ≡ y → cond (x && y) Up (Down (a ∷ b ∷ [])) ≡ Down (a ∷ b ∷ [])
    go true one true other =
        absurd (is.no_dots (ap (λ (c : ℕ). c ∷ b ∷ []) (eqb-true a dot one) ∙ ap (λ (c : ℕ). dot ∷ c ∷ []) (eqb-true b dot other)))
    go true one false other = refl
    go false one y other = refl
name_component (a ∷ b ∷ c ∷ rest) is = refl

-- the path and each above it are directories
abbrev AreDirs : Look → Path → Type 0
AreDirs look [] = Unit {0}
AreDirs look (name ∷ path) = (look (name ∷ path) ≡ Some Dir) × AreDirs look path

module _ (look : Look) (links : ℕ) (follow : Path → List Text → Walked) where
  step_down : (name : Text) (dir : Path) (rest : List Text) → IsName name → look (name ∷ dir) ≡ Some Dir
      → (walk_with look links follow dir (name ∷ rest)).end ≡ (walk_with look links follow (name ∷ dir) rest).end
  unfolding walk_with
  step_down name dir rest is is_dir =
      ap (λ (c : Component). (taken (λ next. walk_with look links follow next rest) follow rest dir look c).end) (name_component name is)
      ∙ ap (λ (o : Option Entry). (entered (λ next. walk_with look links follow next rest) follow rest dir (name ∷ dir) o).end) is_dir

  walk_down : (path : Path) (rest : List Text) → AllByRecursion IsName path → AreDirs look path
      → (walk_with look links follow [] (names_down path ++ rest)).end ≡ (walk_with look links follow path rest).end
  unfolding walk_with
  walk_down [] rest names dirs = refl
  walk_down (name ∷ path) rest names dirs =
      ap (λ (list : List Text). (walk_with look links follow [] list).end) (append_assoc (names_down path) (name ∷ []) rest)
      ∙ walk_down path (name ∷ rest) names.1 dirs.1
      ∙ step_down name path rest names.0 dirs.0

walk_to : (look : Look) (path : Path) → AllByRecursion IsName path → AreDirs look path → (walk look 40 [] (names_down path)).end ≡ AtDir path 40
unfolding walk walk_with
walk_to look path names dirs =
    ap (λ (list : List Text). (walk look 40 [] list).end) (sym (append-nil (names_down path))) ∙ walk_down look 40 (walk look 39) path [] names dirs

-- WHAT A PLACE LOCATES

start_at_root : (text : Text) → start [] text ≡ []
start_at_root [] = refl
start_at_root (b ∷ text) = go (b == slash)
  where
    go : (s : Bool) → cond {A = Path} s [] [] ≡ []
    go true = refl
    go false = refl

are_dirs : (tree : FileTree) → IsTree tree → (path : Path) → entry_at tree path ≡ Some Dir → AreDirs (entry_at tree) path
are_dirs tree whole [] is = tt
are_dirs tree whole (name ∷ path) is =
    let P : Option Entry → Type 0 = IsSome in
    (is, are_dirs tree whole path (whole.parent name path (subst P (sym is) refl)))

locates_at : (look : Look) (name : Text) (up : Path) (real : Path) → IsCanonical (name ∷ up) → AreDirs look up → (walk look 40 up (name ∷ [])).end ≡ AtFile real
    → (again : Located) × (located_by look [] (spelled (name ∷ up)) ≡ Some again) × (again.real ≡ real)
unfolding located_by
locates_at look name up real canonical dirs leads =
    (record { place = name ∷ up; real = real; walked = nodes ++ (walk look 40 up (name ∷ [])).nodes }, whole, refl)
  where
    text : Text
    text = spelled (name ∷ up)

    parts : components text ≡ names_down up ++ name ∷ []
    parts = spelled_down (name ∷ up) canonical.names

    last : last_of (components text) ≡ name
    last = ap last_of parts ∙ last_of-append (names_down up) name

    first : but_last (components text) ≡ names_down up
    first = ap but_last parts ∙ but_last-append (names_down up) name

    walked : Walked
    walked = walk look 40 (start [] text) (but_last (components text))

    nodes : List Path
    nodes = first_nodes [] text ++ walked.nodes

    at_up : walked.end ≡ AtDir up 40
    at_up =
        ap (λ (p : Path). (walk look 40 p (but_last (components text))).end) (start_at_root text)
        ∙ ap (λ (list : List Text). (walk look 40 [] list).end) first
        ∙ walk_to look up canonical.names.1 dirs

    able : can_locate text ≡ true
    able =
        let short : nat_le (length text) 4096 ≡ true = le-leb (length text) 4096 canonical.short in
        let long : nat_eq (length (last_of (components text))) 0 ≡ false =
        ap (λ (t : Text). nat_eq (length t) 0) last ∙ some_length (length name) canonical.names.0.some in
        ap (λ (b : Bool). b && not (nat_eq (length (last_of (components text))) 0)) short ∙ ap not long
      where
        some_length : (n : ℕ) → 1 ≤ n → nat_eq n 0 ≡ false
        some_length n one = go (nat_eq n 0) refl
          where
            go : (b : Bool) → nat_eq n 0 ≡ b → b ≡ false
            go true is = let none : n ≡ 0 = eqb-true n 0 is in absurd (omega (arith, one, none))
            go false is = refl

    whole : cond (can_locate text) (last_looked_up look (last_of (components text)) nodes walked.end) None
        ≡ Some (record { place = name ∷ up; real = real; walked = nodes ++ (walk look 40 up (name ∷ [])).nodes })
    whole =
        ap (λ (b : Bool). cond b (last_looked_up look (last_of (components text)) nodes walked.end) None) able
        ∙ ap (λ (t : Text). last_looked_up look t nodes walked.end) last
        ∙ ap (last_looked_up look name nodes) at_up
        ∙ ap (located_at up name (nodes ++ (walk look 40 up (name ∷ [])).nodes)) leads

pub places_locate : HoldsOfLocated → PlacesLocate
places_locate holds tree dir text l whole is_dir located =
    let facts = holds tree dir text l whole is_dir located in
    let name : Text = last_of (components text) in
    let there : IsSome (entry_at tree l.place) = facts.nodes l.place facts.place in
    let canonical : IsCanonical (name ∷ facts.up) = subst IsCanonical facts.below (whole.canonical l.place there) in
    let again = locates_at (entry_at tree) name facts.up l.real canonical (are_dirs tree whole facts.up facts.dir) facts.leads in
    (again.0, ap (λ (p : Path). locate tree [] (spelled p)) facts.below ∙ again.1, again.2)
