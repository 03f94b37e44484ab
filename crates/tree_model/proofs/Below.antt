-- What is located below a text whose walk from the root reached a directory, or none.
use Rattle.std.proofs.Common.{◌≡◌, ℕ, List, [], ◌∷◌, ◌++◌, refl, sym, ◌∙◌, ap, Option, Some, None, true, false, cond, ◌==◌, ◌&&◌, IsSome, is_some, arith}
use Rattle.std.proofs.lemmas.Bool.{eqb-true, false_from_ne_true, and_parts}
use Rattle.std.specs.Option.{option_map}
use Rattle.base_types.specs.Ascii.{dot}
use Rattle.tree_model.specs.Paths.{Text, Path, IsName}
use Rattle.tree_model.specs.Trees.{FileTree, entry_at, node_at, node_of_entry, IsTree}
use Rattle.tree_model.specs.Walk.{Look, Stay, Up, Down, component_of, End, Nowhere, AtDir, AtFile, Walked, looking, entered, taken, walk, located_in, last_looked_up}
use Rattle.tree_model.specs.Reached.{reached_at, reached_by}
use Rattle.tree_model.specs.parts.Glances.{located_below}
use Rattle.tree_model.specs.parts.Steps.{followed}
use Rattle.tree_model.specs.declared.entry.Entry.{Entry}
use Rattle.tree_model.specs.declared.entry.Entry.TheVariants.{Dir, File, Link}
use Rattle.tree_model.specs.declared.entry.Node.TheVariants as node
use Rattle.tree_model.specs.declared.reached.Reached.TheVariants as reach
use Rattle.tree_model.specs.declared.walk.Located.{Located}
use Rattle.tree_model.proofs.StepLemmas.{walk-cons, no_file}
use Rattle.tree_model.proofs.WalkNodes.{walk-stood}

-- NODES

-- where a tree shows no node it has no entry, and where it shows a directory or a file it has one
pub entry_none : (tree : FileTree) (path : Path) → None ≡ node_at tree path → entry_at tree path ≡ None
entry_none tree path e = go (entry_at tree path) e
  where
    go : (found : Option Entry) → None ≡ option_map node_of_entry found → found ≡ None
    go None e = refl
    go (Some entry) e = absurd (cc)

pub entry_file : (tree : FileTree) (path : Path) → Some node.File ≡ node_at tree path → (body : Text) × (entry_at tree path ≡ Some (File body))
entry_file tree path e = go (entry_at tree path) e
  where
    go : (found : Option Entry) → Some node.File ≡ option_map node_of_entry found → (body : Text) × (found ≡ Some (File body))
    go None e = absurd (cc)
    go (Some Dir) e = absurd (cc)
    go (Some (File body)) e = (body, refl)
    go (Some (Link text)) e = absurd (cc)

-- NAMES

-- a name goes down
is_down : (name : Text) → IsName name → component_of name ≡ Down name
is_down [] h = absurd (omega (arith, h.some))
is_down (a ∷ []) h =
    let other : (a == dot) ≡ false = false_from_ne_true (a == dot) (λ t. h.no_dot (ap (λ b. b ∷ []) (eqb-true a dot t))) in
    ap (λ b. cond b Stay (Down (a ∷ []))) other
is_down (a ∷ b ∷ []) h =
    let other : ((a == dot) && (b == dot)) ≡ false = false_from_ne_true ((a == dot) && (b == dot)) (λ t.
    let both = and_parts (a == dot) (b == dot) t in
    h.no_dots (ap (λ c. c ∷ b ∷ []) (eqb-true a dot both.0) ∙ ap (λ c. dot ∷ c ∷ []) (eqb-true b dot both.1))) in
    ap (λ t. cond t Up (Down (a ∷ b ∷ []))) other
is_down (a ∷ b ∷ c ∷ rest) h = refl

-- the walk of a name is by what stands at it
pub taken_as : (look : Look) (links : ℕ) (dir : Path) (name : Text) → IsName name → (rest : List Text) (found : Option Entry) → look (name ∷ dir) ≡ found
    → walk look links dir (name ∷ rest) ≡ looking (name ∷ dir) (entered (λ next. walk look links next rest) (followed look links) rest dir (name ∷ dir) found)
taken_as look links dir name h rest found e =
    walk-cons look links dir name rest
    ∙ ap (taken (λ next. walk look links next rest) (followed look links) rest dir look) (is_down name h)
    ∙ ap (λ found. looking (name ∷ dir) (entered (λ next. walk look links next rest) (followed look links) rest dir (name ∷ dir) found)) e

-- IN A DIRECTORY

-- what is located in a directory where a name is missing, whatever nodes were walked before
missing_here : (tree : FileTree) (links : ℕ) (dir : Path) (name : Text) (before : List Path) → entry_at tree (name ∷ dir) ≡ None
    → None ≡ located_in dir name before (walk (entry_at tree) links dir (name ∷ []))
missing_here tree links dir name before none =
    let w : Walked = walk (entry_at tree) links dir (name ∷ []) in
    sym (no_file dir name (before ++ w.nodes) w.end (λ real f.
    let there : IsSome (entry_at tree (name ∷ dir)) = walk-stood (entry_at tree) links dir name real f in
    let clash : true ≡ false = sym there ∙ ap is_some none in
    absurd (cc)))

-- and where a file is there
file_here : (tree : FileTree) → IsTree tree → (links : ℕ) (dir : Path) (name : Text) (before : List Path) (path : Path) → path ≡ name ∷ dir → Some node.File ≡ node_at tree path
    → Some (record { place = path; real = path; walked = before ++ path ∷ [] }) ≡ located_in dir name before (walk (entry_at tree) links dir (name ∷ []))
file_here tree is links dir name before path e file =
    let there = entry_file tree (name ∷ dir) (file ∙ ap (node_at tree) e) in
    let named : IsName name = (is.canonical (name ∷ dir) (ap is_some there.1)).names.0 in
    let at : Path → Option Located = λ path. Some (record { place = path; real = path; walked = before ++ path ∷ [] }) in
    ap at e ∙ ap (located_in dir name before) (sym (taken_as (entry_at tree) links dir name named [] (Some (File there.0)) there.1))

-- BELOW A TEXT

-- a walk that reached a directory ended there, with these nodes and so many links left
pub reached_dir : (w : Walked) (dir : Path) (nodes : List Path) (links : ℕ) → reached_by w ≡ reach.Dir dir nodes links → (w.end ≡ AtDir dir links) × (nodes ≡ w.nodes)
reached_dir w dir nodes links there = at_end w.end there
  where
    at_end : (end : End) → reached_at w.nodes end ≡ reach.Dir dir nodes links → (end ≡ AtDir dir links) × (nodes ≡ w.nodes)
    at_end Nowhere e = absurd (cc)
    at_end (AtFile real) e = absurd (cc)
    at_end (AtDir path left) e = let d : path ≡ dir = cc in let l : left ≡ links = cc in (ap (λ (p : Path). AtDir p left) d ∙ ap (AtDir dir) l, cc)

module _ (tree : FileTree) (before : List Path) (list : List Text) (name : Text) where
  abbrev Front : Walked
  Front = walk (entry_at tree) 40 [] list

  -- nothing is located where the walk reached no directory
  pub below_nowhere : reached_by Front ≡ reach.Nowhere → None ≡ located_below (entry_at tree) before list name
  below_nowhere none = at_end Front.end none
    where
      at_end : (end : End) → reached_at Front.nodes end ≡ reach.Nowhere → None ≡ last_looked_up (entry_at tree) name (before ++ Front.nodes) end
      at_end Nowhere e = refl
      at_end (AtFile real) e = refl
      at_end (AtDir path links) e = absurd (cc)

  -- what is located in the directory that it reached
  module _ (dir : Path) (nodes : List Path) (links : ℕ) (there : reached_by Front ≡ reach.Dir dir nodes links) where
    as_located : located_below (entry_at tree) before list name ≡ located_in dir name (before ++ Front.nodes) (walk (entry_at tree) links dir (name ∷ []))
    as_located = ap (last_looked_up (entry_at tree) name (before ++ Front.nodes)) (reached_dir Front dir nodes links there).0

    pub below_missing : entry_at tree (name ∷ dir) ≡ None → None ≡ located_below (entry_at tree) before list name
    below_missing none = missing_here tree links dir name (before ++ Front.nodes) none ∙ sym as_located

    pub below_file : IsTree tree → (path : Path) → path ≡ name ∷ dir → Some node.File ≡ node_at tree path
        → Some (record { place = path; real = path; walked = (before ++ Front.nodes) ++ path ∷ [] }) ≡ located_below (entry_at tree) before list name
    below_file is path e file = file_here tree is links dir name (before ++ Front.nodes) path e file ∙ sym as_located
