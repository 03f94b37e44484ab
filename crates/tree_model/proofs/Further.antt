-- Walks with one component more.
use Rattle.std.proofs.Common.{◌≡◌, ℕ, zero, suc, ◌<◌, List, [], ◌∷◌, ◌++◌, length, refl, sym, ◌∙◌, ap, subst, Option, Some, None, Bool, true, false, if◌then◌else◌, append_assoc, arith}
use Rattle.tree_model.specs.Paths.{Text, Path, IsName, child_of, is_canonical, parent}
use Rattle.tree_model.specs.Trees.{FileTree, entry_at, node_at, node_of_entry}
use Rattle.std.specs.Option.{option_map}
use Rattle.tree_model.specs.Walk.{Look, components, Component, Stay, Up, Down, component_of, start, End, Nowhere, AtDir, AtFile, Walked, through, looking, walk_ended, file_end, entered, taken, walk, but_last, last_of}
use Rattle.tree_model.specs.Reached.{reached, reached_at, reached_by}
use Rattle.tree_model.specs.parts.Glances.{reached_below, EndsInFrontOf}
use Rattle.tree_model.specs.parts.Steps.{followed}
use Rattle.tree_model.specs.declared.entry.Entry.{Entry}
use Rattle.tree_model.specs.declared.entry.Entry.TheVariants.{Dir, File, Link}
use Rattle.tree_model.specs.declared.entry.Node.TheVariants as node
use Rattle.tree_model.specs.declared.reached.Reached.{Reached}
use Rattle.tree_model.specs.declared.reached.Reached.TheVariants as reach
use Rattle.tree_model.proofs.PathLemmas.{canonical_from_test}
use Rattle.tree_model.proofs.StepLemmas.{walk-cons, walk-nil, some_component, child_named}
use Rattle.tree_model.proofs.Below.{entry_none, entry_file, taken_as, reached_dir}

-- THE END OF THE LONGER WALK

module _ (look : Look) (last : Text) where
  -- by the end and the nodes of the walk without the last component: behind a directory it goes on from there, and else it leads nowhere
  abbrev pub Further : List Path → End → Walked → Type 0
  Further nodes Nowhere whole = whole.end ≡ Nowhere
  Further nodes (AtFile real) whole = whole.end ≡ Nowhere
  Further nodes (AtDir dir links) whole = (whole.end ≡ (walk look links dir (last ∷ [])).end) × (whole.nodes ≡ nodes ++ (walk look links dir (last ∷ [])).nodes)

  abbrev pub IsFurther : Walked → Walked → Type 0
  IsFurther part whole = Further part.nodes part.end whole

  past : (path : Path) (nodes : List Path) (end : End) (whole : Walked) → Further nodes end whole → Further (path ∷ nodes) end (through path whole)
  past path nodes Nowhere whole h = h
  past path nodes (AtFile real) whole h = h
  past path nodes (AtDir dir links) whole h = (h.0, ap (λ (nodes : List Path). path ∷ nodes) h.1)

  sought : (path : Path) (nodes : List Path) (end : End) (whole : Walked) → Further nodes end whole → Further nodes end (looking path whole)
  sought path nodes Nowhere whole h = h
  sought path nodes (AtFile real) whole h = h
  sought path nodes (AtDir dir links) whole h = h

  behind_file : (path : Path) (list : List Text) → Further (path ∷ []) (file_end path list) (through path (walk_ended (file_end path (list ++ last ∷ []))))
  behind_file path [] = refl
  behind_file path (name ∷ list) = refl

  module _ (next longer : Path → Walked) (follow : Path → List Text → Walked)
      (n : (dir : Path) → IsFurther (next dir) (longer dir))
      (f : (dir : Path) (list : List Text) → IsFurther (follow dir list) (follow dir (list ++ last ∷ []))) where
    entered-further : (list : List Text) (dir path : Path) (found : Option Entry)
        → IsFurther (entered next follow list dir path found) (entered longer follow (list ++ last ∷ []) dir path found)
    entered-further list dir path None = refl
    entered-further list dir path (Some Dir) = past path (next path).nodes (next path).end (longer path) (n path)
    entered-further list dir path (Some (File body)) = behind_file path list
    entered-further list dir path (Some (Link text)) =
        let from : Path = start dir text in
        let part : Walked = follow from (components text ++ list) in
        past path part.nodes part.end (follow from (components text ++ (list ++ last ∷ [])))
        (subst (λ whole. IsFurther part (follow from whole)) (append_assoc (components text) list (last ∷ [])) (f from (components text ++ list)))

    taken-further : (list : List Text) (dir : Path) (component : Component)
        → IsFurther (taken next follow list dir look component) (taken longer follow (list ++ last ∷ []) dir look component)
    taken-further list dir Stay = n dir
    taken-further list dir Up = past (parent dir) (next (parent dir)).nodes (next (parent dir)).end (longer (parent dir)) (n (parent dir))
    taken-further list dir (Down name) =
        let path : Path = name ∷ dir in
        let part : Walked = entered next follow list dir path (look path) in
        sought path part.nodes part.end (entered longer follow (list ++ last ∷ []) dir path (look path)) (entered-further list dir path (look path))

  module _ (links : ℕ) (f : (dir : Path) (list : List Text) → IsFurther (followed look links dir list) (followed look links dir (list ++ last ∷ []))) where
    list-further : (dir : Path) (list : List Text) → IsFurther (walk look links dir list) (walk look links dir (list ++ last ∷ []))
    list-further dir [] = subst (λ part. IsFurther part (walk look links dir (last ∷ []))) (sym (walk-nil look links dir)) (refl, refl)
    list-further dir (name ∷ list) =
        let next : Path → Walked = λ at. walk look links at list in
        let longer : Path → Walked = λ at. walk look links at (list ++ last ∷ []) in
        subst (IsFurther (walk look links dir (name ∷ list))) (sym (walk-cons look links dir name (list ++ last ∷ [])))
        (subst (λ part. IsFurther part (taken longer (followed look links) (list ++ last ∷ []) dir look (component_of name))) (sym (walk-cons look links dir name list))
        (taken-further next longer (followed look links) (λ at. list-further at list) f list dir (component_of name)))

  pub walk-further : (links : ℕ) (dir : Path) (list : List Text) → IsFurther (walk look links dir list) (walk look links dir (list ++ last ∷ []))
  walk-further zero dir list = list-further zero (λ at rest. refl) dir list
  walk-further (suc links) dir list = list-further (suc links) (walk-further links) dir list

-- WHAT IS REACHED

named : (dir : Path) (name : Text) (path : Path) → Some path ≡ child_of dir name → IsName name
named dir name path e = (canonical_from_test (name ∷ dir) (go (is_canonical (name ∷ dir)) e)).names.0
  where
    go : (b : Bool) → Some path ≡ (if b then (Some (name ∷ dir)) else None) → b ≡ true
    go true e = refl
    go false e = absurd (cc)

entry_dir : (tree : FileTree) (path : Path) → Some node.Dir ≡ node_at tree path → entry_at tree path ≡ Some Dir
entry_dir tree path e = go (entry_at tree path) e
  where
    go : (found : Option Entry) → Some node.Dir ≡ option_map node_of_entry found → found ≡ Some Dir
    go None e = absurd (cc)
    go (Some Dir) e = refl
    go (Some (File body)) e = absurd (cc)
    go (Some (Link text)) e = absurd (cc)

module _ (tree : FileTree) (text name : Text) where
  abbrev Front : Walked
  Front = walk (entry_at tree) 40 [] (components text)

  abbrev Whole : Walked
  Whole = walk (entry_at tree) 40 [] (components text ++ name ∷ [])

  -- behind a text that reached no directory nothing is reached
  pub below_none : reached tree text ≡ reach.Nowhere → reach.Nowhere ≡ reached_below tree text name
  below_none none = at_end Front.end none (walk-further (entry_at tree) name 40 [] (components text))
    where
      at_end : (end : End) → reached_at Front.nodes end ≡ reach.Nowhere → Further (entry_at tree) name Front.nodes end Whole → reach.Nowhere ≡ reached_by Whole
      at_end Nowhere e h = sym (ap (reached_at Whole.nodes) h)
      at_end (AtFile real) e h = sym (ap (reached_at Whole.nodes) h)
      at_end (AtDir path links) e h = absurd (cc)

  -- behind one that reached a directory, it is by what stands at the name there
  module _ (dir : Path) (nodes : List Path) (links : ℕ) (there : reached tree text ≡ reach.Dir dir nodes links) (path : Path) (child : Some path ≡ child_of dir name) where
    abbrev Last : Option Entry → Walked
    Last found = entered (λ next. walk (entry_at tree) links next []) (followed (entry_at tree) links) [] dir (name ∷ dir) found

    by_last : (found : Option Entry) → entry_at tree path ≡ found
        → (Whole.end ≡ (Last found).end) × (Whole.nodes ≡ Front.nodes ++ (Last found).nodes)
    by_last found e =
        let h : Further (entry_at tree) name Front.nodes (AtDir dir links) Whole =
        subst (λ end. Further (entry_at tree) name Front.nodes end Whole) (reached_dir Front dir nodes links there).0 (walk-further (entry_at tree) name 40 [] (components text)) in
        let at : entry_at tree (name ∷ dir) ≡ found = ap (entry_at tree) (sym (child_named dir name path child)) ∙ e in
        let step : walk (entry_at tree) links dir (name ∷ []) ≡ looking (name ∷ dir) (Last found) =
        taken_as (entry_at tree) links dir name (named dir name path child) [] found at in
        (h.0 ∙ ap (λ (w : Walked). w.end) step, h.1 ∙ ap (λ (w : Walked). Front.nodes ++ w.nodes) step)

    pub below_absent : None ≡ node_at tree path → reach.Nowhere ≡ reached_below tree text name
    below_absent e =
        let h = by_last None (entry_none tree path e) in
        sym (ap (reached_at Whole.nodes) h.0)

    pub below_a_file : Some node.File ≡ node_at tree path → reach.Nowhere ≡ reached_below tree text name
    below_a_file e =
        let file = entry_file tree path e in
        let h = by_last (Some (File file.0)) file.1 in
        sym (ap (reached_at Whole.nodes) h.0)

    pub below_a_dir : (seen : List Path × ℕ) → EndsInFrontOf Front path seen → Some node.Dir ≡ node_at tree path → reach.Dir path seen.0 seen.1 ≡ reached_below tree text name
    below_a_dir seen front e =
        let h = by_last (Some Dir) (entry_dir tree path e) in
        let is : path ≡ name ∷ dir = child_named dir name path child in
        let nil : walk (entry_at tree) links (name ∷ dir) [] ≡ walk_ended (AtDir (name ∷ dir) links) = walk-nil (entry_at tree) links (name ∷ dir) in
        let end : Whole.end ≡ AtDir (name ∷ dir) links = h.0 ∙ ap (λ (w : Walked). w.end) nil in
        let all : Whole.nodes ≡ Front.nodes ++ (name ∷ dir) ∷ [] = h.1 ∙ ap (λ (w : Walked). Front.nodes ++ (name ∷ dir) ∷ w.nodes) nil in
        let at : AtDir front.1.0 seen.1 ≡ AtDir dir links = sym front.1.1 ∙ (reached_dir Front dir nodes links there).0 in
        let left : seen.1 ≡ links = cc in
        let nodes : seen.0 ≡ Whole.nodes = front.0 ∙ ap (λ (p : Path). Front.nodes ++ p ∷ []) is ∙ sym all in
        ap (λ nodes. reach.Dir path nodes seen.1) nodes ∙ ap (reach.Dir path Whole.nodes) left ∙ ap (λ p. reach.Dir p Whole.nodes links) is ∙ sym (ap (reached_at Whole.nodes) end)

-- TEXTS

ends : (list : List Text) → 0 < length list → list ≡ but_last list ++ last_of list ∷ []
ends [] h = absurd (omega arith)
ends (x ∷ []) h = refl
ends (x ∷ y ∷ rest) h = ap (λ (rest : List Text). x ∷ rest) (ends (y ∷ rest) (omega arith))

-- a text reaches what its front does with the last component
pub reached_cut : (tree : FileTree) (text front name : Text) → components front ≡ but_last (components text) → name ≡ last_of (components text)
    → reached_below tree front name ≡ reached tree text
reached_cut tree text front name f n =
    ap (λ list. reached_by (walk (entry_at tree) 40 [] list))
    (ap (λ list. list ++ name ∷ []) f ∙ ap (λ last. but_last (components text) ++ last ∷ []) n ∙ sym (ends (components text) (some_component text)))

-- and so do copies of them
pub reached_front : (tree : FileTree) (text front name whole head : Text) (it : Reached) → whole ≡ text → head ≡ front
    → components front ≡ but_last (components text) → name ≡ last_of (components text)
    → it ≡ reached_below tree head name → it ≡ reached tree whole
reached_front tree text front name whole head it w h f n e =
    e ∙ ap (λ head. reached_below tree head name) h ∙ reached_cut tree text front name f n ∙ ap (reached tree) (sym w)
