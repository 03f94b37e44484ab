-- The frame law of walks: a walk in a part of a tree fails or is the walk in the whole tree, and it
-- is the latter where the part has the nodes walked.
use Rattle.std.proofs.Common.{◌≡◌, ℕ, zero, suc, List, [], ◌∷◌, ◌++◌, refl, sym, ◌∙◌, ap, subst, ◌⊎◌, inl, inr, Option, Some, None, Bool, true, false, cond}
use Rattle.base_types.specs.Members.{Member}
use Rattle.tree_model.specs.Paths.{Text, Path, parent}
use Rattle.tree_model.specs.Trees.{FileTree, entry_at, Sub}
use Rattle.tree_model.specs.declared.entry.Entry.{Entry}
use Rattle.tree_model.specs.declared.entry.Entry.TheVariants.{Dir, File, Link}
use Rattle.tree_model.specs.Walk.{components, Component, Stay, Up, Down, component_of, start, Nowhere, Walked, through, looking, beyond, entered, taken, walk_with, walk, Look, End, AtDir, AtFile, but_last, last_of, first_nodes, can_locate, last_looked_up, located_at, located_in, located_by, locate}
use Rattle.tree_model.specs.declared.walk.Located.{Located}
use Rattle.tree_model.proofs.MemberLemmas.{Member-append_left, Member-append_right}

-- the first walk fails, or is the second
abbrev pub FailsOrIs : Walked → Walked → Type 0
FailsOrIs part whole = (part.end ≡ Nowhere) ⊎ (part ≡ whole)

through-fails_or_is : (path : Path) (m w : Walked) → FailsOrIs m w → FailsOrIs (through path m) (through path w)
through-fails_or_is path m w (inl e) = inl e
through-fails_or_is path m w (inr e) = inr (ap (through path) e)

looking-fails_or_is : (path : Path) (m w : Walked) → FailsOrIs m w → FailsOrIs (looking path m) (looking path w)
looking-fails_or_is path m w (inl e) = inl e
looking-fails_or_is path m w (inr e) = inr (ap (looking path) e)

-- the trees agree at each of these paths
abbrev pub AgreeAt : FileTree → FileTree → List Path → Type 0
AgreeAt part whole paths = (path : Path) → Member path paths → entry_at part path ≡ entry_at whole path

none_either : (b : Bool) → ◌≡◌ {A = Option Located} (cond b None None) None
none_either true = refl
none_either false = refl

pub cond_some : (b : Bool) (m : Option Located) (l : Located) → cond b m None ≡ Some l → (b ≡ true) × (m ≡ Some l)
cond_some true m l e = (refl, e)
cond_some false m l e = absurd (cc)

pub located_at-walked : (dir : Path) (name : Text) (nodes : List Path) (end : End) (l : Located) → located_at dir name nodes end ≡ Some l → nodes ≡ l.walked
located_at-walked dir name nodes Nowhere l e = absurd (cc)
located_at-walked dir name nodes (AtDir other links) l e = absurd (cc)
located_at-walked dir name nodes (AtFile real) l e =
    let is : ◌≡◌ {A = Located} (record { place = name ∷ dir; real = real; walked = nodes }) l = cc in
    ap (λ (l : Located). l.walked) is

module _ (part whole : FileTree) (sub : Sub part whole) where
  -- a node of the part is absent, or as in the whole
  pub absent_or_same : (path : Path) → (entry_at part path ≡ None) ⊎ (entry_at part path ≡ entry_at whole path)
  absent_or_same path = go (entry_at part path) refl
    where
      go : (node : Option Entry) → entry_at part path ≡ node → (entry_at part path ≡ None) ⊎ (entry_at part path ≡ entry_at whole path)
      go None e = inl e
      go (Some node) e = inr (e ∙ sym (sub path node e))

  module _ (next-part next-whole : Path → Walked) (follow-part follow-whole : Path → List Text → Walked) where
    beyond-fails_or_is : ((dir : Path) → FailsOrIs (next-part dir) (next-whole dir))
        → ((dir : Path) (rest : List Text) → FailsOrIs (follow-part dir rest) (follow-whole dir rest))
        → (rest : List Text) (dir path : Path) (node : Entry)
        → FailsOrIs (beyond next-part follow-part rest dir path node) (beyond next-whole follow-whole rest dir path node)
    beyond-fails_or_is next follow rest dir path Dir = next path
    beyond-fails_or_is next follow rest dir path (File body) = inr refl
    beyond-fails_or_is next follow rest dir path (Link text) = follow (start dir text) (components text ++ rest)

    entered-fails_or_is : ((dir : Path) → FailsOrIs (next-part dir) (next-whole dir))
        → ((dir : Path) (rest : List Text) → FailsOrIs (follow-part dir rest) (follow-whole dir rest))
        → (rest : List Text) (dir path : Path) (node : Option Entry)
        → FailsOrIs (entered next-part follow-part rest dir path node) (entered next-whole follow-whole rest dir path node)
    entered-fails_or_is next follow rest dir path None = inr refl
    entered-fails_or_is next follow rest dir path (Some node) =
        through-fails_or_is path _ _ (beyond-fails_or_is next follow rest dir path node)

    taken-fails_or_is : ((dir : Path) → FailsOrIs (next-part dir) (next-whole dir))
        → ((dir : Path) (rest : List Text) → FailsOrIs (follow-part dir rest) (follow-whole dir rest))
        → (rest : List Text) (dir : Path) (component : Component)
        → FailsOrIs (taken next-part follow-part rest dir (entry_at part) component) (taken next-whole follow-whole rest dir (entry_at whole) component)
    taken-fails_or_is next follow rest dir Stay = next dir
    taken-fails_or_is next follow rest dir Up = through-fails_or_is (parent dir) _ _ (next (parent dir))
    taken-fails_or_is next follow rest dir (Down name) =
        looking-fails_or_is (name ∷ dir) _ _ (elim (absent_or_same (name ∷ dir)) [
          | inl e ↦ inl (ap (λ node. (entered next-part follow-part rest dir (name ∷ dir) node).end) e)
          | inr e ↦ subst (λ node. FailsOrIs (entered next-part follow-part rest dir (name ∷ dir) node) (entered next-whole follow-whole rest dir (name ∷ dir) (entry_at whole (name ∷ dir))))
              (sym e)
              (entered-fails_or_is next follow rest dir (name ∷ dir) (entry_at whole (name ∷ dir)))
        ])

    beyond-same : ((dir : Path) → AgreeAt part whole (next-whole dir).nodes → next-part dir ≡ next-whole dir)
        → ((dir : Path) (rest : List Text) → AgreeAt part whole (follow-whole dir rest).nodes → follow-part dir rest ≡ follow-whole dir rest)
        → (rest : List Text) (dir path : Path) (node : Entry)
        → AgreeAt part whole (beyond next-whole follow-whole rest dir path node).nodes
        → beyond next-part follow-part rest dir path node ≡ beyond next-whole follow-whole rest dir path node
    beyond-same next follow rest dir path Dir agree = next path agree
    beyond-same next follow rest dir path (File body) agree = refl
    beyond-same next follow rest dir path (Link text) agree = follow (start dir text) (components text ++ rest) agree

    entered-same : ((dir : Path) → AgreeAt part whole (next-whole dir).nodes → next-part dir ≡ next-whole dir)
        → ((dir : Path) (rest : List Text) → AgreeAt part whole (follow-whole dir rest).nodes → follow-part dir rest ≡ follow-whole dir rest)
        → (rest : List Text) (dir path : Path) (node : Option Entry) → entry_at whole path ≡ node
        → AgreeAt part whole (entered next-whole follow-whole rest dir path node).nodes
        → entered next-part follow-part rest dir path (entry_at part path) ≡ entered next-whole follow-whole rest dir path node
    entered-same next follow rest dir path None e agree =
        let none : entry_at part path ≡ None = elim (absent_or_same path) [ inl a ↦ a | inr a ↦ a ∙ e ] in
        ap (entered next-part follow-part rest dir path) none
    entered-same next follow rest dir path (Some node) e agree =
        ap (entered next-part follow-part rest dir path) (agree path (inl refl) ∙ e)
        ∙ ap (through path) (beyond-same next follow rest dir path node (λ p m. agree p (inr m)))

    taken-same : ((dir : Path) → AgreeAt part whole (next-whole dir).nodes → next-part dir ≡ next-whole dir)
        → ((dir : Path) (rest : List Text) → AgreeAt part whole (follow-whole dir rest).nodes → follow-part dir rest ≡ follow-whole dir rest)
        → (rest : List Text) (dir : Path) (component : Component)
        → AgreeAt part whole (taken next-whole follow-whole rest dir (entry_at whole) component).nodes
        → taken next-part follow-part rest dir (entry_at part) component ≡ taken next-whole follow-whole rest dir (entry_at whole) component
    taken-same next follow rest dir Stay agree = next dir agree
    taken-same next follow rest dir Up agree = ap (through (parent dir)) (next (parent dir) (λ p m. agree p (inr m)))
    taken-same next follow rest dir (Down name) agree = ap (looking (name ∷ dir)) (entered-same next follow rest dir (name ∷ dir) (entry_at whole (name ∷ dir)) refl agree)

  walk_with-fails_or_is : (links : ℕ) (follow-part follow-whole : Path → List Text → Walked)
      → ((dir : Path) (rest : List Text) → FailsOrIs (follow-part dir rest) (follow-whole dir rest))
      → (dir : Path) (components : List Text)
      → FailsOrIs (walk_with (entry_at part) links follow-part dir components) (walk_with (entry_at whole) links follow-whole dir components)
  unfolding walk_with
  walk_with-fails_or_is links follow-part follow-whole follow dir [] = inr refl
  walk_with-fails_or_is links follow-part follow-whole follow dir (component ∷ rest) =
      taken-fails_or_is _ _ follow-part follow-whole (λ next. walk_with-fails_or_is links follow-part follow-whole follow next rest) follow rest dir (component_of component)

  -- a walk in the part fails, or is the walk in the whole
  pub walk-fails_or_is : (links : ℕ) (dir : Path) (components : List Text) → FailsOrIs (walk (entry_at part) links dir components) (walk (entry_at whole) links dir components)
  unfolding walk
  walk-fails_or_is zero dir components = walk_with-fails_or_is zero _ _ (λ d rest. inr refl) dir components
  walk-fails_or_is (suc links) dir components = walk_with-fails_or_is (suc links) _ _ (walk-fails_or_is links) dir components

  walk_with-same : (links : ℕ) (follow-part follow-whole : Path → List Text → Walked)
      → ((dir : Path) (rest : List Text) → AgreeAt part whole (follow-whole dir rest).nodes → follow-part dir rest ≡ follow-whole dir rest)
      → (dir : Path) (components : List Text)
      → AgreeAt part whole (walk_with (entry_at whole) links follow-whole dir components).nodes
      → walk_with (entry_at part) links follow-part dir components ≡ walk_with (entry_at whole) links follow-whole dir components
  unfolding walk_with
  walk_with-same links follow-part follow-whole follow dir [] agree = refl
  walk_with-same links follow-part follow-whole follow dir (component ∷ rest) agree =
      taken-same _ _ follow-part follow-whole (λ next. walk_with-same links follow-part follow-whole follow next rest) follow rest dir (component_of component) agree

  -- a walk whose nodes walked are in the part is the same there
  pub walk-same : (links : ℕ) (dir : Path) (components : List Text)
      → AgreeAt part whole (walk (entry_at whole) links dir components).nodes → walk (entry_at part) links dir components ≡ walk (entry_at whole) links dir components
  unfolding walk
  walk-same zero dir components = walk_with-same zero _ _ (λ d rest agree. refl) dir components
  walk-same (suc links) dir components = walk_with-same (suc links) _ _ (walk-same links) dir components

  last-fails_or_is : (name : Text) (nodes : List Path) (end : End)
      → (last_looked_up (entry_at part) name nodes end ≡ None) ⊎ (last_looked_up (entry_at part) name nodes end ≡ last_looked_up (entry_at whole) name nodes end)
  last-fails_or_is name nodes Nowhere = inl refl
  last-fails_or_is name nodes (AtDir dir links) =
      elim (walk-fails_or_is links dir (name ∷ [])) [
        | inl e ↦ inl (ap (located_at dir name (nodes ++ (walk (entry_at part) links dir (name ∷ [])).nodes)) e)
        | inr e ↦ inr (ap (located_in dir name nodes) e)
      ]
  last-fails_or_is name nodes (AtFile real) = inl refl

  -- a file is located in the part as in the whole, or not at all
  pub locate-fails_or_is : (dir : Path) (text : Text) → (locate part dir text ≡ None) ⊎ (locate part dir text ≡ locate whole dir text)
  unfolding located_by
  locate-fails_or_is dir text =
      let name : Text = last_of (components text) in
      let v : Walked = walk (entry_at part) 40 (start dir text) (but_last (components text)) in
      let tested : Option Located → Option Located = λ found. cond (can_locate text) found None in
      let after : Look → Walked → Option Located = λ look w. last_looked_up look name (first_nodes dir text ++ w.nodes) w.end in
      elim (walk-fails_or_is 40 (start dir text) (but_last (components text))) [
        | inl e ↦ inl (ap (λ end. tested (last_looked_up (entry_at part) name (first_nodes dir text ++ v.nodes) end)) e ∙ none_either (can_locate text))
        | inr e ↦ elim (last-fails_or_is name (first_nodes dir text ++ v.nodes) v.end) [
          | inl f ↦ inl (ap tested f ∙ none_either (can_locate text))
          | inr f ↦ inr (ap tested f ∙ ap (λ w. tested (after (entry_at whole) w)) e)
        ]
      ]

  last-same : (name : Text) (nodes : List Path) (end : End) (l : Located) → last_looked_up (entry_at whole) name nodes end ≡ Some l
      → AgreeAt part whole l.walked → AgreeAt part whole nodes × (last_looked_up (entry_at part) name nodes end ≡ Some l)
  last-same name nodes Nowhere l e agree = absurd (cc)
  last-same name nodes (AtDir dir links) l e agree =
      let w : Walked = walk (entry_at whole) links dir (name ∷ []) in
      let all : nodes ++ w.nodes ≡ l.walked = located_at-walked dir name (nodes ++ w.nodes) w.end l e in
      let there : AgreeAt part whole (nodes ++ w.nodes) = λ path m. agree path (subst (Member path) all m) in (
        λ path m. there path (Member-append_left path nodes w.nodes m),
        ap (located_in dir name nodes) (walk-same links dir (name ∷ []) (λ path m. there path (Member-append_right path nodes w.nodes m))) ∙ e,
      )
  last-same name nodes (AtFile real) l e agree = absurd (cc)

  -- a file is located in the part as in the whole, where the part has the nodes walked
  pub locate-same : (dir : Path) (text : Text) (l : Located) → locate whole dir text ≡ Some l → AgreeAt part whole l.walked → locate part dir text ≡ Some l
  unfolding located_by
  locate-same dir text l e agree =
      let name : Text = last_of (components text) in
      let w : Walked = walk (entry_at whole) 40 (start dir text) (but_last (components text)) in
      let found : cond (can_locate text) (last_looked_up (entry_at whole) name (first_nodes dir text ++ w.nodes) w.end) None ≡ Some l = e in
      let last : AgreeAt part whole (first_nodes dir text ++ w.nodes) × (last_looked_up (entry_at part) name (first_nodes dir text ++ w.nodes) w.end ≡ Some l) =
      last-same name (first_nodes dir text ++ w.nodes) w.end l (cond_some (can_locate text) _ l found).1 agree in
      let same : walk (entry_at part) 40 (start dir text) (but_last (components text)) ≡ w =
      walk-same 40 (start dir text) (but_last (components text)) (λ path m. last.0 path (Member-append_right path (first_nodes dir text) w.nodes m)) in
      ap (λ (v : Walked). cond (can_locate text) (last_looked_up (entry_at part) name (first_nodes dir text ++ v.nodes) v.end) None) same
      ∙ ap (λ found. cond (can_locate text) found None) last.1
      ∙ ap (λ b. cond b (Some l) None) (cond_some (can_locate text) _ l found).0
