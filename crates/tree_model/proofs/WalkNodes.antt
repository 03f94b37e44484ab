-- A walk in a tree stands at nodes alone: it ends at a Dir or at a File, and the Dir is where it began, the root or
-- a node that it met.
use Rattle.std.proofs.Common.{◌≡◌, ℕ, zero, suc, ◌-◌, ◌≤◌, List, [], ◌∷◌, ◌++◌, refl, sym, ◌∙◌, ap, subst, ◌⊎◌, inl, inr, Option, Some, None, Bool, true, false, cond, ◌==◌, ◌&&◌, is_some, IsSome, arith}
use Rattle.base_types.specs.Members.{Member}
use Rattle.base_types.specs.Ascii.{slash, dot}
use Rattle.tree_model.specs.Paths.{Text, Path, parent}
use Rattle.tree_model.specs.Trees.{FileTree, entry_at, body_at, entry_body, IsTree}
use Rattle.tree_model.specs.Frame.{LocatedHolds}
use Rattle.tree_model.specs.declared.entry.Entry.{Entry}
use Rattle.tree_model.specs.declared.entry.Entry.TheVariants.{Dir, File, Link}
use Rattle.tree_model.specs.declared.walk.Located.{Located}
use Rattle.tree_model.specs.Walk.{components, Component, Stay, Up, Down, component_of, start, End, Nowhere, AtDir, AtFile, Walked, through, walk_ended, file_end, entered, taken, walk_with, walk, but_last, last_of, root_if, is_absolute, first_nodes, located_at, last_looked_up, can_locate, located_by, locate, Look}
use Rattle.tree_model.proofs.MemberLemmas.{Member-append_left, Member-append_right, Member-append}
use Rattle.tree_model.proofs.FrameParts.{cond_some}
use Rattle.tree_model.proofs.WalkLemmas.{walk-file_walked, walk-left, LeftAtMost, walk-more}

module _ (tree : FileTree) (is : IsTree tree) where
  abbrev IsDirAt : Path → Type 0
  IsDirAt dir = entry_at tree dir ≡ Some Dir

  -- a Dir at which a walk from a Dir may end, after these nodes
  abbrev IsReached : Path → List Path → Path → Type 0
  IsReached from nodes dir = (dir ≡ from) ⊎ ((dir ≡ []) ⊎ Member dir nodes)

  abbrev EndHolds : Path → List Path → End → Type 0
  EndHolds from nodes Nowhere = Unit {0}
  EndHolds from nodes (AtDir dir links) = IsDirAt dir × IsReached from nodes dir
  EndHolds from nodes (AtFile real) = IsSome (body_at tree real)

  record Stands (from : Path) (walked : Walked) : Type 0 where
    pub met : (path : Path) → Member path walked.nodes → IsSome (entry_at tree path)
    pub last : EndHolds from walked.nodes walked.end

  is_node : (path : Path) (node : Entry) → entry_at tree path ≡ Some node → IsSome (entry_at tree path)
  is_node path node e = ap is_some e

  parent-dir : (dir : Path) → IsDirAt dir → IsDirAt (parent dir)
  parent-dir [] d = is.root
  parent-dir (name ∷ up) d = is.parent name up (is_node (name ∷ up) Dir d)

  start_cases : (dir : Path) (text : Text) → (start dir text ≡ dir) ⊎ (start dir text ≡ [])
  start_cases dir [] = inl refl
  start_cases dir (b ∷ text) = go (b == slash)
    where
      go : (t : Bool) → (cond t [] dir ≡ dir) ⊎ (cond t [] dir ≡ [])
      go true = inr refl
      go false = inl refl

  start-dir : (dir : Path) (text : Text) → IsDirAt dir → IsDirAt (start dir text)
  start-dir dir text d = elim (start_cases dir text) [
    | inl e ↦ subst IsDirAt (sym e) d
    | inr e ↦ subst IsDirAt (sym e) is.root
  ]

  met_first : (path : Path) (nodes : List Path) → IsSome (entry_at tree path) → ((other : Path) → Member other nodes → IsSome (entry_at tree other))
      → (other : Path) → Member other (path ∷ nodes) → IsSome (entry_at tree other)
  met_first path nodes n h other (inl e) = subst (λ p. IsSome (entry_at tree p)) e n
  met_first path nodes n h other (inr m) = h other m

  -- a node met, and a walk on from it
  past_end : (from path : Path) (nodes : List Path) (end : End) → EndHolds path nodes end → EndHolds from (path ∷ nodes) end
  past_end from path nodes Nowhere h = tt
  past_end from path nodes (AtDir dir links) h = (h.0, elim h.1 [ inl e ↦ inr (inr (inl (sym e))) | inr (inl e) ↦ inr (inl e) | inr (inr m) ↦ inr (inr (inr m)) ])
  past_end from path nodes (AtFile real) h = h

  past : (from path : Path) (walked : Walked) → IsSome (entry_at tree path) → Stands path walked → Stands from (through path walked)
  past from path walked n h = record { met = met_first path walked.nodes n h.met; last = past_end from path walked.nodes walked.end h.last }

  -- a link met, and a walk on from its directory or the root
  along_end : (from link begin : Path) (nodes : List Path) (end : End) → (begin ≡ from) ⊎ (begin ≡ []) → EndHolds begin nodes end → EndHolds from (link ∷ nodes) end
  along_end from link begin nodes Nowhere s h = tt
  along_end from link begin nodes (AtDir dir links) s h = (
    h.0,
    elim h.1 [
      | inl e ↦ elim s [ inl f ↦ inl (e ∙ f) | inr f ↦ inr (inl (e ∙ f)) ]
      | inr (inl e) ↦ inr (inl e)
      | inr (inr m) ↦ inr (inr (inr m))
    ],
  )
  along_end from link begin nodes (AtFile real) s h = h

  along : (from link begin : Path) (walked : Walked) → IsSome (entry_at tree link) → (begin ≡ from) ⊎ (begin ≡ []) → Stands begin walked → Stands from (through link walked)
  along from link begin walked n s h = record { met = met_first link walked.nodes n h.met; last = along_end from link begin walked.nodes walked.end s h.last }

  at_file : (from path : Path) (body : List ℕ) (rest : List Text) → entry_at tree path ≡ Some (File body) → Stands from (through path (walk_ended (file_end path rest)))
  at_file from path body [] e = record { met = met_first path [] (is_node path (File body) e) (λ other m. elim m [ ]); last = ap (λ node. is_some (entry_body node)) e }
  at_file from path body (component ∷ rest) e = record { met = met_first path [] (is_node path (File body) e) (λ other m. elim m [ ]); last = tt }

  nowhere : (from : Path) → Stands from (walk_ended Nowhere)
  nowhere from = record { met = λ path m. elim m [ ]; last = tt }

  module _ (next : Path → Walked) (follow : Path → List Text → Walked)
      (n : (dir : Path) → IsDirAt dir → Stands dir (next dir))
      (f : (dir : Path) (rest : List Text) → IsDirAt dir → Stands dir (follow dir rest)) where
    entered-stands : (rest : List Text) (dir path : Path) (node : Option Entry) → IsDirAt dir → entry_at tree path ≡ node
        → Stands dir (entered next follow rest dir path node)
    entered-stands rest dir path None d e = nowhere dir
    entered-stands rest dir path (Some Dir) d e = past dir path (next path) (is_node path Dir e) (n path e)
    entered-stands rest dir path (Some (File body)) d e = at_file dir path body rest e
    entered-stands rest dir path (Some (Link text)) d e =
        along dir path (start dir text) (follow (start dir text) (components text ++ rest)) (is_node path (Link text) e) (start_cases dir text)
        (f (start dir text) (components text ++ rest) (start-dir dir text d))

    taken-stands : (rest : List Text) (dir : Path) (component : Component) → IsDirAt dir → Stands dir (taken next follow rest dir (entry_at tree) component)
    taken-stands rest dir Stay d = n dir d
    taken-stands rest dir Up d =
        past dir (parent dir) (next (parent dir)) (is_node (parent dir) Dir (parent-dir dir d)) (n (parent dir) (parent-dir dir d))
    taken-stands rest dir (Down name) d =
        let h : Stands dir (entered next follow rest dir (name ∷ dir) (entry_at tree (name ∷ dir))) =
        entered-stands rest dir (name ∷ dir) (entry_at tree (name ∷ dir)) d refl in
        record { met = h.met; last = h.last }

  walk_with-stands : (links : ℕ) (follow : Path → List Text → Walked) → ((dir : Path) (rest : List Text) → IsDirAt dir → Stands dir (follow dir rest))
      → (dir : Path) (list : List Text) → IsDirAt dir → Stands dir (walk_with (entry_at tree) links follow dir list)
  unfolding walk_with
  walk_with-stands links follow f dir [] d = record { met = λ path m. elim m [ ]; last = (d, inl refl) }
  walk_with-stands links follow f dir (component ∷ rest) d =
      taken-stands (λ next. walk_with (entry_at tree) links follow next rest) follow (λ next. walk_with-stands links follow f next rest) f rest dir (component_of component) d

  walk-stands : (links : ℕ) (dir : Path) (list : List Text) → IsDirAt dir → Stands dir (walk (entry_at tree) links dir list)
  unfolding walk
  walk-stands zero dir list d = walk_with-stands zero _ (λ d rest h. nowhere d) dir list d
  walk-stands (suc links) dir list d = walk_with-stands (suc links) _ (walk-stands links) dir list d

-- a component that isn't its own name stays or goes up
component_cases : (name : Text) → (component_of name ≡ Stay) ⊎ ((component_of name ≡ Up) ⊎ (component_of name ≡ Down name))
component_cases [] = inl refl
component_cases (a ∷ []) = go (a == dot)
  where
    go : (b : Bool) → (cond b Stay (Down (a ∷ [])) ≡ Stay) ⊎ ((cond b Stay (Down (a ∷ [])) ≡ Up) ⊎ (cond b Stay (Down (a ∷ [])) ≡ Down (a ∷ [])))
    go true = inl refl
    go false = inr (inr refl)
component_cases (a ∷ b ∷ []) = go ((a == dot) && (b == dot))
  where
    go : (t : Bool) → (cond t Up (Down (a ∷ b ∷ [])) ≡ Stay) ⊎ ((cond t Up (Down (a ∷ b ∷ [])) ≡ Up) ⊎ (cond t Up (Down (a ∷ b ∷ [])) ≡ Down (a ∷ b ∷ [])))
    go true = inr (inl refl)
    go false = inr (inr refl)
component_cases (a ∷ b ∷ c ∷ rest) = inr (inr refl)

-- where the walk of one component ends at a File, the first node met is the component's
module _ (look : Look) (next : Path → Walked) (follow : Path → List Text → Walked) (real : Path)
    (no_file : (dir : Path) → (next dir).end ≡ AtFile real → ⊥) where
  entered-met : (rest : List Text) (dir path : Path) (node : Option Entry) → (entered next follow rest dir path node).end ≡ AtFile real
      → Member path (entered next follow rest dir path node).nodes
  entered-met rest dir path None e = absurd (cc)
  entered-met rest dir path (Some node) e = inl refl

  taken-met : (dir : Path) (name : Text) (component : Component) → (component ≡ Stay) ⊎ ((component ≡ Up) ⊎ (component ≡ Down name))
      → (taken next follow [] dir look component).end ≡ AtFile real
      → Member (name ∷ dir) (taken next follow [] dir look component).nodes
  taken-met dir name Stay c e = absurd (no_file dir e)
  taken-met dir name Up c e = absurd (no_file (parent dir) e)
  taken-met dir name (Down other) c e = subst (λ n. Member (n ∷ dir) (taken next follow [] dir look (Down other)).nodes)
      (same c) (entered-met [] dir (other ∷ dir) (look (other ∷ dir)) e)
    where
      same : (Down other ≡ Stay) ⊎ ((Down other ≡ Up) ⊎ (Down other ≡ Down name)) → other ≡ name
      same (inl f) = absurd (cc)
      same (inr (inl f)) = absurd (cc)
      same (inr (inr f)) = cc

one-met : (look : Look) (links : ℕ) (follow : Path → List Text → Walked) (dir : Path) (name : Text) (real : Path)
    → (walk_with look links follow dir (name ∷ [])).end ≡ AtFile real → Member (name ∷ dir) (walk_with look links follow dir (name ∷ [])).nodes
unfolding walk_with
one-met look links follow dir name real e =
    taken-met look (λ next. walk_with look links follow next []) follow real (λ d f. absurd (cc)) dir name (component_of name) (component_cases name) e

pub walk-met : (look : Look) (links : ℕ) (dir : Path) (name : Text) (real : Path)
    → (walk look links dir (name ∷ [])).end ≡ AtFile real → Member (name ∷ dir) (walk look links dir (name ∷ [])).nodes
unfolding walk
walk-met look zero dir name real e = one-met look zero _ dir name real e
walk-met look (suc links) dir name real e = one-met look (suc links) _ dir name real e

-- and that component has a node
module _ (look : Look) (next : Path → Walked) (follow : Path → List Text → Walked) (real : Path)
    (no_file : (dir : Path) → (next dir).end ≡ AtFile real → ⊥) where
  entered-stood : (rest : List Text) (dir path : Path) (node : Option Entry) → (entered next follow rest dir path node).end ≡ AtFile real → IsSome node
  entered-stood rest dir path None e = absurd (cc)
  entered-stood rest dir path (Some node) e = refl

  taken-stood : (dir : Path) (name : Text) (component : Component) → (component ≡ Stay) ⊎ ((component ≡ Up) ⊎ (component ≡ Down name))
      → (taken next follow [] dir look component).end ≡ AtFile real → IsSome (look (name ∷ dir))
  taken-stood dir name Stay c e = absurd (no_file dir e)
  taken-stood dir name Up c e = absurd (no_file (parent dir) e)
  taken-stood dir name (Down other) c e = subst (λ n. IsSome (look (n ∷ dir))) (same c) (entered-stood [] dir (other ∷ dir) (look (other ∷ dir)) e)
    where
      same : (Down other ≡ Stay) ⊎ ((Down other ≡ Up) ⊎ (Down other ≡ Down name)) → other ≡ name
      same (inl f) = absurd (cc)
      same (inr (inl f)) = absurd (cc)
      same (inr (inr f)) = cc

one-stood : (look : Look) (links : ℕ) (follow : Path → List Text → Walked) (dir : Path) (name : Text) (real : Path)
    → (walk_with look links follow dir (name ∷ [])).end ≡ AtFile real → IsSome (look (name ∷ dir))
unfolding walk_with
one-stood look links follow dir name real e =
    taken-stood look (λ next. walk_with look links follow next []) follow real (λ d f. absurd (cc)) dir name (component_of name) (component_cases name) e

pub walk-stood : (look : Look) (links : ℕ) (dir : Path) (name : Text) (real : Path) → (walk look links dir (name ∷ [])).end ≡ AtFile real → IsSome (look (name ∷ dir))
unfolding walk
walk-stood look zero dir name real e = one-stood look zero _ dir name real e
walk-stood look (suc links) dir name real e = one-stood look (suc links) _ dir name real e

module _ (tree : FileTree) (is : IsTree tree) where
  first-nodes : (dir : Path) (text : Text) → entry_at tree dir ≡ Some Dir → (path : Path) → Member path (first_nodes dir text) → IsSome (entry_at tree path)
  first-nodes dir text d path (inl e) = subst (λ p. IsSome (entry_at tree p)) e (ap is_some d)
  first-nodes dir text d path (inr m) = go (is_absolute text) m
    where
      go : (b : Bool) → Member path (root_if b) → IsSome (entry_at tree path)
      go true (inl e) = subst (λ p. IsSome (entry_at tree p)) e (ap is_some is.root)
      go true (inr m) = elim m [ ]
      go false m = elim m [ ]

  -- the Dir where the last component is looked up is the root or among the nodes
  before-dir : (dir : Path) (text : Text) (nodes : List Path) (other : Path) → (other ≡ start dir text) ⊎ ((other ≡ []) ⊎ Member other nodes)
      → (other ≡ []) ⊎ Member other (first_nodes dir text ++ nodes)
  before-dir dir text nodes other (inr (inl e)) = inl e
  before-dir dir text nodes other (inr (inr m)) = inr (Member-append_right other (first_nodes dir text) nodes m)
  before-dir dir text nodes other (inl e) = elim (start_cases tree is dir text) [
    | inl f ↦ inr (inl (sym (e ∙ f)))
    | inr f ↦ inl (e ∙ f)
  ]

  module _ (dir : Path) (text : Text) (l : Located) (before : List Path)
      (stand : (path : Path) → Member path before → IsSome (entry_at tree path)) where
    file-holds : (up : Path) (links : ℕ) → links ≤ 40 → (entry_at tree up ≡ Some Dir) × ((up ≡ []) ⊎ Member up before)
        → (end : End) → (walk (entry_at tree) links up (last_of (components text) ∷ [])).end ≡ end
        → located_at up (last_of (components text)) (before ++ (walk (entry_at tree) links up (last_of (components text) ∷ [])).nodes) end ≡ Some l
        → LocatedHolds tree text l
    file-holds up links le here Nowhere f e = absurd (cc)
    file-holds up links le here (AtDir other left) f e = absurd (cc)
    file-holds up links le here (AtFile real) f e =
        let name : Text = last_of (components text) in
        let w : Walked = walk (entry_at tree) links up (name ∷ []) in
        let stands : Stands tree is up w = walk-stands tree is links up (name ∷ []) here.0 in
        let all : List Path = before ++ w.nodes in
        let located : Located = record { place = name ∷ up; real = real; walked = all } in
        let same : located ≡ l = cc in
        let facts : LocatedHolds tree text located = record {
          nodes = λ path m. elim (Member-append path before w.nodes m) [ inl a ↦ stand path a | inr b ↦ stands.met path b ];
          file = subst (EndHolds tree is up w.nodes) f stands.last;
          real = Member-append_right real before w.nodes (walk-file_walked (entry_at tree) links up (name ∷ []) real f);
          place = Member-append_right (name ∷ up) before w.nodes (walk-met (entry_at tree) links up name real f);
          up = up;
          below = refl;
          dir = here.0;
          dir_walked = elim here.1 [ inl r ↦ inl r | inr m ↦ inr (Member-append_left up before w.nodes m) ];
          leads = subst (λ n. (walk (entry_at tree) n up (name ∷ [])).end ≡ AtFile real) (omega arith) (walk-more (entry_at tree) up (name ∷ []) real (40 - links) links f);
        } in
        subst (LocatedHolds tree text) same facts

    last-holds : (end : End) → LeftAtMost 40 end
        → ((up : Path) (links : ℕ) → end ≡ AtDir up links → (entry_at tree up ≡ Some Dir) × ((up ≡ []) ⊎ Member up before))
        → last_looked_up (entry_at tree) (last_of (components text)) before end ≡ Some l → LocatedHolds tree text l
    last-holds Nowhere le at e = absurd (cc)
    last-holds (AtFile real) le at e = absurd (cc)
    last-holds (AtDir up links) le at e = file-holds up links le (at up links refl) (walk (entry_at tree) links up (last_of (components text) ∷ [])).end refl e

  -- what holds of a located file
  pub locate-holds : (dir : Path) (text : Text) (l : Located) → entry_at tree dir ≡ Some Dir → locate tree dir text ≡ Some l → LocatedHolds tree text l
  unfolding located_by
  locate-holds dir text l d e =
      let w : Walked = walk (entry_at tree) 40 (start dir text) (but_last (components text)) in
      let before : List Path = first_nodes dir text ++ w.nodes in
      let stands : Stands tree is (start dir text) w = walk-stands tree is 40 (start dir text) (but_last (components text)) (start-dir tree is dir text d) in
      let stand : (path : Path) → Member path before → IsSome (entry_at tree path) =
      λ path m. elim (Member-append path (first_nodes dir text) w.nodes m) [ inl a ↦ first-nodes dir text d path a | inr b ↦ stands.met path b ] in
      let at : (up : Path) (links : ℕ) → w.end ≡ AtDir up links → (entry_at tree up ≡ Some Dir) × ((up ≡ []) ⊎ Member up before) =
      λ up links f.
      let h : EndHolds tree is (start dir text) w.nodes (AtDir up links) = subst (EndHolds tree is (start dir text) w.nodes) f stands.last in
      (h.0, before-dir dir text w.nodes up h.1) in
      last-holds dir text l before stand w.end (walk-left (entry_at tree) 40 (start dir text) (but_last (components text))) at
      (cond_some (can_locate text) _ l e).1
