-- The frame law of lookups: trees that agree at the paths looked up have the same walk.
use Rattle.std.proofs.Common.{◌≡◌, ℕ, zero, suc, List, [], ◌∷◌, ◌++◌, refl, ◌∙◌, ap, inl, inr, Option, Some, None, cond}
use Rattle.tree_model.specs.Frame.{SameAt, last_looked, looked_for}
use Rattle.tree_model.specs.Paths.{Text, Path, parent}
use Rattle.tree_model.specs.declared.entry.Entry.{Entry}
use Rattle.tree_model.specs.declared.entry.Entry.TheVariants.{Dir, File, Link}
use Rattle.tree_model.specs.Walk.{components, Component, Stay, Up, Down, component_of, start, Walked, through, looking, beyond, entered, taken, walk_with, walk, Look, End, Nowhere, AtDir, AtFile, but_last, last_of, first_nodes, can_locate, last_looked_up, located_in, located_by}
use Rattle.tree_model.specs.declared.walk.Located.{Located}
use Rattle.tree_model.proofs.MemberLemmas.{Member-append_left, Member-append_right}

module _ (old new : Look) where
  abbrev Same : List Path → Type 0
  Same = SameAt old new

  module _ (next-old next-new : Path → Walked) (follow-old follow-new : Path → List Text → Walked)
      (next : (dir : Path) → Same (next-old dir).looked → next-old dir ≡ next-new dir)
      (follow : (dir : Path) (rest : List Text) → Same (follow-old dir rest).looked → follow-old dir rest ≡ follow-new dir rest) where
    beyond-looked : (rest : List Text) (dir path : Path) (node : Entry) → Same (beyond next-old follow-old rest dir path node).looked
        → beyond next-old follow-old rest dir path node ≡ beyond next-new follow-new rest dir path node
    beyond-looked rest dir path Dir same = next path same
    beyond-looked rest dir path (File body) same = refl
    beyond-looked rest dir path (Link text) same = follow (start dir text) (components text ++ rest) same

    entered-looked : (rest : List Text) (dir path : Path) (node : Option Entry) → Same (entered next-old follow-old rest dir path node).looked
        → entered next-old follow-old rest dir path node ≡ entered next-new follow-new rest dir path node
    entered-looked rest dir path None same = refl
    entered-looked rest dir path (Some node) same = ap (through path) (beyond-looked rest dir path node same)

    taken-looked : (rest : List Text) (dir : Path) (component : Component) → Same (taken next-old follow-old rest dir old component).looked
        → taken next-old follow-old rest dir old component ≡ taken next-new follow-new rest dir new component
    taken-looked rest dir Stay same = next dir same
    taken-looked rest dir Up same = ap (through (parent dir)) (next (parent dir) same)
    taken-looked rest dir (Down name) same =
        ap (looking (name ∷ dir))
        (entered-looked rest dir (name ∷ dir) (old (name ∷ dir)) (λ path m. same path (inr m))
        ∙ ap (entered next-new follow-new rest dir (name ∷ dir)) (same (name ∷ dir) (inl refl)))

  walk_with-looked : (links : ℕ) (follow-old follow-new : Path → List Text → Walked)
      → ((dir : Path) (rest : List Text) → Same (follow-old dir rest).looked → follow-old dir rest ≡ follow-new dir rest)
      → (dir : Path) (list : List Text) → Same (walk_with old links follow-old dir list).looked
      → walk_with old links follow-old dir list ≡ walk_with new links follow-new dir list
  unfolding walk_with
  walk_with-looked links follow-old follow-new follow dir [] same = refl
  walk_with-looked links follow-old follow-new follow dir (component ∷ rest) same =
      taken-looked (λ next. walk_with old links follow-old next rest) (λ next. walk_with new links follow-new next rest) follow-old follow-new
      (λ next. walk_with-looked links follow-old follow-new follow next rest) follow rest dir (component_of component) same

  -- lookups that agree at the paths looked up have the same walk
  pub walk-looked : (links : ℕ) (dir : Path) (list : List Text) → Same (walk old links dir list).looked → walk old links dir list ≡ walk new links dir list
  unfolding walk
  walk-looked zero dir list = walk_with-looked zero _ _ (λ d rest same. refl) dir list
  walk-looked (suc links) dir list = walk_with-looked (suc links) _ _ (walk-looked links) dir list

-- lookups that agree at the paths looked up for a text locate the same file
last-looked : (old new : Look) (name : Text) (nodes : List Path) (end : End) → SameAt old new (last_looked old name end)
    → last_looked_up old name nodes end ≡ last_looked_up new name nodes end
last-looked old new name nodes Nowhere same = refl
last-looked old new name nodes (AtDir dir links) same = ap (located_in dir name nodes) (walk-looked old new links dir (name ∷ []) same)
last-looked old new name nodes (AtFile real) same = refl

pub locate-looked : (old new : Look) (dir : Path) (text : Text) → SameAt old new (looked_for old dir text) → located_by old dir text ≡ located_by new dir text
unfolding located_by looked_for
locate-looked old new dir text same =
    let name : Text = last_of (components text) in
    let w : Walked = walk old 40 (start dir text) (but_last (components text)) in
    let rest : Walked → Option Located = λ v. cond (can_locate text) (last_looked_up new name (first_nodes dir text ++ v.nodes) v.end) None in
    ap (λ l. cond (can_locate text) l None) (last-looked old new name (first_nodes dir text ++ w.nodes) w.end (λ path m. same path (Member-append_right path w.looked _ m)))
    ∙ ap rest (walk-looked old new 40 (start dir text) (but_last (components text)) (λ path m. same path (Member-append_left path w.looked _ m)))
