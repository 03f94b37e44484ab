-- A located file is one, and its place leads to it.
use Rattle.std.proofs.Common.{◌≡◌, ℕ, zero, suc, ◌-◌, ◌≤◌, List, [], ◌∷◌, ◌++◌, refl, ap, subst, inl, Option, Some, None, is_some, IsSome, arith}
use Rattle.base_types.specs.Members.{Member}
use Rattle.tree_model.specs.Paths.{Text, Path, parent}
use Rattle.tree_model.specs.Trees.{entry_body}
use Rattle.tree_model.specs.Frame.{LocatedLeads}
use Rattle.tree_model.specs.declared.entry.Entry.{Entry}
use Rattle.tree_model.specs.declared.entry.Entry.TheVariants.{Dir, File, Link}
use Rattle.tree_model.specs.declared.walk.Located.{Located}
use Rattle.tree_model.specs.Walk.{Look, components, Component, Stay, Up, Down, component_of, start, End, Nowhere, AtDir, AtFile, Walked, file_end, entered, taken, walk_with, walk, but_last, last_of, first_nodes, located_at, last_looked_up, can_locate, located_by}
use Rattle.tree_model.proofs.MemberLemmas.{Member-append_left, Member-append_right}
use Rattle.tree_model.proofs.FrameParts.{cond_some}
use Rattle.tree_model.proofs.WalkLemmas.{walk-file_walked, walk-left, LeftAtMost, walk-more}
use Rattle.tree_model.proofs.WalkNodes.{walk-met}

-- a walk that ends at a file does so at one of the lookup's
module _ (look : Look) (real : Path) where
  abbrev EndsAtFile : Walked → Type 0
  EndsAtFile walked = walked.end ≡ AtFile real → IsSome (entry_body (look real))

  file-end : (path : Path) (body : List ℕ) (rest : List Text) → look path ≡ Some (File body) → file_end path rest ≡ AtFile real → IsSome (entry_body (look real))
  file-end path body [] e f =
      let is : path ≡ real = cc in
      subst (λ p. IsSome (entry_body (look p))) is (ap (λ node. is_some (entry_body node)) e)
  file-end path body (component ∷ rest) e f = absurd (cc)

  module _ (next : Path → Walked) (follow : Path → List Text → Walked)
      (n : (dir : Path) → EndsAtFile (next dir)) (f : (dir : Path) (rest : List Text) → EndsAtFile (follow dir rest)) where
    entered-file : (rest : List Text) (dir path : Path) (node : Option Entry) → look path ≡ node → EndsAtFile (entered next follow rest dir path node)
    entered-file rest dir path None e h = absurd (cc)
    entered-file rest dir path (Some Dir) e h = n path h
    entered-file rest dir path (Some (File body)) e h = file-end path body rest e h
    entered-file rest dir path (Some (Link text)) e h = f (start dir text) (components text ++ rest) h

    taken-file : (rest : List Text) (dir : Path) (component : Component) → EndsAtFile (taken next follow rest dir look component)
    taken-file rest dir Stay h = n dir h
    taken-file rest dir Up h = n (parent dir) h
    taken-file rest dir (Down name) h = entered-file rest dir (name ∷ dir) (look (name ∷ dir)) refl h

  walk_with-file : (links : ℕ) (follow : Path → List Text → Walked) → ((dir : Path) (rest : List Text) → EndsAtFile (follow dir rest))
      → (dir : Path) (list : List Text) → EndsAtFile (walk_with look links follow dir list)
  unfolding walk_with
  walk_with-file links follow f dir [] h = absurd (cc)
  walk_with-file links follow f dir (component ∷ rest) h =
      taken-file (λ next. walk_with look links follow next rest) follow (λ next. walk_with-file links follow f next rest) f rest dir (component_of component) h

  walk-file : (links : ℕ) (dir : Path) (list : List Text) → EndsAtFile (walk look links dir list)
  unfolding walk
  walk-file zero dir list = walk_with-file zero _ (λ d rest h. absurd (cc)) dir list
  walk-file (suc links) dir list = walk_with-file (suc links) _ (walk-file links) dir list

module _ (look : Look) (dir : Path) (text : Text) (l : Located) (before : List Path) (begins : Member dir before) where
  file-leads : (up : Path) (links : ℕ) → links ≤ 40 → (end : End) → (walk look links up (last_of (components text) ∷ [])).end ≡ end
      → located_at up (last_of (components text)) (before ++ (walk look links up (last_of (components text) ∷ [])).nodes) end ≡ Some l
      → LocatedLeads look dir text l
  file-leads up links le Nowhere f e = absurd (cc)
  file-leads up links le (AtDir other left) f e = absurd (cc)
  file-leads up links le (AtFile real) f e =
      let name : Text = last_of (components text) in
      let w : Walked = walk look links up (name ∷ []) in
      let located : Located = record { place = name ∷ up; real = real; walked = before ++ w.nodes } in
      let same : located ≡ l = cc in
      let facts : LocatedLeads look dir text located = record {
        first = Member-append_left dir before w.nodes begins;
        real = Member-append_right real before w.nodes (walk-file_walked look links up (name ∷ []) real f);
        place = Member-append_right (name ∷ up) before w.nodes (walk-met look links up name real f);
        file = walk-file look real links up (name ∷ []) f;
        up = up;
        below = refl;
        leads = subst (λ n. (walk look n up (name ∷ [])).end ≡ AtFile real) (omega arith) (walk-more look up (name ∷ []) real (40 - links) links f);
      } in
      subst (LocatedLeads look dir text) same facts

  last-leads : (end : End) → LeftAtMost 40 end → last_looked_up look (last_of (components text)) before end ≡ Some l → LocatedLeads look dir text l
  last-leads Nowhere le e = absurd (cc)
  last-leads (AtFile real) le e = absurd (cc)
  last-leads (AtDir up links) le e = file-leads up links le (walk look links up (last_of (components text) ∷ [])).end refl e

-- what holds of a located file
pub locate-leads : (look : Look) (dir : Path) (text : Text) (l : Located) → located_by look dir text ≡ Some l → LocatedLeads look dir text l
unfolding located_by
locate-leads look dir text l e =
    let w : Walked = walk look 40 (start dir text) (but_last (components text)) in
    last-leads look dir text l (first_nodes dir text ++ w.nodes) (inl refl) w.end (walk-left look 40 (start dir text) (but_last (components text)))
    (cond_some (can_locate text) _ l e).1
