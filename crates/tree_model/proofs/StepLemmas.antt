-- Each step of a program goes on as the walk does.
use Rattle.std.proofs.Common.{◌≡◌, ℕ, zero, suc, ◌-◌, ◌<◌, ◌≤◌, List, [], ◌∷◌, ◌++◌, length, take, drop, refl, sym, ◌∙◌, ap, subst, ◌⊎◌, inl, inr, Option, Some, None, Bool, true, false, cond, is_some, IsSome, IfSome, arith, append_assoc, if◌then◌else◌, ◌==◌, not, ◌&&◌, nat_le, nat_eq}
use Rattle.std.proofs.lemmas.Bool.{lt-leb, le-leb, ne_eqb, eqb-false}
use Rattle.std.specs.Option.{option_map}
use Rattle.std.specs.List.{onto_first}
use Rattle.std.proofs.lemmas.List.{append-nil}
use Rattle.std.proofs.Math.Seq.{take-append_seam, drop-append_seam}
use Rattle.base_types.specs.Ascii.{slash}
use Rattle.tree_model.specs.Paths.{Text, Path, parent, child_of, is_canonical}
use Rattle.tree_model.specs.Trees.{FileTree, entry_at, node_at, node_of_entry, IsTree}
use Rattle.tree_model.specs.Walk.{Look, components, Component, Stay, Up, Down, component_of, start, root_if, is_absolute, End, Nowhere, AtDir, AtFile, Walked, through, walk_ended, file_end, entered, taken, walk_with, walk, but_last, last_of, first_nodes, located_at, located_in, last_looked_up, can_locate, located_by}
use Rattle.tree_model.specs.parts.Glances.{located_below}
use Rattle.tree_model.specs.parts.Steps.{GoesOn, followed, onward, end_of}
use Rattle.tree_model.specs.declared.entry.Entry.{Entry}
use Rattle.tree_model.specs.declared.entry.Entry.TheVariants.{Dir, File, Link}
use Rattle.tree_model.specs.declared.entry.Node.{Node}
use Rattle.tree_model.specs.declared.entry.Node.TheVariants as node
use Rattle.tree_model.specs.declared.walk.Located.{Located}
use Rattle.tree_model.specs.declared.walk.Step.{Step}
use Rattle.tree_model.specs.declared.walk.Step.TheVariants as step
use Rattle.tree_model.specs.declared.walk.Stop.{Stop}
use Rattle.tree_model.specs.declared.walk.Stop.TheVariants as stop
use Rattle.tree_model.proofs.PathLemmas.{test_from_canonical}
use Rattle.tree_model.proofs.WalkNodes.{walk-stood}

-- what a clause says of a node of a told tree
pub node_told : (o : Option FileTree) (told : FileTree) (got : Option Node) (path : Path) → o ≡ Some told → IfSome o (λ tree. got ≡ node_at tree path) → got ≡ node_at told path
node_told o told got path e h = subst (λ (o : Option FileTree). IfSome o (λ tree. got ≡ node_at tree path)) e h

-- what holds of each told tree
pub if_each : (o : Option FileTree) (P : FileTree → Type 0) → ((told : FileTree) → o ≡ Some told → P told) → IfSome o P
if_each None P h = tt
if_each (Some told) P h = h told refl

pub none_else : {A : Type 0} (o : Option A) → ((x : A) → o ≡ Some x → ⊥) → None ≡ o
none_else None h = refl
none_else (Some x) h = absurd (h x refl)

some_part : (b : ℕ) (parts : List Text) → 0 < length (onto_first b parts)
some_part b [] = omega arith
some_part b (part ∷ parts) = omega arith

-- each text has a component
pub some_component : (text : Text) → 0 < length (components text)
some_component [] = omega arith
some_component (b ∷ text) = go (b == slash)
  where
    go : (t : Bool) → 0 < length (cond t ([] ∷ components text) (onto_first b (components text)))
    go true = omega arith
    go false = some_part b (components text)

-- THE STEPS OF THE DEFINITION

pub walk-cons : (look : Look) (links : ℕ) (dir : Path) (name : Text) (rest : List Text)
    → walk look links dir (name ∷ rest) ≡ taken (λ next. walk look links next rest) (followed look links) rest dir look (component_of name)
unfolding walk walk_with
walk-cons look zero dir name rest = refl
walk-cons look (suc links) dir name rest = refl

pub walk-nil : (look : Look) (links : ℕ) (dir : Path) → walk look links dir [] ≡ walk_ended (AtDir dir links)
unfolding walk walk_with
walk-nil look zero dir = refl
walk-nil look (suc links) dir = refl

pub same_walk : (before noted : List Path) (whole left : Walked) → whole ≡ left → noted ≡ before → GoesOn before whole noted left
same_walk before noted whole left e n = record { end = ap (λ (w : Walked). w.end) e; nodes = ap (λ (w : Walked). before ++ w.nodes) e ∙ ap (λ list. list ++ left.nodes) (sym n) }

pub one_more : (path : Path) (before noted : List Path) (left : Walked) → noted ≡ before ++ path ∷ [] → GoesOn before (through path left) noted left
one_more path before noted left e = record {
  end = refl;
  nodes = sym (append_assoc before (path ∷ []) left.nodes) ∙ ap (λ list. list ++ left.nodes) (sym e);
}

pub goes_further : (first noted last : List Path) (whole left behind : Walked) → GoesOn first whole noted left → GoesOn noted left last behind → GoesOn first whole last behind
goes_further first noted last whole left behind a b = record { end = a.end ∙ b.end; nodes = a.nodes ∙ b.nodes }

pub from_walk : (before noted : List Path) (whole other left : Walked) → other ≡ whole → GoesOn before whole noted left → GoesOn before other noted left
from_walk before noted whole other left e h = subst (λ w. GoesOn before w noted left) (sym e) h

pub to_walk : (before noted : List Path) (whole left other : Walked) → left ≡ other → GoesOn before whole noted left → GoesOn before whole noted other
to_walk before noted whole left other e h = subst (GoesOn before whole noted) e h

-- GOING DOWN TO A NAME

child-is : (b : Bool) (path other : Path) → Some path ≡ (if b then (Some other) else None) → path ≡ other
child-is true path other e = cc
child-is false path other e = absurd (cc)

-- a child is the directory's, by its name
pub child_named : (dir : Path) (name : Text) (path : Path) → Some path ≡ child_of dir name → path ≡ name ∷ dir
child_named dir name path e = child-is (is_canonical (name ∷ dir)) path (name ∷ dir) e

no_child : (b : Bool) (other : Path) → None ≡ (if b then (Some other) else None) → b ≡ false
no_child true other e = absurd (cc)
no_child false other e = refl

-- where no canonical path is, there is no node
pub no_node : (tree : FileTree) → IsTree tree → (dir : Path) (name : Text) → None ≡ child_of dir name → entry_at tree (name ∷ dir) ≡ None
no_node tree is dir name e = go (entry_at tree (name ∷ dir)) refl
  where
    go : (found : Option Entry) → entry_at tree (name ∷ dir) ≡ found → found ≡ None
    go None f = refl
    go (Some entry) f =
        let canonical : is_canonical (name ∷ dir) ≡ true = test_from_canonical (name ∷ dir) (is.canonical (name ∷ dir) (ap is_some f)) in
        let none : is_canonical (name ∷ dir) ≡ false = no_child (is_canonical (name ∷ dir)) (name ∷ dir) e in
        absurd (cc)

-- the step at a node
abbrev pub step_at : Path → Path → Node → Step
step_at dir path node.Dir = step.Dir path
step_at dir path node.File = step.File path
step_at dir path (node.Link text) = step.Link (start dir text) text

module _ (tree : FileTree) (links : ℕ) (rest : List Text) (dir : Path) (name : Text) (before : List Path) where
  abbrev At : Option Entry → Walked
  At found = entered (λ next. walk (entry_at tree) links next rest) (followed (entry_at tree) links) rest dir (name ∷ dir) found

  nowhere-at : (found : Option Entry) → found ≡ None → GoesOn before (At found) before (walk_ended Nowhere)
  nowhere-at found e = same_walk before before (At found) (walk_ended Nowhere) (ap At e) refl

  -- a name that is no node leads nowhere
  pub not_child : IsTree tree → None ≡ child_of dir name → GoesOn before (At (entry_at tree (name ∷ dir))) before (walk_ended Nowhere)
  not_child is e = nowhere-at (entry_at tree (name ∷ dir)) (no_node tree is dir name e)

  absent : (found : Option Entry) → None ≡ option_map node_of_entry found → found ≡ None
  absent None e = refl
  absent (Some entry) e = absurd (cc)

  pub no_entry : (path : Path) → Some path ≡ child_of dir name → None ≡ node_at tree path → GoesOn before (At (entry_at tree (name ∷ dir))) before (walk_ended Nowhere)
  no_entry path child e =
      let is : path ≡ name ∷ dir = child-is (is_canonical (name ∷ dir)) path (name ∷ dir) child in
      nowhere-at (entry_at tree (name ∷ dir)) (absent (entry_at tree (name ∷ dir)) (e ∙ ap (node_at tree) is))

  present : (noted : List Path) (got : Node) (found : Option Entry) → Some got ≡ option_map node_of_entry found → noted ≡ before ++ (name ∷ dir) ∷ []
      → GoesOn before (At found) noted (onward (entry_at tree) links rest (step_at dir (name ∷ dir) got))
  present noted got None e n = absurd (cc)
  present noted got (Some entry) e n =
      let is : got ≡ node_of_entry entry = cc in
      subst (λ got. GoesOn before (At (Some entry)) noted (onward (entry_at tree) links rest (step_at dir (name ∷ dir) got))) (sym is) (go entry)
    where
      go : (entry : Entry) → GoesOn before (At (Some entry)) noted (onward (entry_at tree) links rest (step_at dir (name ∷ dir) (node_of_entry entry)))
      go Dir = one_more (name ∷ dir) before noted (walk (entry_at tree) links (name ∷ dir) rest) n
      go (File body) = one_more (name ∷ dir) before noted (walk_ended (file_end (name ∷ dir) rest)) n
      go (Link text) = one_more (name ∷ dir) before noted (followed (entry_at tree) links (start dir text) (components text ++ rest)) n

  -- a node is noted, and the walk goes on from it
  pub some_entry : (noted : List Path) (got : Node) (path : Path) → Some path ≡ child_of dir name → Some got ≡ node_at tree path → noted ≡ before ++ path ∷ []
      → GoesOn before (At (entry_at tree (name ∷ dir))) noted (onward (entry_at tree) links rest (step_at dir path got))
  some_entry noted got path child e n =
      let is : path ≡ name ∷ dir = child-is (is_canonical (name ∷ dir)) path (name ∷ dir) child in
      subst (λ p. GoesOn before (At (entry_at tree (name ∷ dir))) noted (onward (entry_at tree) links rest (step_at dir p got))) (sym is)
      (present noted got (entry_at tree (name ∷ dir)) (e ∙ ap (node_at tree) is) (n ∙ ap (λ p. before ++ p ∷ []) is))

-- ONE COMPONENT

module _ (look : Look) (links : ℕ) (rest : List Text) (dir : Path) (name : Text) (before : List Path) where
  abbrev Next : Component → Walked
  Next component = taken (λ next. walk look links next rest) (followed look links) rest dir look component

  pub stays : Stay ≡ component_of name → GoesOn before (walk look links dir (name ∷ rest)) before (walk look links dir rest)
  stays e = same_walk before before _ _ (walk-cons look links dir name rest ∙ ap Next (sym e)) refl

  pub goes_up : (noted : List Path) (up : Path) → Up ≡ component_of name → up ≡ parent dir → noted ≡ before ++ up ∷ []
      → GoesOn before (walk look links dir (name ∷ rest)) noted (walk look links up rest)
  goes_up noted up e p n =
      from_walk before noted (Next Up) (walk look links dir (name ∷ rest)) (walk look links up rest) (walk-cons look links dir name rest ∙ ap Next (sym e))
      (subst (λ u. GoesOn before (Next Up) noted (walk look links u rest)) (sym p)
      (one_more (parent dir) before noted (walk look links (parent dir) rest) (n ∙ ap (λ u. before ++ u ∷ []) p)))

  pub goes_down : (noted : List Path) (left : Walked) → Down name ≡ component_of name
      → GoesOn before (entered (λ next. walk look links next rest) (followed look links) rest dir (name ∷ dir) (look (name ∷ dir))) noted left
      → GoesOn before (walk look links dir (name ∷ rest)) noted left
  goes_down noted left e h =
      from_walk before noted (Next (Down name)) (walk look links dir (name ∷ rest)) left (walk-cons look links dir name rest ∙ ap Next (sym e))
      record { end = h.end; nodes = h.nodes }

-- a step behind the walk so far
pub step_on : (look : Look) (links : ℕ) (first noted last : List Path) (whole : Walked) (dir : Path) (list : List Text) (name : Text) (rest : List Text) (taken_step : Step)
    → list ≡ name ∷ rest → GoesOn first whole noted (walk look links dir list)
    → GoesOn noted (walk look links dir (name ∷ rest)) last (onward look links rest taken_step)
    → GoesOn first whole last (onward look links rest taken_step)
step_on look links first noted last whole dir list name rest taken_step e h s =
    goes_further first noted last whole (walk look links dir (name ∷ rest)) (onward look links rest taken_step)
    (subst (λ list. GoesOn first whole noted (walk look links dir list)) e h) s

-- a walk with no component left ends at its directory
pub at_dir : (look : Look) (links : ℕ) (before noted : List Path) (whole : Walked) (last_step : Step) (path : Path) → last_step ≡ step.Dir path
    → GoesOn before whole noted (onward look links [] last_step) → GoesOn before whole noted (walk_ended (AtDir path links))
at_dir look links before noted whole last_step path e h =
    to_walk before noted whole (onward look links [] (step.Dir path)) (walk_ended (AtDir path links)) (walk-nil look links path)
    (subst (λ s. GoesOn before whole noted (onward look links [] s)) e h)

-- FILES

pub at_file : (look : Look) (links : ℕ) (before noted : List Path) (whole : Walked) (rest : List Text) (last_step result : Step) (path : Path) → last_step ≡ step.File path
    → onward look links [] result ≡ onward look links rest (step.File path)
    → GoesOn before whole noted (onward look links rest last_step) → GoesOn before whole noted (onward look links [] result)
at_file look links before noted whole rest last_step result path e r h =
    to_walk before noted whole (onward look links rest (step.File path)) (onward look links [] result) (sym r)
    (subst (λ s. GoesOn before whole noted (onward look links rest s)) e h)

pub file_left : (look : Look) (links : ℕ) (path : Path) (text : Text) → onward look links [] step.Nowhere ≡ onward look links (components text) (step.File path)
file_left look links path text = ap (λ end. walk_ended end) (go (components text) (some_component text))
  where
    go : (list : List Text) → 0 < length list → Nowhere ≡ file_end path list
    go [] h = absurd (omega arith)
    go (name ∷ rest) h = refl

-- LINKS

-- the walk from where a link's text begins
pub from_start : (look : Look) (links : ℕ) (rest : List Text) (before noted : List Path) (whole : Walked) (dir from : Path) (text : Text) → from ≡ start dir text
    → GoesOn before whole noted (onward look links rest (step.Link (start dir text) text)) → GoesOn before whole noted (onward look links rest (step.Link from text))
from_start look links rest before noted whole dir from text e h =
    subst (λ d. GoesOn before whole noted (onward look links rest (step.Link d text))) (sym e) h

pub link_less : (look : Look) (links less : ℕ) (dir : Path) (text : Text) → (links ≡ 0 → ⊥) → less ≡ links - 1
    → onward look links [] (step.Link dir text) ≡ walk look less dir (components text)
link_less look zero less dir text h e = absurd (h refl)
link_less look (suc links) less dir text h e =
    let is : links ≡ less = omega arith in
    ap (walk look links dir) (append-nil (components text)) ∙ ap (λ n. walk look n dir (components text)) is

pub no_links : (look : Look) (links : ℕ) (dir : Path) (text : Text) → links ≡ 0 → onward look links [] (step.Link dir text) ≡ walk_ended Nowhere
no_links look zero dir text e = refl
no_links look (suc links) dir text e = absurd (omega arith)

-- THE LAST COMPONENT

pub no_file : (dir : Path) (name : Text) (nodes : List Path) (end : End) → ((real : Path) → end ≡ AtFile real → ⊥) → located_at dir name nodes end ≡ None
no_file dir name nodes Nowhere h = refl
no_file dir name nodes (AtDir other links) h = refl
no_file dir name nodes (AtFile real) h = absurd (h real refl)

-- a last component that is no canonical path locates nothing
pub not_located : (tree : FileTree) → IsTree tree → (links : ℕ) (dir : Path) (name : Text) (before : List Path) → None ≡ child_of dir name
    → None ≡ located_in dir name before (walk (entry_at tree) links dir (name ∷ []))
not_located tree is links dir name before e =
    let w : Walked = walk (entry_at tree) links dir (name ∷ []) in
    sym (no_file dir name (before ++ w.nodes) w.end (λ real f.
    let there : IsSome (entry_at tree (name ∷ dir)) = walk-stood (entry_at tree) links dir name real f in
    let none : entry_at tree (name ∷ dir) ≡ None = no_node tree is dir name e in
    let clash : true ≡ false = sym there ∙ ap is_some none in
    absurd (cc)))

located-as : (dir : Path) (name : Text) (nodes noted : List Path) (end : End) (real place : Path) → end ≡ AtFile real → nodes ≡ noted → place ≡ name ∷ dir
    → ◌≡◌ {A = Option Located} (Some (record { place = place; real = real; walked = noted })) (located_at dir name nodes end)
located-as dir name nodes noted end real place e n p =
    let at : Path → List Path → Option Located = λ place walked. Some (record { place = place; real = real; walked = walked }) in
    ap (λ place. at place noted) p ∙ ap (at (name ∷ dir)) (sym n) ∙ ap (located_at dir name nodes) (sym e)

-- the nodes of a walk that goes on behind some nodes, with shared ones between
parted : (before more shared noted : List Path) → before ++ more ≡ noted
    → (before ++ shared) ++ more ≡ take (length before) noted ++ (shared ++ drop (length before) noted)
parted before more shared noted e = rw (← e, take-append_seam before more, drop-append_seam before more) (append_assoc before shared more)

pub none_behind : (before shared : List Path) → shared ≡ [] → before ++ shared ≡ before
none_behind before shared e = ap (λ shared. before ++ shared) e ∙ append-nil before

-- a last component that leads to a file locates it
pub located_file : (look : Look) (links : ℕ) (dir : Path) (name : Text) (before shared noted : List Path) (place real : Path) → Some place ≡ child_of dir name
    → GoesOn before (walk look links dir (name ∷ [])) noted (walk_ended (AtFile real))
    → ◌≡◌ {A = Option Located} (Some (record { place = place; real = real; walked = take (length before) noted ++ (shared ++ drop (length before) noted) }))
    (located_in dir name (before ++ shared) (walk look links dir (name ∷ [])))
located_file look links dir name before shared noted place real child h =
    let w : Walked = walk look links dir (name ∷ []) in
    located-as dir name ((before ++ shared) ++ w.nodes) (take (length before) noted ++ (shared ++ drop (length before) noted)) w.end real place h.end
    (parted before w.nodes shared noted (h.nodes ∙ append-nil noted)) (child-is (is_canonical (name ∷ dir)) place (name ∷ dir) child)

-- one that doesn't locates nothing
pub located_nothing : (look : Look) (links : ℕ) (dir : Path) (name : Text) (before noted : List Path) (how : Stop) → ((real : Path) → how ≡ stop.File real → ⊥)
    → GoesOn before (walk look links dir (name ∷ [])) noted (walk_ended (end_of how))
    → None ≡ located_in dir name before (walk look links dir (name ∷ []))
located_nothing look links dir name before noted how h goes =
    let w : Walked = walk look links dir (name ∷ []) in
    sym (no_file dir name (before ++ w.nodes) w.end (λ real f. no_stop how real h (sym goes.end ∙ f)))
  where
    no_stop : (how : Stop) (real : Path) → ((real : Path) → how ≡ stop.File real → ⊥) → end_of how ≡ AtFile real → ⊥
    no_stop stop.Nowhere real h e = cc
    no_stop (stop.Dir path links) real h e = cc
    no_stop (stop.File path) real h e = h path refl

-- TEXTS

-- a text that is too long or whose last component is empty locates nothing
pub refused : (look : Look) (dir : Path) (text : Text) → (4096 < length text) ⊎ (length (last_of (components text)) ≡ 0) → None ≡ located_by look dir text
unfolding located_by
refused look dir text why =
    let w : Walked = walk look 40 (start dir text) (but_last (components text)) in
    let no : can_locate text ≡ false = elim why [
      | inl long ↦ ap (λ b. b && not (nat_eq (length (last_of (components text))) 0)) (lt-leb (length text) 4096 long)
      | inr none ↦ ap (λ n. nat_le (length text) 4096 && not (nat_eq n 0)) none ∙ and_false (nat_le (length text) 4096)
    ] in
    sym (ap (λ b. cond b (last_looked_up look (last_of (components text)) (first_nodes dir text ++ w.nodes) w.end) None) no)
  where
    and_false : (b : Bool) → (b && false) ≡ false
    and_false true = refl
    and_false false = refl

passes : (text : Text) → length text ≤ 4096 → (length (last_of (components text)) ≡ 0 → ⊥) → can_locate text ≡ true
passes text short some =
    ap (λ b. b && not (nat_eq (length (last_of (components text))) 0)) (le-leb (length text) 4096 short)
    ∙ ap not (ne_eqb (length (last_of (components text))) 0 some)

-- a text that isn't refused locates what its last component does, where the walk before it ends at a directory
pub from_dir : (look : Look) (dir : Path) (text : Text) (list : List Text) (name : Text) (noted : List Path) (last : Path) (links : ℕ)
    → length text ≤ 4096 → (length (last_of (components text)) ≡ 0 → ⊥) → list ≡ but_last (components text) → name ≡ last_of (components text)
    → GoesOn (first_nodes dir text) (walk look 40 (start dir text) list) noted (walk_ended (AtDir last links))
    → located_in last name noted (walk look links last (name ∷ [])) ≡ located_by look dir text
unfolding located_by
from_dir look dir text list name noted last links short some list_is name_is goes =
    let w : Walked = walk look 40 (start dir text) (but_last (components text)) in
    let h : GoesOn (first_nodes dir text) w noted (walk_ended (AtDir last links)) =
    subst (λ list. GoesOn (first_nodes dir text) (walk look 40 (start dir text) list) noted (walk_ended (AtDir last links))) list_is goes in
    let there : Text → List Path → End → Option Located = λ name nodes end. last_looked_up look name nodes end in
    ap (λ n. located_in last n noted (walk look links last (n ∷ []))) name_is
    ∙ ap (there (last_of (components text)) noted) (sym h.end)
    ∙ ap (λ nodes. there (last_of (components text)) nodes w.end) (sym (h.nodes ∙ append-nil noted))
    ∙ ap (λ b. cond b (there (last_of (components text)) (first_nodes dir text ++ w.nodes) w.end) None) (sym (passes text short some))

-- and none, where that walk doesn't
pub from_elsewhere : (look : Look) (dir : Path) (text : Text) (list : List Text) (noted : List Path) (how : Stop)
    → list ≡ but_last (components text) → ((last : Path) (links : ℕ) → how ≡ stop.Dir last links → ⊥)
    → GoesOn (first_nodes dir text) (walk look 40 (start dir text) list) noted (walk_ended (end_of how))
    → None ≡ located_by look dir text
unfolding located_by
from_elsewhere look dir text list noted how list_is h goes =
    let w : Walked = walk look 40 (start dir text) (but_last (components text)) in
    let name : Text = last_of (components text) in
    let nodes : List Path = first_nodes dir text ++ w.nodes in
    let at : w.end ≡ end_of how = sym (ap (λ list. (walk look 40 (start dir text) list).end) list_is) ∙ goes.end in
    let none : last_looked_up look name nodes w.end ≡ None = ap (last_looked_up look name nodes) at ∙ no_dir how h nodes name in
    sym (ap (λ l. cond (can_locate text) l None) none ∙ either (can_locate text))
  where
    no_dir : (how : Stop) → ((last : Path) (links : ℕ) → how ≡ stop.Dir last links → ⊥) → (nodes : List Path) (name : Text) → last_looked_up look name nodes (end_of how) ≡ None
    no_dir stop.Nowhere h nodes name = refl
    no_dir (stop.Dir path links) h nodes name = absurd (h path links refl)
    no_dir (stop.File path) h nodes name = refl

    either : (b : Bool) → ◌≡◌ {A = Option Located} (cond b None None) None
    either true = refl
    either false = refl

-- a walk from where a text begins
pub begun : (look : Look) (dir : Path) (text : Text) (list : List Text) (nodes noted : List Path) (begin : Path) (left : Walked)
    → nodes ≡ first_nodes dir text → begin ≡ start dir text
    → GoesOn nodes (walk look 40 begin list) noted left → GoesOn (first_nodes dir text) (walk look 40 (start dir text) list) noted left
begun look dir text list nodes noted begin left n b h =
    subst (λ (at : Path). GoesOn (first_nodes dir text) (walk look 40 at list) noted left) b
    (subst (λ nodes. GoesOn nodes (walk look 40 begin list) noted left) n h)

from_root : (dir : Path) (text : Text) → is_absolute text ≡ true → start dir text ≡ []
from_root dir [] e = absurd (cc)
from_root dir (b ∷ text) e = ap (λ t. cond t [] dir) e

-- a text that begins with `/` and isn't refused locates what its last component does, behind the walk of the others from the root
pub below_whole : (look : Look) (dir : Path) (text : Text) (list : List Text) (name : Text) → length text ≤ 4096 → (length name == 0) ≡ false
    → list ≡ but_last (components text) → name ≡ last_of (components text) → is_absolute text ≡ true
    → located_below look (dir ∷ [] ∷ []) list name ≡ located_by look dir text
unfolding located_by
below_whole look dir text list name short some list_is name_is root =
    let front = but_last (components text) in
    let last : length (last_of (components text)) ≡ 0 → ⊥ = λ none. eqb-false (length name) 0 some (ap length name_is ∙ none) in
    let form : Path → Bool → Option Located =
    λ at first. last_looked_up look (last_of (components text)) ((dir ∷ root_if first) ++ (walk look 40 at front).nodes) (walk look 40 at front).end in
    ap (λ list. located_below look (dir ∷ [] ∷ []) list name) list_is ∙ ap (located_below look (dir ∷ [] ∷ []) front) name_is
    ∙ ap (form []) (sym root) ∙ ap (λ at. form at (is_absolute text)) (sym (from_root dir text root))
    ∙ ap (λ b. cond b (form (start dir text) (is_absolute text)) None) (sym (passes text short last))
