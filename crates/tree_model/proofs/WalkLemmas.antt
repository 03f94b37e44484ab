-- Facts of walks: the File reached was walked, links only get fewer, and more links do no harm.
use Rattle.std.proofs.Common.{◌≡◌, ℕ, zero, suc, ◌+◌, ◌≤◌, List, [], ◌∷◌, ◌++◌, refl, subst, inl, inr, Option, Some, None, arith}
use Rattle.base_types.specs.Members.{Member}
use Rattle.tree_model.specs.Paths.{Text, Path, parent}
use Rattle.tree_model.specs.declared.entry.Entry.{Entry}
use Rattle.tree_model.specs.declared.entry.Entry.TheVariants.{Dir, File, Link}
use Rattle.tree_model.specs.Walk.{components, Component, Stay, Up, Down, component_of, start, End, Nowhere, AtDir, AtFile, Walked, through, looking, walk_ended, file_end, entered, taken, walk_with, walk, Look}

-- what holds of every walk with at most `most` links
module _ (tree : Look) (most : ℕ) (P : Walked → Type 0) (nowhere : P (walk_ended Nowhere))
    (passed : (path : Path) (walked : Walked) → P walked → P (through path walked))
    (sought : (path : Path) (walked : Walked) → P walked → P (looking path walked))
    (at_dir : (dir : Path) (links : ℕ) → links ≤ most → P (walk_ended (AtDir dir links)))
    (at_file : (path : Path) (rest : List Text) → P (through path (walk_ended (file_end path rest)))) where
  entered-P : (next : Path → Walked) (follow : Path → List Text → Walked) → ((dir : Path) → P (next dir))
      → ((dir : Path) (rest : List Text) → P (follow dir rest))
      → (rest : List Text) (dir path : Path) (node : Option Entry) → P (entered next follow rest dir path node)
  entered-P next follow n f rest dir path None = nowhere
  entered-P next follow n f rest dir path (Some Dir) = passed path _ (n path)
  entered-P next follow n f rest dir path (Some (File body)) = at_file path rest
  entered-P next follow n f rest dir path (Some (Link text)) = passed path _ (f (start dir text) (components text ++ rest))

  taken-P : (next : Path → Walked) (follow : Path → List Text → Walked) → ((dir : Path) → P (next dir))
      → ((dir : Path) (rest : List Text) → P (follow dir rest))
      → (rest : List Text) (dir : Path) (component : Component) → P (taken next follow rest dir tree component)
  taken-P next follow n f rest dir Stay = n dir
  taken-P next follow n f rest dir Up = passed (parent dir) _ (n (parent dir))
  taken-P next follow n f rest dir (Down name) = sought (name ∷ dir) _ (entered-P next follow n f rest dir (name ∷ dir) (tree (name ∷ dir)))

  walk_with-P : (links : ℕ) (follow : Path → List Text → Walked) → links ≤ most → ((dir : Path) (rest : List Text) → P (follow dir rest))
      → (dir : Path) (list : List Text) → P (walk_with tree links follow dir list)
  unfolding walk_with
  walk_with-P links follow le f dir [] = at_dir dir links le
  walk_with-P links follow le f dir (component ∷ rest) =
      taken-P _ follow (λ next. walk_with-P links follow le f next rest) f rest dir (component_of component)

  pub walk-P : (links : ℕ) → links ≤ most → (dir : Path) (list : List Text) → P (walk tree links dir list)
  unfolding walk
  walk-P zero le dir list = walk_with-P zero _ le (λ d rest. nowhere) dir list
  walk-P (suc links) le dir list = walk_with-P (suc links) _ le (walk-P links (omega arith)) dir list

-- the File at the end is among the nodes walked
abbrev FileWalked : Walked → Type 0
FileWalked walked = (path : Path) → walked.end ≡ AtFile path → Member path walked.nodes

pub walk-file_walked : (tree : Look) (links : ℕ) (dir : Path) (list : List Text) (path : Path)
    → (walk tree links dir list).end ≡ AtFile path → Member path (walk tree links dir list).nodes
walk-file_walked tree links dir list =
    walk-P tree links FileWalked (λ p e. absurd (cc)) (λ p w h q e. inr (h q e)) (λ p w h. h) (λ d l le p e. absurd (cc)) at_file links (omega arith) dir list
  where
    at_file : (path : Path) (rest : List Text) → FileWalked (through path (walk_ended (file_end path rest)))
    at_file path [] q e = let is : path ≡ q = cc in inl is
    at_file path (component ∷ rest) q e = absurd (cc)

abbrev pub LeftAtMost : ℕ → End → Type 0
LeftAtMost most Nowhere = Unit {0}
LeftAtMost most (AtDir path links) = links ≤ most
LeftAtMost most (AtFile path) = Unit {0}

pub walk-left : (tree : Look) (links : ℕ) (dir : Path) (list : List Text) → LeftAtMost links (walk tree links dir list).end
walk-left tree links dir list =
    walk-P tree links (λ w. LeftAtMost links w.end) tt (λ p w h. h) (λ p w h. h) (λ d l le. le) at_file links (omega arith) dir list
  where
    at_file : (path : Path) (rest : List Text) → LeftAtMost links (file_end path rest)
    at_file path [] = tt
    at_file path (component ∷ rest) = tt

-- the second end is the first, perhaps with more links left, where the first is an end with success
abbrev NoWorse : End → End → Type 0
NoWorse Nowhere end = Unit {0}
NoWorse (AtDir path links) end = (left : ℕ) × (end ≡ AtDir path left)
NoWorse (AtFile path) end = end ≡ AtFile path

no_worse_end : (path : Path) (rest : List Text) → NoWorse (file_end path rest) (file_end path rest)
no_worse_end path [] = refl
no_worse_end path (component ∷ rest) = tt

module _ (tree : Look) (next more : Path → Walked) (follow follow-more : Path → List Text → Walked)
    (n : (dir : Path) → NoWorse (next dir).end (more dir).end)
    (f : (dir : Path) (rest : List Text) → NoWorse (follow dir rest).end (follow-more dir rest).end) where
  entered-no_worse : (rest : List Text) (dir path : Path) (node : Option Entry)
      → NoWorse (entered next follow rest dir path node).end (entered more follow-more rest dir path node).end
  entered-no_worse rest dir path None = tt
  entered-no_worse rest dir path (Some Dir) = n path
  entered-no_worse rest dir path (Some (File body)) = no_worse_end path rest
  entered-no_worse rest dir path (Some (Link text)) = f (start dir text) (components text ++ rest)

  taken-no_worse : (rest : List Text) (dir : Path) (component : Component)
      → NoWorse (taken next follow rest dir tree component).end (taken more follow-more rest dir tree component).end
  taken-no_worse rest dir Stay = n dir
  taken-no_worse rest dir Up = n (parent dir)
  taken-no_worse rest dir (Down name) = entered-no_worse rest dir (name ∷ dir) (tree (name ∷ dir))

walk_with-no_worse : (tree : Look) (links more : ℕ) (follow follow-more : Path → List Text → Walked)
    → ((dir : Path) (rest : List Text) → NoWorse (follow dir rest).end (follow-more dir rest).end)
    → (dir : Path) (list : List Text) → NoWorse (walk_with tree links follow dir list).end (walk_with tree more follow-more dir list).end
unfolding walk_with
walk_with-no_worse tree links more follow follow-more f dir [] = (more, refl)
walk_with-no_worse tree links more follow follow-more f dir (component ∷ rest) =
    taken-no_worse tree (λ next. walk_with tree links follow next rest) (λ next. walk_with tree more follow-more next rest) follow follow-more (λ next. walk_with-no_worse tree links more follow follow-more f next rest) f rest dir (component_of component)

walk-no_worse : (tree : Look) (links : ℕ) (dir : Path) (list : List Text) → NoWorse (walk tree links dir list).end (walk tree (suc links) dir list).end
unfolding walk
walk-no_worse tree zero dir list = walk_with-no_worse tree zero 1 _ _ (λ d rest. tt) dir list
walk-no_worse tree (suc links) dir list = walk_with-no_worse tree (suc links) (suc (suc links)) _ _ (walk-no_worse tree links) dir list

-- a walk to a File with some links left is one with more
pub walk-more : (tree : Look) (dir : Path) (list : List Text) (path : Path) (extra links : ℕ)
    → (walk tree links dir list).end ≡ AtFile path → (walk tree (extra + links) dir list).end ≡ AtFile path
walk-more tree dir list path zero links e = subst (λ n. (walk tree n dir list).end ≡ AtFile path) (omega arith) e
walk-more tree dir list path (suc extra) links e =
    let before : (walk tree (extra + links) dir list).end ≡ AtFile path = walk-more tree dir list path extra links e in
    let after : NoWorse (AtFile path) (walk tree (suc (extra + links)) dir list).end =
    subst (λ end. NoWorse end (walk tree (suc (extra + links)) dir list).end) before (walk-no_worse tree (extra + links) dir list) in
    let same : suc (extra + links) ≡ suc extra + links = omega arith in
    subst (λ n. (walk tree n dir list).end ≡ AtFile path) same after
