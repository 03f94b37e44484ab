-- What stands before the last `/` of a link's text may be walked from the root, where that follows no link.
use Rattle.std.proofs.Common.{◌≡◌, ℕ, zero, suc, ◌≤◌, ◌<◌, List, [], ◌∷◌, ◌++◌, length, drop, reverse, refl, sym, ◌∙◌, ap, subst, Option, Some, None, ◌==◌, arith, append_assoc, length-append}
use Rattle.std.proofs.lemmas.List.{append-nil, length-reverse}
use Rattle.std.specs.List.{count_by}
use Rattle.base_types.specs.Ascii.{slash}
use Rattle.std.proofs.lemmas.List.Splits.{length-slice_split}
use Rattle.std.specs.List.{AllByRecursion}
use Rattle.std.proofs.Math.Seq.{drop-append_seam}
use Rattle.tree_model.specs.Paths.{Text, Path, IsName, parent, spelled_below}
use Rattle.tree_model.specs.Walk.{Look, components, but_last, last_of, Component, Stay, Up, Down, component_of, start, End, AtDir, Walked, through, walk_ended, file_end, entered, taken, walk}
use Rattle.tree_model.specs.declared.entry.Entry.{Entry}
use Rattle.tree_model.specs.declared.entry.Entry.TheVariants.{Dir, File, Link}
use Rattle.tree_model.specs.parts.Steps.{GoesOn, followed}
use Rattle.tree_model.proofs.StepLemmas.{walk-cons, walk-nil}
use Rattle.tree_model.proofs.WalkLemmas.{LeftAtMost, walk-left}
use Rattle.tree_model.proofs.Below.{taken_as}
use Rattle.tree_model.proofs.Further.{Further, walk-further}
use Rattle.tree_model.proofs.CutLemmas.{joined_as}
use Rattle.tree_model.proofs.PathLemmas.{reverse-first, parts-below}

-- A WALK THAT FOLLOWED NO LINK

-- behind a link there are fewer
fewer : (look : Look) (links : ℕ) (dir end : Path) (list : List Text) → (followed look links dir list).end ≡ AtDir end links → ⊥
fewer look zero dir end list e = absurd (cc)
fewer look (suc links) dir end list e =
    let left : suc links ≤ links = subst (LeftAtMost links) e (walk-left look links dir list) in
    absurd (omega (arith, left))

file_no_dir : (path end : Path) (links : ℕ) (rest : List Text) → file_end path rest ≡ AtDir end links → ⊥
file_no_dir path end links [] e = absurd (cc)
file_no_dir path end links (name ∷ rest) e = absurd (cc)

module _ (look : Look) (links other : ℕ) (end : Path) where
  -- the second walk ends where the first does, by the same nodes, if that has all its links left
  abbrev Alike : Walked → Walked → Type 0
  Alike one two = one.end ≡ AtDir end links → (two.end ≡ AtDir end other) × (two.nodes ≡ one.nodes)

  alike_through : (path : Path) (one two : Walked) → Alike one two → Alike (through path one) (through path two)
  alike_through path one two same e = let is = same e in (is.0, ap (λ (nodes : List Path). path ∷ nodes) is.1)

  module _ (next more : Path → Walked) (same : (dir : Path) → Alike (next dir) (more dir)) (rest : List Text) where
    alike_entered : (dir path : Path) (found : Option Entry) → Alike (entered next (followed look links) rest dir path found) (entered more (followed look other) rest dir path found)
    alike_entered dir path None e = absurd (cc)
    alike_entered dir path (Some Dir) e = alike_through path (next path) (more path) (same path) e
    alike_entered dir path (Some (File body)) e = absurd (file_no_dir path end links rest e)
    alike_entered dir path (Some (Link text)) e = absurd (fewer look links (start dir text) end _ e)

    alike_taken : (dir : Path) (component : Component) → Alike (taken next (followed look links) rest dir look component) (taken more (followed look other) rest dir look component)
    alike_taken dir Stay e = same dir e
    alike_taken dir Up e = alike_through (parent dir) (next (parent dir)) (more (parent dir)) (same (parent dir)) e
    alike_taken dir (Down name) e = alike_entered dir (name ∷ dir) (look (name ∷ dir)) e

  -- with another number of links the walk goes the same way
  alike_walks : (dir : Path) (list : List Text) → Alike (walk look links dir list) (walk look other dir list)
  alike_walks dir [] e =
      let here : AtDir dir links ≡ AtDir end links = sym (ap (λ (w : Walked). w.end) (walk-nil look links dir)) ∙ e in
      let same : dir ≡ end = cc in (
        ap (λ (w : Walked). w.end) (walk-nil look other dir) ∙ ap (λ (d : Path). AtDir d other) same,
        ap (λ (w : Walked). w.nodes) (walk-nil look other dir) ∙ sym (ap (λ (w : Walked). w.nodes) (walk-nil look links dir)),
      )
  alike_walks dir (name ∷ list) e =
      let one = walk-cons look links dir name list in
      let two = walk-cons look other dir name list in
      let same =
      alike_taken (λ at. walk look links at list) (λ at. walk look other at list) (λ at. alike_walks at list) list dir (component_of name)
      (sym (ap (λ (w : Walked). w.end) one) ∙ e) in (
        ap (λ (w : Walked). w.end) two ∙ same.0,
        ap (λ (w : Walked). w.nodes) two ∙ same.1 ∙ sym (ap (λ (w : Walked). w.nodes) one),
      )

-- A WALK FROM THE ROOT THROUGH A DIRECTORY

module _ (look : Look) (links : ℕ) (end : Path) where
  -- the walk goes on from a directory, behind as many nodes as its path has names
  record Passes (dir : Path) (rest : List Text) (whole : Walked) : Type 0 where
    chain : List Path
    size : length chain ≡ length dir
    ends : (walk look links dir rest).end ≡ AtDir end links
    nodes : whole.nodes ≡ chain ++ (walk look links dir rest).nodes

  -- a name on the way is a directory's
  goes_down : (name : Text) (dir : Path) (rest : List Text) (found : Option Entry)
      → (entered (λ next. walk look links next rest) (followed look links) rest dir (name ∷ dir) found).end ≡ AtDir end links
      → ((walk look links (name ∷ dir) rest).end ≡ AtDir end links)
      × ((entered (λ next. walk look links next rest) (followed look links) rest dir (name ∷ dir) found).nodes ≡ (name ∷ dir) ∷ (walk look links (name ∷ dir) rest).nodes)
  goes_down name dir rest None e = absurd (cc)
  goes_down name dir rest (Some Dir) e = (e, refl)
  goes_down name dir rest (Some (File body)) e = absurd (file_no_dir (name ∷ dir) end links rest e)
  goes_down name dir rest (Some (Link text)) e = absurd (fewer look links (start dir text) end _ e)

  passes : (dir : Path) → AllByRecursion IsName dir → (rest : List Text) → (walk look links [] (reverse dir ++ rest)).end ≡ AtDir end links → Passes dir rest (walk look links [] (reverse dir ++ rest))
  passes [] names rest e = record { chain = []; size = refl; ends = e; nodes = refl }
  passes (name ∷ dir) names rest e =
      let longer : reverse (name ∷ dir) ++ rest ≡ reverse dir ++ name ∷ rest = ap (λ (l : List Text). l ++ rest) (reverse-first name dir) ∙ append_assoc (reverse dir) (name ∷ []) rest in
      let before = passes dir names.1 (name ∷ rest) (subst (λ (l : List Text). (walk look links [] l).end ≡ AtDir end links) longer e) in
      let step = taken_as look links dir name names.0 rest (look (name ∷ dir)) refl in
      let down = goes_down name dir rest (look (name ∷ dir)) (sym (ap (λ (w : Walked). w.end) step) ∙ before.ends) in
      record {
        chain = before.chain ++ (name ∷ dir) ∷ [];
        size = length-append before.chain ((name ∷ dir) ∷ []) ∙ omega (arith, before.size);
        ends = down.0;
        nodes = ap (λ (l : List Text). (walk look links [] l).nodes) longer ∙ before.nodes
            ∙ ap (λ (nodes : List Path). before.chain ++ nodes) (ap (λ (w : Walked). w.nodes) step ∙ down.1)
            ∙ sym (append_assoc before.chain ((name ∷ dir) ∷ []) (walk look links (name ∷ dir) rest).nodes);
      }

-- BEHIND A LINK

stays_at : (look : Look) (links : ℕ) (dir : Path) (rest : List Text) → walk look links dir ([] ∷ rest) ≡ walk look links dir rest
stays_at look links dir rest = walk-cons look links dir [] rest

-- the walk of a link's text goes on from the directory that its front leads to
pub behind_front : (look : Look) (links : ℕ) (from last : Path) (front head list : List Text) (name : Text) (nodes before noted : List Path) → AllByRecursion IsName from
    → front ≡ [] ∷ (reverse from ++ head) → list ≡ head ++ name ∷ [] → GoesOn [] (walk look 40 [] front) nodes (walk_ended (AtDir last 40))
    → noted ≡ before ++ drop (length from) nodes → GoesOn before (walk look links from list) noted (walk look links last (name ∷ []))
behind_front look links from last front head list name nodes before noted names front_is list_is goes noted_is =
    let same : walk look 40 [] front ≡ walk look 40 [] (reverse from ++ head) = ap (walk look 40 []) front_is ∙ stays_at look 40 [] (reverse from ++ head) in
    let ends : (walk look 40 [] (reverse from ++ head)).end ≡ AtDir last 40 = sym (ap (λ (w : Walked). w.end) same) ∙ goes.end in
    let passed = passes look 40 last from names head ends in
    let alike = alike_walks look 40 links last from head passed.ends in
    let part : Walked = walk look links from head in
    let all : nodes ≡ passed.chain ++ (walk look 40 from head).nodes =
    sym (append-nil nodes) ∙ sym goes.nodes ∙ ap (λ (w : Walked). w.nodes) same ∙ passed.nodes in
    let behind : drop (length from) nodes ≡ part.nodes =
    (λ i. drop (sym passed.size i) (all i)) ∙ drop-append_seam passed.chain (walk look 40 from head).nodes ∙ sym alike.1 in
    let further = subst (λ (end : End). Further look name part.nodes end (walk look links from (head ++ name ∷ []))) alike.0 (walk-further look name links from head) in
    let whole = ap (walk look links from) list_is in
    record {
      end = ap (λ (w : Walked). w.end) whole ∙ further.0;
      nodes = ap (λ (w : Walked). before ++ w.nodes) whole
          ∙ ap (λ (l : List Path). before ++ l) further.1
          ∙ sym (append_assoc before part.nodes (walk look links last (name ∷ [])).nodes)
          ∙ ap (λ (l : List Path). l ++ (walk look links last (name ∷ [])).nodes) (ap (λ (l : List Path). before ++ l) (sym behind) ∙ sym noted_is);
    }

-- A TEXT FROM THE ROOT

-- the last component behind the others
pub last_split : (list : List Text) → 0 < length list → list ≡ but_last list ++ last_of list ∷ []
last_split [] some = absurd (omega (arith, some))
last_split (x ∷ []) some = refl
last_split (x ∷ y ∷ rest) some = ap (λ (l : List Text). x ∷ l) (last_split (y ∷ rest) (omega arith))

pub from_root : (dir : Path) (text whole : Text) → AllByRecursion IsName dir → whole ≡ spelled_below dir ++ slash ∷ text → components whole ≡ [] ∷ (reverse dir ++ components text)
from_root dir text whole names is =
    joined_as (spelled_below dir) text (spelled_below dir ++ slash ∷ []) whole refl (is ∙ sym (append_assoc (spelled_below dir) (slash ∷ []) text))
    ∙ ap (λ (l : List Text). l ++ components text) (parts-below dir names)

-- a spelling has as many slashes as names
pub slashes : (path : Path) → AllByRecursion IsName path → count_by (λ b. b == slash) (spelled_below path) ≡ length path
slashes path names = omega (arith, length-slice_split (λ b. b == slash) (spelled_below path), ap length (parts-below path names), length-reverse path)
