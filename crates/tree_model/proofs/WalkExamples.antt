-- The definition of walks on a small tree, row by row.
use Rattle.std.proofs.Common.{◌≡◌, ℕ, zero, suc, ◌+◌, cond, replicate, bytes_eq, List, [], ◌∷◌, refl, Option, Some, None}
use Rattle.std.specs.Prelude.{codes}
use Rattle.tree_model.specs.Paths.{Text, Path, spelled, names_of}
use Rattle.std.specs.FinMap.{find}
use Rattle.std.specs.Cmp.Lexicographic.{slice_cmp}
use Rattle.std.specs.Ordering.{nat_cmp}
use Rattle.tree_model.specs.declared.entry.Entry.{Entry}
use Rattle.tree_model.specs.declared.entry.Entry.TheVariants.{Dir, File, Link}
use Rattle.tree_model.specs.declared.walk.Located.{Located}
use Rattle.tree_model.specs.Walk.{Look, located_by, walk, walk_with}

entries : List (Path × Entry)
entries = ([], Dir) ∷ (names_of (codes "/w"), Dir) ∷ (names_of (codes "/w/a.c"), File []) ∷ (names_of (codes "/w/d"), Dir) ∷ (names_of (codes "/w/d/h"), File [])
    ∷ (names_of (codes "/w/l"), Link (codes "l")) ∷ (names_of (codes "/w/m"), Link (codes "d")) ∷ (names_of (codes "/w/n"), Link (codes "/w/m/h")) ∷ (names_of (codes "/w/s"), Link (codes "d/")) ∷ []

look : Look
look path = find (slice_cmp (slice_cmp nat_cmp)) path entries

-- the place, the real path and the nodes walked
spellings : List Path → List Text
spellings [] = []
spellings (path ∷ paths) = spelled path ∷ spellings paths

shown : Option Located → List Text
shown None = []
shown (Some l) = spelled l.place ∷ spelled l.real ∷ spellings l.walked

at : Text → Text → List Text
unfolding look entries located_by walk walk_with shown spellings
at dir text = shown (located_by look (names_of dir) text)

plain : at (codes "/w") (codes "a.c") ≡ codes "/w/a.c" ∷ codes "/w/a.c" ∷ codes "/w" ∷ codes "/w/a.c" ∷ []
unfolding at
plain = refl

absolute : at (codes "/w") (codes "/w/a.c") ≡ codes "/w/a.c" ∷ codes "/w/a.c" ∷ codes "/w" ∷ codes "/" ∷ codes "/w" ∷ codes "/w/a.c" ∷ []
unfolding at
absolute = refl

up : at (codes "/w/d") (codes ".././/d/../a.c") ≡ codes "/w/a.c" ∷ codes "/w/a.c" ∷ codes "/w/d" ∷ codes "/w" ∷ codes "/w/d" ∷ codes "/w" ∷ codes "/w/a.c" ∷ []
unfolding at
up = refl

-- the parent of the root is the root
above_root : at (codes "/") (codes "../../w/a.c") ≡ codes "/w/a.c" ∷ codes "/w/a.c" ∷ codes "/" ∷ codes "/" ∷ codes "/" ∷ codes "/w" ∷ codes "/w/a.c" ∷ []
unfolding at
above_root = refl

link : at (codes "/") (codes "w/m/h") ≡ codes "/w/d/h" ∷ codes "/w/d/h" ∷ codes "/" ∷ codes "/w" ∷ codes "/w/m" ∷ codes "/w/d" ∷ codes "/w/d/h" ∷ []
unfolding at
link = refl

link_last : at (codes "/w/d") (codes "/w/n") ≡ codes "/w/n" ∷ codes "/w/d/h" ∷ codes "/w/d" ∷ codes "/" ∷ codes "/w" ∷ codes "/w/n" ∷ codes "/w" ∷ codes "/w/m" ∷ codes "/w/d" ∷ codes "/w/d/h" ∷ []
unfolding at
link_last = refl

through_link_up : at (codes "/w") (codes "m/../a.c") ≡ codes "/w/a.c" ∷ codes "/w/a.c" ∷ codes "/w" ∷ codes "/w/m" ∷ codes "/w/d" ∷ codes "/w" ∷ codes "/w/a.c" ∷ []
unfolding at
through_link_up = refl

link_with_slash : at (codes "/w") (codes "s/h") ≡ codes "/w/d/h" ∷ codes "/w/d/h" ∷ codes "/w" ∷ codes "/w/s" ∷ codes "/w/d" ∷ codes "/w/d/h" ∷ []
unfolding at
link_with_slash = refl

loop : at (codes "/w") (codes "l") ≡ []
unfolding at
loop = refl

-- a component after a File fails
after_file : at (codes "/w") (codes "a.c/.") ≡ []
unfolding at
after_file = refl

ends_with_slash : at (codes "/w") (codes "a.c/") ≡ []
unfolding at
ends_with_slash = refl

dir_alone : at (codes "/w") (codes "d") ≡ []
unfolding at
dir_alone = refl

absent : at (codes "/w") (codes "b.c") ≡ []
unfolding at
absent = refl

empty : at (codes "/w") (codes "") ≡ []
unfolding at
empty = refl

-- a chain of links to the file `a`: `aa` to it, `aaa` to `aa`, and on
chain : ℕ → List (Path × Entry)
chain zero = (replicate 1 97 ∷ [], File []) ∷ []
chain (suc links) = (replicate (links + 2) 97 ∷ [], Link (replicate (links + 1) 97)) ∷ chain links

chain_look : Look
chain_look path = at_first (chain 41)
  where
    at_first : List (Path × Entry) → Option Entry
    at_first [] = None
    at_first (e ∷ es) = cond (bytes_eq (spelled e.0) (spelled path)) (Some e.1) (at_first es)

real_of : Option Located → Option Path
real_of None = None
real_of (Some l) = Some l.real

-- 40 links are walked, and the 41st ends a walk
forty : real_of (located_by chain_look [] (replicate 41 97)) ≡ Some ((97 ∷ []) ∷ [])
unfolding located_by walk walk_with chain chain_look real_of
forty = refl

forty_one : real_of (located_by chain_look [] (replicate 42 97)) ≡ None
unfolding located_by walk walk_with chain chain_look real_of
forty_one = refl
