-- How the pieces of a file nest: the grammar of preprocessing-file (ISO C 6.10 paragraph 1).
use Rattle.std.specs.Prelude.{◌≡◌, Bool, true, false, List, [], ◌∷◌, ◌++◌, if◌then◌else◌, Option, Some, None, ◌⊎◌}
use Rattle.std.proofs.Common.{inl, inr}
use Rattle.directive_scan.specs.declared.directive.Directive.{Directive}
use Rattle.directive_scan.specs.declared.directive.Directive.TheVariants as directive
use Rattle.directive_scan.specs.declared.directive.Piece.{Piece}
use Rattle.directive_scan.specs.declared.directive.Piece.TheVariants.{Run, Line}
use Rattle.directive_scan.specs.declared.conditional.BranchName.{BranchName}
use Rattle.directive_scan.specs.declared.conditional.BranchName.TheVariants as name
use Rattle.directive_scan.specs.declared.conditional.Malformed.{Malformed}
use Rattle.directive_scan.specs.declared.conditional.Malformed.TheVariants.{WithoutIf, AfterElse, Unended}

-- what a piece is to the nesting: a piece by itself, the opening of a conditional, or a line that goes on or ends one
pub data Role : Type 0 where
  single : Role
  opening : Role
  elif_line : Role
  else_line : Role
  endif_line : Role

-- what a directive is to the nesting (6.10.1)
abbrev pub directive_role : Directive → Role
directive_role (directive.If ts) = opening
directive_role (directive.Ifdef ts) = opening
directive_role (directive.Ifndef ts) = opening
directive_role (directive.Elif ts) = elif_line
directive_role directive.Else = else_line
directive_role directive.Endif = endif_line
directive_role _ = single

-- the roles of the pieces of ISO C
abbrev pub role_of : Piece → Role
role_of (Run tokens) = single
role_of (Line at what) = directive_role what

-- A group is what stands between two lines of one conditional, or a whole file: single pieces and conditionals
-- one after another. A conditional is its opening line with a group, and its branches.
mutual
  pub data Group : Type 0 where
    nothing : Group
    one : Piece → Group → Group
    conditional : Piece → Group → Branches → Group → Group

  -- further branches, each with its line and its group, and at last the line of the endif
  pub data Branches : Type 0 where
    ended : Piece → Branches
    branch : Piece → Group → Branches → Branches

-- the pieces of a group, in order
unfoldable mutual
  pub group_pieces : Group → List Piece
  group_pieces nothing = []
  group_pieces (one p g) = p ∷ group_pieces g
  group_pieces (conditional p g bs after) = p ∷ (group_pieces g ++ (branches_pieces bs ++ group_pieces after))

  pub branches_pieces : Branches → List Piece
  branches_pieces (ended p) = p ∷ []
  branches_pieces (branch p g bs) = p ∷ (group_pieces g ++ branches_pieces bs)

-- A front of a file: whole groups only, or a group, a conditional that is still open there, with its
-- opening line, the groups that it has ended with the lines that ended them, and what stands in its last group.
pub data Front : Type 0 where
  outside : Group → Front
  inside : Group → Piece → List (Group × Piece) → Front → Front

abbrev pub past_pieces : List (Group × Piece) → List Piece
past_pieces [] = []
past_pieces (p ∷ ps) = group_pieces p.0 ++ (p.1 ∷ past_pieces ps)

unfoldable pub front_pieces : Front → List Piece
front_pieces (outside g) = group_pieces g
front_pieces (inside g p past f) = group_pieces g ++ (p ∷ (past_pieces past ++ front_pieces f))

-- a file's groups, or the line at which it is malformed: one outside any conditional (`#NAME without #if`),
-- one after its else (`#NAME after #else`), or the opening of the last conditional that isn't ended
pub data Outline : Type 0 where
  whole : Group → Outline
  stray : Piece → Outline
  after_else : Piece → Outline
  unended : Piece → Outline

-- two groups, one behind the other
abbrev pub joined_groups : Group → Group → Group
joined_groups nothing h = h
joined_groups (one p g) h = one p (joined_groups g h)
joined_groups (conditional p g bs after) h = conditional p g bs (joined_groups after h)

-- a branch, by its line, then the groups ended so far, the last group, and what follows that
abbrev pub closed_branches : Piece → List (Group × Piece) → Group → Branches → Branches
closed_branches header [] g bs = branch header g bs
closed_branches header (p ∷ ps) g bs = branch header p.0 (closed_branches p.1 ps g bs)

-- a conditional, by its opening line, the groups ended so far, the last group, and what follows that
abbrev pub closed : Piece → List (Group × Piece) → Group → Branches → Group
closed p [] g bs = conditional p g bs nothing
closed p (q ∷ qs) g bs = conditional p q.0 (closed_branches q.1 qs g bs) nothing

module _ (role : Piece → Role) where
  -- WELL FORMED

  -- The pieces stand where their roles allow it, and a branch that is not the last is no else: after an else
  -- there is the endif alone.
  unfoldable mutual
    pub IsGroup : Group → Type 0
    IsGroup nothing = Unit {0}
    IsGroup (one p g) = (role p ≡ single) × IsGroup g
    IsGroup (conditional p g bs after) = (role p ≡ opening) × IsGroup g × IsBranches false bs × IsGroup after

    pub IsBranches : Bool → Branches → Type 0
    IsBranches is_after_else (ended p) = role p ≡ endif_line
    IsBranches is_after_else (branch p g bs) =
        (is_after_else ≡ false) × (((role p ≡ elif_line) × IsBranches false bs) ⊎ ((role p ≡ else_line) × IsBranches true bs)) × IsGroup g

  -- the lines between a conditional's groups are elif lines, of which the last may be an else instead
  abbrev pub IsPast : List (Group × Piece) → Type 0
  IsPast [] = Unit {0}
  IsPast (p ∷ []) = IsGroup p.0 × ((role p.1 ≡ elif_line) ⊎ (role p.1 ≡ else_line))
  IsPast (p ∷ q ∷ ps) = IsGroup p.0 × (role p.1 ≡ elif_line) × IsPast (q ∷ ps)

  unfoldable pub IsFront : Front → Type 0
  IsFront (outside g) = IsGroup g
  IsFront (inside g p past f) = IsGroup g × (role p ≡ opening) × IsPast past × IsFront f

  abbrev pub last_is_else : List (Group × Piece) → Bool
  last_is_else [] = false
  last_is_else (p ∷ []) = elim (role p.1) [ else_line ↦ true | _ ↦ false ]
  last_is_else (p ∷ q ∷ ps) = last_is_else (q ∷ ps)

  -- the opening line of the conditional opened last that is still open, and whether its else was there
  unfoldable pub innermost : Front → Option (Piece × Bool)
  innermost (outside g) = None
  innermost (inside g p past f) = elim (innermost f) [ Some x ↦ Some x | None ↦ Some (p, last_is_else past) ]

  -- WHAT A FILE IS

  abbrev pub BelongsInside : Piece → Type 0
  BelongsInside p = (role p ≡ elif_line) ⊎ ((role p ≡ else_line) ⊎ (role p ≡ endif_line))

  -- the outline of a list of pieces (6.10 paragraph 1; 6.10.1)
  abbrev pub HasOutline : List Piece → Outline → Type 0
  HasOutline pieces (whole g) = IsGroup g × (group_pieces g ≡ pieces)
  HasOutline pieces (stray p) =
      (g : Group) × (after : List Piece) × IsGroup g × (pieces ≡ group_pieces g ++ (p ∷ after)) × BelongsInside p
  HasOutline pieces (after_else p) =
      (f : Front) × (after : List Piece) × IsFront f × (pieces ≡ front_pieces f ++ (p ∷ after))
      × ((o : Piece) × (innermost f ≡ Some (o, true))) × ((role p ≡ elif_line) ⊎ (role p ≡ else_line))
  HasOutline pieces (unended p) =
      (f : Front) × IsFront f × (front_pieces f ≡ pieces) × ((b : Bool) × (innermost f ≡ Some (p, b)))

  -- THE FUNCTION

  -- a piece more in the last group of the conditional opened last, or what is wrong with that piece
  abbrev pub inner_piece : Group → Piece → List (Group × Piece) → Group → Piece → Role → Outline ⊎ Front
  inner_piece before o past g p single = inr (inside before o past (outside (joined_groups g (one p nothing))))
  inner_piece before o past g p opening = inr (inside before o past (inside g p [] (outside nothing)))
  inner_piece before o past g p elif_line = if last_is_else past then inl (after_else p) else inr (inside before o (past ++ (g, p) ∷ []) (outside nothing))
  inner_piece before o past g p else_line = if last_is_else past then inl (after_else p) else inr (inside before o (past ++ (g, p) ∷ []) (outside nothing))
  inner_piece before o past g p endif_line = inr (outside (joined_groups before (closed o past g (ended p))))

  -- a piece more outside any conditional, or what is wrong with it
  abbrev pub outer_piece : Group → Piece → Role → Outline ⊎ Front
  outer_piece g p single = inr (outside (joined_groups g (one p nothing)))
  outer_piece g p opening = inr (inside g p [] (outside nothing))
  outer_piece g p elif_line = inl (stray p)
  outer_piece g p else_line = inl (stray p)
  outer_piece g p endif_line = inl (stray p)

  -- a front with one more piece, or what is wrong with that piece
  unfoldable pub next_piece : Front → Piece → Outline ⊎ Front
  next_piece (outside g) p = outer_piece g p (role p)
  next_piece (inside g o past (outside h)) p = inner_piece g o past h p (role p)
  next_piece (inside g o past (inside h q qs f)) p =
      elim (next_piece (inside h q qs f) p) [ inl e ↦ inl e | inr f' ↦ inr (inside g o past f') ]

  unfoldable pub outline_from : Front → List Piece → Outline
  outline_from f (p ∷ ps) = elim (next_piece f p) [ inl e ↦ e | inr f' ↦ outline_from f' ps ]
  outline_from (outside g) [] = whole g
  outline_from (inside g o past f) [] = elim (innermost (inside g o past f)) [ Some x ↦ unended x.0 | None ↦ unended o ]

  -- the outline of a file
  unfoldable pub outline : List Piece → Outline
  outline pieces = outline_from (outside nothing) pieces

-- WHAT IS WRONG WITH A FILE

-- the name of a directive that goes on or ends a conditional
abbrev pub branch_name : Directive → Option BranchName
branch_name (directive.Elif ts) = Some name.Elif
branch_name directive.Else = Some name.Else
branch_name directive.Endif = Some name.Endif
branch_name _ = None

-- what is wrong by an outline, with the physical line
abbrev pub malformed_by : Outline → Option Malformed
malformed_by (whole g) = None
malformed_by (stray (Run tokens)) = None
malformed_by (stray (Line at what)) = elim (branch_name what) [ Some n ↦ Some (WithoutIf n at) | None ↦ None ]
malformed_by (after_else (Run tokens)) = None
malformed_by (after_else (Line at what)) = elim (branch_name what) [ Some n ↦ Some (AfterElse n at) | None ↦ None ]
malformed_by (unended (Run tokens)) = None
malformed_by (unended (Line at what)) = Some (Unended at)
