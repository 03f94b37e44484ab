-- A list of pieces has one outline: reading the pieces of a group, or of a front, behind any front adds just that.
use Rattle.std.specs.Prelude.{◌≡◌, Bool, true, false, List, [], ◌∷◌, ◌++◌, Option, Some, None, refl, ◌⊎◌}
use Rattle.std.proofs.Common.{sym, ◌∙◌, ap, inl, inr, append_assoc}
use Rattle.std.proofs.lemmas.List.{append-nil}
use Rattle.directive_scan.specs.declared.directive.Piece.{Piece}
use Rattle.directive_scan.proofs.Outlines.{past_head}
use Rattle.directive_scan.specs.Groups.{Role, single, opening, elif_line, else_line, endif_line, Group, nothing, one, conditional, Branches, ended, branch, group_pieces, branches_pieces, Front, outside, inside, past_pieces, front_pieces, Outline, whole, stray, after_else, unended, joined_groups, closed_branches, closed, IsGroup, IsBranches, IsPast, IsFront, last_is_else, innermost, BelongsInside, HasOutline, inner_piece, outer_piece, next_piece, outline_from, outline}

-- FRONTS, ONE BEHIND THE OTHER

-- a front with a group more in its last group
abbrev into : Front → Group → Front
into (outside h) g = outside (joined_groups h g)
into (inside b o past f) g = inside b o past (into f g)

-- a front with one more open conditional in its last group
abbrev opened : Front → Piece → List (Group × Piece) → Group → Front
opened (outside h) p past g = inside h p past (outside g)
opened (inside b o qs f) p past g = inside b o qs (opened f p past g)

-- a front with another in its last group
abbrev behind : Front → Front → Front
behind (outside h) (outside g) = outside (joined_groups h g)
behind (outside h) (inside g p past f) = inside (joined_groups h g) p past f
behind (inside b o past e) f = inside b o past (behind e f)

joined_nothing : (g : Group) → joined_groups g nothing ≡ g
joined_nothing nothing = refl
joined_nothing (one p g) = ap (one p) (joined_nothing g)
joined_nothing (conditional p g bs after) = ap (conditional p g bs) (joined_nothing after)

joined_joined : (g h k : Group) → joined_groups (joined_groups g h) k ≡ joined_groups g (joined_groups h k)
joined_joined nothing h k = refl
joined_joined (one p g) h k = ap (one p) (joined_joined g h k)
joined_joined (conditional p g bs after) h k = ap (conditional p g bs) (joined_joined after h k)

into_nothing : (f : Front) → into f nothing ≡ f
into_nothing (outside g) = ap outside (joined_nothing g)
into_nothing (inside b o past f) = ap (inside b o past) (into_nothing f)

into_into : (f : Front) (g h : Group) → into (into f g) h ≡ into f (joined_groups g h)
into_into (outside k) g h = ap outside (joined_joined k g h)
into_into (inside b o past f) g h = ap (inside b o past) (into_into f g h)

into_opened : (f : Front) (o : Piece) (past : List (Group × Piece)) (g h : Group) → into (opened f o past g) h ≡ opened f o past (joined_groups g h)
into_opened (outside k) o past g h = refl
into_opened (inside b p qs f) o past g h = ap (inside b p qs) (into_opened f o past g h)

behind_outside : (f : Front) (g : Group) → into f g ≡ behind f (outside g)
behind_outside (outside h) g = refl
behind_outside (inside b o past f) g = ap (inside b o past) (behind_outside f g)

behind_nothing : (f : Front) → behind (outside nothing) f ≡ f
behind_nothing (outside g) = refl
behind_nothing (inside g o past f) = refl

behind_opened : (e : Front) (g : Group) (o : Piece) (past : List (Group × Piece)) (f : Front) → behind (opened (into e g) o past nothing) f ≡ behind e (inside g o past f)
behind_opened (outside h) g o past f = ap (inside (joined_groups h g) o past) (behind_nothing f)
behind_opened (inside b p qs e) g o past f = ap (inside b p qs) (behind_opened e g o past f)

closed_branches_more : (header : Piece) (past : List (Group × Piece)) (g : Group) (p : Piece) (h : Group) (bs : Branches)
    → closed_branches header (past ++ ((g, p) ∷ [])) h bs ≡ closed_branches header past g (branch p h bs)
closed_branches_more header [] g p h bs = refl
closed_branches_more header (q ∷ qs) g p h bs = ap (branch header q.0) (closed_branches_more q.1 qs g p h bs)

closed_more : (o : Piece) (past : List (Group × Piece)) (g : Group) (p : Piece) (h : Group) (bs : Branches)
    → closed o (past ++ ((g, p) ∷ [])) h bs ≡ closed o past g (branch p h bs)
closed_more o [] g p h bs = refl
closed_more o (q ∷ qs) g p h bs = ap (λ (r : Branches). conditional o q.0 r nothing) (closed_branches_more q.1 qs g p h bs)

module _ (role : Piece → Role) where
  -- ONE MORE PIECE

  next_single : (f : Front) (p : Piece) → role p ≡ single → next_piece role f p ≡ inr (into f (one p nothing))
  unfolding next_piece
  next_single (outside g) p e = ap (outer_piece role g p) e
  next_single (inside g o past (outside h)) p e = ap (inner_piece role g o past h p) e
  next_single (inside g o past (inside h q qs f)) p e = rw (next_single (inside h q qs f) p e) refl

  next_opening : (f : Front) (p : Piece) → role p ≡ opening → next_piece role f p ≡ inr (opened f p [] nothing)
  unfolding next_piece
  next_opening (outside g) p e = ap (outer_piece role g p) e
  next_opening (inside g o past (outside h)) p e = ap (inner_piece role g o past h p) e
  next_opening (inside g o past (inside h q qs f)) p e = rw (next_opening (inside h q qs f) p e) refl

  -- what a piece does to an open conditional, it does inside another one too
  next_opened : (b : Group) (q : Piece) (qs : List (Group × Piece)) (f : Front) (o : Piece) (past : List (Group × Piece)) (g : Group) (p : Piece) (f' : Front)
      → next_piece role (opened f o past g) p ≡ inr f' → next_piece role (inside b q qs (opened f o past g)) p ≡ inr (inside b q qs f')
  unfolding next_piece
  next_opened b q qs (outside h) o past g p f' e = rw (e, next_piece) refl
  next_opened b q qs (inside h r rs f) o past g p f' e = rw (e, next_piece) refl

  next_end : (f : Front) (o : Piece) (past : List (Group × Piece)) (g : Group) (p : Piece) → role p ≡ endif_line
      → next_piece role (opened f o past g) p ≡ inr (into f (closed o past g (ended p)))
  unfolding next_piece
  next_end (outside h) o past g p e = ap (inner_piece role h o past g p) e
  next_end (inside b q qs f) o past g p e = next_opened b q qs f o past g p _ (next_end f o past g p e)

  next_branch : (f : Front) (o : Piece) (past : List (Group × Piece)) (g : Group) (p : Piece) → ((role p ≡ elif_line) ⊎ (role p ≡ else_line))
      → last_is_else role past ≡ false → next_piece role (opened f o past g) p ≡ inr (opened f o (past ++ ((g, p) ∷ [])) nothing)
  unfolding next_piece
  next_branch (outside h) o past g p (inl r) e = ap (inner_piece role h o past g p) r ∙ rw e refl
  next_branch (outside h) o past g p (inr r) e = ap (inner_piece role h o past g p) r ∙ rw e refl
  next_branch (inside b q qs f) o past g p r e = next_opened b q qs f o past g p _ (next_branch f o past g p r e)

  pub from_next : (f : Front) (p : Piece) (ps : List Piece) (f' : Front) → next_piece role f p ≡ inr f' → outline_from role f (p ∷ ps) ≡ outline_from role f' ps
  unfolding outline_from
  from_next f p ps f' e = rw (e, outline_from) refl

  pub from_wrong : (f : Front) (p : Piece) (ps : List Piece) (o : Outline) → next_piece role f p ≡ inl o → outline_from role f (p ∷ ps) ≡ o
  unfolding outline_from
  from_wrong f p ps o e = rw (e, outline_from) refl

  -- GROUPS

  is_else : Role → Bool
  is_else r = elim r [ else_line ↦ true | _ ↦ false ]

  last_more : (past : List (Group × Piece)) (g : Group) (p : Piece) → last_is_else role (past ++ ((g, p) ∷ [])) ≡ is_else (role p)
  unfolding is_else
  last_more [] g p = refl
  last_more (q ∷ []) g p = refl
  last_more (q ∷ r ∷ rs) g p = last_more (r ∷ rs) g p

  pub last_elif : (past : List (Group × Piece)) (g : Group) (p : Piece) → role p ≡ elif_line → last_is_else role (past ++ ((g, p) ∷ [])) ≡ false
  unfolding is_else
  last_elif past g p e = last_more past g p ∙ ap is_else e

  pub last_else : (past : List (Group × Piece)) (g : Group) (p : Piece) → role p ≡ else_line → last_is_else role (past ++ ((g, p) ∷ [])) ≡ true
  unfolding is_else
  last_else past g p e = last_more past g p ∙ ap is_else e

  mutual
    unfolding IsGroup group_pieces

    over_group : (g : Group) → IsGroup role g → (f : Front) (rest : List Piece) → outline_from role f (group_pieces g ++ rest) ≡ outline_from role (into f g) rest
    over_group nothing k f rest = ap (λ (e : Front). outline_from role e rest) (sym (into_nothing f))
    over_group (one p g) k f rest =
        from_next f p (group_pieces g ++ rest) _ (next_single f p k.0)
        ∙ over_group g k.1 (into f (one p nothing)) rest
        ∙ ap (λ (e : Front). outline_from role e rest) (into_into f (one p nothing) g)
    over_group (conditional p g bs after) k f rest =
        from_next f p _ _ (next_opening f p k.0)
        ∙ ap (outline_from role (opened f p [] nothing)) (append_assoc (group_pieces g) (branches_pieces bs ++ group_pieces after) rest ∙ ap (λ (r : List Piece). group_pieces g ++ r) (append_assoc (branches_pieces bs) (group_pieces after) rest))
        ∙ over_group g k.1 (opened f p [] nothing) (branches_pieces bs ++ (group_pieces after ++ rest))
        ∙ ap (λ (e : Front). outline_from role e (branches_pieces bs ++ (group_pieces after ++ rest))) (into_opened f p [] nothing g)
        ∙ over_branches bs false k.2 f p [] g (group_pieces after ++ rest) refl
        ∙ over_group after k.3 (into f (conditional p g bs nothing)) rest
        ∙ ap (λ (e : Front). outline_from role e rest) (into_into f (conditional p g bs nothing) after)

    over_branches : (bs : Branches) (b : Bool) → IsBranches role b bs → (f : Front) (o : Piece) (past : List (Group × Piece)) (g : Group) (rest : List Piece) → last_is_else role past ≡ b
        → outline_from role (opened f o past g) (branches_pieces bs ++ rest) ≡ outline_from role (into f (closed o past g bs)) rest
    over_branches (ended p) b k f o past g rest e = from_next (opened f o past g) p rest _ (next_end f o past g p k)
    over_branches (branch p h bs) b (k, inl (r, kb), kh) f o past g rest e =
        from_next (opened f o past g) p _ _ (next_branch f o past g p (inl r) (e ∙ k))
        ∙ ap (outline_from role (opened f o (past ++ ((g, p) ∷ [])) nothing)) (append_assoc (group_pieces h) (branches_pieces bs) rest)
        ∙ over_group h kh (opened f o (past ++ ((g, p) ∷ [])) nothing) (branches_pieces bs ++ rest)
        ∙ ap (λ (t : Front). outline_from role t (branches_pieces bs ++ rest)) (into_opened f o (past ++ ((g, p) ∷ [])) nothing h)
        ∙ over_branches bs false kb f o (past ++ ((g, p) ∷ [])) h rest (last_elif past g p r)
        ∙ ap (λ (t : Group). outline_from role (into f t) rest) (closed_more o past g p h bs)
    over_branches (branch p h bs) b (k, inr (r, kb), kh) f o past g rest e =
        from_next (opened f o past g) p _ _ (next_branch f o past g p (inr r) (e ∙ k))
        ∙ ap (outline_from role (opened f o (past ++ ((g, p) ∷ [])) nothing)) (append_assoc (group_pieces h) (branches_pieces bs) rest)
        ∙ over_group h kh (opened f o (past ++ ((g, p) ∷ [])) nothing) (branches_pieces bs ++ rest)
        ∙ ap (λ (t : Front). outline_from role t (branches_pieces bs ++ rest)) (into_opened f o (past ++ ((g, p) ∷ [])) nothing h)
        ∙ over_branches bs true kb f o (past ++ ((g, p) ∷ [])) h rest (last_else past g p r)
        ∙ ap (λ (t : Group). outline_from role (into f t) rest) (closed_more o past g p h bs)

  -- FRONTS

  past_role : (p : Group × Piece) (ps : List (Group × Piece)) → IsPast role (p ∷ ps) → (role p.1 ≡ elif_line) ⊎ (role p.1 ≡ else_line)
  past_role p [] h = h.1
  past_role p (q ∷ ps) h = inl h.1

  past_rest : (p : Group × Piece) (ps : List (Group × Piece)) → IsPast role (p ∷ ps) → IsPast role ps
  past_rest p [] h = tt
  past_rest p (q ∷ ps) h = h.2

  -- groups may follow, if there are any
  abbrev MayFollow : List (Group × Piece) → List (Group × Piece) → Type 0
  MayFollow past [] = Unit {0}
  MayFollow past (p ∷ ps) = last_is_else role past ≡ false

  may_follow : (past : List (Group × Piece)) (p : Group × Piece) (ps : List (Group × Piece)) → IsPast role (p ∷ ps) → MayFollow (past ++ (p ∷ [])) ps
  may_follow past p [] h = tt
  may_follow past p (q ∷ ps) h = last_elif past p.0 p.1 h.1

  over_past : (more past : List (Group × Piece)) → IsPast role more → MayFollow past more → (f : Front) (o : Piece) (rest : List Piece)
      → outline_from role (opened f o past nothing) (past_pieces more ++ rest) ≡ outline_from role (opened f o (past ++ more) nothing) rest
  over_past [] past h m f o rest = ap (λ (t : List (Group × Piece)). outline_from role (opened f o t nothing) rest) (sym (append-nil past))
  over_past (p ∷ ps) past h m f o rest =
      ap (outline_from role (opened f o past nothing)) (append_assoc (group_pieces p.0) (p.1 ∷ past_pieces ps) rest)
      ∙ over_group p.0 (past_head role p ps h) (opened f o past nothing) (p.1 ∷ (past_pieces ps ++ rest))
      ∙ ap (λ (t : Front). outline_from role t (p.1 ∷ (past_pieces ps ++ rest))) (into_opened f o past nothing p.0)
      ∙ from_next (opened f o past p.0) p.1 (past_pieces ps ++ rest) _ (next_branch f o past p.0 p.1 (past_role p ps h) m)
      ∙ over_past ps (past ++ (p ∷ [])) (past_rest p ps h) (may_follow past p ps h) f o rest
      ∙ ap (λ (t : List (Group × Piece)). outline_from role (opened f o t nothing) rest) (append_assoc past (p ∷ []) ps)

  first_may : (past : List (Group × Piece)) → MayFollow [] past
  first_may [] = tt
  first_may (p ∷ ps) = refl

  over_front : (f : Front) → IsFront role f → (e : Front) (rest : List Piece) → outline_from role e (front_pieces f ++ rest) ≡ outline_from role (behind e f) rest
  unfolding IsFront front_pieces
  over_front (outside g) k e rest = over_group g k e rest ∙ ap (λ (t : Front). outline_from role t rest) (behind_outside e g)
  over_front (inside g o past f) k e rest =
      ap (outline_from role e) (append_assoc (group_pieces g) (o ∷ (past_pieces past ++ front_pieces f)) rest)
      ∙ over_group g k.0 e (o ∷ ((past_pieces past ++ front_pieces f) ++ rest))
      ∙ from_next (into e g) o ((past_pieces past ++ front_pieces f) ++ rest) _ (next_opening (into e g) o k.1)
      ∙ ap (outline_from role (opened (into e g) o [] nothing)) (append_assoc (past_pieces past) (front_pieces f) rest)
      ∙ over_past past [] k.2 (first_may past) (into e g) o (front_pieces f ++ rest)
      ∙ over_front f k.3 (opened (into e g) o past nothing) rest
      ∙ ap (λ (t : Front). outline_from role t rest) (behind_opened e g o past f)

  -- a file that begins with the pieces of a front is read on from there
  from_front : (f : Front) (rest : List Piece) → IsFront role f → outline role (front_pieces f ++ rest) ≡ outline_from role f rest
  unfolding outline
  from_front f rest k = over_front f k (outside nothing) rest ∙ ap (λ (t : Front). outline_from role t rest) (behind_nothing f)

  -- WHERE IT ENDS

  next_stray : (g : Group) (p : Piece) → BelongsInside role p → next_piece role (outside g) p ≡ inl (stray p)
  unfolding next_piece
  next_stray g p (inl r) = ap (outer_piece role g p) r
  next_stray g p (inr (inl r)) = ap (outer_piece role g p) r
  next_stray g p (inr (inr r)) = ap (outer_piece role g p) r

  pub deeper : (g : Group) (o : Piece) (past : List (Group × Piece)) (h : Group) (q : Piece) (qs : List (Group × Piece)) (f : Front)
      → innermost role (inside g o past (inside h q qs f)) ≡ innermost role (inside h q qs f)
  unfolding innermost
  deeper g o past h q qs f = go (innermost role f)
    where
      first : Option (Piece × Bool) → Option (Piece × Bool)
      first i = elim i [ Some x ↦ Some x | None ↦ Some (q, last_is_else role qs) ]

      second : Option (Piece × Bool) → Option (Piece × Bool)
      second i = elim i [ Some x ↦ Some x | None ↦ Some (o, last_is_else role past) ]

      go : (i : Option (Piece × Bool)) → second (first i) ≡ first i
      go (Some x) = refl
      go None = refl

  next_after_else : (f : Front) (o p : Piece) → innermost role f ≡ Some (o, true) → ((role p ≡ elif_line) ⊎ (role p ≡ else_line)) → next_piece role f p ≡ inl (after_else p)
  unfolding next_piece innermost
  next_after_else (outside g) o p e r = absurd (cc)
  next_after_else (inside g q past (outside h)) o p e (inl r) = let pair : ◌≡◌ {A = Piece × Bool} (q, last_is_else role past) (o, true) = cc in ap (inner_piece role g q past h p) r ∙ rw (ap (λ x. x.1) pair) refl
  next_after_else (inside g q past (outside h)) o p e (inr r) = let pair : ◌≡◌ {A = Piece × Bool} (q, last_is_else role past) (o, true) = cc in ap (inner_piece role g q past h p) r ∙ rw (ap (λ x. x.1) pair) refl
  next_after_else (inside g q past (inside h s ss f)) o p e r =
      rw (next_after_else (inside h s ss f) o p (sym (deeper g q past h s ss f) ∙ e) r) refl

  pub end_unended : (f : Front) (p : Piece) (b : Bool) → innermost role f ≡ Some (p, b) → outline_from role f [] ≡ unended p
  unfolding outline_from innermost
  end_unended (outside g) p b e = absurd (cc)
  end_unended (inside g o past f) p b e = rw (e, outline_from) refl

  pub only_outline : (pieces : List Piece) (o : Outline) → HasOutline role pieces o → o ≡ outline role pieces
  unfolding outline IsFront front_pieces outline_from
  only_outline pieces (whole g) h =
      sym (ap (outline role) (sym h.1 ∙ sym (append-nil (group_pieces g))) ∙ from_front (outside g) [] h.0)
  only_outline pieces (stray p) h =
      sym (ap (outline role) h.3 ∙ from_front (outside h.0) (p ∷ h.1) h.2 ∙ from_wrong (outside h.0) p h.1 (stray p) (next_stray h.0 p h.4))
  only_outline pieces (after_else p) h =
      sym (ap (outline role) h.3 ∙ from_front h.0 (p ∷ h.1) h.2 ∙ from_wrong h.0 p h.1 (after_else p) (next_after_else h.0 h.4.0 p h.4.1 h.5))
  only_outline pieces (unended p) h =
      sym (ap (outline role) (sym h.2 ∙ sym (append-nil (front_pieces h.0))) ∙ from_front h.0 [] h.1 ∙ end_unended h.0 p h.3.0 h.3.1)
