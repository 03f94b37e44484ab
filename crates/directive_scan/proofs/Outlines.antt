-- The outline that the function gives is one.
use Rattle.std.specs.Prelude.{◌≡◌, Bool, true, false, cond, List, [], ◌∷◌, ◌++◌, Option, Some, None, refl, ◌⊎◌}
use Rattle.std.proofs.Common.{sym, ◌∙◌, ap, inl, inr, subst, append_assoc}
use Rattle.std.proofs.lemmas.List.{append-nil}
use Rattle.directive_scan.specs.declared.directive.Piece.{Piece}
use Rattle.directive_scan.specs.Groups.{Role, single, opening, elif_line, else_line, endif_line, Group, nothing, one, conditional, Branches, ended, group_pieces, branches_pieces, Front, outside, inside, past_pieces, front_pieces, Outline, stray, after_else, unended, joined_groups, closed_branches, closed, IsGroup, IsBranches, IsPast, IsFront, last_is_else, innermost, BelongsInside, HasOutline, inner_piece, outer_piece, next_piece, outline_from, outline}

-- two groups, one behind the other
joined_pieces : (g h : Group) → group_pieces (joined_groups g h) ≡ group_pieces g ++ group_pieces h
unfolding group_pieces
joined_pieces nothing h = refl
joined_pieces (one p g) h = ap (λ (r : List Piece). p ∷ r) (joined_pieces g h)
joined_pieces (conditional p g bs after) h =
    ap (λ (r : List Piece). p ∷ (group_pieces g ++ (branches_pieces bs ++ r))) (joined_pieces after h)
    ∙ ap (λ (r : List Piece). p ∷ (group_pieces g ++ r)) (sym (append_assoc (branches_pieces bs) (group_pieces after) (group_pieces h)))
    ∙ ap (λ (r : List Piece). p ∷ r) (sym (append_assoc (group_pieces g) _ (group_pieces h)))

-- CLOSING A CONDITIONAL

closed_branches_pieces : (header : Piece) (past : List (Group × Piece)) (g : Group) (bs : Branches)
    → branches_pieces (closed_branches header past g bs) ≡ header ∷ (past_pieces past ++ (group_pieces g ++ branches_pieces bs))
unfolding group_pieces
closed_branches_pieces header [] g bs = refl
closed_branches_pieces header (p ∷ ps) g bs =
    ap (λ (r : List Piece). header ∷ (group_pieces p.0 ++ r)) (closed_branches_pieces p.1 ps g bs)
    ∙ ap (λ (r : List Piece). header ∷ r) (sym (append_assoc (group_pieces p.0) (p.1 ∷ past_pieces ps) (group_pieces g ++ branches_pieces bs)))

closed_pieces : (o : Piece) (past : List (Group × Piece)) (g : Group) (bs : Branches)
    → group_pieces (closed o past g bs) ≡ o ∷ (past_pieces past ++ (group_pieces g ++ branches_pieces bs))
unfolding group_pieces
closed_pieces o [] g bs = ap (λ (r : List Piece). o ∷ (group_pieces g ++ r)) (append-nil (branches_pieces bs))
closed_pieces o (p ∷ ps) g bs =
    ap (λ (r : List Piece). o ∷ (group_pieces p.0 ++ r)) (append-nil _ ∙ closed_branches_pieces p.1 ps g bs)
    ∙ ap (λ (r : List Piece). o ∷ r) (sym (append_assoc (group_pieces p.0) (p.1 ∷ past_pieces ps) (group_pieces g ++ branches_pieces bs)))

past_more_pieces : (past : List (Group × Piece)) (g : Group) (p : Piece) → past_pieces (past ++ ((g, p) ∷ [])) ≡ past_pieces past ++ (group_pieces g ++ (p ∷ []))
past_more_pieces [] g p = refl
past_more_pieces (q ∷ qs) g p =
    ap (λ (r : List Piece). group_pieces q.0 ++ (q.1 ∷ r)) (past_more_pieces qs g p)
    ∙ sym (append_assoc (group_pieces q.0) (q.1 ∷ past_pieces qs) (group_pieces g ++ (p ∷ [])))

-- the pieces of a front that is open, with those of its last group
abbrev open_pieces : Group → Piece → List (Group × Piece) → List Piece → List Piece
open_pieces g o past r = group_pieces g ++ (o ∷ (past_pieces past ++ r))

open_more : (g : Group) (o : Piece) (past : List (Group × Piece)) (r s : List Piece) → open_pieces g o past (r ++ s) ≡ open_pieces g o past r ++ s
open_more g o past r s =
    ap (λ (t : List Piece). group_pieces g ++ (o ∷ t)) (sym (append_assoc (past_pieces past) r s)) ∙ sym (append_assoc (group_pieces g) (o ∷ (past_pieces past ++ r)) s)

ended_pieces : (before : Group) (o : Piece) (past : List (Group × Piece)) (g : Group) (p : Piece)
    → group_pieces (joined_groups before (closed o past g (ended p))) ≡ open_pieces before o past (group_pieces g) ++ (p ∷ [])
unfolding group_pieces
ended_pieces before o past g p =
    joined_pieces before (closed o past g (ended p))
    ∙ ap (λ (r : List Piece). group_pieces before ++ r) (closed_pieces o past g (ended p))
    ∙ open_more before o past (group_pieces g) (p ∷ [])

module _ (role : Piece → Role) where
  joined_group : (g h : Group) → IsGroup role g → IsGroup role h → IsGroup role (joined_groups g h)
  unfolding IsGroup
  joined_group nothing h p q = q
  joined_group (one l g) h p q = (p.0, joined_group g h p.1 q)
  joined_group (conditional l g bs after) h p q = (p.0, p.1, p.2, joined_group after h p.3 q)

  -- the first of the groups ended so far is good
  pub past_head : (p : Group × Piece) (ps : List (Group × Piece)) → IsPast role (p ∷ ps) → IsGroup role p.0
  past_head p [] h = h.0
  past_head p (q ∷ ps) h = h.0

  -- the branches of a conditional whose pieces so far are good, once it is ended
  closed_branches_good : (p : Group × Piece) (ps : List (Group × Piece)) (g : Group) (end : Piece) → IsPast role (p ∷ ps) → IsGroup role g → role end ≡ endif_line
      → IsBranches role false (closed_branches p.1 ps g (ended end))
  unfolding IsGroup
  closed_branches_good p [] g end h k e = (refl, by_role h.1, k)
    where
      by_role : ((role p.1 ≡ elif_line) ⊎ (role p.1 ≡ else_line)) → (((role p.1 ≡ elif_line) × IsBranches role false (ended end)) ⊎ ((role p.1 ≡ else_line) × IsBranches role true (ended end)))
      by_role (inl a) = inl (a, e)
      by_role (inr b) = inr (b, e)
  closed_branches_good p (q ∷ ps) g end h k e = (refl, inl (h.1, closed_branches_good q ps g end h.2 k e), past_head q ps h.2)

  closed_good : (o : Piece) (past : List (Group × Piece)) (g : Group) (end : Piece)
      → role o ≡ opening → IsPast role past → IsGroup role g → role end ≡ endif_line → IsGroup role (closed o past g (ended end))
  unfolding IsGroup
  closed_good o [] g end r h k e = (r, k, e, tt)
  closed_good o (p ∷ ps) g end r h k e = (r, past_head p ps h, closed_branches_good p ps g end h k e, tt)

  past_more : (past : List (Group × Piece)) (g : Group) (p : Piece) → IsPast role past → last_is_else role past ≡ false → IsGroup role g
      → ((role p ≡ elif_line) ⊎ (role p ≡ else_line)) → IsPast role (past ++ ((g, p) ∷ []))
  past_more [] g p h n k r = (k, r)
  past_more (q ∷ []) g p h n k r = (h.0, by_last h.1, (k, r))
    where
      no_else : (x : Role) → x ≡ else_line → elim x as (λ y. Bool) [ else_line ↦ true | _ ↦ false ] ≡ false → ⊥
      no_else single e f = cc
      no_else opening e f = cc
      no_else elif_line e f = cc
      no_else else_line e f = cc
      no_else endif_line e f = cc

      by_last : ((role q.1 ≡ elif_line) ⊎ (role q.1 ≡ else_line)) → role q.1 ≡ elif_line
      by_last (inl a) = a
      by_last (inr b) = absurd (no_else (role q.1) b n)
  past_more (q ∷ q' ∷ qs) g p h n k r = (h.0, h.1, past_more (q' ∷ qs) g p h.2 n k r)

  -- ONE MORE PIECE

  -- a front with one more piece, or what is wrong with that piece
  Next : Front → Piece → Outline ⊎ Front → Type 0
  Next f p (inr f') = IsFront role f' × (front_pieces f' ≡ front_pieces f ++ (p ∷ []))
  Next f p (inl e) =
      ((e ≡ stray p) × ((g : Group) × (f ≡ outside g)) × BelongsInside role p)
      ⊎ ((e ≡ after_else p) × ((o : Piece) × (innermost role f ≡ Some (o, true))) × ((role p ≡ elif_line) ⊎ (role p ≡ else_line)))

  outer_good : (g : Group) (p : Piece) (r : Role) → role p ≡ r → IsGroup role g → Next (outside g) p (outer_piece role g p r)
  unfolding Next IsFront front_pieces IsGroup group_pieces
  outer_good g p single e k = (joined_group g (one p nothing) k (e, tt), joined_pieces g (one p nothing))
  outer_good g p opening e k = ((k, e, tt, tt), refl)
  outer_good g p elif_line e k = inl (refl, (g, refl), inl e)
  outer_good g p else_line e k = inl (refl, (g, refl), inr (inl e))
  outer_good g p endif_line e k = inl (refl, (g, refl), inr (inr e))

  -- an elif or an else behind a group of an open conditional
  branch_good : (g : Group) (o : Piece) (past : List (Group × Piece)) (h : Group) (p : Piece) (b : Bool) → last_is_else role past ≡ b
      → IsGroup role g → role o ≡ opening → IsPast role past → IsGroup role h → ((role p ≡ elif_line) ⊎ (role p ≡ else_line))
      → Next (inside g o past (outside h)) p (cond b (inl (after_else p)) (inr (inside g o (past ++ ((h, p) ∷ [])) (outside nothing))))
  unfolding Next IsFront front_pieces group_pieces innermost IsGroup
  branch_good g o past h p true e kg ko kp kh r = inr (refl, (o, ap (λ b. Some (o, b)) e), r)
  branch_good g o past h p false e kg ko kp kh r = (
    (kg, ko, past_more past h p kp e kh r, tt),
    ap (λ (t : List Piece). group_pieces g ++ (o ∷ t)) (append-nil _ ∙ past_more_pieces past h p) ∙ open_more g o past (group_pieces h) (p ∷ []),
  )

  inner_good : (g : Group) (o : Piece) (past : List (Group × Piece)) (h : Group) (p : Piece) (r : Role) → role p ≡ r
      → IsGroup role g → role o ≡ opening → IsPast role past → IsGroup role h → Next (inside g o past (outside h)) p (inner_piece role g o past h p r)
  unfolding Next IsFront front_pieces IsGroup group_pieces
  inner_good g o past h p single e kg ko kp kh = (
    (kg, ko, kp, joined_group h (one p nothing) kh (e, tt)),
    ap (open_pieces g o past) (joined_pieces h (one p nothing)) ∙ open_more g o past (group_pieces h) (p ∷ []),
  )
  inner_good g o past h p opening e kg ko kp kh = ((kg, ko, kp, (kh, e, tt, tt)), open_more g o past (group_pieces h) (p ∷ []))
  inner_good g o past h p elif_line e kg ko kp kh = branch_good g o past h p (last_is_else role past) refl kg ko kp kh (inl e)
  inner_good g o past h p else_line e kg ko kp kh = branch_good g o past h p (last_is_else role past) refl kg ko kp kh (inr e)
  inner_good g o past h p endif_line e kg ko kp kh =
      (joined_group g (closed o past h (ended p)) kg (closed_good o past h p ko kp kh e), ended_pieces g o past h p)

  -- behind an outer conditional nothing changes
  lift_good : (g : Group) (o : Piece) (past : List (Group × Piece)) (f : Front) (p : Piece) (r : Outline ⊎ Front)
      → IsGroup role g → role o ≡ opening → IsPast role past → ((g' : Group) → f ≡ outside g' → ⊥) → Next f p r
      → Next (inside g o past f) p (elim r [ inl e ↦ inl e | inr f' ↦ inr (inside g o past f') ])
  unfolding Next IsFront front_pieces innermost
  lift_good g o past f p (inl e) kg ko kp isnt (inl s) = absurd (isnt s.1.0 s.1.1)
  lift_good g o past f p (inl e) kg ko kp isnt (inr s) = inr (s.0, (s.1.0, rw s.1.1 refl), s.2)
  lift_good g o past f p (inr f') kg ko kp isnt n = ((kg, ko, kp, n.0), ap (open_pieces g o past) n.1 ∙ open_more g o past (front_pieces f) (p ∷ []))

  next_good : (f : Front) (p : Piece) → IsFront role f → Next f p (next_piece role f p)
  unfolding next_piece IsFront
  next_good (outside g) p k = outer_good g p (role p) refl k
  next_good (inside g o past (outside h)) p k = inner_good g o past h p (role p) refl k.0 k.1 k.2 k.3
  next_good (inside g o past (inside h q qs f)) p k =
      lift_good g o past (inside h q qs f) p (next_piece role (inside h q qs f) p) k.0 k.1 k.2 (λ g' e. cc) (next_good (inside h q qs f) p k.3)

  -- a piece more leaves a good front
  pub next_front : (f : Front) (p : Piece) (f' : Front) → IsFront role f → next_piece role f p ≡ inr f' → IsFront role f'
  unfolding Next
  next_front f p f' k e = (subst (Next f p) e (next_good f p k)).0

  -- THE OUTLINE

  -- an open front has an innermost conditional
  pub innermost_some : (g : Group) (o : Piece) (past : List (Group × Piece)) (f : Front) (i : Option (Piece × Bool)) → innermost role f ≡ i
      → (x : Piece × Bool) × (innermost role (inside g o past f) ≡ Some x)
  unfolding innermost
  innermost_some g o past f (Some x) e = (x, rw e refl)
  innermost_some g o past f None e = ((o, last_is_else role past), rw e refl)

  wrong : (f : Front) (p : Piece) (e : Outline) (after : List Piece) → IsFront role f → Next f p (inl e) → HasOutline role (front_pieces f ++ (p ∷ after)) e
  unfolding Next IsFront front_pieces
  wrong f p e after k (inl (is, (g, outer), b)) =
      subst (HasOutline role (front_pieces f ++ (p ∷ after))) (sym is)
      (g, after, subst (IsFront role) outer k, ap (λ (h : Front). front_pieces h ++ (p ∷ after)) outer, b)
  wrong f p e after k (inr (is, open_one, b)) =
      subst (HasOutline role (front_pieces f ++ (p ∷ after))) (sym is) (f, after, k, refl, open_one, b)

  end_open : (f : Front) (o : Piece) (i : Option (Piece × Bool)) (x : Piece × Bool) → IsFront role f → innermost role f ≡ i → innermost role f ≡ Some x
      → HasOutline role (front_pieces f) (elim i [ Some y ↦ unended y.0 | None ↦ unended o ])
  end_open f o (Some y) x k e h = (f, k, refl, (y.1, e))
  end_open f o None x k e h = absurd (let none : None ≡ Some x = sym e ∙ h in cc)

  end_good : (f : Front) → IsFront role f → HasOutline role (front_pieces f) (outline_from role f [])
  unfolding outline_from IsFront front_pieces
  end_good (outside g) k = (k, refl)
  end_good (inside g o past f) k =
      let some = innermost_some g o past f (innermost role f) refl in
      end_open (inside g o past f) o (innermost role (inside g o past f)) some.0 k refl some.1

  step_good : (f : Front) (p : Piece) (ps : List Piece) (r : Outline ⊎ Front) → IsFront role f → Next f p r
      → ((f' : Front) → IsFront role f' → HasOutline role (front_pieces f' ++ ps) (outline_from role f' ps))
      → HasOutline role (front_pieces f ++ (p ∷ ps)) (elim r [ inl e ↦ e | inr f' ↦ outline_from role f' ps ])
  unfolding Next
  step_good f p ps (inl e) k n ih = wrong f p e ps k n
  step_good f p ps (inr f') k n ih =
      subst (λ t. HasOutline role t (outline_from role f' ps)) (ap (λ (t : List Piece). t ++ ps) n.1 ∙ append_assoc (front_pieces f) (p ∷ []) ps) (ih f' n.0)

  from_good : (f : Front) (ps : List Piece) → IsFront role f → HasOutline role (front_pieces f ++ ps) (outline_from role f ps)
  unfolding outline_from
  from_good f [] k = subst (λ t. HasOutline role t (outline_from role f [])) (sym (append-nil (front_pieces f))) (end_good f k)
  from_good f (p ∷ ps) k = step_good f p ps (next_piece role f p) k (next_good f p k) (λ f' k'. from_good f' ps k')

  -- A FILE HAS THE OUTLINE that the function gives
  pub has_outline : (pieces : List Piece) → HasOutline role pieces (outline role pieces)
  unfolding outline IsFront front_pieces IsGroup group_pieces
  has_outline pieces = from_good (outside nothing) pieces tt
