-- The open conditionals of a front are what the steps of the stack keep.
use Rattle.std.specs.Prelude.{◌≡◌, ℕ, suc, ◌+◌, ◌<◌, ◌≤◌, Bool, true, false, cond, List, [], ◌∷◌, ◌++◌, length, drop, get_or, Option, Some, None, refl, ◌⊎◌}
use Rattle.std.proofs.Common.{sym, ◌∙◌, ap, inl, inr, subst, add-one, drop-cons}
use Rattle.std.proofs.lemmas.List.{drop_all}
use Rattle.directive_scan.specs.declared.directive.Directive.TheVariants as directive
use Rattle.directive_scan.specs.declared.directive.Piece.{Piece}
use Rattle.directive_scan.specs.declared.directive.Piece.TheVariants.{Run, Line}
use Rattle.directive_scan.specs.declared.conditional.BranchName.TheVariants as name
use Rattle.directive_scan.specs.declared.conditional.Malformed.{Malformed}
use Rattle.directive_scan.specs.declared.conditional.Malformed.TheVariants.{AfterElse, Unended}
use Rattle.directive_scan.specs.declared.outline.Open.{Open}
use Rattle.directive_scan.specs.Groups.{opening, role_of, Group, nothing, Front, outside, inside, Outline, after_else, unended, IsGroup, IsFront, last_is_else, innermost, outer_piece, inner_piece, next_piece, outline_from, outline, malformed_by}
use Rattle.directive_scan.specs.parts.OpenStack.{around, open_step, branch_step, endif_step, Steps, unended_last}
use Rattle.directive_scan.proofs.Outlines.{innermost_some, next_front}
use Rattle.directive_scan.proofs.OneOutline.{from_next, from_wrong, last_elif, last_else, deeper, end_unended}

-- the line of a directive
abbrev line_of : Piece → ℕ
line_of (Run tokens) = 0
line_of (Line at what) = at

abbrev open_at : Piece → List (Group × Piece) → Open
open_at p past = record { at = line_of p; else_seen = last_is_else role_of past }

-- the open conditionals of a front
unfoldable pub open_of : Front → List Open
open_of (outside g) = []
open_of (inside g p past f) = open_at p past ∷ open_of f

-- a front's next piece goes along with a step of the stack
Along : Outline ⊎ Front → Malformed ⊎ List Open → Type 0
Along (inr f) (inr os) = open_of f ≡ os
Along (inl e) (inl m) = malformed_by e ≡ Some m
Along _ _ = ⊥

outer_along : (g : Group) (p : Piece) → Along (outer_piece role_of g p (role_of p)) (open_step [] p)
unfolding Along open_of branch_step endif_step
outer_along g (Run tokens) = refl
outer_along g (Line at (directive.If ts)) = refl
outer_along g (Line at (directive.Ifdef ts)) = refl
outer_along g (Line at (directive.Ifndef ts)) = refl
outer_along g (Line at (directive.Elif ts)) = refl
outer_along g (Line at directive.Else) = refl
outer_along g (Line at directive.Endif) = refl
outer_along g (Line at _) = refl

elif_along : (g : Group) (o : Piece) (past : List (Group × Piece)) (h : Group) (at : ℕ) (ts : _) (b : Bool)
    → Along (cond b (inl (after_else (Line at (directive.Elif ts)))) (inr (inside g o (past ++ ((h, Line at (directive.Elif ts)) ∷ [])) (outside nothing))))
    (cond b (inl (AfterElse name.Elif at)) (inr (record { at = line_of o; else_seen = false } ∷ [])))
unfolding Along open_of
elif_along g o past h at ts true = refl
elif_along g o past h at ts false = ap (λ (c : Bool). record { at = line_of o; else_seen = c } ∷ []) (last_elif role_of past h (Line at (directive.Elif ts)) refl)

else_along : (g : Group) (o : Piece) (past : List (Group × Piece)) (h : Group) (at : ℕ) (b : Bool)
    → Along (cond b (inl (after_else (Line at directive.Else))) (inr (inside g o (past ++ ((h, Line at directive.Else) ∷ [])) (outside nothing))))
    (cond b (inl (AfterElse name.Else at)) (inr (record { at = line_of o; else_seen = true } ∷ [])))
unfolding Along open_of
else_along g o past h at true = refl
else_along g o past h at false = ap (λ (c : Bool). record { at = line_of o; else_seen = c } ∷ []) (last_else role_of past h (Line at directive.Else) refl)

inner_along : (g : Group) (o : Piece) (past : List (Group × Piece)) (h : Group) (p : Piece) → Along (inner_piece role_of g o past h p (role_of p)) (open_step (open_at o past ∷ []) p)
unfolding Along open_of branch_step endif_step
inner_along g o past h (Run tokens) = refl
inner_along g o past h (Line at (directive.If ts)) = refl
inner_along g o past h (Line at (directive.Ifdef ts)) = refl
inner_along g o past h (Line at (directive.Ifndef ts)) = refl
inner_along g o past h (Line at (directive.Elif ts)) = elif_along g o past h at ts (last_is_else role_of past)
inner_along g o past h (Line at directive.Else) = else_along g o past h at (last_is_else role_of past)
inner_along g o past h (Line at directive.Endif) = refl
inner_along g o past h (Line at _) = refl

-- a step changes nothing around the conditional opened last
step_around : (o q : Open) (os : List Open) (p : Piece) → open_step (o ∷ q ∷ os) p ≡ around o (open_step (q ∷ os) p)
unfolding branch_step endif_step
step_around o q os (Run tokens) = refl
step_around o q os (Line at (directive.If ts)) = refl
step_around o q os (Line at (directive.Ifdef ts)) = refl
step_around o q os (Line at (directive.Ifndef ts)) = refl
step_around o q os (Line at (directive.Elif ts)) = refl
step_around o q os (Line at directive.Else) = refl
step_around o q os (Line at directive.Endif) = refl
step_around o q os (Line at _) = refl

along_around : (g : Group) (o : Piece) (past : List (Group × Piece)) (r : Outline ⊎ Front) (s : Malformed ⊎ List Open)
    → Along r s → Along (elim r [ inl e ↦ inl e | inr f' ↦ inr (inside g o past f') ]) (around (open_at o past) s)
unfolding Along open_of
along_around g o past (inl e) (inl m) a = a
along_around g o past (inl e) (inr os) a = absurd a
along_around g o past (inr f) (inl m) a = absurd a
along_around g o past (inr f) (inr os) a = ap (λ (t : List Open). open_at o past ∷ t) a

next_along : (f : Front) (p : Piece) → Along (next_piece role_of f p) (open_step (open_of f) p)
unfolding next_piece open_of
next_along (outside g) p = outer_along g p
next_along (inside g o past (outside h)) p = inner_along g o past h p
next_along (inside g o past (inside h q qs f)) p =
    subst (Along (next_piece role_of (inside g o past (inside h q qs f)) p)) (sym (step_around (open_at o past) (open_at q qs) (open_of f) p))
    (along_around g o past (next_piece role_of (inside h q qs f) p) (open_step (open_of (inside h q qs f)) p) (next_along (inside h q qs f) p))

along_more : (r : Outline ⊎ Front) (s : Malformed ⊎ List Open) (os : List Open) → Along r s → s ≡ inr os → (f : Front) × (r ≡ inr f) × (open_of f ≡ os)
unfolding Along
along_more (inr f) (inr ps) os a e = let same : ps ≡ os = cc in (f, refl, a ∙ same)
along_more (inr f) (inl m) os a e = absurd a
along_more (inl o) (inr ps) os a e = absurd a
along_more (inl o) (inl m) os a e = absurd (cc)

along_wrong : (r : Outline ⊎ Front) (s : Malformed ⊎ List Open) (m : Malformed) → Along r s → s ≡ inl m → (e : Outline) × (r ≡ inl e) × (malformed_by e ≡ Some m)
unfolding Along
along_wrong (inl o) (inl n) m a e = let same : n ≡ m = cc in (o, refl, a ∙ ap Some same)
along_wrong (inr f) (inl n) m a e = absurd a
along_wrong (inl o) (inr ps) m a e = absurd a
along_wrong (inr f) (inr ps) m a e = absurd (cc)

-- THE END OF A FILE

-- an innermost conditional begins with an opening
Opens : Option (Piece × Bool) → Type 0
Opens None = Unit {0}
Opens (Some x) = role_of x.0 ≡ opening

innermost_opens : (f : Front) → IsFront role_of f → Opens (innermost role_of f)
unfolding Opens IsFront innermost
innermost_opens (outside g) k = tt
innermost_opens (inside g o past (outside h)) k = k.1
innermost_opens (inside g o past (inside h q qs f)) k = subst Opens (sym (deeper role_of g o past h q qs f)) (innermost_opens (inside h q qs f) k.3)

told : Option (Piece × Bool) → Option Malformed
told None = None
told (Some x) = Some (Unended (line_of x.0))

innermost_told : (f : Front) → told (innermost role_of f) ≡ unended_last (open_of f)
unfolding told innermost open_of unended_last
innermost_told (outside g) = refl
innermost_told (inside g o past (outside h)) = refl
innermost_told (inside g o past (inside h q qs f)) = ap told (deeper role_of g o past h q qs f) ∙ innermost_told (inside h q qs f)

opening_told : (p : Piece) → role_of p ≡ opening → malformed_by (unended p) ≡ Some (Unended (line_of p))
opening_told (Run tokens) e = cc
opening_told (Line at what) e = refl

pub unended_told : (f : Front) (p : Piece) (b : Bool) → IsFront role_of f → innermost role_of f ≡ Some (p, b) → (m : Malformed) × (malformed_by (unended p) ≡ Some m)
unfolding Opens
unended_told f p b k e = (Unended (line_of p), opening_told p (subst Opens e (innermost_opens f k)))

end_told : (f : Front) → IsFront role_of f → malformed_by (outline_from role_of f []) ≡ unended_last (open_of f)
unfolding outline_from open_of unended_last told Opens
end_told (outside g) k = refl
end_told (inside g o past f) k =
    let some = innermost_some role_of g o past f (innermost role_of f) refl in
    ap malformed_by (end_unended role_of (inside g o past f) some.0.0 some.0.1 some.1)
    ∙ opening_told some.0.0 (subst Opens some.1 (innermost_opens (inside g o past f) k))
    ∙ ap told (sym some.1) ∙ innermost_told (inside g o past f)

-- READING A FILE

-- the first pieces of a file leave these conditionals open
abbrev pub ReadTo : List Piece → ℕ → List Open → Type 0
ReadTo pieces i os = (f : Front) × IsFront role_of f × (open_of f ≡ os) × (outline role_of pieces ≡ outline_from role_of f (drop i pieces))

pub read_none : (pieces : List Piece) (os : List Open) → os ≡ [] → ReadTo pieces 0 os
unfolding outline open_of IsFront IsGroup
read_none pieces os e = (outside nothing, tt, sym e, refl)

-- the rest of a file, with its first piece
rest_is : (pieces : List Piece) (i : ℕ) (p : Piece) → i < length pieces → p ≡ get_or pieces i p → drop i pieces ≡ p ∷ drop (i + 1) pieces
rest_is pieces i p below is = drop-cons pieces i p below ∙ ap (λ (q : Piece). q ∷ drop (suc i) pieces) (sym is) ∙ ap (λ (k : ℕ). p ∷ drop k pieces) (sym (add-one i))

pub read_more : (pieces : List Piece) (i : ℕ) (os more : List Open) (p : Piece) → ReadTo pieces i os → i < length pieces → p ≡ get_or pieces i p
    → Steps (open_step os p) None more → ReadTo pieces (i + 1) more
read_more pieces i os more p (f, good, opens, reads) below is steps =
    let next = along_more (next_piece role_of f p) (open_step (open_of f) p) more (next_along f p) (ap (λ (t : List Open). open_step t p) opens ∙ steps) in
    (next.0, next_front role_of f p next.0 good next.1, next.2, reads ∙ ap (outline_from role_of f) (rest_is pieces i p below is) ∙ from_next role_of f p (drop (i + 1) pieces) next.0 next.1)

pub read_wrong : (pieces : List Piece) (i : ℕ) (os more : List Open) (p : Piece) (m : Malformed) → ReadTo pieces i os → i < length pieces → p ≡ get_or pieces i p
    → Steps (open_step os p) (Some m) more → Some m ≡ malformed_by (outline role_of pieces)
read_wrong pieces i os more p m (f, good, opens, reads) below is steps =
    let next = along_wrong (next_piece role_of f p) (open_step (open_of f) p) m (next_along f p) (ap (λ (t : List Open). open_step t p) opens ∙ steps) in
    sym (ap malformed_by (reads ∙ ap (outline_from role_of f) (rest_is pieces i p below is) ∙ from_wrong role_of f p (drop (i + 1) pieces) next.0 next.1) ∙ next.2)

pub read_all : (pieces : List Piece) (i : ℕ) (os : List Open) → ReadTo pieces i os → length pieces ≤ i → unended_last os ≡ malformed_by (outline role_of pieces)
read_all pieces i os (f, good, opens, reads) done =
    sym (ap malformed_by (reads ∙ ap (outline_from role_of f) (drop_all i pieces done)) ∙ end_told f good ∙ ap unended_last opens)
