-- Reading pieces one after another is reading the groups that they are.
use Rattle.std.proofs.Common.{◌≡◌, ℕ, zero, suc, Bool, true, false, List, [], ◌∷◌, ◌++◌, refl, ap, sym, ◌∙◌, append_assoc, append-nil, inl, inr}
use Rattle.directive_scan.specs.declared.Piece.{Piece}
use Rattle.directive_scan.specs.Groups.{Role, single, opening, elif_line, else_line, endif_line, role_of, Group, nothing, one, conditional, Branches, ended, branch, group_pieces, branches_pieces, IsGroup, IsBranches}
use Rattle.daemon_cpp.specs.Prep.{World, State, PrepStep, Go, Stop, and_then, Reached, Gives, Ends, with_value, Entering, piece_step, piece_test, group_or, run_group, run_branches}
use Rattle.daemon_cpp.specs.parts.Reading.{ReadingStage, reading, seeking, passing, stage_of, staged, run_flat, skipped, skip_piece}

-- one step after another

pub then-same : (f g : State → PrepStep) (s : PrepStep) → ((x : State) → f x ≡ g x) → and_then f s ≡ and_then g s
then-same f g (Go x) h = h x
then-same f g (Stop d x) h = refl

pub then-then : (f g : State → PrepStep) (s : PrepStep) → and_then f (and_then g s) ≡ and_then (λ x. and_then f (g x)) s
then-then f g (Go x) = refl
then-then f g (Stop d x) = refl

pub then-value : {A : Type 0} (f : State → PrepStep) (g : A → State → PrepStep) (r : Reached A) → and_then f (with_value g r) ≡ with_value (λ a x. and_then f (g a x)) r
then-value f g (Gives a x) = refl
then-value f g (Ends d x) = refl

pub value-same : {A : Type 0} (f g : A → State → PrepStep) (r : Reached A) → ((a : A) (x : State) → f a x ≡ g a x) → with_value f r ≡ with_value g r
value-same f g (Gives a x) h = h a x
value-same f g (Ends d x) h = refl

three : (a b c : List Piece) → (a ++ b) ++ c ≡ a ++ (b ++ c)
three a b c = append_assoc a b c

module _ (world : World) (entering : Entering) where
  -- a piece that is read at a stage
  pub at-role : (p : Piece) (ps : List Piece) (state : State) (stage : ReadingStage) (r : Role) → role_of p ≡ r →
      run_flat world entering stage (p ∷ ps) state ≡ staged world entering (λ next after. run_flat world entering next ps after) p state stage r
  unfolding run_flat
  at-role p ps state stage r h = ap (staged world entering (λ next after. run_flat world entering next ps after) p state stage) h

  -- groups that aren't read
  mutual
    unfolding group_pieces branches_pieces IsGroup IsBranches

    seek-group : (g : Group) → IsGroup role_of g → (n : ℕ) (rest : List Piece) (state : State) →
        run_flat world entering (seeking n) (group_pieces g ++ rest) state ≡ run_flat world entering (seeking n) rest state
    seek-group nothing w n rest state = refl
    seek-group (one p g) w n rest state =
        at-role p (group_pieces g ++ rest) state (seeking n) single w.0 ∙ seek-group g w.1 n rest state
    seek-group (conditional p g bs after) w n rest state =
        at-role p ((group_pieces g ++ (branches_pieces bs ++ group_pieces after)) ++ rest) state (seeking n) opening w.0
        ∙ ap (λ ps. run_flat world entering (seeking (suc n)) ps state) (three (group_pieces g) (branches_pieces bs ++ group_pieces after) rest ∙ ap (λ ps. group_pieces g ++ ps) (three (branches_pieces bs) (group_pieces after) rest))
        ∙ seek-group g w.1 (suc n) (branches_pieces bs ++ (group_pieces after ++ rest)) state
        ∙ seek-branches bs false w.2 n (group_pieces after ++ rest) state
        ∙ seek-group after w.3 n rest state

    seek-branches : (bs : Branches) (b : Bool) → IsBranches role_of b bs → (n : ℕ) (rest : List Piece) (state : State) →
        run_flat world entering (seeking (suc n)) (branches_pieces bs ++ rest) state ≡ run_flat world entering (seeking n) rest state
    seek-branches (ended p) b w n rest state = at-role p rest state (seeking (suc n)) endif_line w
    seek-branches (branch p g bs) b (e, inl (r, more), inside) n rest state =
        at-role p ((group_pieces g ++ branches_pieces bs) ++ rest) state (seeking (suc n)) elif_line r
        ∙ ap (λ ps. run_flat world entering (seeking (suc n)) ps state) (three (group_pieces g) (branches_pieces bs) rest)
        ∙ seek-group g inside (suc n) (branches_pieces bs ++ rest) state
        ∙ seek-branches bs false more n rest state
    seek-branches (branch p g bs) b (e, inr (r, more), inside) n rest state =
        at-role p ((group_pieces g ++ branches_pieces bs) ++ rest) state (seeking (suc n)) else_line r
        ∙ ap (λ ps. run_flat world entering (seeking (suc n)) ps state) (three (group_pieces g) (branches_pieces bs) rest)
        ∙ seek-group g inside (suc n) (branches_pieces bs ++ rest) state
        ∙ seek-branches bs true more n rest state

  mutual
    unfolding group_pieces branches_pieces IsGroup IsBranches

    pass-group : (g : Group) → IsGroup role_of g → (n : ℕ) (rest : List Piece) (state : State) →
        run_flat world entering (passing n) (group_pieces g ++ rest) state ≡ run_flat world entering (passing n) rest state
    pass-group nothing w n rest state = refl
    pass-group (one p g) w n rest state =
        at-role p (group_pieces g ++ rest) state (passing n) single w.0 ∙ pass-group g w.1 n rest state
    pass-group (conditional p g bs after) w n rest state =
        at-role p ((group_pieces g ++ (branches_pieces bs ++ group_pieces after)) ++ rest) state (passing n) opening w.0
        ∙ ap (λ ps. run_flat world entering (passing (suc n)) ps state) (three (group_pieces g) (branches_pieces bs ++ group_pieces after) rest ∙ ap (λ ps. group_pieces g ++ ps) (three (branches_pieces bs) (group_pieces after) rest))
        ∙ pass-group g w.1 (suc n) (branches_pieces bs ++ (group_pieces after ++ rest)) state
        ∙ pass-branches bs false w.2 n (group_pieces after ++ rest) state
        ∙ pass-group after w.3 n rest state

    pass-branches : (bs : Branches) (b : Bool) → IsBranches role_of b bs → (n : ℕ) (rest : List Piece) (state : State) →
        run_flat world entering (passing (suc n)) (branches_pieces bs ++ rest) state ≡ run_flat world entering (passing n) rest state
    pass-branches (ended p) b w n rest state = at-role p rest state (passing (suc n)) endif_line w
    pass-branches (branch p g bs) b (e, inl (r, more), inside) n rest state =
        at-role p ((group_pieces g ++ branches_pieces bs) ++ rest) state (passing (suc n)) elif_line r
        ∙ ap (λ ps. run_flat world entering (passing (suc n)) ps state) (three (group_pieces g) (branches_pieces bs) rest)
        ∙ pass-group g inside (suc n) (branches_pieces bs ++ rest) state
        ∙ pass-branches bs false more n rest state
    pass-branches (branch p g bs) b (e, inr (r, more), inside) n rest state =
        at-role p ((group_pieces g ++ branches_pieces bs) ++ rest) state (passing (suc n)) else_line r
        ∙ ap (λ ps. run_flat world entering (passing (suc n)) ps state) (three (group_pieces g) (branches_pieces bs) rest)
        ∙ pass-group g inside (suc n) (branches_pieces bs ++ rest) state
        ∙ pass-branches bs true more n rest state

  leave-passing : (bs : Branches) (b : Bool) → IsBranches role_of b bs → (rest : List Piece) (state : State) →
      run_flat world entering (passing 0) (branches_pieces bs ++ rest) state ≡ run_flat world entering reading rest state
  unfolding branches_pieces IsBranches
  leave-passing (ended p) b w rest state = at-role p rest state (passing 0) endif_line w
  leave-passing (branch p g bs) b (e, inl (r, more), inside) rest state =
      at-role p ((group_pieces g ++ branches_pieces bs) ++ rest) state (passing 0) elif_line r
      ∙ ap (λ ps. run_flat world entering (passing 0) ps state) (three (group_pieces g) (branches_pieces bs) rest)
      ∙ pass-group g inside 0 (branches_pieces bs ++ rest) state
      ∙ leave-passing bs false more rest state
  leave-passing (branch p g bs) b (e, inr (r, more), inside) rest state =
      at-role p ((group_pieces g ++ branches_pieces bs) ++ rest) state (passing 0) else_line r
      ∙ ap (λ ps. run_flat world entering (passing 0) ps state) (three (group_pieces g) (branches_pieces bs) rest)
      ∙ pass-group g inside 0 (branches_pieces bs ++ rest) state
      ∙ leave-passing bs true more rest state

  -- what is left of a conditional of which a group was read
  leave : (bs : Branches) (b : Bool) → IsBranches role_of b bs → (rest : List Piece) (state : State) →
      run_flat world entering reading (branches_pieces bs ++ rest) state ≡ run_flat world entering reading rest state
  unfolding branches_pieces IsBranches
  leave (ended p) b w rest state = at-role p rest state reading endif_line w
  leave (branch p g bs) b (e, inl (r, more), inside) rest state =
      at-role p ((group_pieces g ++ branches_pieces bs) ++ rest) state reading elif_line r
      ∙ ap (λ ps. run_flat world entering (passing 0) ps state) (three (group_pieces g) (branches_pieces bs) rest)
      ∙ pass-group g inside 0 (branches_pieces bs ++ rest) state
      ∙ leave-passing bs false more rest state
  leave (branch p g bs) b (e, inr (r, more), inside) rest state =
      at-role p ((group_pieces g ++ branches_pieces bs) ++ rest) state reading else_line r
      ∙ ap (λ ps. run_flat world entering (passing 0) ps state) (three (group_pieces g) (branches_pieces bs) rest)
      ∙ pass-group g inside 0 (branches_pieces bs ++ rest) state
      ∙ leave-passing bs true more rest state

  -- the group behind a line, or the other branches, by the readings of both
  read-either : (g : Group) → IsGroup role_of g → (bs : Branches) (b : Bool) → IsBranches role_of b bs → (rest : List Piece) (holds : Bool) (x : State) →
      ((more : List Piece) (y : State) → run_flat world entering reading (group_pieces g ++ more) y
      ≡ and_then (λ z. run_flat world entering reading more z) (run_group world entering g y)) →
      ((more : List Piece) (y : State) → run_flat world entering (seeking 0) (branches_pieces bs ++ more) y
      ≡ and_then (λ z. run_flat world entering reading more z) (run_branches world entering bs y)) →
      run_flat world entering (stage_of holds) (group_pieces g ++ (branches_pieces bs ++ rest)) x
      ≡ and_then (λ y. run_flat world entering reading rest y) (group_or world entering (λ y. run_group world entering g y) (λ y. run_branches world entering bs y) holds x)
  read-either g wg bs b wb rest true x read-g read-bs =
      read-g (branches_pieces bs ++ rest) x
      ∙ then-same (λ y. run_flat world entering reading (branches_pieces bs ++ rest) y) (λ y. run_flat world entering reading rest y) (run_group world entering g x) (λ y. leave bs b wb rest y)
  read-either g wg bs b wb rest false x read-g read-bs =
      seek-group g wg 0 (branches_pieces bs ++ rest) x ∙ read-bs rest x

  -- groups that are read
  mutual
    unfolding group_pieces branches_pieces IsGroup IsBranches run_group run_branches

    pub read-group : (g : Group) → IsGroup role_of g → (rest : List Piece) (state : State) →
        run_flat world entering reading (group_pieces g ++ rest) state ≡ and_then (λ x. run_flat world entering reading rest x) (run_group world entering g state)
    read-group nothing w rest state = refl
    read-group (one p g) w rest state =
        at-role p (group_pieces g ++ rest) state reading single w.0
        ∙ then-same (λ x. run_flat world entering reading (group_pieces g ++ rest) x)
        (λ x. and_then (λ y. run_flat world entering reading rest y) (run_group world entering g x)) (piece_step world entering p state) (λ x. read-group g w.1 rest x)
        ∙ sym (then-then (λ y. run_flat world entering reading rest y) (λ x. run_group world entering g x) (piece_step world entering p state))
    read-group (conditional p g bs after) w rest state =
        at-role p ((group_pieces g ++ (branches_pieces bs ++ group_pieces after)) ++ rest) state reading opening w.0
        ∙ ap (λ ps. with_value (λ holds x. run_flat world entering (stage_of holds) ps x) (piece_test world p state))
        (three (group_pieces g) (branches_pieces bs ++ group_pieces after) rest ∙ ap (λ ps. group_pieces g ++ ps) (three (branches_pieces bs) (group_pieces after) rest))
        ∙ value-same
        (λ holds x. run_flat world entering (stage_of holds) (group_pieces g ++ (branches_pieces bs ++ (group_pieces after ++ rest))) x)
        (λ holds x. and_then (λ y. run_flat world entering reading (group_pieces after ++ rest) y)
        (group_or world entering (λ y. run_group world entering g y) (λ y. run_branches world entering bs y) holds x))
        (piece_test world p state)
        (λ holds x. read-either g w.1 bs false w.2 (group_pieces after ++ rest) holds x (λ more y. read-group g w.1 more y) (λ more y. read-branches bs false w.2 more y))
        ∙ sym (then-value (λ y. run_flat world entering reading (group_pieces after ++ rest) y)
        (λ holds x. group_or world entering (λ y. run_group world entering g y) (λ y. run_branches world entering bs y) holds x) (piece_test world p state))
        ∙ then-same (λ y. run_flat world entering reading (group_pieces after ++ rest) y)
        (λ y. and_then (λ z. run_flat world entering reading rest z) (run_group world entering after y))
        (with_value (λ holds x. group_or world entering (λ y. run_group world entering g y) (λ y. run_branches world entering bs y) holds x) (piece_test world p state))
        (λ y. read-group after w.3 rest y)
        ∙ sym (then-then (λ z. run_flat world entering reading rest z) (λ y. run_group world entering after y)
        (with_value (λ holds x. group_or world entering (λ y. run_group world entering g y) (λ y. run_branches world entering bs y) holds x) (piece_test world p state)))

    read-branches : (bs : Branches) (b : Bool) → IsBranches role_of b bs → (rest : List Piece) (state : State) →
        run_flat world entering (seeking 0) (branches_pieces bs ++ rest) state
        ≡ and_then (λ y. run_flat world entering reading rest y) (run_branches world entering bs state)
    read-branches (ended p) b w rest state = at-role p rest state (seeking 0) endif_line w
    read-branches (branch p g bs) b (e, inl (r, more), inside) rest state =
        at-role p ((group_pieces g ++ branches_pieces bs) ++ rest) state (seeking 0) elif_line r
        ∙ ap (λ ps. with_value (λ holds x. run_flat world entering (stage_of holds) ps x) (piece_test world p state)) (three (group_pieces g) (branches_pieces bs) rest)
        ∙ value-same
        (λ holds x. run_flat world entering (stage_of holds) (group_pieces g ++ (branches_pieces bs ++ rest)) x)
        (λ holds x. and_then (λ y. run_flat world entering reading rest y) (group_or world entering (λ y. run_group world entering g y) (λ y. run_branches world entering bs y) holds x))
        (piece_test world p state) (λ holds x. read-either g inside bs false more rest holds x (λ ps y. read-group g inside ps y) (λ ps y. read-branches bs false more ps y))
        ∙ sym (then-value (λ y. run_flat world entering reading rest y)
        (λ holds x. group_or world entering (λ y. run_group world entering g y) (λ y. run_branches world entering bs y) holds x) (piece_test world p state))
    read-branches (branch p g bs) b (e, inr (r, more), inside) rest state =
        at-role p ((group_pieces g ++ branches_pieces bs) ++ rest) state (seeking 0) else_line r
        ∙ ap (λ ps. with_value (λ holds x. run_flat world entering (stage_of holds) ps x) (piece_test world p state)) (three (group_pieces g) (branches_pieces bs) rest)
        ∙ value-same
        (λ holds x. run_flat world entering (stage_of holds) (group_pieces g ++ (branches_pieces bs ++ rest)) x)
        (λ holds x. and_then (λ y. run_flat world entering reading rest y) (group_or world entering (λ y. run_group world entering g y) (λ y. run_branches world entering bs y) holds x))
        (piece_test world p state) (λ holds x. read-either g inside bs true more rest holds x (λ ps y. read-group g inside ps y) (λ ps y. read-branches bs true more ps y))
        ∙ sym (then-value (λ y. run_flat world entering reading rest y)
        (λ holds x. group_or world entering (λ y. run_group world entering g y) (λ y. run_branches world entering bs y) holds x) (piece_test world p state))

  -- a whole file
  pub read-file : (g : Group) → IsGroup role_of g → (state : State) → run_flat world entering reading (group_pieces g) state ≡ run_group world entering g state
  unfolding run_flat
  read-file g w state =
      ap (λ ps. run_flat world entering reading ps state) (sym (append-nil (group_pieces g)))
      ∙ read-group g w [] state ∙ go (run_group world entering g state)
    where
      go : (s : PrepStep) → and_then (λ y. run_flat world entering reading [] y) s ≡ s
      go (Go x) = refl
      go (Stop d x) = refl

  -- pieces that aren't read, up to the next line of the conditional
  pub seek-skipped : (ps : List Piece) (n : ℕ) (state : State) → run_flat world entering (seeking n) ps state ≡ run_flat world entering (seeking 0) (skipped n ps) state
  unfolding run_flat skipped
  seek-skipped [] n state = refl
  seek-skipped (p ∷ ps) n state = go (role_of p) refl n (λ m. seek-skipped ps m state)
    where
      go : (r : Role) → role_of p ≡ r → (n : ℕ) →
          ((m : ℕ) → run_flat world entering (seeking m) ps state ≡ run_flat world entering (seeking 0) (skipped m ps) state) →
          run_flat world entering (seeking n) (p ∷ ps) state ≡ run_flat world entering (seeking 0) (skipped n (p ∷ ps)) state
      go single h n ih = rw h (ih n)
      go opening h n ih = rw h (ih (suc n))
      go elif_line h zero ih = sym (ap (λ r. run_flat world entering (seeking 0) (skip_piece (λ m. skipped m ps) (p ∷ ps) zero r) state) h)
      go else_line h zero ih = sym (ap (λ r. run_flat world entering (seeking 0) (skip_piece (λ m. skipped m ps) (p ∷ ps) zero r) state) h)
      go endif_line h zero ih = sym (ap (λ r. run_flat world entering (seeking 0) (skip_piece (λ m. skipped m ps) (p ∷ ps) zero r) state) h)
      go elif_line h (suc n) ih = rw h (ih (suc n))
      go else_line h (suc n) ih = rw h (ih (suc n))
      go endif_line h (suc n) ih = rw h (ih n)

  pub pass-skipped : (ps : List Piece) (n : ℕ) (state : State) → run_flat world entering (passing n) ps state ≡ run_flat world entering (passing 0) (skipped n ps) state
  unfolding run_flat skipped
  pass-skipped [] n state = refl
  pass-skipped (p ∷ ps) n state = go (role_of p) refl n (λ m. pass-skipped ps m state)
    where
      go : (r : Role) → role_of p ≡ r → (n : ℕ) →
          ((m : ℕ) → run_flat world entering (passing m) ps state ≡ run_flat world entering (passing 0) (skipped m ps) state) →
          run_flat world entering (passing n) (p ∷ ps) state ≡ run_flat world entering (passing 0) (skipped n (p ∷ ps)) state
      go single h n ih = rw h (ih n)
      go opening h n ih = rw h (ih (suc n))
      go elif_line h zero ih = sym (ap (λ r. run_flat world entering (passing 0) (skip_piece (λ m. skipped m ps) (p ∷ ps) zero r) state) h)
      go else_line h zero ih = sym (ap (λ r. run_flat world entering (passing 0) (skip_piece (λ m. skipped m ps) (p ∷ ps) zero r) state) h)
      go endif_line h zero ih = sym (ap (λ r. run_flat world entering (passing 0) (skip_piece (λ m. skipped m ps) (p ∷ ps) zero r) state) h)
      go elif_line h (suc n) ih = rw h (ih (suc n))
      go else_line h (suc n) ih = rw h (ih (suc n))
      go endif_line h (suc n) ih = rw h (ih n)
