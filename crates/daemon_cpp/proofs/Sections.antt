-- Where an if-section goes on.
use Rattle.std.proofs.Common.{◌≡◌, ◌⊎◌, inl, inr, ℕ, zero, suc, ◌+◌, ◌<◌, ◌≤◌, Bool, true, false, List, [], ◌∷◌, length, drop, get_or, Ok, Err, refl, ap, sym, ◌∙◌, subst, true≢false}
use Rattle.std.proofs.lemmas.List.{drop_all, drop_more}
use Rattle.directive_scan.specs.declared.Piece.{Piece}
use Rattle.directive_scan.specs.Groups.{Role, single, opening, elif_line, else_line, endif_line, role_of}
use Rattle.tree_model.specs.Paths.{Path}
use Rattle.daemon_cpp.specs.declared.kept.Kept.{Kept}
use Rattle.daemon_cpp.specs.declared.stop.Stop.{Stop}
use Rattle.daemon_cpp.specs.declared.stop.Stop.TheVariants as stop
use Rattle.daemon_cpp.specs.Prep.{World, Entering, Here, State, PrepStep, with_value, piece_test}
use Rattle.daemon_cpp.specs.parts.Reading.{ReadingStage, run_flat, reading, seeking, passing, stage_of, skipped, skip_piece, is_endif}
use Rattle.daemon_cpp.specs.parts.Showing.{Leads, Seeks, SeeksLine, GoesOnAt, StopsWith}
use Rattle.daemon_cpp.proofs.Flat.{at-role, seek-skipped, pass-skipped}
use Rattle.daemon_cpp.proofs.Skipping.{filler}
use Rattle.daemon_cpp.proofs.Steps.{ends-step}

-- what is skipped to is a line of the conditional
abbrev IsLine : Piece → Type 0
IsLine p = (role_of p ≡ elif_line) ⊎ ((role_of p ≡ else_line) ⊎ (role_of p ≡ endif_line))

same-head : (p q : Piece) (ps qs : List Piece) → q ∷ qs ≡ p ∷ ps → q ≡ p
same-head p q ps qs h = cc

head-line : (xs : List Piece) (n : ℕ) (p : Piece) (ps : List Piece) → skipped n xs ≡ p ∷ ps → IsLine p
unfolding skipped
head-line [] n p ps h = absurd (cc)
head-line (q ∷ qs) n p ps h = go (role_of q) refl n h (λ m k. head-line qs m p ps k)
  where
    go : (r : Role) → role_of q ≡ r → (n : ℕ) → skip_piece (λ m. skipped m qs) (q ∷ qs) n (role_of q) ≡ p ∷ ps →
        ((m : ℕ) → skipped m qs ≡ p ∷ ps → IsLine p) → IsLine p
    go single is n h ih = ih n (sym (ap (skip_piece (λ m. skipped m qs) (q ∷ qs) n) is) ∙ h)
    go opening is n h ih = ih (suc n) (sym (ap (skip_piece (λ m. skipped m qs) (q ∷ qs) n) is) ∙ h)
    go elif_line is zero h ih = inl (subst (λ x. role_of x ≡ elif_line) (same-head p q ps qs (sym (ap (skip_piece (λ m. skipped m qs) (q ∷ qs) zero) is) ∙ h)) is)
    go else_line is zero h ih = inr (inl (subst (λ x. role_of x ≡ else_line) (same-head p q ps qs (sym (ap (skip_piece (λ m. skipped m qs) (q ∷ qs) zero) is) ∙ h)) is))
    go endif_line is zero h ih = inr (inr (subst (λ x. role_of x ≡ endif_line) (same-head p q ps qs (sym (ap (skip_piece (λ m. skipped m qs) (q ∷ qs) zero) is) ∙ h)) is))
    go elif_line is (suc n) h ih = ih (suc n) (sym (ap (skip_piece (λ m. skipped m qs) (q ∷ qs) (suc n)) is) ∙ h)
    go else_line is (suc n) h ih = ih (suc n) (sym (ap (skip_piece (λ m. skipped m qs) (q ∷ qs) (suc n)) is) ∙ h)
    go endif_line is (suc n) h ih = ih n (sym (ap (skip_piece (λ m. skipped m qs) (q ∷ qs) (suc n)) is) ∙ h)

-- a line that is no endif is one of another group
branch-line : (p : Piece) → is_endif (role_of p) ≡ false → IsLine p → (role_of p ≡ elif_line) ⊎ (role_of p ≡ else_line)
branch-line p not (inl h) = inl h
branch-line p not (inr (inl h)) = inr h
branch-line p not (inr (inr h)) = absurd (true≢false (sym (ap is_endif h) ∙ not))

endif-role : (r : Role) → is_endif r ≡ true → r ≡ endif_line
endif-role endif_line is = refl
endif-role single is = absurd (true≢false (sym is))
endif-role opening is = absurd (true≢false (sym is))
endif-role elif_line is = absurd (true≢false (sym is))
endif-role else_line is = absurd (true≢false (sym is))

module _ (world : World) (entering : Entering) (pieces : List Piece) (from line : ℕ) (rest : drop line pieces ≡ skipped 0 (drop from pieces)) where
  to-line : (state : State) → run_flat world entering (seeking 0) (drop from pieces) state ≡ run_flat world entering (seeking 0) (drop line pieces) state
  to-line state = seek-skipped world entering (drop from pieces) 0 state ∙ ap (λ ps. run_flat world entering (seeking 0) ps state) (sym rest)

  pass-line : (state : State) → run_flat world entering (passing 0) (drop from pieces) state ≡ run_flat world entering (passing 0) (drop line pieces) state
  pass-line state = pass-skipped world entering (drop from pieces) 0 state ∙ ap (λ ps. run_flat world entering (passing 0) ps state) (sym rest)

  -- the end of the file
  seek-end : (state : State) → length pieces ≤ line → run_flat world entering (seeking 0) (drop from pieces) state ≡ run_flat world entering reading (drop line pieces) state
  unfolding run_flat
  seek-end state past = to-line state ∙ rw (drop_all line pieces past) refl

  pub pass-end : (state : State) → length pieces ≤ line → run_flat world entering (passing 0) (drop from pieces) state ≡ run_flat world entering reading (drop line pieces) state
  unfolding run_flat
  pass-end state past = pass-line state ∙ rw (drop_all line pieces past) refl

  module _ (r : Role) (within : line < length pieces) (role : (q : Piece) → r ≡ role_of (get_or pieces line q)) where
    parted : (p : Piece) → drop line pieces ≡ get_or pieces line p ∷ drop (line + 1) pieces
    parted p = drop_more pieces line p within

    branch-at : (p : Piece) → is_endif r ≡ false → (role_of (get_or pieces line p) ≡ elif_line) ⊎ (role_of (get_or pieces line p) ≡ else_line)
    branch-at p not =
        branch-line (get_or pieces line p) (sym (ap is_endif (role p)) ∙ not)
        (head-line (drop from pieces) 0 (get_or pieces line p) (drop (line + 1) pieces) (sym rest ∙ parted p))

    -- the endif
    seek-endif : (state : State) → is_endif r ≡ true →
        run_flat world entering (seeking 0) (drop from pieces) state ≡ run_flat world entering reading (drop (line + 1) pieces) state
    seek-endif state same =
        to-line state ∙ ap (λ ps. run_flat world entering (seeking 0) ps state) (parted filler)
        ∙ at-role world entering (get_or pieces line filler) (drop (line + 1) pieces) state (seeking 0) endif_line (sym (role filler) ∙ endif-role r same)

    pub pass-endif : (state : State) → is_endif r ≡ true →
        run_flat world entering (passing 0) (drop from pieces) state ≡ run_flat world entering reading (drop (line + 1) pieces) state
    pass-endif state same =
        pass-line state ∙ ap (λ ps. run_flat world entering (passing 0) ps state) (parted filler)
        ∙ at-role world entering (get_or pieces line filler) (drop (line + 1) pieces) state (passing 0) endif_line (sym (role filler) ∙ endif-role r same)

    -- the line of another group
    by-test : (p : Piece) (state : State) → (role_of p ≡ elif_line) ⊎ (role_of p ≡ else_line) →
        run_flat world entering (seeking 0) (p ∷ drop (line + 1) pieces) state
        ≡ with_value (λ holds after. run_flat world entering (stage_of holds) (drop (line + 1) pieces) after) (piece_test world p state)
    by-test p state (inl h) = at-role world entering p (drop (line + 1) pieces) state (seeking 0) elif_line h
    by-test p state (inr h) = at-role world entering p (drop (line + 1) pieces) state (seeking 0) else_line h

    seek-test : (p : Piece) (state : State) → p ≡ get_or pieces line p → is_endif r ≡ false →
        run_flat world entering (seeking 0) (drop from pieces) state
        ≡ with_value (λ holds after. run_flat world entering (stage_of holds) (drop (line + 1) pieces) after) (piece_test world p state)
    seek-test p state is not =
        to-line state ∙ ap (λ ps. run_flat world entering (seeking 0) ps state) (parted p)
        ∙ by-test (get_or pieces line p) state (branch-at p not)
        ∙ ap (λ q. with_value (λ holds after. run_flat world entering (stage_of holds) (drop (line + 1) pieces) after) (piece_test world q state)) (sym is)

    pass-by : (p : Piece) (state : State) → (role_of p ≡ elif_line) ⊎ (role_of p ≡ else_line) →
        run_flat world entering (passing 0) (p ∷ drop (line + 1) pieces) state ≡ run_flat world entering (passing 0) (drop (line + 1) pieces) state
    pass-by p state (inl h) = at-role world entering p (drop (line + 1) pieces) state (passing 0) elif_line h
    pass-by p state (inr h) = at-role world entering p (drop (line + 1) pieces) state (passing 0) else_line h

    pub pass-more : (state : State) → is_endif r ≡ false →
        run_flat world entering (passing 0) (drop from pieces) state ≡ run_flat world entering (passing 0) (drop (line + 1) pieces) state
    pass-more state not =
        pass-line state ∙ ap (λ ps. run_flat world entering (passing 0) ps state) (parted filler)
        ∙ pass-by (get_or pieces line filler) state (branch-at filler not)

-- ---- by what is kept ----

module _ (world : World) (pieces : List Piece) (main : Path) (file : Here) where
  module _ (from line : ℕ) (rest : drop line pieces ≡ skipped 0 (drop from pieces)) where
    pub at-end : (kept : Kept) → length pieces ≤ line →
        GoesOnAt kept kept main file world pieces (λ entering state. run_flat world entering (seeking 0) (drop from pieces) state) reading line
    at-end kept past = λ entering state shows. (state, (seek-end world entering pieces from line rest state past, shows))

    module _ (r : Role) (within : line < length pieces) (role : (q : Piece) → r ≡ role_of (get_or pieces line q)) where
      pub at-endif : (kept : Kept) → is_endif r ≡ true →
          GoesOnAt kept kept main file world pieces (λ entering state. run_flat world entering (seeking 0) (drop from pieces) state) reading (line + 1)
      at-endif kept is = λ entering state shows. (state, (seek-endif world entering pieces from line rest r within role state is, shows))

      module _ (old new : Kept) (p : Piece) (is : p ≡ get_or pieces line p) (not : is_endif r ≡ false) where
        pub at-test : (holds : Bool) → Leads old new main file (λ state. piece_test world p state) (Ok holds) →
            GoesOnAt old new main file world pieces (λ entering state. run_flat world entering (seeking 0) (drop from pieces) state) (stage_of holds) (line + 1)
        at-test holds leads = λ entering state shows.
            let one = leads state shows in (
              one.0,
              (
                seek-test world entering pieces from line rest r within role p state is not
                    ∙ ap (with_value (λ b after. run_flat world entering (stage_of b) (drop (line + 1) pieces) after)) one.1.0,
                one.1.1,
              ),
            )

        pub test-stops : (e : Stop) → Leads old new main file (λ state. piece_test world p state) (Err e) →
            SeeksLine old new main file world pieces (λ entering state. run_flat world entering (seeking 0) (drop from pieces) state) (Err e)
        test-stops (stop.Ended words) leads = λ entering state shows.
            subst (λ s. StopsWith words new.opened s) (sym (seek-test world entering pieces from line rest r within role p state is not))
            (ends-step (λ b after. run_flat world entering (stage_of b) (drop (line + 1) pieces) after) words new.opened (piece_test world p state) (leads state shows))
        test-stops stop.Fault leads = tt
        test-stops stop.Memory leads = tt

  -- one line after another
  module _ (old mid new : Kept) (step : Entering → State → PrepStep) (next : ℕ)
      (first : GoesOnAt old mid main file world pieces step (seeking 0) next) where
    pub line-on : (stage : ReadingStage) (n : ℕ) →
        GoesOnAt mid new main file world pieces (λ entering state. run_flat world entering (seeking 0) (drop next pieces) state) stage n →
        GoesOnAt old new main file world pieces step stage n
    line-on stage n then = λ entering state shows.
        let one = first entering state shows in
        let two = then entering one.0 one.1.1 in
        (two.0, (one.1.0 ∙ two.1.0, two.1.1))

    pub line-stops : (e : Stop) →
        SeeksLine mid new main file world pieces (λ entering state. run_flat world entering (seeking 0) (drop next pieces) state) (Err e) →
        Seeks old new main file world pieces step (Err e)
    line-stops (stop.Ended words) then = λ entering state shows.
        let one = first entering state shows in
        subst (λ s. StopsWith words new.opened s) (sym one.1.0) (then entering one.0 one.1.1)
    line-stops stop.Fault then = tt
    line-stops stop.Memory then = tt
