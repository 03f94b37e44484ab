-- The pieces of a text after phases 1 and 2, one at a time.
use Rattle.std.specs.Prelude.{◌≡◌, ℕ, ◌+◌, ◌≤◌, ◌<◌, Bool, true, false, cond, not, ◌&&◌, ◌||◌, List, [], ◌∷◌, ◌++◌, length, drop, refl, ◌==◌, nat_eq, Option, None, ◌⊎◌}
use Rattle.std.specs.List.{list_all, starts_with}
use Rattle.std.proofs.Common.{sym, ◌∙◌, ap, inl, inr, subst, arith}
use Rattle.std.proofs.lemmas.List.{drop-append-le, drop-drop}
use Rattle.std.proofs.lemmas.Bool.{and_parts, and_right}
use Rattle.pp_tokens.specs.Phases.{Cell, cell, with_newlines, numbered, without_trigraphs, spliced}
use Rattle.pp_tokens.specs.parts.Pieces.{characters, source_from, newline_length, front_trigraph, or_byte, front_character, is_kept, line_behind}
use Rattle.pp_tokens.proofs.Fronts.{byte_front, newline_front, character_front, character_visible}

-- WHAT IS SPLICED

not_backslash : (c : Cell) (cs : List Cell) → (c.byte == 92) ≡ false → spliced (c ∷ cs) ≡ c ∷ spliced cs
unfolding spliced
not_backslash c [] h = refl
not_backslash c (d ∷ cs) h = rw h refl

not_before_newline : (c d : Cell) (cs : List Cell) → (d.byte == 10) ≡ false → spliced (c ∷ d ∷ cs) ≡ c ∷ spliced (d ∷ cs)
unfolding spliced
not_before_newline c d cs h =
    let n : ((c.byte == 92) && (d.byte == 10)) ≡ false = and_right (c.byte == 92) (d.byte == 10) h in
    rw n refl

a_splice : (x line : ℕ) (cs : List Cell) → (x == 92) ≡ true → spliced (cell x line ∷ cell 10 line ∷ cs) ≡ spliced cs
unfolding spliced
a_splice x line cs h = rw h refl

-- nothing is left at the end
characters_end : (trigraphs : Bool) (line : ℕ) → characters trigraphs line [] ≡ []
unfolding characters with_newlines numbered without_trigraphs
characters_end true line = refl
characters_end false line = refl

pub source_end : (trigraphs : Bool) (line : ℕ) → source_from trigraphs line [] ≡ []
unfolding source_from spliced
source_end trigraphs line = ap spliced (characters_end trigraphs line)

alone : (c : Cell) → spliced (c ∷ []) ≡ c ∷ spliced []
unfolding spliced
alone c = refl

-- a character that no newline follows stays
stays_before : (trigraphs : Bool) (line x : ℕ) (behind : List ℕ) → newline_length behind ≡ 0
    → spliced (cell x line ∷ characters trigraphs line behind) ≡ cell x line ∷ spliced (characters trigraphs line behind)
stays_before trigraphs line x [] none = last (characters trigraphs line []) (characters_end trigraphs line)
  where
    last : (cs : List Cell) → cs ≡ [] → spliced (cell x line ∷ cs) ≡ cell x line ∷ spliced cs
    last cs is = subst (λ (l : List Cell). spliced (cell x line ∷ l) ≡ cell x line ∷ spliced l) (sym is) (alone (cell x line))
stays_before trigraphs line x (d ∷ ds) none =
    let next = character_front trigraphs line d ds none in
    subst (λ (l : List Cell). spliced (cell x line ∷ l) ≡ cell x line ∷ spliced l) (sym next)
    (not_before_newline (cell x line) (cell (front_character trigraphs (d ∷ ds)).0 line) (characters trigraphs line (drop (front_character trigraphs (d ∷ ds)).1 (d ∷ ds))) (character_visible trigraphs d ds none))

-- PIECES OF A REST BEHIND WHICH THE LAST NEWLINE STANDS

pub newline_piece : (trigraphs : Bool) (line n : ℕ) (rest : List ℕ) → n ≡ newline_length rest → 0 < n
    → source_from trigraphs line rest ≡ cell 10 line ∷ source_from trigraphs (line + 1) (drop n rest)
unfolding source_from
newline_piece trigraphs line n rest is some =
    let front = newline_front trigraphs line rest (omega (arith, is)) in
    ap spliced front
    ∙ not_backslash (cell 10 line) (characters trigraphs (line + 1) (drop (newline_length rest) rest)) refl
    ∙ ap (λ k. cell 10 line ∷ spliced (characters trigraphs (line + 1) (drop k rest))) (sym is)

character_piece : (trigraphs : Bool) (line b : ℕ) (bs : List ℕ) → newline_length (b ∷ bs) ≡ 0
    → (((front_character trigraphs (b ∷ bs)).0 == 92) ≡ false) ⊎ (newline_length (drop (front_character trigraphs (b ∷ bs)).1 (b ∷ bs)) ≡ 0)
    → source_from trigraphs line (b ∷ bs)
    ≡ cell (front_character trigraphs (b ∷ bs)).0 line ∷ source_from trigraphs line (drop (front_character trigraphs (b ∷ bs)).1 (b ∷ bs))
unfolding source_from
character_piece trigraphs line b bs none why =
    let x = (front_character trigraphs (b ∷ bs)).0 in
    let behind = drop (front_character trigraphs (b ∷ bs)).1 (b ∷ bs) in
    ap spliced (character_front trigraphs line b bs none)
    ∙ elim why as (λ _. spliced (cell x line ∷ characters trigraphs line behind) ≡ cell x line ∷ spliced (characters trigraphs line behind)) [
      | inl other ↦ not_backslash (cell x line) (characters trigraphs line behind) other
      | inr apart ↦ stays_before trigraphs line x behind apart
    ]

splice_piece : (trigraphs : Bool) (line b : ℕ) (bs : List ℕ) → newline_length (b ∷ bs) ≡ 0 → ((front_character trigraphs (b ∷ bs)).0 == 92) ≡ true
    → 0 < newline_length (drop (front_character trigraphs (b ∷ bs)).1 (b ∷ bs))
    → source_from trigraphs line (b ∷ bs)
    ≡ source_from trigraphs (line + 1) (drop (newline_length (drop (front_character trigraphs (b ∷ bs)).1 (b ∷ bs))) (drop (front_character trigraphs (b ∷ bs)).1 (b ∷ bs)))
unfolding source_from
splice_piece trigraphs line b bs none backslash some =
    let x = (front_character trigraphs (b ∷ bs)).0 in
    let behind = drop (front_character trigraphs (b ∷ bs)).1 (b ∷ bs) in
    ap spliced (character_front trigraphs line b bs none)
    ∙ ap (λ (l : List Cell). spliced (cell x line ∷ l)) (newline_front trigraphs line behind some)
    ∙ a_splice x line (characters trigraphs (line + 1) (drop (newline_length behind) behind)) backslash

-- The last newline is part of no trigraph.
trigraph_within : (rest : List ℕ) → front_trigraph (rest ++ (10 ∷ [])) ≡ front_trigraph rest
unfolding front_trigraph
trigraph_within [] = refl
trigraph_within (a ∷ []) = refl
trigraph_within (a ∷ b ∷ []) = same ((a == 63) && (b == 63))
  where
    same : (t : Bool) → ◌≡◌ {A = Option ℕ} (cond t None None) None
    same true = refl
    same false = refl
trigraph_within (a ∷ b ∷ c ∷ cs) = refl

character_within : (trigraphs : Bool) (b : ℕ) (bs : List ℕ) → front_character trigraphs (b ∷ (bs ++ (10 ∷ []))) ≡ front_character trigraphs (b ∷ bs)
unfolding front_character
character_within false b bs = refl
character_within true b bs = ap (λ (o : Option ℕ). or_byte o b) (trigraph_within (b ∷ bs))

-- a rest without a newline at its front isn't at its end
pub some_rest : (rest : List ℕ) → newline_length (rest ++ (10 ∷ [])) ≡ 0 → 0 < length rest
unfolding newline_length
some_rest [] none = absurd (omega arith)
some_rest (b ∷ bs) none = omega arith

rest_visible : (trigraphs : Bool) (rest : List ℕ) → newline_length (rest ++ (10 ∷ [])) ≡ 0 → ((front_character trigraphs rest).0 == 10) ≡ false
unfolding newline_length
rest_visible trigraphs [] none = absurd (omega arith)
rest_visible trigraphs (b ∷ bs) none =
    ap (λ (p : ℕ × ℕ). p.0 == 10) (sym (character_within trigraphs b bs)) ∙ character_visible trigraphs b (bs ++ (10 ∷ [])) none

rest_character : (trigraphs : Bool) (line : ℕ) (rest : List ℕ) → newline_length (rest ++ (10 ∷ [])) ≡ 0 → (front_character trigraphs rest).1 ≤ length rest
    → (((front_character trigraphs rest).0 == 92) ≡ false) ⊎ (newline_length (drop (front_character trigraphs rest).1 rest ++ (10 ∷ [])) ≡ 0)
    → source_from trigraphs line (rest ++ (10 ∷ []))
    ≡ cell (front_character trigraphs rest).0 line ∷ source_from trigraphs line (drop (front_character trigraphs rest).1 (rest ++ (10 ∷ [])))
rest_character trigraphs line [] none within why = absurd (let some = some_rest [] none in omega arith)
rest_character trigraphs line (b ∷ bs) none within why =
    let same = character_within trigraphs b bs in
    let behind : drop (front_character trigraphs (b ∷ bs)).1 (b ∷ (bs ++ (10 ∷ []))) ≡ drop (front_character trigraphs (b ∷ bs)).1 (b ∷ bs) ++ (10 ∷ []) =
    drop-append-le (front_character trigraphs (b ∷ bs)).1 (b ∷ bs) (10 ∷ []) within in
    let whole : (((front_character trigraphs (b ∷ bs)).0 == 92) ≡ false) ⊎ (newline_length (drop (front_character trigraphs (b ∷ bs)).1 (b ∷ (bs ++ (10 ∷ [])))) ≡ 0) =
    elim why [
      | inl other ↦ inl other
      | inr apart ↦ inr (ap newline_length behind ∙ apart)
    ] in
    subst (λ (p : ℕ × ℕ). ((p.0 == 92) ≡ false) ⊎ (newline_length (drop p.1 (b ∷ (bs ++ (10 ∷ [])))) ≡ 0)
    → source_from trigraphs line (b ∷ (bs ++ (10 ∷ []))) ≡ cell p.0 line ∷ source_from trigraphs line (drop p.1 (b ∷ (bs ++ (10 ∷ [])))))
    same (character_piece trigraphs line b (bs ++ (10 ∷ [])) none) whole

rest_splice : (trigraphs : Bool) (line : ℕ) (rest : List ℕ) → newline_length (rest ++ (10 ∷ [])) ≡ 0 → (front_character trigraphs rest).1 ≤ length rest
    → ((front_character trigraphs rest).0 == 92) ≡ true → (m : ℕ) → m ≡ newline_length (drop (front_character trigraphs rest).1 rest ++ (10 ∷ [])) → 0 < m
    → source_from trigraphs line (rest ++ (10 ∷ [])) ≡ source_from trigraphs (line + 1) (drop ((front_character trigraphs rest).1 + m) (rest ++ (10 ∷ [])))
rest_splice trigraphs line [] none within backslash m is some = absurd (let more = some_rest [] none in omega arith)
rest_splice trigraphs line (b ∷ bs) none within backslash m is some =
    let n = (front_character trigraphs (b ∷ bs)).1 in
    let all = b ∷ (bs ++ (10 ∷ [])) in
    let same = character_within trigraphs b bs in
    let behind : drop n all ≡ drop n (b ∷ bs) ++ (10 ∷ []) = drop-append-le n (b ∷ bs) (10 ∷ []) within in
    let size : newline_length (drop n all) ≡ m = ap newline_length behind ∙ sym is in
    let there : 0 < newline_length (drop n all) = omega (arith, size) in
    subst (λ (p : ℕ × ℕ). (p.0 == 92) ≡ true → 0 < newline_length (drop p.1 all)
    → source_from trigraphs line all ≡ source_from trigraphs (line + 1) (drop (newline_length (drop p.1 all)) (drop p.1 all)))
    same (splice_piece trigraphs line b (bs ++ (10 ∷ [])) none) backslash there
    ∙ ap (λ k. source_from trigraphs (line + 1) (drop k (drop n all))) size
    ∙ ap (source_from trigraphs (line + 1)) (drop-drop m n all)

-- The same for a character and a rest behind it that have been read.
module _ (trigraphs : Bool) (line : ℕ) (rest : List ℕ) (read : ℕ × ℕ) (is_read : read ≡ front_character trigraphs rest) (none : newline_length (rest ++ (10 ∷ [])) ≡ 0) (within : read.1 ≤ length rest) where
  fits : (front_character trigraphs rest).1 ≤ length rest
  fits = subst (λ (p : ℕ × ℕ). p.1 ≤ length rest) is_read within

  pub read_character : (((read.0 == 92) ≡ false) ⊎ (newline_length (drop read.1 rest ++ (10 ∷ [])) ≡ 0))
      → source_from trigraphs line (rest ++ (10 ∷ [])) ≡ cell read.0 line ∷ source_from trigraphs (cond (read.0 == 10) (line + 1) line) (drop read.1 (rest ++ (10 ∷ [])))
  read_character why =
      let visible : (read.0 == 10) ≡ false = ap (λ (p : ℕ × ℕ). p.0 == 10) is_read ∙ rest_visible trigraphs rest none in
      let front : source_from trigraphs line (rest ++ (10 ∷ [])) ≡ cell read.0 line ∷ source_from trigraphs line (drop read.1 (rest ++ (10 ∷ []))) =
      subst (λ (p : ℕ × ℕ). (((p.0 == 92) ≡ false) ⊎ (newline_length (drop p.1 rest ++ (10 ∷ [])) ≡ 0))
      → source_from trigraphs line (rest ++ (10 ∷ [])) ≡ cell p.0 line ∷ source_from trigraphs line (drop p.1 (rest ++ (10 ∷ []))))
      (sym is_read) (rest_character trigraphs line rest none fits) why in
      front ∙ ap (λ (t : Bool). cell read.0 line ∷ source_from trigraphs (cond t (line + 1) line) (drop read.1 (rest ++ (10 ∷ [])))) (sym visible)

  pub read_splice : (read.0 == 92) ≡ true → (m : ℕ) → m ≡ newline_length (drop read.1 rest ++ (10 ∷ [])) → 0 < m
      → source_from trigraphs line (rest ++ (10 ∷ [])) ≡ source_from trigraphs (line + 1) (drop (read.1 + m) (rest ++ (10 ∷ [])))
  read_splice =
      subst (λ (p : ℕ × ℕ). (p.0 == 92) ≡ true → (m : ℕ) → m ≡ newline_length (drop p.1 rest ++ (10 ∷ [])) → 0 < m
      → source_from trigraphs line (rest ++ (10 ∷ [])) ≡ source_from trigraphs (line + 1) (drop (p.1 + m) (rest ++ (10 ∷ []))))
      (sym is_read) (rest_splice trigraphs line rest none fits)

-- A RUN OF BYTES THAT STAY

none_holds : (r s q : Bool) → not (r || (s || q)) ≡ true → (r ≡ false) × (s ≡ false) × (q ≡ false)
none_holds false false false h = (refl, refl, refl)
none_holds false false true h = absurd (cc)
none_holds false true q h = absurd (cc)
none_holds true s q h = absurd (cc)

pub kept_front : (trigraphs : Bool) (line b : ℕ) (bs : List ℕ) → is_kept trigraphs b ≡ true
    → source_from trigraphs line (b ∷ bs) ≡ cell b line ∷ source_from trigraphs (cond (b == 10) (line + 1) line) bs
unfolding source_from
kept_front trigraphs line b bs kept =
    let apart = none_holds (b == 13) (b == 92) (trigraphs && (b == 63)) kept in
    ap spliced (byte_front trigraphs line b bs (ap (λ t. t && starts_with nat_eq bs (10 ∷ [])) apart.0) apart.2)
    ∙ not_backslash (cell b line) (characters trigraphs (cond (b == 10) (line + 1) line) bs) apart.1

-- a backslash that no newline follows
pub backslash_front : (trigraphs : Bool) (line : ℕ) (behind : List ℕ) → newline_length behind ≡ 0
    → source_from trigraphs line (92 ∷ behind) ≡ cell 92 line ∷ source_from trigraphs line behind
unfolding source_from
backslash_front trigraphs line behind none =
    ap spliced (byte_front trigraphs line 92 behind refl (and_right trigraphs false refl)) ∙ stays_before trigraphs line 92 behind none

pub kept_run : (trigraphs : Bool) (line : ℕ) (run rest : List ℕ) → list_all (is_kept trigraphs) run ≡ true
    → source_from trigraphs line (run ++ rest) ≡ numbered line run ++ source_from trigraphs (line_behind line run) rest
unfolding numbered line_behind
kept_run trigraphs line [] rest kept = refl
kept_run trigraphs line (b ∷ bs) rest kept =
    let both = and_parts (is_kept trigraphs b) (list_all (is_kept trigraphs) bs) kept in
    kept_front trigraphs line b (bs ++ rest) both.0
    ∙ ap (λ (l : List Cell). cell b line ∷ l) (kept_run trigraphs (cond (b == 10) (line + 1) line) bs rest both.1)
