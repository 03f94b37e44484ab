-- What a file asks for comes of its directives as far as they may ask for a file.
use Rattle.std.proofs.Common.{◌≡◌, ◌∷◌, [], ◌++◌, ℕ, Bool, true, false, ◌||◌, List, map, Option, cond, refl, sym, ap, ◌∙◌}
use Rattle.std.specs.Prelude.{codes, bytes_eq}
use Rattle.std.specs.List.{filter_map, flat_map, list_any}
use Rattle.pp_tokens.specs.declared.Token.{Token}
use Rattle.pp_tokens.specs.Lines.{spells_hash}
use Rattle.pp_tokens.specs.DirectiveLines.{may_ask, may_tell, kept_line}
use Rattle.directive_scan.specs.declared.Directive.{Directive}
use Rattle.directive_scan.specs.declared.Directive.TheVariants as named
use Rattle.directive_scan.specs.declared.Piece.{Piece}
use Rattle.directive_scan.specs.declared.Piece.TheVariants.{Run, Line}
use Rattle.directive_scan.specs.Directives.{pieces, directives, directive_named, directive_of, pragma_of, named_in, line_before, onto_run}
use Rattle.search_path.specs.Search.{Hit}
use Rattle.search_path.specs.declared.asking.Ask.{Ask}
use Rattle.search_path.specs.declared.asking.Visit.{Visit}
use Rattle.sheet_build.specs.Sheet.{AskedTarget, plain_hit, computed_of, includes_of, probes_of, includes_in, probes_in, is_line, is_line_directive}
use Rattle.sheet_build.specs.parts.Stored.{asked_from}

-- ONE DIRECTIVE

-- it asks for nothing
record Silent (a : Directive) : Type 0 where
  includes : includes_of a ≡ []
  probes : probes_of a ≡ []
  line : is_line_directive a ≡ false

silent : (a : Directive) → includes_of a ≡ [] → probes_of a ≡ [] → is_line_directive a ≡ false → Silent a
silent a includes probes line = record { includes = includes; probes = probes; line = line }

-- so does each directive that may have the name
abbrev EachSilent : List ℕ → List Token → List (List ℕ × (List Token → Directive)) → Type 0
EachSilent name ts [] = Unit {0}
EachSilent name ts (row ∷ rows) = (bytes_eq name row.0 ≡ true → Silent (row.1 ts)) × EachSilent name ts rows

rows_silent : (name : List ℕ) (ts : List Token) (rows : List (List ℕ × (List Token → Directive))) → EachSilent name ts rows → Silent (named_in rows name ts)
rows_silent name ts [] each = silent named.Unknown refl refl refl
rows_silent name ts (row ∷ rows) (first, others) = by_test (bytes_eq name row.0) refl (rows_silent name ts rows others)
  where
    by_test : (t : Bool) → bytes_eq name row.0 ≡ t → Silent (named_in rows name ts) → Silent (cond t (row.1 ts) (named_in rows name ts))
    by_test true e behind = first e
    by_test false e behind = behind

pragma_silent : (ts : List Token) → Silent (pragma_of ts)
unfolding pragma_of
pragma_silent [] = silent (named.Pragma []) refl refl refl
pragma_silent (t ∷ ts) = by_test (bytes_eq t.text (codes "once"))
  where
    by_test : (b : Bool) → Silent (cond b named.Once (named.Pragma (t ∷ ts)))
    by_test true = silent named.Once refl refl refl
    by_test false = silent (named.Pragma (t ∷ ts)) refl refl refl

-- neither of two tests
no_or : (a b : Bool) → (a || b) ≡ false → (a ≡ false) × (b ≡ false)
no_or true b h = absurd (cc)
no_or false b h = (refl, h)

not_both : (b : Bool) → b ≡ false → b ≡ true → ⊥
not_both b none all = let wrong : false ≡ true = sym none ∙ all in cc

-- a name that may tell something is one of five
other_directive : (name : List ℕ) (ts : List Token) → may_tell name ≡ false → Silent (directive_named name ts)
unfolding directive_named
other_directive name ts none =
    let parts = no_or (may_ask name) (bytes_eq name (codes "line")) none in
    let halves = no_or (bytes_eq name (codes "include") || bytes_eq name (codes "include_next")) (bytes_eq name (codes "if") || bytes_eq name (codes "elif")) parts.0 in
    let includes = no_or (bytes_eq name (codes "include")) (bytes_eq name (codes "include_next")) halves.0 in
    let tests = no_or (bytes_eq name (codes "if")) (bytes_eq name (codes "elif")) halves.1 in
    rows_silent name ts directives (
      (λ h. absurd (not_both (bytes_eq name (codes "include")) includes.0 h)),
      (
        (λ h. absurd (not_both (bytes_eq name (codes "include_next")) includes.1 h)),
        (
          (λ h. silent (named.Define ts) refl refl refl),
          (
            (λ h. silent (named.Undef ts) refl refl refl),
            (
              (λ h. absurd (not_both (bytes_eq name (codes "if")) tests.0 h)),
              (
                (λ h. silent (named.Ifdef ts) refl refl refl),
                (
                  (λ h. silent (named.Ifndef ts) refl refl refl),
                  (
                    (λ h. absurd (not_both (bytes_eq name (codes "elif")) tests.1 h)),
                    (
                      (λ h. silent named.Else refl refl refl),
                      (
                        (λ h. silent named.Endif refl refl refl),
                        (
                          (λ h. absurd (not_both (bytes_eq name (codes "line")) parts.1 h)),
                          (
                            (λ h. silent (named.Error ts) refl refl refl),
                            (
                              (λ h. silent named.Warning refl refl refl),
                              ((λ h. pragma_silent ts), tt),
                            ),
                          ),
                        ),
                      ),
                    ),
                  ),
                ),
              ),
            ),
          ),
        ),
      ),
    )

-- ALL LINES

-- runs add nothing to what comes of pieces, nor do directives that ask for nothing
record Folds {A : Type 0} (of_pieces : List Piece → A) : Type 0 where
  run : (tokens : List Token) (ps : List Piece) → of_pieces (Run tokens ∷ ps) ≡ of_pieces ps
  line : (at : ℕ) (a : Directive) (ps qs : List Piece) → of_pieces ps ≡ of_pieces qs → of_pieces (Line at a ∷ ps) ≡ of_pieces (Line at a ∷ qs)
  none : (at : ℕ) (a : Directive) (ps : List Piece) → Silent a → of_pieces (Line at a ∷ ps) ≡ of_pieces ps

text_adds_nothing : {A : Type 0} → (of_pieces : List Piece → A) → Folds of_pieces → (line : List Token) (ps : List Piece) → of_pieces (onto_run line ps) ≡ of_pieces ps
text_adds_nothing of_pieces folds line [] = folds.run line []
text_adds_nothing of_pieces folds line (Run tokens ∷ ps) = folds.run (line ++ tokens) ps ∙ sym (folds.run tokens ps)
text_adds_nothing of_pieces folds line (Line at what ∷ ps) = folds.run line (Line at what ∷ ps)

line_same : {A : Type 0} → (of_pieces : List Piece → A) → Folds of_pieces → (line : List Token) (ps qs : List Piece) → of_pieces ps ≡ of_pieces qs
    → of_pieces (line_before (kept_line false line) ps) ≡ of_pieces (line_before line qs)
unfolding directive_of
line_same of_pieces folds [] ps qs same = text_adds_nothing of_pieces folds [] ps ∙ same ∙ sym (text_adds_nothing of_pieces folds [] qs)
line_same of_pieces folds (t ∷ []) ps qs same = by_test (spells_hash t.text) refl
  where
    by_test : (b : Bool) → spells_hash t.text ≡ b → of_pieces (line_before (cond b (t ∷ []) []) ps) ≡ of_pieces (cond b (Line t.line named.Null ∷ qs) (onto_run (t ∷ []) qs))
    by_test true e =
        ap (λ (b : Bool). of_pieces (cond b (Line t.line named.Null ∷ ps) (onto_run (t ∷ []) ps))) e
        ∙ folds.line t.line named.Null ps qs same
    by_test false e = text_adds_nothing of_pieces folds [] ps ∙ same ∙ sym (text_adds_nothing of_pieces folds (t ∷ []) qs)
line_same of_pieces folds (t ∷ name ∷ ts) ps qs same = by_test (spells_hash t.text) refl (may_tell name.text) refl
  where
    whole : List Token
    whole = t ∷ name ∷ ts

    by_test : (b : Bool) → spells_hash t.text ≡ b → (m : Bool) → may_tell name.text ≡ m
        → of_pieces (line_before (cond b (cond m whole []) []) ps) ≡ of_pieces (cond b (Line t.line (directive_named name.text ts) ∷ qs) (onto_run whole qs))
    by_test true e true m =
        ap (λ (b : Bool). of_pieces (cond b (Line t.line (directive_named name.text ts) ∷ ps) (onto_run whole ps))) e
        ∙ folds.line t.line (directive_named name.text ts) ps qs same
    by_test true e false m =
        text_adds_nothing of_pieces folds [] ps ∙ same ∙ sym (folds.none t.line (directive_named name.text ts) qs (other_directive name.text ts m))
    by_test false e m f = text_adds_nothing of_pieces folds [] ps ∙ same ∙ sym (text_adds_nothing of_pieces folds whole qs)

lines_same : {A : Type 0} → (of_pieces : List Piece → A) → Folds of_pieces → (lines : List (List Token)) → of_pieces (pieces (map (kept_line false) lines)) ≡ of_pieces (pieces lines)
unfolding pieces
lines_same of_pieces folds [] = refl
lines_same of_pieces folds (line ∷ lines) = line_same of_pieces folds line (pieces (map (kept_line false) lines)) (pieces lines) (lines_same of_pieces folds lines)

-- so the lines ask for the same
pub asked_of_directives : (find : Ask → Option Hit) (visit : Visit) (lines : List (List Token)) → asked_from find visit (pieces (map (kept_line false) lines)) ≡ asked_from find visit (pieces lines)
asked_of_directives find visit lines =
    let plain =
    lines_same (flat_map includes_in)
    (record { run = λ tokens ps. refl; line = λ at a ps qs same. (λ i. includes_of a ++ same i); none = λ at a ps no_ask. (λ i. no_ask.includes i ++ flat_map includes_in ps) }) lines in
    let probes =
    lines_same (flat_map probes_in)
    (record { run = λ tokens ps. refl; line = λ at a ps qs same. (λ i. probes_of a ++ same i); none = λ at a ps no_ask. (λ i. no_ask.probes i ++ flat_map probes_in ps) }) lines in
    let asked : Piece → List AskedTarget = λ p. includes_in p ++ probes_in p in
    let asks =
    lines_same (flat_map asked)
    (record {
      run = λ tokens ps. refl;
      line = λ at a ps qs same. (λ i. (includes_of a ++ probes_of a) ++ same i);
      none = λ at a ps no_ask. (λ i. (no_ask.includes i ++ no_ask.probes i) ++ flat_map asked ps);
    }) lines in
    let numbered =
    lines_same (list_any is_line)
    (record { run = λ tokens ps. refl; line = λ at a ps qs same. (λ i. is_line_directive a || same i); none = λ at a ps no_ask. (λ i. no_ask.line i || list_any is_line ps) }) lines in
    λ i. record {
      defs = [];
      plain = filter_map (plain_hit find visit) (plain i);
      probes = map (λ hit. hit.1) (filter_map (plain_hit find visit) (probes i));
      computed = filter_map computed_of (asks i);
      has_line = numbered i;
    }
