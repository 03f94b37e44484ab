-- A sheet comes of the directives of a file alone.
use Rattle.std.proofs.Common.{◌≡◌, ◌++◌, ◌∷◌, [], ℕ, Bool, ◌||◌, List, map, Option, refl, sym, ap, ◌∙◌}
use Rattle.std.specs.List.{filter_map, flat_map, list_any, cons_option}
use Rattle.pp_tokens.specs.declared.Token.{Token}
use Rattle.pp_tokens.specs.Lines.{LexedFile, lexed}
use Rattle.pp_tokens.specs.DirectiveLines.{directive_line, directives_alone}
use Rattle.directive_scan.specs.declared.Piece.{Piece}
use Rattle.directive_scan.specs.declared.Piece.TheVariants.{Run, Line}
use Rattle.directive_scan.specs.Directives.{directives_of, pieces}
use Rattle.macro_defs.specs.Defining.{Named}
use Rattle.search_path.specs.Search.{Hit}
use Rattle.search_path.specs.declared.asking.Ask.{Ask}
use Rattle.search_path.specs.declared.asking.Visit.{Visit}
use Rattle.sheet_build.specs.Sheet.{plain_hit, computed_of, includes_in, probes_in, definition_in, definition_of, is_line, is_line_directive, sheet_from}

-- what comes of no run comes of the directives
alone : {A : Type 0} → (f : Piece → List A) → ((tokens : List Token) → f (Run tokens) ≡ []) → (ps : List Piece) → flat_map f ps ≡ flat_map f (directives_of ps)
alone f none [] = refl
alone f none (Run tokens ∷ ps) = ap (λ found. found ++ flat_map f ps) (none tokens) ∙ alone f none ps
alone f none (Line at what ∷ ps) = ap (λ others. f (Line at what) ++ others) (alone f none ps)

definitions_alone : (ps : List Piece) → filter_map definition_in ps ≡ filter_map definition_in (directives_of ps)
definitions_alone [] = refl
definitions_alone (Run tokens ∷ ps) = definitions_alone ps
definitions_alone (Line at what ∷ ps) = ap (λ (others : List Named). cons_option (definition_of what) others) (definitions_alone ps)

lines_alone : (ps : List Piece) → list_any is_line ps ≡ list_any is_line (directives_of ps)
lines_alone [] = refl
lines_alone (Run tokens ∷ ps) = lines_alone ps
lines_alone (Line at what ∷ ps) = ap (λ (others : Bool). is_line_directive what || others) (lines_alone ps)

sheet_alone : (find : Ask → Option Hit) (visit : Visit) (ps : List Piece) → sheet_from find visit ps ≡ sheet_from find visit (directives_of ps)
sheet_alone find visit ps = λ i. record {
  defs = definitions_alone ps i;
  plain = filter_map (plain_hit find visit) (alone includes_in (λ tokens. refl) ps i);
  probes = map (λ hit. hit.1) (filter_map (plain_hit find visit) (alone probes_in (λ tokens. refl) ps i));
  computed = filter_map computed_of (alone (λ p. includes_in p ++ probes_in p) (λ tokens. refl) ps i);
  has_line = lines_alone ps i;
}

-- pieces with the same directives have the same sheet
same_directives : (find : Ask → Option Hit) (visit : Visit) (ps qs : List Piece) → directives_of ps ≡ directives_of qs → sheet_from find visit ps ≡ sheet_from find visit qs
same_directives find visit ps qs same = sheet_alone find visit ps ∙ ap (sheet_from find visit) same ∙ sym (sheet_alone find visit qs)

-- the pieces of a body's directives alone have the sheet of the body
pub sheet_of_directives : (find : Ask → Option Hit) (visit : Visit) (ps : List Piece) (read : LexedFile) (asked trigraphs : Bool) (body : List ℕ) → ps ≡ pieces read.lines
    → read ≡ directives_alone (lexed asked body) → asked ≡ trigraphs
    → directives_of (pieces (map directive_line (lexed trigraphs body).lines)) ≡ directives_of (pieces (lexed trigraphs body).lines)
    → sheet_from find visit ps ≡ sheet_from find visit (pieces (lexed trigraphs body).lines)
sheet_of_directives find visit ps read asked trigraphs body is alone same law =
    let lines = (lexed trigraphs body).lines in
    ap (sheet_from find visit) (is ∙ ap (λ (f : LexedFile). pieces f.lines) (alone ∙ ap (λ t. directives_alone (lexed t body)) same))
    ∙ same_directives find visit (pieces (map directive_line lines)) (pieces lines) law

-- and the definitions of the body
pub definitions_of_directives : (ps : List Piece) (read : LexedFile) (trigraphs : Bool) (body : List ℕ) → ps ≡ pieces read.lines → read ≡ directives_alone (lexed trigraphs body)
    → directives_of (pieces (map directive_line (lexed trigraphs body).lines)) ≡ directives_of (pieces (lexed trigraphs body).lines)
    → filter_map definition_in ps ≡ filter_map definition_in (pieces (lexed trigraphs body).lines)
definitions_of_directives ps read trigraphs body is alone law =
    let lines = (lexed trigraphs body).lines in
    ap (filter_map definition_in) (is ∙ ap (λ (f : LexedFile). pieces f.lines) alone)
    ∙ definitions_alone (pieces (map directive_line lines))
    ∙ ap (filter_map definition_in) law
    ∙ sym (definitions_alone (pieces lines))
