-- The sheet of a file that isn't too large.
use Rattle.std.proofs.Common.{◌≡◌, ◌≤◌, ◌∙◌, sym, subst, Bool, true, false, Option, Some, None, cond, ap, refl}
use Rattle.pp_tokens.specs.Lines.{lexed}
use Rattle.directive_scan.specs.Directives.{pieces}
use Rattle.tree_model.specs.Paths.{Text, Path}
use Rattle.base_types.specs.Limits.{body_limit}
use Rattle.tree_model.specs.Trees.{FileTree}
use Rattle.tree_model.specs.Bodies.{body_at_path, body_within}
use Rattle.search_path.specs.SetupOf.{SetupData}
use Rattle.search_path.specs.Search.{Hit, search}
use Rattle.search_path.specs.declared.asking.Ask.{Ask}
use Rattle.search_path.specs.declared.asking.Visit.{Visit}
use Rattle.sheet_build.specs.Sheet.{empty_sheet, sheet_from, body_of_place, sheet_of}
use Rattle.std.specs.Prelude.{nat_le, length, IfSome}
use Rattle.std.specs.Option.{option_map}

sheet_within : (find : Ask → Option Hit) (trigraphs : Bool) (visit : Visit) (body whole : Text) (fits : Bool) → Some body ≡ cond fits (Some whole) None →
    sheet_from find visit (pieces (lexed trigraphs body).lines) ≡ cond fits (sheet_from find visit (pieces (lexed trigraphs whole).lines)) empty_sheet
sheet_within find trigraphs visit body whole true is =
    let same : body ≡ whole = cc in
    ap (λ (b : Text). sheet_from find visit (pieces (lexed trigraphs b).lines)) same
sheet_within find trigraphs visit body whole false is = absurd (cc)

-- the bytes that were read give the sheet
pub sheet-body : (tree : FileTree) (setup : SetupData) (visit : Visit) (body : Text) → Some body ≡ body_within (body_of_place tree visit.place) →
    sheet_from (search tree setup) visit (pieces (lexed setup.trigraphs body).lines) ≡ sheet_of tree setup visit
unfolding sheet_of
sheet-body tree setup visit body is =
    let whole = body_of_place tree visit.place in
    sheet_within (search tree setup) setup.trigraphs visit body whole (nat_le (length whole) body_limit) is

within_small : (body whole : Text) (fits : Bool) → Some body ≡ cond fits (Some whole) None → fits ≡ true
within_small body whole true is = refl
within_small body whole false is = absurd (cc)

-- nor are the bytes of its place too many
pub small-body : (tree : FileTree) (visit : Visit) (body : Text) → Some body ≡ body_within (body_of_place tree visit.place) →
    nat_le (length (body_of_place tree visit.place)) body_limit ≡ true
small-body tree visit body is =
    let whole = body_of_place tree visit.place in within_small body whole (nat_le (length whole) body_limit) is

-- the bytes of a file that was read, with its path
pub file-at : (tree : FileTree) (real : Option Path) (body read : Text) → body ≡ read → IfSome real (λ path. read ≡ body_at_path tree path)
    → IfSome {T = Path × Text} (option_map (λ path. (path, body)) real) (λ file. file.1 ≡ body_at_path tree file.0)
file-at tree None body read same there = there
file-at tree (Some path) body read same there = same ∙ there

pub file-within : (real : Option Path) (body read : Text) → body ≡ read → length read ≤ body_limit
    → IfSome {T = Path × Text} (option_map (λ (path : Path). (path, body)) real) (λ file. length file.1 ≤ body_limit)
file-within None body read same small = tt
file-within (Some path) body read same small = subst (λ (b : Text). length b ≤ body_limit) (sym same) small
